-- `sheet_rows::forms::link_bytes` meets its contract.
use Rattle.std.proofs.Common.{◌≡◌, arith}
use Rattle.wire.specs.Fields.{le32}
use Rattle.sheet_rows.specs.Rows.{link_bytes}
use Rattle.sheet_rows.proofs.Rows.{form_small}
use Rattle.sheet_rows.proofs.forms.link_bytes.Goals as goal

pub returns : goal.returns
returns c =
    let s = c.args.s.now in
    let small = form_small (le32 s 0) in
    let e : c.form_of-form.result.bytes ≡ link_bytes s = rw c.form_of-form.ensures in
    (e, omega (arith, small.some), omega (arith, small.bytes))
