-- `vset::size` meets its contract: the words are the row's.
use Rattle.std.proofs.Common.{◌≡◌, get_or, rules}
use Rattle.vset.specs.Words.{has}
use Rattle.vset.proofs.Words.{word_has}
use Rattle.vset.proofs.size.Goals as goal

pub returns : goal.returns
returns c =
    let row = c.args.row.now in
    c.size_by.ensures (has row)
    (λ i x h made fits. let e : x ≡ get_or row i 0 = search rules in rw e (word_has row i))
