-- `spares::table::place_spare` meets its contract: row and column of a place are links, and the number is an `i32`.
use Rattle.std.proofs.Common.{◌<◌, ◌≡◌, refl, sym, ap, subst, ◌∙◌, mod-lt, arith, ℤ}
use mir.Syntax.{w32, w64}
use mir.Val.{SFits, to_z, of_z}
use mir.ValLaws.{to_z-of_z}
use Rattle.spacing.proofs.Spacing.{read_back}
use Rattle.spares.proofs.Laws.{few_places, row_lt, cells_fit, at_past, at_same, at_two}
use Rattle.spares.proofs.table.place_spare.Goals as goal

-- k is the number of links of an accepted sheet
pub overflow_mul-k : goal.overflow_mul-k
overflow_mul-k c =
    let k = c.requires.0.accepted.head.k_small in
    record { fits = omega (arith, few_places c.args.k (omega (arith, c.requires.1))) }

pub returns-then-i-k : goal.returns-then-i-k
returns-then-i-k c =
    at_past _ _ _ (rw (← c.requires.1) c.if-i-k.true)

pub nonzero_div-a : goal.nonzero_div-a
nonzero_div-a c =
    omega (arith, c.requires.1, c.requires.0.accepted.head.k_some)

pub nonzero_rem-b : goal.nonzero_rem-b
nonzero_rem-b c =
    omega (arith, c.requires.1, c.requires.0.accepted.head.k_some)

pub returns-then-a-b : goal.returns-then-a-b
returns-then-a-b c =
    at_same _ _ _ (rw (← c.requires.1) c.if-i-k.false) (rw (← c.requires.1) c.if-a-b.true)

pub cells_spare-requires : goal.cells_spare-requires
cells_spare-requires c =
    let o : 0 < c.args.k = omega (arith, c.requires.1, c.requires.0.accepted.head.k_some) in (
      c.requires.0,
      c.if-a-b.false,
      rw (← c.requires.1) (row_lt c.args.k c.args.i o c.if-i-k.false),
      rw (← c.requires.1) (mod-lt c.args.i o),
    )

pub overflow_cast-result : goal.overflow_cast-result
overflow_cast-result c =
    let small : SFits w32 c.cells_spare.result =
    let o : 0 < c.args.k = omega (arith, c.requires.1, c.requires.0.accepted.head.k_some) in
    rw c.cells_spare.ensures (cells_fit c.requires.0
    (rw (← c.requires.1) (row_lt c.args.k c.args.i o c.if-i-k.false))
    (rw (← c.requires.1) (mod-lt c.args.i o))) in
    subst (SFits w32) (sym (read_back c.cells_spare.type_inv refl)) small

pub returns : goal.returns
returns c =
    let small : SFits w32 c.cells_spare.result =
    let o : 0 < c.args.k = omega (arith, c.requires.1, c.requires.0.accepted.head.k_some) in
    rw c.cells_spare.ensures (cells_fit c.requires.0
    (rw (← c.requires.1) (row_lt c.args.k c.args.i o c.if-i-k.false))
    (rw (← c.requires.1) (mod-lt c.args.i o))) in
    let e : to_z w64 (of_z w64 c.cells_spare.result) ≡ c.cells_spare.result = read_back c.cells_spare.type_inv refl in
    ap (λ (z : ℤ). to_z w32 (of_z w32 z)) e ∙ to_z-of_z w32 c.cells_spare.result small ∙ c.cells_spare.ensures
    ∙ rw c.requires.1 (at_two _ _ _ (rw (← c.requires.1) c.if-i-k.false)
    (rw (← c.requires.1) c.if-a-b.false))
