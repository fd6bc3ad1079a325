-- `work_words::places::lay_out` meets its contract, by the bounds of the rows.
use Rattle.std.proofs.Common.{◌≡◌, ℕ, ◌+◌, ◌/◌, arith}
use Rattle.work_words.specs.Layout.{WithinForm}
use Rattle.work_words.proofs.Bounds.{Bounds, bounds}
use Rattle.work_words.proofs.places.lay_out.Goals as goal

-- the same of a width by its name
bounds_by : {n k w len : ℕ} → WithinForm n k len → w ≡ (n + 63) / 64 → Bounds n k w len
bounds_by {n} {k} {w} {len} F e = rw e (bounds n k len F)

pub overflow_mul-rows : goal.overflow_mul-rows
overflow_mul-rows c =
    let b = bounds_by {w = c.div_ceil-w.result} c.requires (omega (arith, c.div_ceil-w.ensures)) in
    record { fits = omega arith }

pub overflow_mul-class_rows : goal.overflow_mul-class_rows
overflow_mul-class_rows c =
    let b = bounds_by {w = c.div_ceil-w.result} c.requires (omega (arith, c.div_ceil-w.ensures)) in
    record { fits = omega arith }

pub overflow_sub-graph : goal.overflow_sub-graph
overflow_sub-graph c =
    let b = bounds_by {w = c.div_ceil-w.result} c.requires (omega (arith, c.div_ceil-w.ensures)) in omega arith

pub overflow_sub-layers : goal.overflow_sub-layers
overflow_sub-layers c =
    let b = bounds_by {w = c.div_ceil-w.result} c.requires (omega (arith, c.div_ceil-w.ensures)) in omega arith

pub overflow_sub-masks : goal.overflow_sub-masks
overflow_sub-masks c =
    let b = bounds_by {w = c.div_ceil-w.result} c.requires (omega (arith, c.div_ceil-w.ensures)) in omega arith

pub returns : goal.returns
returns c =
    let e : c.div_ceil-w.result ≡ (c.args.n + 63) / 64 = omega (arith, c.div_ceil-w.ensures) in
    let b = bounds_by {w = c.div_ceil-w.result} c.requires e in
    record {
      width = e;
      wide = b.wide;
      small = omega arith;
      deep = omega arith;
      after_masks = omega arith;
      after_layers = omega arith;
      after_graph = omega arith;
      front = omega arith;
    }
