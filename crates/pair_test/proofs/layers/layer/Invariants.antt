-- The loop's invariant: the links from m on start past v, so that the layer is the layer among the first m links.
use Rattle.std.proofs.Common.{◌≡◌}
use Rattle.pair_test.specs.Layers.{layer_of}
use Rattle.pair_test.proofs.layers.layer.Given as goal

abbrev pub invariant-loop-m : goal.invariant-loop-m
invariant-loop-m l = layer_of l.s l.k l.v ≡ layer_of l.s l.m l.v
