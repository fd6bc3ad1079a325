-- The first bytes of the word are put.
use Rattle.std.proofs.Common.{take}
use Rattle.output.specs.Puts.{Puts}
use Rattle.output.proofs.Output.put_word.Given as goal

abbrev pub invariant-loop-byte : goal.invariant-loop-byte
invariant-loop-byte l = Puts (take l.byte-index l.word) l.initial.self l.self
