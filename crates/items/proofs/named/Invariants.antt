-- `named`: what a word stands for, by a table of words.
use Rattle.std.proofs.Common.{◌≡◌, drop}
use Rattle.items.specs.Reads.{found}
use Rattle.items.proofs.named.Given as goal

abbrev pub invariant-loop-name : goal.invariant-loop-name
invariant-loop-name g l = found l.table l.word ≡ found (drop l.name-index l.table) l.word
