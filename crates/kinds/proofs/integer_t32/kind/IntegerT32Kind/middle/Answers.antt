use Rattle.std.proofs.Common.{rules, arith, w32}
use Rattle.std.proofs.lemmas.Int.{ints, to_z-of_z}
use Rattle.kinds.specs.Same.{same_t32}
use Rattle.kinds.proofs.Words.{word_within}
use Rattle.kinds.proofs.integer_t32.kind.IntegerT32Kind.middle.Goals as goal

pub overflow_cast-result : goal.overflow_cast-result
overflow_cast-result c = grind (arith, ints, to_z-of_z)

pub invariant_of-result : goal.invariant_of-result
invariant_of-result c = record { within = search (rules, word_within w32) }

pub returns : goal.returns
returns c = same_t32 _ _ (grind (arith, ints, to_z-of_z))
