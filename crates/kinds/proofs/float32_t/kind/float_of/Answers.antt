use Rattle.std.proofs.Common.{ap, ◌∙◌}
use Rattle.numbers.specs.Floats.{proper}
use Rattle.numbers.proofs.Patterns.{pattern_of_number, below_infinity}
use Rattle.kinds.proofs.float32_t.kind.float_of.Goals as goal

pub float_from_bits-x : goal.float_from_bits-x
float_from_bits-x c = pattern_of_number c.args.pattern c.requires

pub returns-clause-allowed : goal.returns-clause-allowed
returns-clause-allowed c = ap proper c.plain.ensures ∙ below_infinity c.args.pattern c.requires
