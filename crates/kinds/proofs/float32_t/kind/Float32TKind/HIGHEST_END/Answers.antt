use Rattle.std.proofs.Common.{ap, ◌∙◌}
use Rattle.numbers.specs.Floats.{proper}
use Rattle.numbers.proofs.Patterns.{million_is, million_proper}
use Rattle.kinds.specs.Same.{same_float}
use Rattle.kinds.proofs.float32_t.kind.Float32TKind.HIGHEST_END.Goals as goal

pub invariant_of-result : goal.invariant_of-result
invariant_of-result c = record { allowed = ap proper million_is ∙ million_proper }

pub returns : goal.returns
returns c = same_float _ _ million_is
