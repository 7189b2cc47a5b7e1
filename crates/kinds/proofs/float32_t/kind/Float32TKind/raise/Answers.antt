use Rattle.std.proofs.Common.{ap, ◌∙◌}
use Rattle.std.specs.Prelude.{Float}
use Rattle.std.specs.Float.{binary32}
use Rattle.std.specs.Float.Ieee.{add}
use Rattle.numbers.specs.Floats.{proper}
use Rattle.numbers.proofs.Moves.{raised_proper}
use Rattle.kinds.proofs.float32_t.kind.Float32TKind.raise.Goals as goal

pub invariant_of-result : goal.invariant_of-result
invariant_of-result c = record {
  allowed = ap (λ (d : Float). proper (add binary32 c.args.self.value d))
      c.distance.ensures ∙ raised_proper c.args.self.value c.args.self.allowed c.args.steps;
}
