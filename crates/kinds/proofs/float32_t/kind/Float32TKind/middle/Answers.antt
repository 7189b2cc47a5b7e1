use Rattle.std.proofs.Common.{ap, ◌∙◌}
use Rattle.numbers.specs.Floats.{proper}
use Rattle.numbers.proofs.Middle.{middle_proper}
use Rattle.kinds.proofs.float32_t.kind.Float32TKind.middle.Goals as goal

pub invariant_of-result : goal.invariant_of-result
invariant_of-result c = record {
  allowed = ap proper c.halfway.ensures
      ∙ middle_proper c.args.self.value c.args.other.value c.args.self.allowed c.args.other.allowed;
}
