use Rattle.numbers.proofs.Patterns.{value_number}
use Rattle.kinds.proofs.float32_t.kind.Float32TKind.write.Goals as goal

pub to_be_bytes-requires : goal.to_be_bytes-requires
to_be_bytes-requires c = value_number c.args.self.value c.args.self.allowed
