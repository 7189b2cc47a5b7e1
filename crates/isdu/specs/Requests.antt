-- What a request asks for, apart from the octets that carry it.
use Rattle.std.specs.Prelude.{ℕ, List}
use Rattle.isdu.specs.declared.Direction.{Direction}

-- a read or a write of an object, by index and subindex, with the data to write
pub record Asked : Type 0 where
  pub direction : Direction
  pub index : ℕ
  pub subindex : ℕ
  pub octets : List ℕ
