-- The replies to a request: 5 and D grant a write and a read, 4 and C refuse one with an ErrorCode.
use Rattle.std.specs.Prelude.{ℕ, List, []}
use Rattle.isdu.specs.declared.Direction.{Direction}
use Rattle.isdu.specs.declared.Direction.TheVariants.{Read, Write}
use Rattle.octets.specs.Numbers.{two_octets}
use Rattle.isdu.specs.Composing.{framed}

-- a write is done
abbrev pub write_reply : List ℕ
write_reply = framed 0x5 []

-- what was read
abbrev pub read_reply : List ℕ → List ℕ
read_reply octets = framed 0xD octets

-- the digit of a refusal
abbrev pub refusal_digit : Direction → ℕ
refusal_digit Write = 0x4
refusal_digit Read = 0xC

-- a write or a read is refused, with an ErrorCode
abbrev pub refusal : Direction → ℕ → List ℕ
refusal direction code = framed (refusal_digit direction) (two_octets code)
