-- Float32T: floats of 32 bits that are finite and not -0, in four octets. No range goes past ±1,000,000.
use Rattle.std.specs.Prelude.{◌≡◌, ℕ, true, List, [], ◌∷◌, pos, neg_ℤ, Option, from_bits, to_bits, Float}
use Rattle.std.specs.Float.{binary32}
use Rattle.std.specs.Float.Ieee.{add, sub, of_int}
use Rattle.numbers.specs.Floats.{rank, proper, plain, step, distance, middle}
use Rattle.octets.specs.Numbers.{four}
use Rattle.numbers.specs.Options.{when_some, when_true}
use Rattle.numbers.proofs.Moves.{raised_proper, lowered_proper}
use Rattle.numbers.proofs.Middle.{middle_proper}
use Rattle.numbers.proofs.Patterns.{million_proper, minus_million_proper}
use Rattle.kinds.specs.Meaning.{Meaning}
use Rattle.kinds.specs.declared.float32_t.Float32T.{Float32T}

abbrev pub value_of : (x : Float) → proper x ≡ true → Float32T
value_of x h = record { value = x; allowed = h }

-- the octets are those of the bit pattern, the high octet first
abbrev octets_of : Float32T → List ℕ
octets_of v = four.written (to_bits binary32 v.value)

-- -0 reads as +0; an infinity and what is no number read as no value
abbrev pub read_pattern : ℕ → Option Float32T
read_pattern n = let x = plain (from_bits binary32 n) in when_true (proper x) (value_of x)

-- a step is 2^-10, and the sum is rounded once
abbrev raised : Float32T → ℕ → Float32T
raised v n = value_of (add binary32 v.value (distance n)) (raised_proper v.value v.allowed n)

abbrev lowered : Float32T → ℕ → Float32T
lowered v n = value_of (sub binary32 v.value (distance n)) (lowered_proper v.value v.allowed n)

-- each is halved, the halves are added, every operation rounded once, and the sum is brought between the two
abbrev middle_of : Float32T → Float32T → Float32T
middle_of v w = value_of (middle v.value w.value) (middle_proper v.value w.value v.allowed w.allowed)

-- the rank of a value is the magnitude of its bit pattern, with its sign
abbrev pub floats : Meaning Float32T
floats = record {
  width = four.count;
  rank = λ v. rank v.value;
  octets = octets_of;
  read = λ octets. when_some (four.number octets) read_pattern;
  step = step;
  raised = raised;
  lowered = lowered;
  middle = middle_of;
  low_limit = value_of (of_int binary32 (neg_ℤ (pos 1000000))) minus_million_proper;
  high_limit = value_of (of_int binary32 (pos 1000000)) million_proper;
  below_substitute = 0xff ∷ 0x80 ∷ 0x00 ∷ 0x00 ∷ [];
  above_substitute = 0x7f ∷ 0x80 ∷ 0x00 ∷ 0x00 ∷ [];
  no_data_substitute = 0x7f ∷ 0xc0 ∷ 0x00 ∷ 0x00 ∷ [];
}
