-- The rules that the makes of whole numbers share, stated once for every width.
use Rattle.std.specs.Prelude.{ℕ, ◌^◌, ◌<◌, List, ℤ, pos, ◌+ℤ◌, ◌-ℤ◌, Some, Option, from_bits, Float}
use Rattle.std.specs.Float.{binary32}
use Rattle.std.specs.Int.Signed.{mag, shr_z}
use Rattle.std.proofs.Common.{to_z, of_z}
use Rattle.std.specs.Int.{saturate_to_bits, Width}
use mir.Val.{hbits}
use Rattle.octets.specs.Numbers.{Coding}
use Rattle.numbers.specs.Options.{when_some}
use Rattle.numbers.proofs.Wholes.{saturated_within, half_within, read_within}
use Rattle.kinds.specs.Meaning.{Meaning}

-- z fits a word of k bits and a sign: it lies from -2^k to 2^k - 1
abbrev pub Within : ℕ → ℤ → Type 0
Within k z = mag z < 2 ^ k

-- what a step is worth, whatever the width: 1, whose pattern is 3F800000
abbrev pub step : Float
step = from_bits binary32 0x3f800000

-- what sets one make of whole numbers apart from another
pub record Make (V : Type 0) : Type 0 where
  -- the word: `hbits word` bits and a sign
  pub word : Width
  -- the number that a value holds, and the value that holds a number
  pub number : V → ℤ
  pub within : (v : V) → Within (hbits word) (number v)
  pub value : (z : ℤ) → Within (hbits word) z → V
  -- how many octets, and how they write the bits of the word
  pub coding : Coding
  -- the limits and the substitutes
  pub lowest : V
  pub highest : V
  pub below : List ℕ
  pub above : List ℕ
  pub no_data : List ℕ

module _ {V : Type 0} (make : Make V) where
  abbrev k : ℕ
  k = hbits make.word

  -- the octets of a value are its number in two's complement, the high octet first
  abbrev octets_of : V → List ℕ
  octets_of v = make.coding.written (of_z make.word (make.number v))

  abbrev pub of_pattern : ℕ → Option V
  of_pattern n = Some (make.value (to_z make.word n) (read_within make.word n))

  -- a step is 1, and the sum stops at the ends of the word
  abbrev raised : V → ℕ → V
  raised v n = let sum = make.number v +ℤ pos n in make.value (saturate_to_bits k sum) (saturated_within k sum)

  abbrev lowered : V → ℕ → V
  lowered v n = let rest = make.number v -ℤ pos n in make.value (saturate_to_bits k rest) (saturated_within k rest)

  -- the middle is half the sum, rounded down
  abbrev middle : V → V → V
  middle v w =
      let sum = make.number v +ℤ make.number w in
      make.value (shr_z sum 2) (half_within k (make.number v) (make.number w) (make.within v) (make.within w))

  -- the rank of a value is its number
  abbrev pub integers : Meaning V
  integers = record {
    width = make.coding.count;
    rank = make.number;
    octets = octets_of;
    read = λ octets. when_some (make.coding.number octets) of_pattern;
    step = step;
    raised = raised;
    lowered = lowered;
    middle = middle;
    low_limit = make.lowest;
    high_limit = make.highest;
    below_substitute = make.below;
    above_substitute = make.above;
    no_data_substitute = make.no_data;
  }
