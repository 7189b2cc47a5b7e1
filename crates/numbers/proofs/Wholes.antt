-- Whole numbers of k bits beside the sign's, from -2^k to 2^k - 1: sums that stop at the ends, and halves.
use Rattle.std.proofs.Common.{◌≡◌, ℕ, ◌^◌, ◌<◌, ℤ, ◌+ℤ◌, ◌≤ℤ◌, arith, pow_pos, to_z, of_z}
use Rattle.std.specs.Int.Signed.{mag, shr_z}
use borrow.Author.Gap.{read_sfits}
use Rattle.std.specs.Int.{Width}
use mir.Val.{hbits, bits}
use Rattle.std.specs.Int.{saturate_to_bits}
use Rattle.std.proofs.lemmas.Int.{ints}

-- ---- saturation
pub saturated_within : (k : ℕ) (z : ℤ) → mag (saturate_to_bits k z) < 2 ^ k
saturated_within k z = grind (arith, ints, pow_pos k)

pub saturated_same : (k : ℕ) (z : ℤ) → mag z < 2 ^ k → saturate_to_bits k z ≡ z
saturated_same k z h = grind (arith, ints)

pub saturated_order : (k : ℕ) (y z : ℤ) → y ≤ℤ z → saturate_to_bits k y ≤ℤ saturate_to_bits k z
saturated_order k y z h = grind (arith, ints)

-- ---- the half of a sum, rounded down
pub half_within : (k : ℕ) (a b : ℤ) → mag a < 2 ^ k → mag b < 2 ^ k → mag (shr_z (a +ℤ b) 2) < 2 ^ k
half_within k a b h l = grind (arith, ints)

-- it lies between the two
pub half_low : (a b m : ℤ) → m ≤ℤ a → m ≤ℤ b → m ≤ℤ shr_z (a +ℤ b) 2
half_low a b m h l = grind (arith, ints)

pub half_high : (a b m : ℤ) → a ≤ℤ m → b ≤ℤ m → shr_z (a +ℤ b) 2 ≤ℤ m
half_high a b m h l = grind (arith, ints)

-- ---- two's complement of a width
pub read_within : (w : Width) (n : ℕ) → mag (to_z w n) < 2 ^ hbits w
read_within w n = (read_sfits w n).sfits

pub pattern_below : (w : Width) (z : ℤ) → mag z < 2 ^ hbits w → of_z w z < 2 ^ bits w
pattern_below w z h = grind (arith, ints)
