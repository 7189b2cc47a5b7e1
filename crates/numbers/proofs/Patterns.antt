-- The values of patterns: every pattern below infinity's has one, and no other has.
use Rattle.std.proofs.Common.{◌≡◌, ℕ, ◌*◌, ◌%◌, ◌^◌, ◌<◌, ◌≤◌, Bool, true, false, not, ◌&&◌, T, eqb, pos, negsuc, sym}
use Rattle.std.proofs.Common.{refl, ap, ◌∙◌, subst, true≢false, arith, le-ltb}
use Rattle.std.specs.Float.Ieee.{Float, nan, inf, fin, binary32, eq, neg, is_nan, of_int, to_bits, of_bits, fits}
use Rattle.std.specs.Float.Ieee.{nan_bits}
use Rattle.std.specs.Float.Ieee.Bits.{of_bits-to_bits, of_bits-fits, nan_bits_above}
use Rattle.std.specs.Float.Ieee.Scale.{finite}
use Rattle.numbers.specs.Floats.{proper, plain}
use Rattle.numbers.proofs.Middle.{plain_proper, plain_same}
use Rattle.numbers.proofs.Units.{pattern_finite, pattern_not_finite}
use Rattle.numbers.proofs.Worth.{proper_parts}

pub below_infinity : (b : ℕ) → b % 2 ^ 31 < 255 * 2 ^ 23 → proper (plain (of_bits binary32 b)) ≡ true
below_infinity b h = plain_proper (of_bits binary32 b)
    (record { held = of_bits-fits binary32 b; finite_too = pattern_finite b h })

-- an infinity, or no number
no_value : (x : Float) → finite x ≡ false → proper x ≡ false
no_value x e = either (fits binary32 x)
  where
    either : (t : Bool) → (t && (finite x && not (eqb (to_bits binary32 x) (2 ^ 31)))) ≡ false
    either true = ap (λ (f : Bool). f && not (eqb (to_bits binary32 x) (2 ^ 31))) e
    either false = refl

no_value_plain : (x : Float) → finite x ≡ false → proper (plain x) ≡ false
unfolding eq of_bits
no_value_plain nan e = no_value nan e
no_value_plain (inf s) e = no_value (inf s) e
no_value_plain (fin s m k) e = absurd (true≢false e)

pub from_infinity : (b : ℕ) → 255 * 2 ^ 23 ≤ b % 2 ^ 31 → proper (plain (of_bits binary32 b)) ≡ false
from_infinity b h = no_value_plain (of_bits binary32 b) (pattern_not_finite b h)

pub pattern_of_number : (b : ℕ) → b % 2 ^ 31 < 255 * 2 ^ 23 → T (not (nan_bits binary32 b))
pattern_of_number b h = let l : b % 2 ^ 31 ≤ 255 * 2 ^ 23 = omega arith in
    subst (λ (t : Bool). T (not t)) (sym (le-ltb (255 * 2 ^ 23) (b % 2 ^ 31) l) ∙ sym (nan_bits_above binary32 b)) tt

finite_number : (x : Float) → finite x ≡ true → T (not (is_nan x))
unfolding is_nan
finite_number nan e = absurd (true≢false (sym e))
finite_number (inf s) e = absurd (true≢false (sym e))
finite_number (fin s m k) e = tt

-- a value is a number, and its pattern reads as the value
module _ (x : Float) (h : proper x ≡ true) where
  pub value_number : T (not (is_nan x))
  value_number = finite_number x (proper_parts x h).finite_too

  pub pattern_back : plain (of_bits binary32 (to_bits binary32 x)) ≡ x
  pattern_back = ap plain (of_bits-to_bits binary32 x (proper_parts x h).held) ∙ plain_same x h

-- ---- ±1,000,000
pub million_proper : proper (of_int binary32 (pos 1000000)) ≡ true
unfolding of_int fits to_bits
million_proper = refl

pub minus_million_proper : proper (of_int binary32 (negsuc 999999)) ≡ true
unfolding of_int fits to_bits
minus_million_proper = refl

pub million_is : of_bits binary32 0x49742400 ≡ of_int binary32 (pos 1000000)
unfolding of_bits of_int
million_is = refl

pub minus_million_is : of_bits binary32 0xc9742400 ≡ of_int binary32 (negsuc 999999)
unfolding of_bits of_int
minus_million_is = refl

pub negated_million_is : neg (of_bits binary32 0x49742400) ≡ of_int binary32 (negsuc 999999)
unfolding neg of_bits of_int
negated_million_is = refl
