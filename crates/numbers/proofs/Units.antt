-- How many units of 2^-149 a pattern of 31 bits below infinity's stands for.
use Rattle.std.proofs.Common.{◌≡◌, ℕ, zero, suc, ◌+◌, ◌-◌, ◌*◌, ◌/◌, ◌%◌, ◌^◌, ◌<◌, ◌≤◌, Bool, true, false, cond, T}
use Rattle.std.proofs.Common.{eqb, leb, sym, refl, ap, ◌∙◌, subst, inl, inr, true≢false, le_trans, le_of_eq}
use Rattle.std.proofs.Common.{lt_of_lt_of_le, mul-le-mul_right, eq-zero-or-pos, eq-or-lt_of_le, mul-le-mul_left}
use Rattle.std.proofs.Common.{mul-lt-mul_of_pos_right, mul-one, arith, pow_pos, pow_mono, pow-add, ne_eqb}
use Rattle.std.specs.Float.Ieee.{Float, nan, inf, binary32, odd, of_fields, of_bits, to_bits, fits}
use Rattle.std.specs.Float.Ieee.Bits.{of_bits-to_bits}
use Rattle.std.specs.Float.Ieee.Exact.{HasValue, odd_sign}
use Rattle.std.specs.Float.Ieee.Scale.{finite}
use Rattle.numbers.specs.Floats.{negative, magnitude}
use Rattle.numbers.proofs.Fractions.{value_finite}
use Rattle.numbers.proofs.Rounding.{largest}

-- by the exponent's field and the 23 digits below the leading one, which a field of 0 lacks
abbrev by_fields : ℕ → ℕ → ℕ
by_fields zero t = t
by_fields (suc x) t = (2 ^ 23 + t) * 2 ^ x

unfoldable pub units_in : ℕ → ℕ
units_in p = by_fields (p / 2 ^ 23) (p % 2 ^ 23)

-- ---- it grows with the pattern
grown : (k x : ℕ) → x ≤ x * 2 ^ k
grown k x = le_trans (le_of_eq (sym (mul-one x))) (mul-le-mul_left x (pow_pos k))

by_fields_grow : (x y t u : ℕ) → t < 2 ^ 23 → u < 2 ^ 23 → x * 2 ^ 23 + t < y * 2 ^ 23 + u
    → by_fields x t < by_fields y u
by_fields_grow zero zero t u a b h = omega arith
by_fields_grow zero (suc y) t u a b h = omega (arith, grown y (2 ^ 23 + u))
by_fields_grow (suc x) zero t u a b h = absurd (omega arith)
by_fields_grow (suc x) (suc y) t u a b h = elim (eq-zero-or-pos (y - x)) [
  | inl z ↦
      let e : x ≡ y = omega arith in
      let l : 2 ^ 23 + t < 2 ^ 23 + u = omega arith in
      subst (λ (k : ℕ). (2 ^ 23 + t) * 2 ^ x < (2 ^ 23 + u) * 2 ^ k) e (mul-lt-mul_of_pos_right l (pow_pos x))
  | inr z ↦
      let l : 2 ^ 23 + t < 2 ^ 24 = omega arith in
      let q : 24 + x ≤ 23 + y = omega arith in
      let m : 2 ^ 23 ≤ 2 ^ 23 + u = omega arith in
      lt_of_lt_of_le (mul-lt-mul_of_pos_right l (pow_pos x))
      (le_trans (le_of_eq (sym (pow-add 2 24 x)))
      (le_trans (pow_mono q) (le_trans (le_of_eq (pow-add 2 23 y)) (mul-le-mul_right (2 ^ y) m))))
]

pub units_grow : (a b : ℕ) → a < b → units_in a < units_in b
unfolding units_in
units_grow a b h = by_fields_grow (a / 2 ^ 23) (b / 2 ^ 23) (a % 2 ^ 23) (b % 2 ^ 23) (omega arith) (omega arith)
    (omega arith)

pub units_order : (a b : ℕ) → a ≤ b → units_in a ≤ units_in b
units_order a b h = elim (eq-or-lt_of_le h)
    [ inl e ↦ le_of_eq (ap units_in e) | inr l ↦ omega (arith, units_grow a b l) ]

pub units_back : (a b : ℕ) → units_in a ≤ units_in b → a ≤ b
units_back a b h = elim (eq-zero-or-pos (a - b))
    [ inl z ↦ omega arith | inr q ↦ absurd (let l : b < a = omega arith in omega (arith, units_grow b a l)) ]

pub units_zero : units_in 0 ≡ 0
unfolding units_in
units_zero = refl

units_largest : units_in (255 * 2 ^ 23 - 1) ≡ largest
unfolding units_in
units_largest = refl

pub units_bound : (p : ℕ) → p < 255 * 2 ^ 23 → units_in p ≤ largest
units_bound p h = subst (λ (x : ℕ). units_in p ≤ x) units_largest (units_order p (255 * 2 ^ 23 - 1) (omega arith))

-- 24 digits, shifted
pub units_shape : (p : ℕ) → (q j : ℕ) × (q < 2 ^ 24) × (units_in p ≡ q * 2 ^ j)
unfolding units_in
units_shape p = shape (p / 2 ^ 23) (p % 2 ^ 23) (omega arith)
  where
    shape : (x t : ℕ) → t < 2 ^ 23 → (q j : ℕ) × (q < 2 ^ 24) × (by_fields x t ≡ q * 2 ^ j)
    shape zero t h = (t, 0, omega arith, sym (mul-one t))
    shape (suc x) t h = (2 ^ 23 + t, x, omega arith, refl)

-- ---- a pattern's float is worth that many
fields : (s : Bool) (x t : ℕ) → x < 255 → HasValue (of_fields binary32 s x t) s (by_fields x t) (2 ^ 149)
unfolding of_fields
fields s zero t h = subst (λ (k : ℕ). HasValue (odd 24 s t 0 149) s k (2 ^ 149)) (mul-one t) (odd_sign 24 s t 0 149)
fields s (suc x) t h =
    subst (λ (b : Bool). HasValue (cond b (cond (eqb t 0) (inf s) nan) (odd 24 s (2 ^ 23 + t) x 149)) s
    ((2 ^ 23 + t) * 2 ^ x) (2 ^ 149)) (sym (ne_eqb (suc x) 255 (λ e. omega arith)))
    (odd_sign 24 s (2 ^ 23 + t) x 149)

pattern_value : (b : ℕ) → b % 2 ^ 31 < 255 * 2 ^ 23
    → HasValue (of_bits binary32 b) (leb (2 ^ 31) b) (units_in (b % 2 ^ 31)) (2 ^ 149)
unfolding of_bits units_in
pattern_value b h =
    let e : b % 2 ^ 31 % 2 ^ 23 ≡ b % 2 ^ 23 = omega arith in
    subst (λ (t : ℕ). HasValue (of_fields binary32 (leb (2 ^ 31) b) (b % 2 ^ 31 / 2 ^ 23) (b % 2 ^ 23)) (leb (2 ^ 31) b)
    (by_fields (b % 2 ^ 31 / 2 ^ 23) t) (2 ^ 149)) (sym e)
    (fields (leb (2 ^ 31) b) (b % 2 ^ 31 / 2 ^ 23) (b % 2 ^ 23) (omega arith))

pub pattern_finite : (b : ℕ) → b % 2 ^ 31 < 255 * 2 ^ 23 → finite (of_bits binary32 b) ≡ true
pattern_finite b h = value_finite (of_bits binary32 b) (leb (2 ^ 31) b) (units_in (b % 2 ^ 31)) (2 ^ 149)
    (pattern_value b h)

-- ---- a finite float by its sign and its magnitude
special : (s : Bool) (x t : ℕ) → x ≡ 255 → finite (of_fields binary32 s x t) ≡ false
unfolding of_fields
special s x t e = subst (λ (k : ℕ). finite (of_fields binary32 s k t) ≡ false) (sym e) (go (eqb t 0))
  where
    go : (z : Bool) → finite (cond z (inf s) nan) ≡ false
    go true = refl
    go false = refl

pub pattern_not_finite : (b : ℕ) → 255 * 2 ^ 23 ≤ b % 2 ^ 31 → finite (of_bits binary32 b) ≡ false
unfolding of_bits
pattern_not_finite b h = special (leb (2 ^ 31) b) (b % 2 ^ 31 / 2 ^ 23) (b % 2 ^ 23) (omega arith)

pub finite_magnitude : (x : Float) → T (fits binary32 x) → finite x ≡ true → magnitude x < 255 * 2 ^ 23
finite_magnitude x f h = elim (eq-zero-or-pos (255 * 2 ^ 23 - magnitude x)) [
  | inl z ↦ absurd (true≢false (sym h ∙ ap finite (sym (of_bits-to_bits binary32 x f))
      ∙ pattern_not_finite (to_bits binary32 x) (omega arith)))
  | inr p ↦ omega arith
]

pub finite_value : (x : Float) → T (fits binary32 x) → finite x ≡ true
    → HasValue x (negative x) (units_in (magnitude x)) (2 ^ 149)
finite_value x f h =
    subst (λ (y : Float). HasValue y (negative x) (units_in (magnitude x)) (2 ^ 149)) (of_bits-to_bits binary32 x f)
    (pattern_value (to_bits binary32 x) (finite_magnitude x f h))
