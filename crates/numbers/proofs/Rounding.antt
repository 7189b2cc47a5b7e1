-- Rounding keeps the order. Floats are counted in units of 2^-149, the smallest float.
use Rattle.std.proofs.Common.{◌≡◌, ℕ, ◌+◌, ◌-◌, ◌*◌, ◌/◌, ◌^◌, ◌<◌, ◌≤◌, false, sym, refl, subst, inl, inr, le_trans}
use Rattle.std.proofs.Common.{le_of_eq, lt_of_le_of_lt, mul-le-mul_right, eq-zero-or-pos, eq-or-lt_of_le, mul-pos}
use Rattle.std.proofs.Common.{le-div_iff_mul-le, arith, lit<, pow_pos, pow_mono, pow-add}
use Rattle.std.proofs.Math.Nat.{div-div-eq-div-mul}
use Rattle.std.specs.Float.Ieee.{binary32, size, round}
use Rattle.std.specs.Float.Ieee.Digits.{size-lt, size_reaches}
use Rattle.std.specs.Float.Ieee.Exact.{HasValue}
use Rattle.std.specs.Float.Ieee.Fits.{kept-lt, nearest-le}
use Rattle.std.specs.Float.Ieee.Nearest.{nearest-ge, div_mono, closest, closest_mono}
use Rattle.std.specs.Float.Ieee.Order.{kept, drop}
use Rattle.std.specs.Float.Ieee.Scale.{grid, round_val}

-- ---- of n / den, p digits are kept: as a number they are at most 2^p, and at least 2^(p - 1) where digits are dropped
module _ (p n den : ℕ) where
  quotient_is : n / den / 2 ^ drop p n den ≡ n / (den * 2 ^ drop p n den)
  quotient_is = div-div-eq-div-mul n den (2 ^ drop p n den)

  kept_at_most : kept p n den ≤ 2 ^ p
  kept_at_most = le_trans (nearest-le _ _) (subst (λ (k : ℕ). k < 2 ^ p) quotient_is (kept-lt p (n / den)))

  kept_at_least : 0 < p → 0 < drop p n den → 2 ^ (p - 1) ≤ kept p n den
  kept_at_least P h =
      let l : p - 1 + drop p n den < size (n / den) = omega arith in
      let w : 2 ^ (p - 1) * 2 ^ drop p n den ≤ n / den =
      subst (λ (k : ℕ). k ≤ n / den) (pow-add 2 (p - 1) (drop p n den))
      (size_reaches (n / den) (p - 1 + drop p n den) l) in
      le_trans (subst (λ (k : ℕ). 2 ^ (p - 1) ≤ k) quotient_is ((le-div_iff_mul-le (pow_pos (drop p n den))).1 w))
      (nearest-ge _ _)

-- ---- the greater of two fractions over one denominator drops no fewer digits, and is rounded no lower
module _ (p den m n : ℕ) (P : 0 < p) (D : 0 < den) (h : m ≤ n) where
  drops_no_fewer : drop p m den ≤ drop p n den
  drops_no_fewer = elim (eq-zero-or-pos (size (m / den) - size (n / den))) [
    | inl z ↦ omega arith
    | inr q ↦
        let l : size (n / den) < size (m / den) = omega arith in
        absurd (omega (
          arith,
          size-lt (n / den),
          size_reaches (m / den) (size (n / den)) l,
          div_mono m den n den D D (mul-le-mul_right den h),
        ))
  ]

  -- where both are rounded to multiples of 2^k
  same_power : (k : ℕ) → closest m (den * 2 ^ k) * 2 ^ k ≤ closest n (den * 2 ^ k) * 2 ^ k
  same_power k = let u = mul-pos D (pow_pos k) in
      mul-le-mul_right (2 ^ k) (closest_mono m (den * 2 ^ k) n (den * 2 ^ k) u u (mul-le-mul_right (den * 2 ^ k) h))

  -- where the greater is rounded to a higher power: a power of two lies between the results
  next_power : drop p m den < drop p n den → kept p m den * 2 ^ drop p m den ≤ kept p n den * 2 ^ drop p n den
  next_power l =
      let q : p + drop p m den ≤ p - 1 + drop p n den = omega arith in
      le_trans (mul-le-mul_right (2 ^ drop p m den) (kept_at_most p m den))
      (le_trans (le_of_eq (sym (pow-add 2 p (drop p m den))))
      (le_trans (pow_mono q)
      (le_trans (le_of_eq (pow-add 2 (p - 1) (drop p n den)))
      (mul-le-mul_right (2 ^ drop p n den) (kept_at_least p n den P (omega arith))))))

  rounds_no_lower : kept p m den * 2 ^ drop p m den ≤ kept p n den * 2 ^ drop p n den
  rounds_no_lower = elim (eq-or-lt_of_le drops_no_fewer) [
    | inl e ↦ subst (λ (k : ℕ). closest m (den * 2 ^ k) * 2 ^ k ≤ kept p n den * 2 ^ drop p n den) (sym e)
        (same_power (drop p n den))
    | inr l ↦ next_power l
  ]

-- ---- the units of the largest float, and the most that a sum of it and 65,535 steps can have
abbrev pub largest : ℕ
largest = (2 ^ 24 - 1) * 2 ^ 253

abbrev pub reach : ℕ
reach = largest + 2 ^ 155

-- ---- how many units n units are rounded to
unfoldable pub rounded : ℕ → ℕ
rounded n = grid binary32 n (2 ^ 149)

pub rounded_order : (a b : ℕ) → a ≤ b → rounded a ≤ rounded b
unfolding rounded
rounded_order a b h = rounds_no_lower 24 (2 ^ 149) (a * 2 ^ 149) (b * 2 ^ 149) (lit< tt) (pow_pos 149)
    (mul-le-mul_right (2 ^ 149) h)

reach_is : rounded reach ≡ largest
unfolding rounded size
reach_is = refl

one_is : rounded 1 ≡ 1
unfolding rounded size
one_is = refl

pub rounded_pos : (n : ℕ) → 0 < n → 0 < rounded n
rounded_pos n h = omega (arith, rounded_order 1 n h, one_is)

pub round_value : (n : ℕ) → n ≤ reach → HasValue (round binary32 false n (2 ^ 149)) false (rounded n) (2 ^ 149)
unfolding rounded
round_value n h = round_val binary32 n (2 ^ 149)
    (lt_of_le_of_lt (subst (λ (x : ℕ). rounded n ≤ x) reach_is (rounded_order n reach h)) (lit< tt))
