-- What a value is worth in units of 2^-149, against its rank; and the floats nearest to numbers of units.
use Rattle.std.proofs.Common.{◌≡◌, ℕ, suc, ◌%◌, ◌^◌, ◌<◌, ◌≤◌, Bool, true, false, not, ◌&&◌, T, eqb, leb, ℤ, pos}
use Rattle.std.proofs.Common.{negsuc, nat_abs, ◌≤ℤ◌, sym, refl, ap, ◌∙◌, subst, true≢false, arith, eqb→eq, T_not}
use Rattle.std.proofs.Math.Dec.{not_T}
use Rattle.std.specs.Float.Ieee.{Float, binary32, round, to_bits, fits}
use Rattle.std.specs.Float.Ieee.Fits.{round-fits, and_i, and_l, and_r, eq→eqb}
use Rattle.std.specs.Float.Ieee.Bits.{is_true}
use Rattle.std.specs.Float.Ieee.Exact.{HasValue}
use Rattle.std.specs.Float.Ieee.Scale.{finite}
use Rattle.numbers.specs.Floats.{negative, magnitude, signed, rank, proper}
use Rattle.numbers.proofs.Fractions.{value_finite, value_unique, neg_value, opposite_round}
use Rattle.numbers.proofs.Rounding.{rounded, rounded_order, rounded_pos, round_value, reach}
use Rattle.numbers.proofs.Signs.{mirrored, mirrored_signed, mirrored_order, mirrored_back}
use Rattle.numbers.proofs.Sums.{nearest}
use Rattle.numbers.proofs.Units.{units_in, units_back, units_zero, finite_value}

-- ---- the three parts of `proper`
pub record Proper (x : Float) : Type 0 where
  pub held : T (fits binary32 x)
  pub finite_too : finite x ≡ true
  pub not_minus_zero : to_bits binary32 x ≡ 2 ^ 31 → ⊥

pub proper_parts : (x : Float) → proper x ≡ true → Proper x
proper_parts x h =
    let a = fits binary32 x in
    let b = finite x in
    let c = not (eqb (to_bits binary32 x) (2 ^ 31)) in
    let t = subst T (sym h) tt in
    let r = and_r a (b && c) t in
    record {
      held = and_l a (b && c) t;
      finite_too = is_true b (and_l b c r);
      not_minus_zero = λ e. T_not (eqb (to_bits binary32 x) (2 ^ 31)) (and_r b c r) (eq→eqb e);
    }

pub proper_from : (x : Float) → T (fits binary32 x) → finite x ≡ true → (to_bits binary32 x ≡ 2 ^ 31 → ⊥)
    → proper x ≡ true
proper_from x a b c =
    let d = not (eqb (to_bits binary32 x) (2 ^ 31)) in
    is_true (proper x) (and_i (fits binary32 x) (finite x && d) a
    (and_i (finite x) d (subst T (sym b) tt)
    (not_T (eqb (to_bits binary32 x) (2 ^ 31)) (λ t. c (eqb→eq (to_bits binary32 x) (2 ^ 31) t)))))

-- ---- the worth of a float
abbrev pub worth : Float → ℤ
worth x = mirrored units_in (rank x)

pub worth_is : (x : Float) → worth x ≡ signed (negative x) (units_in (magnitude x))
worth_is x = mirrored_signed units_in (negative x) (magnitude x) units_zero

pub rank_from_worth : (x y : Float) → worth x ≤ℤ worth y → rank x ≤ℤ rank y
rank_from_worth x y h = mirrored_back units_in units_back (rank x) (rank y) h

-- ---- a float of a known value
module _ (x : Float) (s : Bool) (a : ℕ) (f : T (fits binary32 x)) (v : HasValue x s a (2 ^ 149)) where
  same : (negative x ≡ s) × (units_in (magnitude x) ≡ a)
  same = value_unique x (negative x) s (units_in (magnitude x)) a (2 ^ 149)
      (finite_value x f (value_finite x s a (2 ^ 149) v)) v

  worth_of_value : worth x ≡ signed s a
  worth_of_value = worth_is x ∙ (λ i. signed (same.0 i) (same.1 i))

  proper_of_value : (s ≡ true → 0 < a) → proper x ≡ true
  proper_of_value p = proper_from x f (value_finite x s a (2 ^ 149) v) (λ e.
      let n = sym same.1 ∙ ap (λ (b : ℕ). units_in (b % 2 ^ 31)) e ∙ units_zero in
      let q = p (sym same.0 ∙ ap (leb (2 ^ 31)) e) in
      omega arith)

-- ---- the float nearest to z units, where z is not too far out to be rounded to a finite one
abbrev pub InReach : ℤ → Type 0
InReach z = nat_abs z ≤ reach

abbrev below_zero : ℤ → Bool
below_zero (pos n) = false
below_zero (negsuc n) = true

nearest_value : (z : ℤ) → InReach z → HasValue (nearest z) (below_zero z) (rounded (nat_abs z)) (2 ^ 149)
nearest_value (pos n) h = round_value n h
nearest_value (negsuc n) h = subst (λ (x : Float). HasValue x true (rounded (suc n)) (2 ^ 149))
    (opposite_round binary32 (suc n) (2 ^ 149))
    (neg_value (round binary32 false (suc n) (2 ^ 149)) (rounded (suc n)) (2 ^ 149) (round_value (suc n) h))

pub nearest_fits : (z : ℤ) → T (fits binary32 (nearest z))
nearest_fits (pos n) = round-fits binary32 false n (2 ^ 149)
nearest_fits (negsuc n) = round-fits binary32 true (suc n) (2 ^ 149)

pub nearest_proper : (z : ℤ) → InReach z → proper (nearest z) ≡ true
nearest_proper z h = proper_of_value (nearest z) (below_zero z) (rounded (nat_abs z)) (nearest_fits z)
    (nearest_value z h) (some z)
  where
    some : (z : ℤ) → below_zero z ≡ true → 0 < rounded (nat_abs z)
    some (pos n) e = absurd (true≢false (sym e))
    some (negsuc n) e = rounded_pos (suc n) (omega arith)

nearest_worth : (z : ℤ) → InReach z → worth (nearest z) ≡ mirrored rounded z
nearest_worth z h = worth_of_value (nearest z) (below_zero z) (rounded (nat_abs z)) (nearest_fits z) (nearest_value z h)
    ∙ sides z
  where
    sides : (z : ℤ) → signed (below_zero z) (rounded (nat_abs z)) ≡ mirrored rounded z
    sides (pos n) = refl
    sides (negsuc n) = refl

pub nearest_order : (y z : ℤ) → InReach y → InReach z → y ≤ℤ z → rank (nearest y) ≤ℤ rank (nearest z)
nearest_order y z h k l =
    rank_from_worth (nearest y) (nearest z)
    (subst (λ (n : ℤ). n ≤ℤ worth (nearest z)) (sym (nearest_worth y h))
    (subst (λ (n : ℤ). mirrored rounded y ≤ℤ n) (sym (nearest_worth z k))
    (mirrored_order rounded rounded_order y z l)))
