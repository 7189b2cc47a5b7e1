-- The order of floats is that of their ranks.
use Rattle.std.proofs.Common.{◌≡◌, ℕ, ◌*◌, ◌^◌, ◌<◌, Bool, true, false, not, ◌||◌, T, eqb, ltb, ℤ, pos, sym, refl, ap}
use Rattle.std.proofs.Common.{◌∙◌, subst, true≢false, mul-pos, arith, eqb→eq, pow_pos, tests}
use Rattle.std.proofs.Math.Bool.{beq}
use Rattle.std.proofs.Math.Nat.{eq_of_mul-eq-mul_right}
use Rattle.std.specs.Int.Signed.{le_z, lt_z, le_z_yes}
use Rattle.std.specs.Float.Ieee.{Float, nan, inf, fin, binary32, up, down, lt, le, eq, below, level, of_bits, fits}
use Rattle.std.specs.Float.Ieee.Fits.{down_pos, and_l}
use Rattle.std.specs.Float.Ieee.Exact.{HasValue}
use Rattle.std.specs.Float.Ieee.Scale.{finite}
use Rattle.std.proofs.lemmas.Int.{ints}
use Rattle.numbers.specs.Floats.{negative, magnitude, signed, rank, proper, zero_float}
use Rattle.numbers.proofs.Fractions.{equal_tests, same_order}
use Rattle.numbers.proofs.Signs.{mirrored_order}
use Rattle.numbers.proofs.Units.{units_in, units_order, finite_value}
use Rattle.numbers.proofs.Worth.{proper_parts, worth, worth_is, rank_from_worth}

-- ---- signed numbers, as floats are compared
le_signed : (s t : Bool) (u w : ℕ) → (below s u t w || level s u t w) ≡ le_z (signed s u) (signed t w)
le_signed s t u w = grind (arith, tests, ints)

-- the same of fractions a / c and b / c that are u / d and w / d
module _ (a b u w c d : ℕ) (C : 0 < c) (D : 0 < d) (p : a * d ≡ u * c) (q : b * d ≡ w * c) where
  le_scaled : (s t : Bool) → (below s a t b || level s a t b) ≡ (below s u t w || level s u t w)
  le_scaled s t =
      go s t (same_order a b u w c d C D p q) (same_order b a w u c d C D q p)
      (same_order 0 a 0 u c d C D (omega arith) p) (same_order 0 b 0 w c d C D (omega arith) q)
    where
      go : (s t : Bool) → ltb a b ≡ ltb u w → ltb b a ≡ ltb w u → ltb 0 a ≡ ltb 0 u → ltb 0 b ≡ ltb 0 w
          → (below s a t b || level s a t b) ≡ (below s u t w || level s u t w)
      go s t e f g h = grind (arith, tests)

-- ---- floats
module _ (s t : Bool) (u w : ℕ) where
  le_is : (x y : Float) → HasValue x s u (2 ^ 149) → HasValue y t w (2 ^ 149) → le x y ≡ le_z (signed s u) (signed t w)
  unfolding le
  le_is nan y v v' = absurd v
  le_is (inf r) y v v' = absurd v
  le_is (fin r m e) nan v v' = absurd v'
  le_is (fin r m e) (inf q) v v' = absurd v'
  le_is (fin r m e) (fin q n d) v v' =
      (λ i. below (v.0 i) (m * up e * down d) (v'.0 i) (n * up d * down e) || level (v.0 i) (m * up e * down d) (v'.0 i)
      (n * up d * down e))
      ∙ le_scaled (m * up e * down d) (n * up d * down e) u w (down e * down d) (2 ^ 149)
      (mul-pos (down_pos e) (down_pos d)) (pow_pos 149)
      (omega (arith, ap (λ (k : ℕ). k * down d) v.1)) (omega (arith, ap (λ (k : ℕ). k * down e) v'.1)) s t
      ∙ le_signed s t u w

pub le_worth : (x y : Float) → T (fits binary32 x) → finite x ≡ true → T (fits binary32 y) → finite y ≡ true
    → le x y ≡ le_z (worth x) (worth y)
le_worth x y f h g k =
    le_is (negative x) (negative y) (units_in (magnitude x)) (units_in (magnitude y)) x y (finite_value x f h)
    (finite_value y g k) ∙ sym (λ i. le_z (worth_is x i) (worth_is y i))

module _ (x y : Float) (h : proper x ≡ true) (k : proper y ≡ true) where
  pub le_rank : le x y ≡ le_z (rank x) (rank y)
  le_rank =
      le_worth x y (proper_parts x h).held (proper_parts x h).finite_too (proper_parts y k).held
      (proper_parts y k).finite_too
      ∙ equal_tests (le_z (worth x) (worth y)) (le_z (rank x) (rank y)) (λ t. (rank_from_worth x y (le_z_yes t)).le)
      (λ t. (mirrored_order units_in units_order (rank x) (rank y) (le_z_yes t)).le)

-- of finite floats one is below the other where the other is not at most the one
below_is : (s t : Bool) (a b : ℕ) → below s a t b ≡ not (below t b s a || level t b s a)
below_is s t a b = grind (arith, tests)

lt_is : (x y : Float) → finite x ≡ true → finite y ≡ true → lt x y ≡ not (le y x)
unfolding lt le
lt_is nan y h k = absurd (true≢false (sym h))
lt_is (inf s) y h k = absurd (true≢false (sym h))
lt_is (fin s m e) nan h k = absurd (true≢false (sym k))
lt_is (fin s m e) (inf t) h k = absurd (true≢false (sym k))
lt_is (fin s m e) (fin t n d) h k = below_is s t (m * up e * down d) (n * up d * down e)

flipped : (a b : ℤ) → not (le_z b a) ≡ lt_z a b
flipped a b = grind (arith, ints)

pub lt_rank : (x y : Float) → proper x ≡ true → proper y ≡ true → lt x y ≡ lt_z (rank x) (rank y)
lt_rank x y h k = lt_is x y (proper_parts x h).finite_too (proper_parts y k).finite_too ∙ ap not (le_rank y x k h)
    ∙ flipped (rank x) (rank y)

-- ---- what equals zero is worth nothing
no_units : (a d u : ℕ) → 0 < d → a * 2 ^ 149 ≡ u * d → a ≡ 0 → u ≡ 0
no_units a d u D h e = eq_of_mul-eq-mul_right d D u 0 (omega arith)

scaled_zero : (a d : ℕ) → a * 1 ≡ 0 * 1 * d → a ≡ 0
scaled_zero a d h = omega arith

zero_units : (x : Float) (s : Bool) (u : ℕ) → HasValue x s u (2 ^ 149) → T (eq x zero_float) → u ≡ 0
unfolding eq of_bits
zero_units nan s u v t = absurd v
zero_units (inf r) s u v t = absurd v
zero_units (fin r m e) s u v t =
    no_units (m * up e) (down e) u (down_pos e) v.1
    (scaled_zero (m * up e) (down e) (eqb→eq (m * up e * 1) (0 * 1 * down e)
    (and_l (eqb (m * up e * 1) (0 * 1 * down e)) (beq r false || eqb (m * up e * 1) 0) t)))

signed_zero : (s : Bool) → signed s 0 ≡ pos 0
signed_zero true = refl
signed_zero false = refl

pub zero_worth : (x : Float) → T (fits binary32 x) → finite x ≡ true → eq x zero_float ≡ true → worth x ≡ pos 0
zero_worth x f h e =
    worth_is x ∙ ap (signed (negative x))
    (zero_units x (negative x) (units_in (magnitude x)) (finite_value x f h) (subst T (sym e) tt))
    ∙ signed_zero (negative x)
