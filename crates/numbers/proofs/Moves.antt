-- What adding and taking away a distance do to a value and its rank.
use Rattle.std.proofs.Common.{◌≡◌, ℕ, zero, suc, ◌+◌, ◌*◌, ◌^◌, ◌<◌, ◌≤◌, min, Bool, true, false, T, ℤ, pos, negsuc}
use Rattle.std.proofs.Common.{◌+ℤ◌, neg_ℤ, nat_abs, ◌≤ℤ◌, sym, refl, ap, ◌∙◌, subst, le_trans, lt_of_le_of_lt, arith}
use Rattle.std.proofs.Common.{lit<, lit≤, pow_pos, leb-true}
use Rattle.std.proofs.Math.IntN.{+ℤ_idr}
use Rattle.std.specs.Float.Ieee.{Float, nan, inf, fin, binary32, up, down, unlike, round, add, sub, mul, neg, of_int}
use Rattle.std.specs.Float.Ieee.{to_bits, of_bits, fits}
use Rattle.std.specs.Float.Ieee.Back.{round_whole}
use Rattle.std.specs.Float.Ieee.Bits.{to_bits-lt}
use Rattle.std.specs.Float.Ieee.Exact.{HasValue, round_exact}
use Rattle.std.specs.Float.Ieee.Fits.{down_pos}
use Rattle.std.specs.Float.Ieee.Scale.{round_same}
use Rattle.std.proofs.lemmas.Int.{ints}
use Rattle.numbers.specs.Floats.{negative, magnitude, signed, rank, proper, step, distance, ExactDistances}
use Rattle.numbers.proofs.Fractions.{value_fixes, neg_value}
use Rattle.numbers.proofs.Rounding.{largest}
use Rattle.numbers.proofs.Signs.{mirrored, signed_size, sum_size, mirrored_order, add_order}
use Rattle.numbers.proofs.Sums.{nearest, add_is}
use Rattle.numbers.proofs.Units.{units_in, units_order, units_grow, units_zero, units_bound, units_shape}
use Rattle.numbers.proofs.Units.{finite_magnitude, finite_value}
use Rattle.numbers.proofs.Worth.{proper_parts, worth, worth_is, InReach, nearest_fits, nearest_proper, nearest_order}

module _ (x : Float) (h : proper x ≡ true) where
  held : T (fits binary32 x)
  held = (proper_parts x h).held

  magnitude_bound : magnitude x < 255 * 2 ^ 23
  magnitude_bound = finite_magnitude x held (proper_parts x h).finite_too

  own_value : HasValue x (negative x) (units_in (magnitude x)) (2 ^ 149)
  own_value = finite_value x held (proper_parts x h).finite_too

  -- where it is negative it is not 0
  some_worth : negative x ≡ true → 0 < units_in (magnitude x)
  some_worth e =
      let n = (proper_parts x h).not_minus_zero in
      let p : 0 < magnitude x = omega (arith, to_bits-lt binary32 x held, leb-true (2 ^ 31) (to_bits binary32 x) e, n)
      in
      omega (arith, units_grow 0 (magnitude x) p, units_zero)

  worth_most : nat_abs (worth x) ≤ largest
  worth_most = subst (λ (z : ℤ). nat_abs z ≤ largest) (sym (worth_is x))
      (subst (λ (n : ℕ). n ≤ largest) (sym (signed_size (negative x) (units_in (magnitude x))))
      (units_bound (magnitude x) magnitude_bound))

  worth_in_reach : InReach (worth x)
  worth_in_reach = le_trans worth_most (lit≤ tt)

  moved_in_reach : (t : Bool) (w : ℕ) → w ≤ 2 ^ 155 → InReach (worth x +ℤ signed t w)
  moved_in_reach t w k = le_trans (sum_size (worth x) (signed t w))
      (within (nat_abs (worth x)) (nat_abs (signed t w)) worth_most
      (subst (λ (n : ℕ). n ≤ 2 ^ 155) (sym (signed_size t w)) k))
    where
      within : (u w : ℕ) → u ≤ largest → w ≤ 2 ^ 155 → u + w ≤ largest + 2 ^ 155
      within u w a b = omega arith

  -- the float nearest to its worth is itself
  nearest_own : nearest (worth x) ≡ x
  nearest_own =
      let q = units_shape (magnitude x) in
      let a = units_in (magnitude x) in
      ap nearest (worth_is x)
      ∙ value_fixes binary32 (nearest (signed (negative x) a)) x (negative x) a (nearest_fits (signed (negative x) a))
      held
      (exact (negative x) a q.0 q.1 some_worth (units_bound (magnitude x) magnitude_bound) q.2 q.3) own_value
    where
      whole : (s : Bool) (a q j : ℕ) → a ≤ largest → q < 2 ^ 24 → a ≡ q * 2 ^ j
          → HasValue (round binary32 s a (2 ^ 149)) s a (2 ^ 149)
      whole s a q j l m e = round_exact binary32 s a (2 ^ 149) q j (pow_pos 149) m
          (subst (λ (n : ℕ). n < 2 ^ 277) e (lt_of_le_of_lt l (lit< tt))) (ap (λ (n : ℕ). n * 2 ^ 149) e)

      exact : (s : Bool) (a q j : ℕ) → (s ≡ true → 0 < a) → a ≤ largest → q < 2 ^ 24 → a ≡ q * 2 ^ j
          → HasValue (nearest (signed s a)) s a (2 ^ 149)
      exact false a q j p l m e = whole false a q j l m e
      exact true zero q j p l m e = absurd (omega (arith, p refl))
      exact true (suc a) q j p l m e = whole true (suc a) q j l m e

  -- a sum by its worth
  moved : (y : Float) (t : Bool) (w : ℕ) → HasValue y t w (2 ^ 149) → nearest (worth x +ℤ signed t w) ≡ add binary32 x y
  moved y t w v = sym (add_is x y (negative x) t (units_in (magnitude x)) w own_value v some_worth
      ∙ ap (λ (z : ℤ). nearest (z +ℤ signed t w)) (sym (worth_is x)))

  moved_proper : (y : Float) (t : Bool) (w : ℕ) → HasValue y t w (2 ^ 149) → w ≤ 2 ^ 155
      → proper (add binary32 x y) ≡ true
  moved_proper y t w v k = ap proper (sym (moved y t w v))
      ∙ nearest_proper (worth x +ℤ signed t w) (moved_in_reach t w k)

  moved_none : (y : Float) (t : Bool) → HasValue y t 0 (2 ^ 149) → add binary32 x y ≡ x
  moved_none y t v = sym (moved y t 0 v) ∙ ap nearest (none t) ∙ nearest_own
    where
      none : (t : Bool) → worth x +ℤ signed t 0 ≡ worth x
      none true = +ℤ_idr (worth x)
      none false = +ℤ_idr (worth x)

-- values of equal worth are equal, and so are values of equal rank
pub worth_fixes : (x y : Float) → proper x ≡ true → proper y ≡ true → worth x ≡ worth y → x ≡ y
worth_fixes x y h k e = sym (nearest_own x h) ∙ ap nearest e ∙ nearest_own y k

pub rank_fixes : (x y : Float) → proper x ≡ true → proper y ≡ true → rank x ≡ rank y → x ≡ y
rank_fixes x y h k e = worth_fixes x y h k (ap (mirrored units_in) e)

-- ---- sums and the order
ordered : (x y : Float) (a b : ℤ) → nearest a ≡ x → nearest b ≡ y → InReach a → InReach b → a ≤ℤ b → rank x ≤ℤ rank y
ordered x y a b p q h k l = subst (λ (z : Float). rank z ≤ℤ rank y) p
    (subst (λ (z : Float). rank (nearest a) ≤ℤ rank z) q (nearest_order a b h k l))

moved_up : (x y : Float) (w : ℕ) → proper x ≡ true → HasValue y false w (2 ^ 149) → w ≤ 2 ^ 155
    → rank x ≤ℤ rank (add binary32 x y)
moved_up x y w h v k = ordered x (add binary32 x y) (worth x) (worth x +ℤ pos w) (nearest_own x h)
    (moved x h y false w v) (worth_in_reach x h) (moved_in_reach x h false w k) (more (worth x))
  where
    more : (z : ℤ) → z ≤ℤ (z +ℤ pos w)
    more z = omega (arith, ints)

moved_down : (x y : Float) (w : ℕ) → proper x ≡ true → HasValue y true w (2 ^ 149) → w ≤ 2 ^ 155
    → rank (add binary32 x y) ≤ℤ rank x
moved_down x y w h v k = ordered (add binary32 x y) x (worth x +ℤ neg_ℤ (pos w)) (worth x) (moved x h y true w v)
    (nearest_own x h) (moved_in_reach x h true w k) (worth_in_reach x h) (less (worth x))
  where
    less : (z : ℤ) → (z +ℤ neg_ℤ (pos w)) ≤ℤ z
    less z = omega (arith, ints)

moved_order : (x x' y : Float) (t : Bool) (w : ℕ) → proper x ≡ true → proper x' ≡ true → HasValue y t w (2 ^ 149)
    → w ≤ 2 ^ 155 → rank x ≤ℤ rank x' → rank (add binary32 x y) ≤ℤ rank (add binary32 x' y)
moved_order x x' y t w h h' v k l =
    ordered (add binary32 x y) (add binary32 x' y) (worth x +ℤ signed t w) (worth x' +ℤ signed t w) (moved x h y t w v)
    (moved x' h' y t w v) (moved_in_reach x h t w k) (moved_in_reach x' h' t w k)
    (add_order (worth x) (worth x') (signed t w) (mirrored_order units_in units_order (rank x) (rank x') l))

-- ---- a distance of n steps is exact
step_is : step ≡ fin false 1 (negsuc 9)
unfolding of_bits
step_is = refl

whole_value : (k : ℕ) → k < 2 ^ 16 → HasValue (of_int binary32 (pos k)) false k 1
unfolding of_int
whole_value k h = round_whole binary32 false k (omega arith)

times_step : (x : Float) (k : ℕ) → HasValue x false k 1
    → mul binary32 x (fin false 1 (negsuc 9)) ≡ round binary32 false k 1024
unfolding mul
times_step nan k v = absurd v
times_step (inf s) k v = absurd v
times_step (fin s m e) k v =
    ap (λ (t : Bool). round binary32 (unlike t false) (m * up e * (1 * 1)) (down e * 1024)) v.0
    ∙ round_same binary32 false (m * up e * (1 * 1)) (down e * 1024) k 1024 (some (down e) (down_pos e)) (lit< tt)
    (scaled (m * up e) (down e) v.1)
  where
    some : (d : ℕ) → 0 < d → 0 < d * 1024
    some d h = omega arith

    scaled : (a d : ℕ) → a * 1 ≡ k * d → a * (1 * 1) * 1024 ≡ k * (d * 1024)
    scaled a d h = omega (arith, ap (λ (z : ℕ). z * 1024) h)

distance_exact : (n : ℕ) → HasValue (distance n) false (min n 65535) 1024
distance_exact n =
    let k : min n 65535 < 2 ^ 16 = omega arith in
    let e : distance n ≡ round binary32 false (min n 65535) 1024 =
    ap (mul binary32 (of_int binary32 (pos (min n 65535)))) step_is
    ∙ times_step (of_int binary32 (pos (min n 65535))) (min n 65535) (whole_value (min n 65535) k) in
    subst (λ (x : Float). HasValue x false (min n 65535) 1024) (sym e)
    (round_exact binary32 false (min n 65535) 1024 (min n 65535) 139 (lit< tt) (omega arith) (omega arith)
    (omega arith))

pub distances_exact : ExactDistances
distances_exact n h = let e : min n 65535 ≡ n = omega arith in
    subst (λ (k : ℕ). HasValue (distance n) false k 1024) e (distance_exact n)

rescaled : (x : Float) (k : ℕ) → HasValue x false k 1024 → HasValue x false (k * 2 ^ 139) (2 ^ 149)
rescaled nan k v = v
rescaled (inf s) k v = v
rescaled (fin s m e) k v = (v.0, omega (arith, ap (λ (z : ℕ). z * 2 ^ 139) v.1))

abbrev steps_worth : ℕ → ℕ
steps_worth n = min n 65535 * 2 ^ 139

there : (n : ℕ) → HasValue (distance n) false (steps_worth n) (2 ^ 149)
there n = rescaled (distance n) (min n 65535) (distance_exact n)

back : (n : ℕ) → HasValue (neg (distance n)) true (steps_worth n) (2 ^ 149)
back n = neg_value (distance n) (steps_worth n) (2 ^ 149) (there n)

steps_bound : (n : ℕ) → steps_worth n ≤ 2 ^ 155
steps_bound n = omega arith

sub_is : (x y : Float) → sub binary32 x y ≡ add binary32 x (neg y)
unfolding sub
sub_is x y = refl

-- ---- raising and lowering by n steps
module _ (x : Float) (h : proper x ≡ true) where
  pub raised_proper : (n : ℕ) → proper (add binary32 x (distance n)) ≡ true
  raised_proper n = moved_proper x h (distance n) false (steps_worth n) (there n) (steps_bound n)

  pub lowered_proper : (n : ℕ) → proper (sub binary32 x (distance n)) ≡ true
  lowered_proper n = ap proper (sub_is x (distance n))
      ∙ moved_proper x h (neg (distance n)) true (steps_worth n) (back n) (steps_bound n)

  pub raised_up : (n : ℕ) → rank x ≤ℤ rank (add binary32 x (distance n))
  raised_up n = moved_up x (distance n) (steps_worth n) h (there n) (steps_bound n)

  pub lowered_down : (n : ℕ) → rank (sub binary32 x (distance n)) ≤ℤ rank x
  lowered_down n = subst (λ (z : Float). rank z ≤ℤ rank x) (sym (sub_is x (distance n)))
      (moved_down x (neg (distance n)) (steps_worth n) h (back n) (steps_bound n))

  pub raised_none : add binary32 x (distance 0) ≡ x
  raised_none = moved_none x h (distance 0) false (there 0)

  pub lowered_none : sub binary32 x (distance 0) ≡ x
  lowered_none = sub_is x (distance 0) ∙ moved_none x h (neg (distance 0)) true (back 0)

  pub raised_order : (y : Float) (n : ℕ) → proper y ≡ true → rank x ≤ℤ rank y
      → rank (add binary32 x (distance n)) ≤ℤ rank (add binary32 y (distance n))
  raised_order y n k l = moved_order x y (distance n) false (steps_worth n) h k (there n) (steps_bound n) l

  pub lowered_order : (y : Float) (n : ℕ) → proper y ≡ true → rank x ≤ℤ rank y
      → rank (sub binary32 x (distance n)) ≤ℤ rank (sub binary32 y (distance n))
  lowered_order y n k l =
      subst (λ (z : Float). rank z ≤ℤ rank (sub binary32 y (distance n))) (sym (sub_is x (distance n)))
      (subst (λ (z : Float). rank (add binary32 x (neg (distance n))) ≤ℤ rank z) (sym (sub_is y (distance n)))
      (moved_order x y (neg (distance n)) true (steps_worth n) h k (back n) (steps_bound n) l))
