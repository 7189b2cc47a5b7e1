-- A sum of floats is the float nearest to the sum of their units of 2^-149.
use Rattle.std.proofs.Common.{◌≡◌, ℕ, zero, suc, ◌+◌, ◌-◌, ◌*◌, ◌^◌, ◌<◌, Bool, true, false, cond, T, ltb, ℤ, pos}
use Rattle.std.proofs.Common.{negsuc, ◌+ℤ◌, sym, refl, ap, ◌∙◌, zero-le, mul-pos, arith, ltb→lt, pow_pos, ltb-false}
use Rattle.std.proofs.Common.{ltb-true, le-ltb, lt-ltb}
use Rattle.std.proofs.Math.IntN.{sub_ℕ}
use Rattle.std.specs.Float.Ieee.{Float, nan, inf, fin, binary32, up, down, round, sum, add}
use Rattle.std.specs.Float.Ieee.Fits.{down_pos}
use Rattle.std.specs.Float.Ieee.Exact.{HasValue}
use Rattle.numbers.specs.Floats.{signed}
use Rattle.numbers.proofs.Fractions.{sum_same}

-- the float nearest to z units
abbrev pub nearest : ℤ → Float
nearest (pos n) = round binary32 false n (2 ^ 149)
nearest (negsuc n) = round binary32 true (suc n) (2 ^ 149)

minus_after : (u w : ℕ) → sum binary32 false u true w (2 ^ 149) ≡ nearest (sub_ℕ u w)
unfolding sum
minus_after u w = either (ltb u w) (ltb→lt u w)
  where
    either : (t : Bool) → (T t → u < w) →
        cond t (round binary32 true (w - u) (2 ^ 149)) (round binary32 false (u - w) (2 ^ 149))
        ≡ nearest (cond t (negsuc (w - suc u)) (pos (u - w)))
    either true h = let e : w - u ≡ suc (w - suc u) = omega (arith, h tt) in
        ap (λ (k : ℕ). round binary32 true k (2 ^ 149)) e
    either false h = refl

minus_before : (u w : ℕ) → sum binary32 true u false w (2 ^ 149) ≡ nearest (sub_ℕ w u)
unfolding sum
minus_before u w = either (ltb u w) (ltb w u) refl refl
  where
    either : (p q : Bool) → ltb u w ≡ p → ltb w u ≡ q
        → cond p (round binary32 false (w - u) (2 ^ 149)) (round binary32 q (u - w) (2 ^ 149))
        ≡ nearest (cond q (negsuc (u - suc w)) (pos (w - u)))
    either true true e f = absurd (omega (arith, ltb-true u w e, ltb-true w u f))
    either true false e f = refl
    either false true e f = let d : u - w ≡ suc (u - suc w) = omega (arith, ltb-true w u f) in
        ap (λ (k : ℕ). round binary32 true k (2 ^ 149)) d
    either false false e f = let d : u - w ≡ w - u = omega (arith, ltb-false u w e, ltb-false w u f) in
        ap (λ (k : ℕ). round binary32 false k (2 ^ 149)) d

-- the first is not -0: of -0 and -0 the sum is -0, while the float nearest to 0 units is +0
sum_is : (s t : Bool) (u w : ℕ) → (s ≡ true → 0 < u)
    → sum binary32 s u t w (2 ^ 149) ≡ nearest (signed s u +ℤ signed t w)
unfolding sum
sum_is false false u w h = refl
sum_is false true u zero h = minus_after u 0
    ∙ ap nearest {x = sub_ℕ u 0} {y = pos (u + 0)} (rw (le-ltb u 0 zero-le) (ap pos (omega arith)))
sum_is false true u (suc w) h = minus_after u (suc w)
sum_is true t zero w h = absurd (omega (arith, h refl))
sum_is true false (suc u) w h = minus_before (suc u) w
sum_is true true (suc u) zero h =
    let e : suc u + 0 ≡ suc (suc u - 1) = omega arith in
    ap (λ (k : ℕ). round binary32 true k (2 ^ 149)) e
    ∙ sym (ap nearest {x = sub_ℕ 0 (suc u)} {y = negsuc (suc u - 1)} (rw (lt-ltb 0 (suc u) (omega arith)) refl))
sum_is true true (suc u) (suc w) h = let e : suc u + suc w ≡ suc (suc (u + w)) = omega arith in
    ap (λ (k : ℕ). round binary32 true k (2 ^ 149)) e

pub add_is : (x y : Float) (s t : Bool) (u w : ℕ) → HasValue x s u (2 ^ 149) → HasValue y t w (2 ^ 149)
    → (s ≡ true → 0 < u) → add binary32 x y ≡ nearest (signed s u +ℤ signed t w)
unfolding add
add_is nan y s t u w v v' h = absurd v
add_is (inf r) y s t u w v v' h = absurd v
add_is (fin r m e) nan s t u w v v' h = absurd v'
add_is (fin r m e) (inf q) s t u w v v' h = absurd v'
add_is (fin r m e) (fin q n d) s t u w v v' h =
    (λ i. sum binary32 (v.0 i) (m * up e * down d) (v'.0 i) (n * up d * down e) (down e * down d))
    ∙ sum_same binary32 s t (m * up e * down d) (n * up d * down e) (down e * down d) u w (2 ^ 149)
    (mul-pos (down_pos e) (down_pos d)) (pow_pos 149)
    (omega (arith, ap (λ (k : ℕ). k * down d) v.1)) (omega (arith, ap (λ (k : ℕ). k * down e) v'.1))
    ∙ sum_is s t u w h
