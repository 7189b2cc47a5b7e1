-- A float as a fraction a / c with a sign s: `HasValue x s a c`.
use Rattle.std.proofs.Common.{◌≡◌, ℕ, zero, suc, ◌+◌, ◌-◌, ◌*◌, ◌/◌, ◌^◌, ◌<◌, Bool, true, false, cond, not, ◌&&◌, T}
use Rattle.std.proofs.Common.{ltb, sym, refl, ap, ◌∙◌, lt_of_mul-lt-mul_right, mul-lt-mul_of_pos_right, mul-div_cancel}
use Rattle.std.proofs.Common.{arith, ltb→lt, lt→ltb}
use Rattle.std.proofs.Math.Bool.{beq}
use Rattle.std.proofs.Math.Nat.{eq_of_mul-eq-mul_right, mul-sub}
use Rattle.std.specs.Float.Ieee.{Float, nan, inf, fin, Format, prec, emax, low, hid, top, up, down, size, odd, units}
use Rattle.std.specs.Float.Ieee.{round, neg, sum, to_bits, of_bits, fits}
use Rattle.std.specs.Float.Ieee.Bits.{of_bits-to_bits}
use Rattle.std.specs.Float.Ieee.Exact.{HasValue}
use Rattle.std.specs.Float.Ieee.Fits.{down_pos, round_is}
use Rattle.std.specs.Float.Ieee.Scale.{finite, round_same}

-- ---- a value has one sign and one size, and fixes the float
pub value_finite : (x : Float) (s : Bool) (a c : ℕ) → HasValue x s a c → finite x ≡ true
value_finite nan s a c v = absurd v
value_finite (inf t) s a c v = absurd v
value_finite (fin t m e) s a c v = refl

pub value_unique : (x : Float) (s t : Bool) (a b c : ℕ) → HasValue x s a c → HasValue x t b c → (s ≡ t) × (a ≡ b)
value_unique nan s t a b c v w = absurd v
value_unique (inf r) s t a b c v w = absurd v
value_unique (fin r m e) s t a b c v w = (
  sym v.0
      ∙ w.0,
  eq_of_mul-eq-mul_right (down e) (down_pos e) a b (sym v.1 ∙ w.1),
)

-- the pattern of the sign s and n times the smallest value
abbrev written : Format → Bool → ℕ → ℕ
written f s n = cond s (top f) 0 + (size n - prec f) * hid f + n / 2 ^ (size n - prec f)

pattern_of_value : (f : Format) (x : Float) (s : Bool) (a : ℕ) → HasValue x s a (2 ^ low f)
    → to_bits f x ≡ written f s a
unfolding to_bits
pattern_of_value f nan s a v = absurd v
pattern_of_value f (inf t) s a v = absurd v
pattern_of_value f (fin t m e) s a v = λ i. written f (v.0 i) (whole i)
  where
    whole : m * up e * 2 ^ low f / down e ≡ a
    whole = ap (λ (k : ℕ). k / down e) v.1 ∙ mul-div_cancel a (down_pos e)

pub value_fixes : (f : Format) (x y : Float) (s : Bool) (a : ℕ) → T (fits f x) → T (fits f y)
    → HasValue x s a (2 ^ low f) → HasValue y s a (2 ^ low f) → x ≡ y
value_fixes f x y s a p q v w = sym (of_bits-to_bits f x p)
    ∙ ap (of_bits f) (pattern_of_value f x s a v ∙ sym (pattern_of_value f y s a w)) ∙ of_bits-to_bits f y q

-- ---- the other sign
pub neg_value : (x : Float) (a c : ℕ) → HasValue x false a c → HasValue (neg x) true a c
unfolding neg
neg_value nan a c v = v
neg_value (inf s) a c v = v
neg_value (fin s m e) a c v = (ap not v.0, v.1)

opposite_odd : (d q k l : ℕ) → neg (odd d false q k l) ≡ odd d true q k l
unfolding neg odd
opposite_odd d zero k l = refl
opposite_odd d (suc q) k l = refl

opposite_units : (f : Format) (q k : ℕ) → neg (units f false q k) ≡ units f true q k
unfolding neg units
opposite_units f q k = either (ltb (q * 2 ^ k) (2 ^ (low f + suc (emax f))))
  where
    either : (b : Bool) → neg (cond b (odd (suc (prec f)) false q k (low f)) (inf false))
        ≡ cond b (odd (suc (prec f)) true q k (low f)) (inf true)
    either true = opposite_odd (suc (prec f)) q k (low f)
    either false = refl

pub opposite_round : (f : Format) (a c : ℕ) → neg (round f false a c) ≡ round f true a c
opposite_round f a c = ap neg (round_is f false a c) ∙ opposite_units f _ _ ∙ sym (round_is f true a c)

-- ---- fractions a / c and u / d of the same size, and b / c and w / d
pub equal_tests : (a b : Bool) → (T a → T b) → (T b → T a) → a ≡ b
equal_tests a b p q = grind arith

module _ (a b u w c d : ℕ) where
  less_too : 0 < d → a * d ≡ u * c → b * d ≡ w * c → a < b → u < w
  less_too D p q h = lt_of_mul-lt-mul_right c (omega (arith, mul-lt-mul_of_pos_right h D))

  gap_too : a * d ≡ u * c → b * d ≡ w * c → (a - b) * d ≡ (u - w) * c
  gap_too p q = omega (arith, mul-sub d a b, mul-sub c u w)

pub same_order : (a b u w c d : ℕ) → 0 < c → 0 < d → a * d ≡ u * c → b * d ≡ w * c → ltb a b ≡ ltb u w
same_order a b u w c d C D p q =
    equal_tests (ltb a b) (ltb u w) (λ t. lt→ltb u w (less_too a b u w c d D p q (ltb→lt a b t)))
    (λ t. lt→ltb a b (less_too u w a b d c C (sym p) (sym q) (ltb→lt u w t)))

pub sum_same : (f : Format) (s t : Bool) (a b c u w d : ℕ) → 0 < c → 0 < d → a * d ≡ u * c → b * d ≡ w * c
    → sum f s a t b c ≡ sum f s u t w d
unfolding sum
sum_same f s t a b c u w d C D p q = λ i. cond (beq s t) (all i)
    (cond (same_order a b u w c d C D p q i) (less i) (more i))
  where
    all : round f s (a + b) c ≡ round f s (u + w) d
    all = round_same f s (a + b) c (u + w) d C D (omega arith)

    less : round f t (b - a) c ≡ round f t (w - u) d
    less = round_same f t (b - a) c (w - u) d C D (gap_too b a w u c d q p)

    more : round f (s && ltb b a) (a - b) c ≡ round f (s && ltb w u) (u - w) d
    more = (λ i. round f (s && same_order b a w u c d C D q p i) (a - b) c)
        ∙ round_same f (s && ltb w u) (a - b) c (u - w) d C D (gap_too a b u w c d p q)
