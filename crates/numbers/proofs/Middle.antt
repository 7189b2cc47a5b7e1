-- -0 taken as +0, and the middle of two values.
use Rattle.std.proofs.Common.{◌≡◌, ◌^◌, Bool, true, false, cond, T, ℤ, pos, ◌≤ℤ◌, sym, refl, ap, ◌∙◌, subst, true≢false}
use Rattle.std.specs.Int.Signed.{le_z, ≤ℤ_refl}
use Rattle.std.specs.Float.Ieee.{Float, nan, inf, fin, binary32, mul, le, eq, to_bits, of_bits, fits}
use Rattle.std.specs.Float.Ieee.Fits.{add-fits}
use Rattle.std.specs.Float.Ieee.Scale.{finite}
use Rattle.std.specs.Float.Ieee.Bits.{of_bits-to_bits}
use Rattle.numbers.specs.Floats.{rank, proper, zero_float, plain, between, lesser, greater, half, halves, middle}
use Rattle.numbers.proofs.Moves.{worth_fixes}
use Rattle.numbers.proofs.Order.{le_worth, le_rank, zero_worth}
use Rattle.numbers.proofs.Signs.{at_most, at_least}
use Rattle.numbers.proofs.Units.{units_in}
use Rattle.numbers.proofs.Worth.{proper_parts, proper_from, worth, rank_from_worth}

-- a float that fits and is finite, -0 among them
pub record Finite (x : Float) : Type 0 where
  pub held : T (fits binary32 x)
  pub finite_too : finite x ≡ true

abbrev of_proper : (x : Float) → proper x ≡ true → Finite x
of_proper x h = let p = proper_parts x h in record { held = p.held; finite_too = p.finite_too }

-- ---- -0 taken as +0
zero_proper : proper zero_float ≡ true
unfolding fits to_bits of_bits
zero_proper = refl

minus_zero : eq (of_bits binary32 (2 ^ 31)) zero_float ≡ true
unfolding of_bits eq
minus_zero = refl

pub plain_proper : (x : Float) → Finite x → proper (plain x) ≡ true
plain_proper x f = either (eq x zero_float) refl
  where
    either : (t : Bool) → eq x zero_float ≡ t → proper (cond t zero_float x) ≡ true
    either true e = zero_proper
    either false e =
        proper_from x f.held f.finite_too
        (λ z. true≢false (sym minus_zero
        ∙ ap (λ (y : Float). eq y zero_float) (ap (of_bits binary32) (sym z) ∙ of_bits-to_bits binary32 x f.held)
        ∙ e))

nothing : worth zero_float ≡ pos 0
unfolding to_bits of_bits units_in
nothing = refl

plain_worth : (x : Float) → Finite x → worth (plain x) ≡ worth x
plain_worth x f = either (eq x zero_float) refl
  where
    either : (t : Bool) → eq x zero_float ≡ t → worth (cond t zero_float x) ≡ worth x
    either true e = nothing ∙ sym (zero_worth x f.held f.finite_too e)
    either false e = refl

-- a value is not -0 already
pub plain_same : (x : Float) → proper x ≡ true → plain x ≡ x
plain_same x h = worth_fixes (plain x) x (plain_proper x (of_proper x h)) h (plain_worth x (of_proper x h))

-- ---- what is brought between two finite floats is one of them, or lies between them
squeezed : (low x high : Float) → finite low ≡ true → finite high ≡ true → T (le low x) → T (le x high)
    → finite x ≡ true
unfolding le
squeezed nan x high a b h k = absurd (true≢false (sym a))
squeezed (inf s) x high a b h k = absurd (true≢false (sym a))
squeezed (fin s m e) nan high a b h k = absurd h
squeezed (fin s m e) (inf true) high a b h k = absurd h
squeezed (fin s m e) (inf false) nan a b h k = absurd (true≢false (sym b))
squeezed (fin s m e) (inf false) (inf t) a b h k = absurd (true≢false (sym b))
squeezed (fin s m e) (inf false) (fin t n d) a b h k = absurd k
squeezed (fin s m e) (fin t n d) high a b h k = refl

-- whatever x is
module _ (x low high : Float) (f : T (fits binary32 x)) (a : Finite low) (b : Finite high) where
  between_finite : Finite (between x low high)
  between_finite = either (le low x) (le x high) (λ t. t) (λ t. t)
    where
      either : (p q : Bool) → (T p → T (le low x)) → (T q → T (le x high)) → Finite (cond p (cond q x high) low)
      either false q u v = a
      either true false u v = b
      either true true u v = record {
        held = f;
        finite_too = squeezed low x high a.finite_too b.finite_too (u tt) (v tt);
      }

  between_worth : worth low ≤ℤ worth high → (worth low ≤ℤ worth (between x low high))
      × (worth (between x low high) ≤ℤ worth high)
  between_worth o = either (le low x) (le x high) refl refl between_finite
    where
      either : (p q : Bool) → le low x ≡ p → le x high ≡ q → Finite (cond p (cond q x high) low)
          → (worth low ≤ℤ worth (cond p (cond q x high) low)) × (worth (cond p (cond q x high) low) ≤ℤ worth high)
      either false q u v z = (≤ℤ_refl (worth low), o)
      either true false u v z = (o, ≤ℤ_refl (worth high))
      either true true u v z = (
        at_most (worth low) (worth x) (sym (le_worth low x a.held a.finite_too f z.finite_too)
            ∙ u),
        at_most (worth x) (worth high) (sym (le_worth x high f z.finite_too b.held b.finite_too) ∙ v),
      )

-- ---- the middle
module _ (x y : Float) (h : proper x ≡ true) (k : proper y ≡ true) where
  by_worth : le x y ≡ le_z (worth x) (worth y)
  by_worth = le_worth x y (proper_parts x h).held (proper_parts x h).finite_too (proper_parts y k).held
      (proper_parts y k).finite_too

  -- the lower of the two and the higher, in order
  ends : (t : Bool) → le x y ≡ t → Finite (cond t x y) × Finite (cond t y x)
      × (worth (cond t x y) ≤ℤ worth (cond t y x))
  ends true e = (of_proper x h, of_proper y k, at_most (worth x) (worth y) (sym by_worth ∙ e))
  ends false e = (of_proper y k, of_proper x h, at_least (worth x) (worth y) (sym by_worth ∙ e))

  sum_fits : T (fits binary32 (halves x y))
  sum_fits = add-fits binary32 (mul binary32 x half) (mul binary32 y half)

  inside : Finite (between (halves x y) (lesser x y) (greater x y))
  inside = let e = ends (le x y) refl in between_finite (halves x y) (lesser x y) (greater x y) sum_fits e.0 e.1

  pub middle_proper : proper (middle x y) ≡ true
  middle_proper = plain_proper (between (halves x y) (lesser x y) (greater x y)) inside

  middle_worth : worth (middle x y) ≡ worth (between (halves x y) (lesser x y) (greater x y))
  middle_worth = plain_worth (between (halves x y) (lesser x y) (greater x y)) inside

  pub middle_above : rank (lesser x y) ≤ℤ rank (middle x y)
  middle_above =
      let e = ends (le x y) refl in
      rank_from_worth (lesser x y) (middle x y)
      (subst (λ (z : ℤ). worth (lesser x y) ≤ℤ z) (sym middle_worth)
      (between_worth (halves x y) (lesser x y) (greater x y) sum_fits e.0 e.1 e.2).0)

  pub middle_under : rank (middle x y) ≤ℤ rank (greater x y)
  middle_under =
      let e = ends (le x y) refl in
      rank_from_worth (middle x y) (greater x y)
      (subst (λ (z : ℤ). z ≤ℤ worth (greater x y)) (sym middle_worth)
      (between_worth (halves x y) (lesser x y) (greater x y) sum_fits e.0 e.1 e.2).1)

  -- the same ends, by ranks
  pub lower_is : (t : Bool) → le_z (rank x) (rank y) ≡ t → lesser x y ≡ cond t x y
  lower_is t e = ap (λ (b : Bool). cond b x y) (le_rank x y h k ∙ e)

  pub higher_is : (t : Bool) → le_z (rank x) (rank y) ≡ t → greater x y ≡ cond t y x
  higher_is t e = ap (λ (b : Bool). cond b y x) (le_rank x y h k ∙ e)
