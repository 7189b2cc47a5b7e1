-- Every make of whole numbers shows the laws, whatever its word.
use Rattle.std.specs.Prelude.{◌≡◌, ℕ, ◌^◌, Bool, true, false, cond, ◌⊎◌, length, Some, Option, refl}
use Rattle.std.specs.Prelude.{ℤ, pos, ◌+ℤ◌, ◌-ℤ◌, neg_ℤ, ◌≤ℤ◌, int_le}
use Rattle.std.proofs.Common.{sym, ap, ◌∙◌, subst, arith, of_z}
use Rattle.std.proofs.Math.IntN.{+ℤ_idr}
use Rattle.std.specs.Int.Signed.{shr_z, ≤ℤ_refl}
use mir.Val.{hbits, bits}
use Rattle.std.proofs.lemmas.Int.{ints, to_z-of_z}
use Rattle.std.specs.Int.{saturate_to_bits}
use Rattle.numbers.specs.Options.{when_some}
use Rattle.octets.proofs.Numbers.{Sound}
use Rattle.numbers.proofs.Options.{some_of}
use Rattle.numbers.proofs.Signs.{at_most, at_least, add_order}
use Rattle.numbers.proofs.Wholes.{saturated_within, saturated_same, saturated_order, half_low, half_high, pattern_below}
use Rattle.kinds.specs.Meaning.{Meaning, Lawful, lesser, greater}
use Rattle.kinds.specs.Integers.{Make, Within, integers, of_pattern}

-- what is owed of each make
pub record Fit (V : Type 0) (make : Make V) : Type 0 where
  pub number_of : (z : ℤ) (h : Within (hbits make.word) z) → make.number (make.value z h) ≡ z
  pub same : (v w : V) → make.number v ≡ make.number w → v ≡ w
  pub coded : Sound make.coding (2 ^ bits make.word)
  pub two_or_four : (make.coding.count ≡ 2) ⊎ (make.coding.count ≡ 4)
  pub below_wide : length make.below ≡ make.coding.count
  pub above_wide : length make.above ≡ make.coding.count
  pub no_data_wide : length make.no_data ≡ make.coding.count

module _ {V : Type 0} (make : Make V) (fit : Fit V make) where
  abbrev k : ℕ
  k = hbits make.word

  abbrev number : V → ℤ
  number v = make.number v

  abbrev m : Meaning V
  m = integers make

  -- the value of a sum that stops at the ends
  abbrev stopped : ℤ → V
  stopped z = make.value (saturate_to_bits k z) (saturated_within k z)

  stopped_is : (z : ℤ) → number (stopped z) ≡ saturate_to_bits k z
  stopped_is z = fit.number_of (saturate_to_bits k z) (saturated_within k z)

  stopped_own : (v : V) (z : ℤ) → z ≡ number v → stopped z ≡ v
  stopped_own v z e =
      fit.same (stopped z) v
      (stopped_is z ∙ ap (saturate_to_bits k) e ∙ saturated_same k (number v) (make.within v))

  stopped_order : (y z : ℤ) → y ≤ℤ z → number (stopped y) ≤ℤ number (stopped z)
  stopped_order y z h =
      subst (λ (x : ℤ). x ≤ℤ number (stopped z)) (sym (stopped_is y))
      (subst (λ (x : ℤ). saturate_to_bits k y ≤ℤ x) (sym (stopped_is z)) (saturated_order k y z h))

  up : (v : V) (n : ℕ) → number v ≤ℤ number (stopped (number v +ℤ pos n))
  up v n =
      subst (λ (w : V). number w ≤ℤ number (stopped (number v +ℤ pos n))) (stopped_own v (number v) refl)
      (stopped_order (number v) (number v +ℤ pos n) (omega (arith, ints)))

  down : (v : V) (n : ℕ) → number (stopped (number v -ℤ pos n)) ≤ℤ number v
  down v n =
      subst (λ (w : V). number (stopped (number v -ℤ pos n)) ≤ℤ number w) (stopped_own v (number v) refl)
      (stopped_order (number v -ℤ pos n) (number v) (omega (arith, ints)))

  low : (v w : V) (t : Bool) → int_le (number v) (number w) ≡ t → number (cond t v w) ≤ℤ shr_z (number v +ℤ number w) 2
  low v w true e = half_low (number v) (number w) (number v) (≤ℤ_refl (number v)) (at_most (number v) (number w) e)
  low v w false e = half_low (number v) (number w) (number w) (at_least (number v) (number w) e) (≤ℤ_refl (number w))

  high : (v w : V) (t : Bool) → int_le (number v) (number w) ≡ t → shr_z (number v +ℤ number w) 2 ≤ℤ number (cond t w v)
  high v w true e = half_high (number v) (number w) (number w) (at_most (number v) (number w) e) (≤ℤ_refl (number w))
  high v w false e = half_high (number v) (number w) (number v) (≤ℤ_refl (number v)) (at_least (number v) (number w) e)

  back : (v : V) → m.read (m.octets v) ≡ Some v
  back v =
      ap (λ (o : Option ℕ). when_some o (of_pattern make))
      (fit.coded.back (of_z make.word (number v)) (pattern_below make.word (number v) (make.within v)))
      ∙ ap Some (fit.same _ v (fit.number_of _ _ ∙ to_z-of_z make.word (number v) (record { sfits = make.within v })))

  pub lawful : Lawful V m
  lawful = record {
    width_two_or_four = fit.two_or_four;
    octets_wide = λ v. fit.coded.wide (of_z make.word (number v));
    below_wide = fit.below_wide;
    above_wide = fit.above_wide;
    no_data_wide = fit.no_data_wide;
    read_wide = λ xs v e. let s = some_of (make.coding.number xs) (of_pattern make) v e in fit.coded.only xs s.0 s.1;
    read_back = back;
    same_rank = fit.same;
    raised_up = up;
    lowered_down = down;
    raised_none = λ v. stopped_own v (number v +ℤ pos 0) (+ℤ_idr (number v));
    lowered_none = λ v. stopped_own v (number v -ℤ pos 0) (+ℤ_idr (number v));
    raised_order = λ v w n h.
        stopped_order (number v +ℤ pos n) (number w +ℤ pos n) (add_order (number v) (number w) (pos n) h);
    lowered_order = λ v w n h.
        stopped_order (number v -ℤ pos n) (number w -ℤ pos n) (add_order (number v) (number w) (neg_ℤ (pos n)) h);
    middle_low = λ v w.
        subst (λ (x : ℤ). number (lesser m v w) ≤ℤ x) (sym (fit.number_of _ _))
        (low v w (int_le (number v) (number w)) refl);
    middle_high = λ v w.
        subst (λ (x : ℤ). x ≤ℤ number (greater m v w)) (sym (fit.number_of _ _))
        (high v w (int_le (number v) (number w)) refl);
  }
