use Rattle.std.specs.Prelude.{◌≡◌, ℕ, Bool, true, false, cond, ◌≤ℤ◌, Some, Option, from_bits, int_le, Float}
use Rattle.std.proofs.Common.{ap, ◌∙◌, subst}
use Rattle.std.specs.Float.{binary32}
use Rattle.std.specs.Float.Ieee.{to_bits}
use Rattle.std.specs.Float.Ieee.Bits.{to_bits-lt}
use Rattle.numbers.specs.Floats.{rank, proper, plain, middle}
use Rattle.octets.specs.Numbers.{four}
use Rattle.numbers.specs.Options.{when_some}
use Rattle.numbers.proofs.Middle.{middle_above, middle_under, lower_is, higher_is}
use Rattle.octets.proofs.Numbers.{four_sound}
use Rattle.numbers.proofs.Options.{when_passed}
use Rattle.numbers.proofs.Patterns.{pattern_back}
use Rattle.numbers.proofs.Worth.{proper_parts}
use Rattle.kinds.specs.Float32T.{value_of, read_pattern}
use Rattle.kinds.specs.declared.float32_t.Float32T.{Float32T}
use Rattle.kinds.specs.Same.{same_float}

pub back : (v : Float32T) → when_some (four.number (four.written (to_bits binary32 v.value))) read_pattern ≡ Some v
back v =
    let b = to_bits binary32 v.value in
    let y = plain (from_bits binary32 b) in
    let e : y ≡ v.value = pattern_back v.value v.allowed in
    let h : proper y ≡ true = ap proper e ∙ v.allowed in
    ap (λ (o : Option ℕ). when_some o read_pattern)
    (four_sound.back b (to_bits-lt binary32 v.value (proper_parts v.value v.allowed).held))
    ∙ when_passed (proper y) (value_of y) h ∙ ap Some (same_float (value_of y h) v e)

module _ (v w : Float32T) where
  pub low : (t : Bool) → int_le (rank v.value) (rank w.value) ≡ t
      → rank (cond t v w).value ≤ℤ rank (middle v.value w.value)
  low true e =
      subst (λ (x : Float). rank x ≤ℤ rank (middle v.value w.value))
      (lower_is v.value w.value v.allowed w.allowed true e)
      (middle_above v.value w.value v.allowed w.allowed)
  low false e =
      subst (λ (x : Float). rank x ≤ℤ rank (middle v.value w.value))
      (lower_is v.value w.value v.allowed w.allowed false e)
      (middle_above v.value w.value v.allowed w.allowed)

  pub high : (t : Bool) → int_le (rank v.value) (rank w.value) ≡ t
      → rank (middle v.value w.value) ≤ℤ rank (cond t w v).value
  high true e =
      subst (λ (x : Float). rank (middle v.value w.value) ≤ℤ rank x)
      (higher_is v.value w.value v.allowed w.allowed true e)
      (middle_under v.value w.value v.allowed w.allowed)
  high false e =
      subst (λ (x : Float). rank (middle v.value w.value) ≤ℤ rank x)
      (higher_is v.value w.value v.allowed w.allowed false e)
      (middle_under v.value w.value v.allowed w.allowed)
