-- What a write stores: each part is checked before the next, and nothing is stored unless all pass.
use Rattle.std.specs.Prelude.{ℕ, cond, List, [], ◌∷◌, Some, None, Ok, Err, Option, Result, nat_lt}
use Rattle.faults.specs.declared.Fault.{Fault}
use Rattle.faults.specs.declared.Place.{Place}
use Rattle.faults.specs.declared.Denial.TheVariants.{NoValue, AboveRange, BelowRange}
use Rattle.faults.specs.Denials.{fault_at, then}
use Rattle.kinds.specs.Meaning.{Meaning, under}
use Rattle.channels.specs.declared.range.Range.{Range}
use Rattle.channels.specs.declared.row.Row.{Row}
use Rattle.channels.specs.Judging.{inverted, two_point}
use Rattle.objects.specs.declared.access.Content.{Content}
use Rattle.objects.specs.declared.access.Content.TheVariants.{Setpoints, Sp1, Sp2}
use Rattle.objects.specs.declared.access.Content.TheVariants.{Configuration, Logic, Mode, Hysteresis}
use Rattle.objects.specs.declared.part.Part.TheVariants as Part
use Rattle.objects.specs.Parts.{place_at}

-- a setting of a channel with its new value
pub data Setting (V : Type 0) : Type 0 where
  sets_sp1 sets_sp2 : V → Setting V
  sets_logic sets_mode sets_hysteresis : ℕ → Setting V

-- 17: a code over the last of its table
abbrev pub code_checked : Place → ℕ → ℕ → Result ℕ Fault
code_checked place last code = cond (nat_lt last code) (Err (fault_at NoValue place)) (Ok code)

-- the last code of logic, and of mode
abbrev pub last_logic : ℕ
last_logic = inverted

abbrev pub last_mode : ℕ
last_mode = two_point

module _ {V : Type 0} (m : Meaning V) (range : Range V) where
  -- 17: no value of the kind. 18: above the range. 19: below it
  abbrev pub value_checked : Place → Option V → Result V Fault
  value_checked place None = Err (fault_at NoValue place)
  value_checked place (Some v) =
      cond (under m range.high v) (Err (fault_at AboveRange place))
      (cond (under m v range.low) (Err (fault_at BelowRange place))
      (Ok v))

  abbrev pub setpoint_checked : Place → List ℕ → Result V Fault
  setpoint_checked place octets = value_checked place (m.read octets)

  -- the settings that a write to a channel brings, each part at its own place; a hysteresis is any number of steps
  abbrev pub settings_checked : ℕ → Content (List ℕ) → Result (List (Setting V)) Fault
  settings_checked index (Setpoints a b) =
      then (setpoint_checked (place_at index Part.Sp1) a) (λ v.
      then (setpoint_checked (place_at index Part.Sp2) b) (λ w.
      Ok (sets_sp1 v ∷ sets_sp2 w ∷ [])))
  settings_checked index (Sp1 octets) =
      then (setpoint_checked (place_at index Part.Sp1) octets) (λ v. Ok (sets_sp1 v ∷ []))
  settings_checked index (Sp2 octets) =
      then (setpoint_checked (place_at index Part.Sp2) octets) (λ v. Ok (sets_sp2 v ∷ []))
  settings_checked index (Configuration logic mode hysteresis) =
      then (code_checked (place_at index Part.Logic) last_logic logic) (λ l.
      then (code_checked (place_at index Part.Mode) last_mode mode) (λ md.
      Ok (sets_logic l ∷ sets_mode md ∷ sets_hysteresis hysteresis ∷ [])))
  settings_checked index (Logic code) =
      then (code_checked (place_at index Part.Logic) last_logic code) (λ l. Ok (sets_logic l ∷ []))
  settings_checked index (Mode code) =
      then (code_checked (place_at index Part.Mode) last_mode code) (λ md. Ok (sets_mode md ∷ []))
  settings_checked index (Hysteresis steps) = Ok (sets_hysteresis steps ∷ [])

module _ {V : Type 0} where
  -- a row with a setting changed: its other settings and its state stay
  abbrev pub with_setting : Row V → Setting V → Row V
  with_setting r (sets_sp1 v) = record r { sp1 = v }
  with_setting r (sets_sp2 v) = record r { sp2 = v }
  with_setting r (sets_logic n) = record r { logic = n }
  with_setting r (sets_mode n) = record r { mode = n }
  with_setting r (sets_hysteresis n) = record r { hysteresis = n }

  abbrev pub with_settings : Row V → List (Setting V) → Row V
  with_settings r [] = r
  with_settings r (s ∷ ss) = with_settings (with_setting r s) ss

  -- the row after a write: a denied one has none
  abbrev pub row_by : Row V → Result (List (Setting V)) Fault → Result (Row V) Fault
  row_by r (Ok ss) = Ok (with_settings r ss)
  row_by r (Err f) = Err f
