-- How a value acts on a channel.
use Rattle.std.specs.Prelude.{ℕ, Bool, true, false, cond, not, ◌&&◌, ◌||◌, ◌==◌}
use Rattle.kinds.specs.Meaning.{Meaning, at_most, under, lesser, greater}
use Rattle.channels.specs.declared.reading.Reading.{Reading}
use Rattle.channels.specs.declared.reading.Reading.TheVariants.{Value, Below, Above, NoData}
use Rattle.channels.specs.declared.row.Row.{Row}

-- the codes of the modes: Deactivated, Single Point, Window, Two Point
abbrev pub deactivated : ℕ
deactivated = 0

abbrev pub single_point : ℕ
single_point = 1

abbrev pub window : ℕ
window = 2

abbrev pub two_point : ℕ
two_point = 3

-- the code of inverted logic; 0 does not invert
abbrev pub inverted : ℕ
inverted = 1

-- by the mode's code: for Deactivated, Single Point, Window and Two Point. Set-up and writes give no other code
abbrev by_mode : {A : Type 0} → ℕ → A → A → A → A → A
by_mode mode none single within two =
    cond (mode == deactivated) none (cond (mode == single_point) single (cond (mode == window) within two))

module _ {V : Type 0} (m : Meaning V) where
  -- the lower and the higher setpoint, whichever is SP1
  abbrev pub lower_setpoint : Row V → V
  lower_setpoint r = lesser m r.sp1 r.sp2

  abbrev pub higher_setpoint : Row V → V
  higher_setpoint r = greater m r.sp1 r.sp2

  -- Deactivated: never. Single Point: v ≥ SP1. Window: lo ≤ v ≤ hi. Two Point: v ≥ hi
  abbrev pub activates : Row V → V → Bool
  activates r v =
      by_mode r.mode
      false
      (at_most m r.sp1 v)
      (at_most m (lower_setpoint r) v && at_most m v (higher_setpoint r))
      (at_most m (higher_setpoint r) v)

  -- Deactivated: always. Single Point: v < SP1 lowered by H. Window: v < lo lowered by H, or v > hi raised by H.
  -- Two Point: v ≤ lo and v < hi
  abbrev pub deactivates : Row V → V → Bool
  deactivates r v =
      by_mode r.mode
      true
      (under m v (m.lowered r.sp1 r.hysteresis))
      (under m v (m.lowered (lower_setpoint r) r.hysteresis) || under m (m.raised (higher_setpoint r) r.hysteresis) v)
      (at_most m v (lower_setpoint r) && under m v (higher_setpoint r))

  -- otherwise the state holds
  abbrev pub state_after : V → Row V → Bool
  state_after v r = cond (activates r v) true (cond (deactivates r v) false r.active)

  -- a value judges a row by its settings, which stay; Below, Above and NoData hold the state
  abbrev pub judged : Reading V → Row V → Row V
  judged (Value v) r = record r { active = state_after v r }
  judged Below r = r
  judged Above r = r
  judged NoData r = r

-- the signal is the state, or the opposite where logic inverts; in Deactivated it is 0 under either logic
abbrev pub signal : {V : Type 0} → Row V → Bool
signal r = cond (r.mode == deactivated) false (cond (r.logic == inverted) (not r.active) r.active)
