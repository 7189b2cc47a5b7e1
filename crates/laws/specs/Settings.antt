-- Each setting of a channel is the one last written or stored, else the set-up's.
use Rattle.std.specs.Prelude.{◌≡◌, ℕ, cond, List, [], ◌∷◌, ◌++◌, Some, None, Ok, Err, Option, Result, ◌==◌}
use Rattle.faults.specs.declared.Fault.{Fault}
use Rattle.kinds.specs.Meaning.{Meaning}
use Rattle.channels.specs.declared.range.Range.{Range}
use Rattle.channels.specs.declared.row.Row.{Row}
use Rattle.teach.specs.Teaching.{store_of}
use Rattle.objects.specs.Writes.{Setting, sets_sp1, sets_sp2, sets_logic, sets_mode, sets_hysteresis}
use Rattle.sensor.specs.declared.sensor.Sensor.{Sensor}
use Rattle.sensor.specs.Calls.{Call, Act, starts, samples, commands, writes}
use Rattle.sensor.specs.Devices.{stored_settings}
use Rattle.sensor.specs.Rules.{after, blank, checked, next}
use Rattle.laws.specs.Events.{row_of, selected_of}

-- the first of two, if it is there, else the second
abbrev pub or_else : {A : Type 0} → Option A → Option A → Option A
or_else None o = o
or_else (Some a) o = Some a

module _ {V : Type 0} where
  -- the value that is brought for a setting, if it is of that setting
  abbrev pub sp1_of : Setting V → Option V
  sp1_of (sets_sp1 v) = Some v
  sp1_of p = None

  abbrev pub sp2_of : Setting V → Option V
  sp2_of (sets_sp2 v) = Some v
  sp2_of p = None

  abbrev pub logic_of : Setting V → Option ℕ
  logic_of (sets_logic n) = Some n
  logic_of p = None

  abbrev pub mode_of : Setting V → Option ℕ
  mode_of (sets_mode n) = Some n
  mode_of p = None

  abbrev pub hysteresis_of : Setting V → Option ℕ
  hysteresis_of (sets_hysteresis n) = Some n
  hysteresis_of p = None

  -- the latest value of a setting, if any is brought
  abbrev pub latest : {A : Type 0} → (Setting V → Option A) → List (Setting V) → Option A
  latest f [] = None
  latest f (p ∷ ps) = or_else (latest f ps) (f p)

  -- a set-up brings every setting of every channel: SP1 low, SP2 high, logic 0, mode 1, hysteresis 0
  abbrev pub set_up_settings : Range V → List (Setting V)
  set_up_settings range = sets_sp1 range.low ∷ sets_sp2 range.high ∷ sets_logic 0 ∷ sets_mode 1 ∷ sets_hysteresis 0 ∷ []

  -- what an accepted call brings the settings of channel k: a set-up, a write to it, or what a teach of it stores
  abbrev pub given_by : ℕ → Sensor V → Act V → List (Setting V)
  given_by k s (starts e) = set_up_settings e.range
  given_by k s (samples r x) = cond (selected_of s == k) (stored_settings (store_of x.effect.verdict)) []
  given_by k s (commands x) = cond (selected_of s == k) (stored_settings (store_of x.effect.verdict)) []
  given_by k s (writes j ss) = cond (j == k) ss []
  given_by k s a = []

  abbrev pub gives : ℕ → Sensor V → Result (Act V) Fault → List (Setting V)
  gives k s (Ok a) = given_by k s a
  gives k s (Err f) = []

  -- each setting of the row is the latest one
  pub record Latest (r : Row V) (ss : List (Setting V)) : Type 0 where
    pub sp1 : latest sp1_of ss ≡ Some r.sp1
    pub sp2 : latest sp2_of ss ≡ Some r.sp2
    pub logic : latest logic_of ss ≡ Some r.logic
    pub mode : latest mode_of ss ≡ Some r.mode
    pub hysteresis : latest hysteresis_of ss ≡ Some r.hysteresis

module _ {V : Type 0} (m : Meaning V) where
  -- what a list of calls gives the settings of channel k, in order
  abbrev pub given_in : ℕ → Sensor V → List Call → List (Setting V)
  given_in k s [] = []
  given_in k s (c ∷ cs) = gives k s (checked m s c) ++ given_in k (next m s c) cs

  -- after each of the calls that a sensor takes from blank on, in each channel
  abbrev pub LastWrittenStands : List Call → Type 0
  LastWrittenStands cs =
      (k : ℕ) (before rest : List Call) (r : Row V)
      → cs ≡ before ++ rest
      → row_of (after m blank before) k ≡ Some r
      → Latest r (given_in k blank before)
