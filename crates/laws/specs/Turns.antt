-- Two turns in a row of a Single Point or Window channel come at values more than its hysteresis apart.
use Rattle.std.specs.Prelude.{◌≡◌, ℕ, false, not, ◌⊎◌, List, [], ◌∷◌, ◌++◌, ◌<ℤ◌, Some}
use Rattle.kinds.specs.Meaning.{Meaning, lesser, greater}
use Rattle.channels.specs.declared.row.Row.{Row}
use Rattle.sensor.specs.declared.sensor.Sensor.{Sensor}
use Rattle.sensor.specs.Calls.{Call}
use Rattle.sensor.specs.Rules.{after, blank, checked, next}
use Rattle.laws.specs.Events.{row_of, starts_over, state_of, touches, value_of}

module _ {V : Type 0} (m : Meaning V) where
  -- more than n steps apart: the higher is above the lower raised by n, or the lower is below the higher lowered by n
  abbrev pub Apart : ℕ → V → V → Type 0
  Apart n v w =
      (m.rank (m.raised (lesser m v w) n) <ℤ m.rank (greater m v w))
      ⊎ (m.rank (lesser m v w) <ℤ m.rank (m.lowered (greater m v w) n))

  -- channel k turns at v: a sample of the value v changes its state
  abbrev pub Turn : ℕ → Sensor V → Call → V → Type 0
  Turn k s c v = (value_of (checked m s c) ≡ Some v) × (state_of k (next m s c) ≡ not (state_of k s))

  -- calls in which channel k does not turn, its settings stay untouched, and the sensor is neither restarted nor set up
  -- anew
  abbrev pub Still : ℕ → Sensor V → List Call → Type 0
  Still k s [] = Unit {0}
  Still k s (c ∷ cs) =
      ((v : V) → Turn k s c v → ⊥)
      × (touches k s (checked m s c) ≡ false)
      × (starts_over (checked m s c) ≡ false)
      × Still k (next m s c) cs

  -- after the calls `before`, channel k with the row r turns at v, and after the calls `between` it turns again, at w
  pub record TwoTurns
      (k : ℕ) (before : List Call) (c : Call) (v : V) (between : List Call) (d : Call) (w : V) (r : Row V)
      : Type 0 where
    pub row : row_of (after m blank before) k ≡ Some r
    -- Single Point or Window
    pub mode : (r.mode ≡ 1) ⊎ (r.mode ≡ 2)
    pub first : Turn k (after m blank before) c v
    pub untouched : touches k (after m blank before) (checked m (after m blank before) c) ≡ false
    pub still : Still k (next m (after m blank before) c) between
    pub second : Turn k (after m (next m (after m blank before) c) between) d w

  -- wherever a list of calls has two turns in a row
  abbrev pub TurnsApart : List Call → Type 0
  TurnsApart cs =
      (k : ℕ) (before : List Call) (c : Call) (v : V) (between : List Call) (d : Call) (w : V) (rest : List Call)
      (r : Row V)
      → cs ≡ before ++ (c ∷ (between ++ (d ∷ rest)))
      → TwoTurns k before c v between d w r
      → Apart r.hysteresis v w
