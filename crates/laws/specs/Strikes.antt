-- An unfinished teach or another channel never shows in a channel.
use Rattle.std.specs.Prelude.{◌≡◌, ℕ, Bool, true, false, cond, ◌&&◌, List, [], ◌∷◌, ◌++◌}
use Rattle.std.specs.Prelude.{Some, None, Ok, Err, Option, Result, ◌==◌}
use Rattle.faults.specs.declared.Fault.{Fault}
use Rattle.kinds.specs.Meaning.{Meaning}
use Rattle.channels.specs.declared.row.Row.{Row}
use Rattle.sensor.specs.declared.sensor.Sensor.{Sensor}
use Rattle.sensor.specs.Calls.{Call, Act, starts, samples, shows, selects, commands, writes, opens, closes, restarts}
use Rattle.sensor.specs.Rules.{after, blank, checked, next, with_signal}
use Rattle.laws.specs.Events.{is_accepted, resting, row_of, selected_of, stores}

module _ {V : Type 0} where
  abbrev pub shown_in : Option (Row V) → Option (Row V × Bool)
  shown_in None = None
  shown_in (Some r) = Some (with_signal r)

  -- what channel k shows: its settings, its state, its signal
  abbrev pub shows_of : ℕ → Sensor V → Option (Row V × Bool)
  shows_of k s = shown_in (row_of s k)

module _ {V : Type 0} (m : Meaning V) where
  -- the teach that runs, or that the first of the calls begins, stores before it is idle again
  abbrev pub finished : Sensor V → List Call → Bool
  finished s [] = false
  finished s (c ∷ cs) =
      cond (stores (checked m s c)) true
      (cond (resting (next m s c)) false (finished (next m s c) cs))

  -- an accepted call, with the calls cs from it on, is not foreign to channel k: set-ups, samples, selects, restarts,
  -- keypad openings and closings, writes of the channel's settings, and the commands of its finished teaches
  abbrev pub belongs : ℕ → Sensor V → List Call → Act V → Bool
  belongs k s cs (starts e) = true
  belongs k s cs (samples r x) = true
  belongs k s cs (shows octets) = false
  belongs k s cs (selects j) = true
  belongs k s cs (commands x) = selected_of s == k && finished s cs
  belongs k s cs (writes j ss) = j == k
  belongs k s cs opens = true
  belongs k s cs closes = true
  belongs k s cs restarts = true

  -- a denied call never stays
  abbrev pub stays_by : ℕ → Sensor V → List Call → Result (Act V) Fault → Bool
  stays_by k s cs (Ok a) = belongs k s cs a
  stays_by k s cs (Err f) = false

  -- the first of the calls stays
  abbrev pub stays : ℕ → Sensor V → Call → List Call → Bool
  stays k s c cs = stays_by k s (c ∷ cs) (checked m s c)

  -- the calls with those foreign to channel k struck out
  abbrev pub struck : ℕ → Sensor V → List Call → List Call
  struck k s [] = []
  struck k s (c ∷ cs) = cond (stays k s c cs) (c ∷ struck k (next m s c) cs) (struck k (next m s c) cs)

  -- every call of the list is accepted
  abbrev pub AllAccepted : Sensor V → List Call → Type 0
  AllAccepted s [] = Unit {0}
  AllAccepted s (c ∷ cs) = (is_accepted (checked m s c) ≡ true) × AllAccepted (next m s c) cs

  -- what channel k shows after each call
  abbrev pub after_each : ℕ → Sensor V → List Call → List (Option (Row V × Bool))
  after_each k s [] = []
  after_each k s (c ∷ cs) = shows_of k (next m s c) ∷ after_each k (next m s c) cs

  -- what it shows, in the full run, after each call that stays
  abbrev pub after_staying : ℕ → Sensor V → List Call → List (Option (Row V × Bool))
  after_staying k s [] = []
  after_staying k s (c ∷ cs) =
      cond (stays k s c cs) (shows_of k (next m s c) ∷ after_staying k (next m s c) cs)
      (after_staying k (next m s c) cs)

  -- from a sensor on, for each channel: with the foreign calls struck out the remaining ones are accepted again, and
  -- after each of them the channel shows what it shows after that call in the full run
  abbrev pub NoTraceFrom : Sensor V → List Call → Type 0
  NoTraceFrom s cs = (k : ℕ) → AllAccepted s (struck k s cs) × (after_each k s (struck k s cs) ≡ after_staying k s cs)

  -- from any moment on at which no teach runs, of the calls that a sensor takes from blank on: after every set-up none
  -- does
  abbrev pub ForeignCallsLeaveNoTrace : List Call → Type 0
  ForeignCallsLeaveNoTrace cs =
      (before rest : List Call)
      → cs ≡ before ++ rest
      → resting (after m blank before) ≡ true
      → NoTraceFrom (after m blank before) rest
