-- When a teach fails, and what it stores where it does not.
use Rattle.std.specs.Prelude.{Bool, cond}
use Rattle.kinds.specs.Meaning.{Meaning, under, lesser, greater}
use Rattle.teach.specs.declared.command.Setpoint.{Setpoint}
use Rattle.teach.specs.declared.machine.Verdict.{Verdict}
use Rattle.teach.specs.declared.machine.Verdict.TheVariants.{Fails, Stores}
use Rattle.teach.specs.declared.terms.Terms.{Terms}

module _ {V : Type 0} (m : Meaning V) (t : Terms) where
  -- a teachpoint is the middle of the lowest and the highest of its values
  abbrev pub teachpoint_of : V → V → V
  teachpoint_of lowest highest = m.middle lowest highest

  -- single: it fails when the highest is above the lowest raised by S, else their middle is stored
  abbrev pub evaluate_single : Setpoint → V → V → Verdict V
  evaluate_single sp lowest highest =
      cond (under m (m.raised lowest t.spread) highest) Fails (Stores sp (teachpoint_of lowest highest))

  -- highest is below lowest raised by D
  abbrev pub too_close : V → V → Bool
  too_close lowest highest = under m highest (m.raised lowest t.distance)

  -- two value: it fails when the higher teachpoint is below the lower raised by D, else their middle is stored
  abbrev pub evaluate_two : Setpoint → V → V → Verdict V
  evaluate_two sp a b =
      cond (too_close (lesser m a b) (greater m a b)) Fails (Stores sp (m.middle a b))

  -- dynamic: it fails when the highest is below the lowest raised by D, else their middle is stored
  abbrev pub evaluate_dynamic : Setpoint → V → V → Verdict V
  evaluate_dynamic sp lowest highest =
      cond (too_close lowest highest) Fails (Stores sp (m.middle lowest highest))
