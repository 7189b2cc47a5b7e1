-- What accepted calls do to a device.
use Rattle.std.specs.Prelude.{ℕ, Bool, List, [], ◌∷◌, Some, None, Option}
use Rattle.keypad.specs.declared.Keypad.{Keypad}
use Rattle.channels.specs.declared.row.Row.{Row}
use Rattle.channels.specs.declared.table.Table.{Table}
use Rattle.channels.specs.Table.{inactive_table, row_at, with_row}
use Rattle.teach.specs.declared.command.Setpoint.{Setpoint}
use Rattle.teach.specs.declared.command.Setpoint.TheVariants.{Sp1, Sp2}
use Rattle.teach.specs.declared.teaching.Store.{Store}
use Rattle.teach.specs.Machine.{Moved}
use Rattle.teach.specs.Teaching.{idle, stepped, store_of}
use Rattle.objects.specs.Writes.{Setting, sets_sp1, sets_sp2, with_settings}
use Rattle.sensor.specs.declared.device.Device.{Device}

module _ {V : Type 0} where
  abbrev pub on_row : Table V → ℕ → List (Setting V) → Option (Row V) → Table V
  on_row t k ss None = t
  on_row t k ss (Some r) = with_row t k (with_settings r ss)

  -- the table with settings of channel k changed: no other channel changes
  abbrev pub with_settings_at : Table V → ℕ → List (Setting V) → Table V
  with_settings_at t k ss = on_row t k ss (row_at t k)

  abbrev pub setpoint_setting : Setpoint → V → Setting V
  setpoint_setting Sp1 v = sets_sp1 v
  setpoint_setting Sp2 v = sets_sp2 v

  -- a setpoint with its value, as settings
  abbrev pub store_settings : Store V → List (Setting V)
  store_settings s = setpoint_setting s.setpoint s.value ∷ []

  -- what an evaluation stores, if anything
  abbrev pub stored_settings : Option (Store V) → List (Setting V)
  stored_settings None = []
  stored_settings (Some s) = store_settings s

  -- it goes to channel k
  abbrev pub stored : Table V → ℕ → Option (Store V) → Table V
  stored t k None = t
  stored t k (Some s) = with_settings_at t k (store_settings s)

  abbrev pub with_channels : Device V → Table V → Device V
  with_channels d t = record d { channels = t }

  abbrev pub with_keypad : Device V → Keypad → Device V
  with_keypad d k = record d { keypad = k }

  -- a step of the teach; what it stores goes to the selected channel
  abbrev pub after_step : Device V → Moved V → Device V
  after_step d x = record d {
    teach = stepped d.teach x;
    channels = stored d.channels d.selected (store_of x.effect.verdict);
  }

  -- a select drops the teach, and clears flags, TeachState and what was taught
  abbrev pub selecting : Device V → ℕ → Device V
  selecting d k = record d { selected = k; teach = idle }

  -- a warm restart: every channel is inactive and keeps its settings, channel 1 is selected as by a select; a keypad
  -- operation stays open
  abbrev pub restarted : Device V → Device V
  restarted d = selecting (with_channels d (inactive_table d.channels)) 1
