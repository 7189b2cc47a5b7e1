-- What an order comes to, by what the steps of the code answered.
use Rattle.std.proofs.Common.{◌≡◌, ℕ, Bool, true, false, cond, List, Some, None, Ok, Err, Option, Result, IfOk, refl}
use Rattle.std.proofs.Common.{ap, ◌∙◌}
use Rattle.faults.specs.declared.Fault.{Fault}
use Rattle.faults.specs.declared.Place.{Place}
use Rattle.faults.specs.declared.Denial.TheVariants.{NoValue}
use Rattle.faults.specs.Denials.{fault_at, then}
use Rattle.kinds.specs.Meaning.{Meaning}
use Rattle.channels.specs.declared.row.Row.{Row}
use Rattle.channels.specs.Table.{row_at, with_row}
use Rattle.teach.specs.declared.teaching.Store.{Store}
use Rattle.teach.specs.declared.teaching.Teach.{Teach}
use Rattle.teach.specs.Machine.{Moved}
use Rattle.teach.specs.Teaching.{commanded, store_by, teach_by}
use Rattle.objects.specs.declared.access.Written.{Written}
use Rattle.objects.specs.declared.access.Written.TheVariants.{Command as WrittenCommand, Select, Channel}
use Rattle.objects.specs.Writes.{Setting, row_by, settings_checked, with_settings}
use Rattle.sensor.specs.declared.device.Device.{Device}
use Rattle.sensor.specs.Answers.{plain}
use Rattle.sensor.specs.Calls.{Act, selects, commands, writes, to_select, to_write}
use Rattle.sensor.specs.Devices.{on_row, stored, with_channels}
use Rattle.sensor.specs.Requests.{past_count, write_asked}
use Rattle.sensor.specs.Rules.{carried, device_by}

module _ {V : Type 0} where
  abbrev pub with_teach : Device V → Teach V → Device V
  with_teach d t = record d { teach = t }

  -- what a request to write does
  abbrev pub Writing : Act V → Type 0
  Writing (selects k) = Unit {0}
  Writing (commands x) = Unit {0}
  Writing (writes k ss) = Unit {0}
  Writing a = ⊥

  -- a call that answers a fault does nothing
  pub plain_denied : (x : Result (Act V) Fault) (f : Fault) → Err f ≡ plain x → x ≡ Err f
  plain_denied (Ok a) f h = cc
  plain_denied (Err e) f h = cc

module _ {V : Type 0} (m : Meaning V) (d : Device V) where
  -- ---- commands

  abbrev by_command : Result (Moved V) Fault → Result (Act V) Fault
  by_command x = then x (λ y. Ok (commands y))

  pub command_denied : (x : Result (Moved V) Fault) (f : Fault) → Err f ≡ store_by x
      → (Err f ≡ plain (by_command x)) × (with_teach d (teach_by d.teach x) ≡ device_by m d (by_command x))
  command_denied (Err e) f h = (cc, refl)
  command_denied (Ok x) f h = cc

  pub command_taken : (x : Result (Moved V) Fault) (s : Option (Store V)) → Ok s ≡ store_by x
      → (Ok tt ≡ plain (by_command x)) × (with_channels (with_teach d (teach_by d.teach x))
      (stored d.channels d.selected s) ≡ device_by m d (by_command x))
  command_taken (Err e) s h = cc
  command_taken (Ok x) s h = (
    refl,
    ap (λ y. with_channels (with_teach d (teach_by d.teach (Ok x)))
        (stored d.channels d.selected y)) cc,
  )

module _ {V : Type 0} (m : Meaning V) (d : Device V) (k : ℕ) where
  -- ---- settings

  abbrev by_settings : Result (List (Setting V)) Fault → Result (Act V) Fault
  by_settings ss = carried m d (then ss (λ s. Ok (to_write k s)))

  pub settings_denied : (ss : Result (List (Setting V)) Fault) (r : Row V) (f : Fault) → Err f ≡ row_by r ss
      → (Err f ≡ plain (by_settings ss)) × (d ≡ device_by m d (by_settings ss))
  settings_denied (Err e) r f h = (cc, refl)
  settings_denied (Ok s) r f h = cc

  pub settings_written : (ss : Result (List (Setting V)) Fault) (r r' : Row V) → Some r ≡ row_at d.channels k
      → Ok r' ≡ row_by r ss
      → (Ok tt ≡ plain (by_settings ss)) × (with_channels d (with_row d.channels k r') ≡ device_by m d (by_settings ss))
  settings_written (Err e) r r' p h = cc
  settings_written (Ok s) r r' p h =
      let same : r' ≡ with_settings r s = cc in (
        refl,
        ap (λ x. with_channels d (with_row d.channels k x)) same
            ∙ ap (λ o. with_channels d (on_row d.channels k s o)) p,
      )

module _ {V : Type 0} (m : Meaning V) (d : Device V) (place : Place) where
  -- ---- what a write comes to

  command_writes : (x : Result (Moved V) Fault) → IfOk (then x (λ y. Ok (commands y))) Writing
  command_writes (Err e) = tt
  command_writes (Ok x) = tt

  select_writes : (b : Bool) (n : ℕ) → IfOk (carried m d (cond b (Err (fault_at NoValue place)) (Ok (to_select n))))
      Writing
  select_writes true n = tt
  select_writes false n = tt

  settings_write : (k : ℕ) (ss : Result (List (Setting V)) Fault)
      → IfOk (carried m d (then ss (λ s. Ok (to_write k s)))) Writing
  settings_write k (Err e) = tt
  settings_write k (Ok s) = tt

  pub write_writes : (w : Written (List ℕ)) → IfOk (carried m d (write_asked m d place w)) Writing
  write_writes (WrittenCommand code) = command_writes (commanded m d.terms place d.teach code)
  write_writes (Select n) = select_writes (past_count d n) _
  write_writes (Channel k content) = settings_write k (settings_checked m d.range place.index content)
