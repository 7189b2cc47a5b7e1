-- A sensor's teach: the machine with its flags and what TeachResult tells of it.
use Rattle.std.specs.Prelude.{ℕ, ◌+◌, ◌*◌, Bool, true, false, cond, ◌||◌, Some, None, Ok, Err, Option, Result}
use Rattle.faults.specs.declared.Fault.{Fault}
use Rattle.faults.specs.declared.Place.{Place}
use Rattle.faults.specs.declared.Denial.TheVariants.{UnknownCommand}
use Rattle.faults.specs.Denials.{fault_at, then}
use Rattle.kinds.specs.Meaning.{Meaning}
use Rattle.teach.specs.declared.command.Command.{Command}
use Rattle.teach.specs.declared.command.Setpoint.{Setpoint}
use Rattle.teach.specs.declared.command.Setpoint.TheVariants.{Sp1, Sp2}
use Rattle.teach.specs.declared.machine.State.{State}
use Rattle.teach.specs.declared.machine.State.TheVariants.{Idle, WaitTwo, WaitDyn}
use Rattle.teach.specs.declared.machine.Change.{Change}
use Rattle.teach.specs.declared.machine.Change.TheVariants.{Clear}
use Rattle.teach.specs.declared.machine.Verdict.{Verdict}
use Rattle.teach.specs.declared.machine.Verdict.TheVariants.{Open, Fails, Stores}
use Rattle.teach.specs.declared.machine.Effect.{Effect}
use Rattle.teach.specs.declared.terms.Terms.{Terms}
use Rattle.teach.specs.declared.teaching.Teach.{Teach}
use Rattle.teach.specs.declared.teaching.Store.{Store}
use Rattle.teach.specs.Commands.{command_of}
use Rattle.teach.specs.Flags.{no_flags, changed, flag_bits}
use Rattle.teach.specs.Machine.{Moved, row, row_checked, fed, same_setpoint}

module _ {V : Type 0} where
  -- after set-up, a select or a restart: idle, no flags, nothing taught, no failure
  abbrev pub idle : Teach V
  idle = record { state = Idle; flags = no_flags; taught_sp1 = false; taught_sp2 = false; failed = false }

  abbrev pub is_idle : State V → Bool
  is_idle Idle = true
  is_idle s = false

  -- a setpoint is taught once it is stored
  abbrev pub taught_by : Setpoint → Verdict V → Bool → Bool
  taught_by sp (Stores s v) b = same_setpoint s sp || b
  taught_by sp v b = b

  -- a failure shows until the next command that leaves Idle; a teach that is cancelled or stores shows none
  abbrev pub failed_by : Change → Verdict V → Bool → Bool
  failed_by c Fails b = true
  failed_by c (Stores s v) b = false
  failed_by (Clear sp) Open b = false
  failed_by c Open b = b

  -- the effect of a step on all but the machine's state
  abbrev pub settled : Teach V → Effect V → Teach V
  settled t e = record {
    state = t.state;
    flags = changed e.change t.flags;
    taught_sp1 = taught_by Sp1 e.verdict t.taught_sp1;
    taught_sp2 = taught_by Sp2 e.verdict t.taught_sp2;
    failed = failed_by e.change e.verdict t.failed;
  }

  abbrev pub with_state : Teach V → State V → Teach V
  with_state t s = record t { state = s }

  -- the teach after a step
  abbrev pub stepped : Teach V → Moved V → Teach V
  stepped t x = settled (with_state t x.state) x.effect

  -- what a step stores: nothing unless an evaluation succeeds
  abbrev pub store_of : Verdict V → Option (Store V)
  store_of (Stores sp v) = Some (record { setpoint = sp; value = v })
  store_of v = None

  -- TeachState: 5 in the Busy states and Dyn Start, 4 in the Wait states, 7 after a failure, else 1 for SP1 plus 2 for
  -- SP2
  abbrev pub teach_state : Teach V → State V → ℕ
  teach_state t Idle = cond t.failed 7 (cond t.taught_sp1 1 0 + 2 * cond t.taught_sp2 1 0)
  teach_state t (WaitTwo sp p) = 4
  teach_state t (WaitDyn sp k) = 4
  teach_state t s = 5

  -- TeachState in bits 0 to 3, the flags in bits 4 to 7
  abbrev pub teach_result : Teach V → ℕ
  teach_result t = teach_state t t.state + flag_bits t.flags

-- 20: the code is not in the table
abbrev pub named : Place → Option Command → Result Command Fault
named place None = Err (fault_at UnknownCommand place)
named place (Some c) = Ok c

abbrev pub known_command : Place → ℕ → Result Command Fault
known_command place code = named place (command_of code)

module _ {V : Type 0} where
  -- what a command that is taken stores
  abbrev pub store_by : Result (Moved V) Fault → Result (Option (Store V)) Fault
  store_by (Ok x) = Ok (store_of x.effect.verdict)
  store_by (Err f) = Err f

  -- the teach after a command: one that is denied changes nothing
  abbrev pub teach_by : Teach V → Result (Moved V) Fault → Teach V
  teach_by t (Ok x) = stepped t x
  teach_by t (Err f) = t

module _ {V : Type 0} (m : Meaning V) (terms : Terms) where
  abbrev pub row_in : Teach V → Command → Option (Moved V)
  row_in t c = row m t.flags terms t.state c.step c

  -- the checks of a command, by its code: 20, then 21
  abbrev pub commanded : Place → Teach V → ℕ → Result (Moved V) Fault
  commanded place t code = then (known_command place code) (λ c. row_checked place (row_in t c))

  -- a value that is fed
  abbrev pub fed_store : Teach V → V → Option (Store V)
  fed_store t v = store_of (fed m terms t.state v).effect.verdict

  abbrev pub fed_teach : Teach V → V → Teach V
  fed_teach t v = stepped t (fed m terms t.state v)
