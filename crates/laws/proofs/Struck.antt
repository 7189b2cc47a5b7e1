-- The full run and the run with foreign calls struck out, side by side.
use Rattle.std.proofs.Common.{◌≡◌, ℕ, Bool, true, false, cond, ◌&&◌, eqb, List, [], ◌∷◌, Some, None, Option, sym, refl}
use Rattle.std.proofs.Common.{ap, ◌∙◌, arith}
use Rattle.std.specs.Option.{option_map}
use Rattle.std.proofs.lemmas.Bool.{and_right, false≢true, true≢false}
use Rattle.keypad.specs.declared.Keypad.{Keypad}
use Rattle.kinds.specs.Meaning.{Meaning}
use Rattle.channels.specs.declared.reading.Reading.{Reading}
use Rattle.channels.specs.declared.reading.Reading.TheVariants.{Value}
use Rattle.channels.specs.declared.row.Row.{Row}
use Rattle.channels.specs.declared.table.Table.{Table}
use Rattle.channels.specs.Table.{row_at}
use Rattle.teach.specs.declared.command.Command.{Command}
use Rattle.teach.specs.declared.command.Setpoint.{Setpoint}
use Rattle.teach.specs.declared.command.Setpoint.TheVariants.{Sp1, Sp2}
use Rattle.teach.specs.declared.command.Step.{Step}
use Rattle.teach.specs.declared.command.Step.TheVariants.{Apply, Single, Point, Start, Stop, Cancel}
use Rattle.teach.specs.declared.machine.Change.{Change}
use Rattle.teach.specs.declared.machine.Change.TheVariants.{Keep, Clear, Set}
use Rattle.teach.specs.declared.machine.Flags.{Flags}
use Rattle.teach.specs.declared.machine.State.{State}
use Rattle.teach.specs.declared.machine.State.TheVariants.{Idle, BusySingle, BusyTwo, WaitTwo, DynStart, WaitDyn}
use Rattle.teach.specs.declared.machine.Teachpoints.{Teachpoints}
use Rattle.teach.specs.declared.machine.Verdict.{Verdict}
use Rattle.teach.specs.declared.machine.Verdict.TheVariants.{Open}
use Rattle.teach.specs.declared.teaching.Store.{Store}
use Rattle.teach.specs.declared.teaching.Teach.{Teach}
use Rattle.teach.specs.declared.terms.Terms.{Terms}
use Rattle.teach.specs.Captures as Captures
use Rattle.teach.specs.Flags.{both_set, changed, none_set, of_setpoint}
use Rattle.teach.specs.Machine.{Moved, applied, fed, full, moved, row, same_setpoint}
use Rattle.teach.specs.Teachpoints.{with_teachpoint}
use Rattle.teach.specs.Teaching.{is_idle, store_of}
use Rattle.objects.specs.Writes.{Setting, with_settings}
use Rattle.sensor.specs.declared.device.Device.{Device}
use Rattle.sensor.specs.Devices.{with_settings_at, on_row, selecting, setpoint_setting, stored, stored_settings}
use Rattle.sensor.specs.Devices.{after_step, with_channels, with_keypad}
use Rattle.sensor.specs.Samples.{heard}
use Rattle.laws.specs.Events.{is_stored}
use Rattle.laws.proofs.Again.{bare}
use Rattle.laws.proofs.Each.{Each, each_test}
use Rattle.laws.proofs.Settings.{given_to, stored_to}
use Rattle.laws.proofs.Tables.{given_other, stored_other}

-- ---- the flags of the setpoint that is taught

module _ {V : Type 0} where
  -- the setpoint that a teach is of
  abbrev setpoint_at : State V → Option Setpoint
  setpoint_at Idle = None
  setpoint_at (BusySingle sp k) = Some sp
  setpoint_at (BusyTwo sp tp k p) = Some sp
  setpoint_at (WaitTwo sp p) = Some sp
  setpoint_at (DynStart sp) = Some sp
  setpoint_at (WaitDyn sp k) = Some sp

abbrev flags_of : Option Setpoint → Flags → Teachpoints Bool
flags_of None f = none_set
flags_of (Some sp) f = of_setpoint f sp

abbrev flags_for : {V : Type 0} → State V → Flags → Teachpoints Bool
flags_for s f = flags_of (setpoint_at s) f

-- a change of flags reads only the flags that it changes
changed_same : (s : Option Setpoint) (c : Change) (f f' : Flags) → flags_of s f' ≡ flags_of s f
    → flags_of s (changed c f') ≡ flags_of s (changed c f)
changed_same None c f f' e = refl
changed_same (Some Sp1) (Clear Sp1) f f' e = refl
changed_same (Some Sp2) (Clear Sp2) f f' e = refl
changed_same (Some Sp1) (Set Sp1 tp) f f' e = ap (λ x. with_teachpoint x tp true) e
changed_same (Some Sp2) (Set Sp2 tp) f f' e = ap (λ x. with_teachpoint x tp true) e
changed_same s c f f' e = e

-- those of a teach that begins are cleared
cleared : (sp : Setpoint) (f f' : Flags) → of_setpoint (changed (Clear sp) f') sp
    ≡ of_setpoint (changed (Clear sp) f) sp
cleared Sp1 f f' = refl
cleared Sp2 f f' = refl

-- ---- steps of the teach

-- from the state s: what stores, ends the teach, and where the flags of its setpoint are the same, they still are
pub record Leads {V : Type 0} (s : State V) (x : Moved V) : Type 0 where
  pub ends : is_stored x.effect.verdict ≡ true → x.state ≡ Idle
  pub flags : (f f' : Flags) → flags_for s f' ≡ flags_for s f
      → flags_for x.state (changed x.effect.change f') ≡ flags_for x.state (changed x.effect.change f)

module _ {V : Type 0} where
  ended : {s : State V} {c : Change} {v : Verdict V} → Leads s (moved Idle c v)
  ended = record { ends = λ e. refl; flags = λ f f' e. refl }

  -- the teach goes on, with the same setpoint
  goes : {s s' : State V} {c : Change} → setpoint_at s' ≡ setpoint_at s → Leads s (moved s' c Open)
  goes {s = s} {c = c} i = record {
    ends = λ e. absurd (false≢true e);
    flags = λ f f' e. rw i (changed_same (setpoint_at s) c f f' e);
  }

  began : {s : State V} (sp : Setpoint) → setpoint_at s ≡ Some sp → Leads Idle (moved s (Clear sp) Open)
  began sp i = record {
    ends = λ e. absurd (false≢true e);
    flags = λ f f' e. rw i (cleared sp f f');
  }

  either : {s : State V} {x y : Moved V} (b : Bool) → Leads s x → Leads s y → Leads s (cond b x y)
  either true p q = p
  either false p q = q

module _ {V : Type 0} (m : Meaning V) (t : Terms) where
  fed_leads : (s : State V) (v : V) → Leads s (fed m t s v)
  fed_leads Idle v = ended
  fed_leads (BusySingle sp k) v = either (full m t (Captures.with_value m k v)) ended (goes refl)
  fed_leads (BusyTwo sp tp k p) v = either (full m t (Captures.with_value m k v)) (goes refl) (goes refl)
  fed_leads s v = goes refl

  applied_leads : (f : Flags) (s : State V) (sp : Setpoint) (a b : Option V) → Each (Leads s) (applied m f t sp a b)
  applied_leads f s sp (Some x) (Some y) = ended
  applied_leads f s sp a b = tt

  pub row_leads : (f : Flags) (s : State V) (z : Step) (c : Command) → Each (Leads s) (row m f t s z c)
  row_leads f Idle Single c = began c.setpoint refl
  row_leads f Idle Point c = began c.setpoint refl
  row_leads f Idle Start c = began c.setpoint refl
  row_leads f (WaitTwo sp p) Point c = each_test (Leads (WaitTwo sp p)) (same_setpoint sp c.setpoint) _ (goes refl)
  row_leads f (WaitTwo sp p) Apply c = each_test (Leads (WaitTwo sp p)) (both_set f sp) _
      (applied_leads f (WaitTwo sp p) sp p.tp1 p.tp2)
  row_leads f (WaitTwo sp p) Cancel c = ended
  row_leads f (WaitDyn sp k) Start c = each_test (Leads (WaitDyn sp k)) (same_setpoint sp c.setpoint) _ (goes refl)
  row_leads f (WaitDyn sp k) Stop c = each_test (Leads (WaitDyn sp k)) (same_setpoint sp c.setpoint) _ ended
  row_leads f (WaitDyn sp k) Cancel c = ended
  row_leads f s z c = tt

  -- a row looks at no flags but those of the setpoint that is taught
  pub row_same : (f f' : Flags) (s : State V) (z : Step) (c : Command) → flags_for s f' ≡ flags_for s f
      → row m f' t s z c ≡ row m f t s z c
  row_same f f' (WaitTwo sp p) Apply c e =
      ap (λ (x : Teachpoints Bool). cond (x.tp1 && x.tp2) (applied m f t sp p.tp1 p.tp2) None) e
  row_same f f' s z c e = refl

module _ {V : Type 0} (m : Meaning V) (d : Device V) where
  pub heard_leads : (r : Reading V) → Leads d.teach.state (heard m d r)
  heard_leads (Value v) = fed_leads m d.terms d.teach.state v
  heard_leads r = goes refl

  pub heard_same : (e : Device V) (r : Reading V) → e.terms ≡ d.terms → e.teach.state ≡ d.teach.state
      → heard m e r ≡ heard m d r
  heard_same e (Value v) t i = rw (t, i)
  heard_same e r t i = rw i

  -- where no teach runs a reading is not heard
  pub unheard : (r : Reading V) → d.teach.state ≡ Idle → heard m d r ≡ moved d.teach.state Keep Open
  unheard (Value v) i = rw i
  unheard r i = refl

-- ---- the two runs

-- the struck run has the same teach, with the same flags for it
pub record Same {V : Type 0} (t u : Teach V) : Type 0 where
  pub state : u.state ≡ t.state
  pub flags : flags_for t.state u.flags ≡ flags_for t.state t.flags

-- d in the full run, e in the struck one: all is the same but the teach and the rows of other channels. b: channel k is
-- selected, and a teach that runs, or begins next, is finished
pub record Beside {V : Type 0} (k : ℕ) (b : Bool) (d e : Device V) : Type 0 where
  pub fixed : bare e ≡ bare d
  pub row : row_at e.channels k ≡ row_at d.channels k
  pub on : b ≡ true → Same d.teach e.teach
  pub off : b ≡ false → e.teach.state ≡ Idle

-- s: channel k is selected; d: the step stores; l: the teach runs on after it, and is finished later
stored_now : (s d l : Bool) → (s && cond d true l) ≡ true → (s && l) ≡ false → d ≡ true
stored_now s d l e f = grind arith

neither : (s d l : Bool) → (s && cond d true l) ≡ false → ((s && d) ≡ false) × ((s && l) ≡ false)
neither true true l e = absurd (true≢false e)
neither true false l e = (refl, e)
neither false d l e = (refl, refl)

module _ {V : Type 0} where
  -- settings leave the number of channels
  given_count : (t : Table V) (j : ℕ) (ss : List (Setting V)) → (with_settings_at t j ss).count ≡ t.count
  given_count t j ss = go (row_at t j)
    where
      go : (o : Option (Row V)) → (on_row t j ss o).count ≡ t.count
      go None = refl
      go (Some r) = refl

  stored_count : (t : Table V) (j : ℕ) (o : Option (Store V)) → (stored t j o).count ≡ t.count
  stored_count t j None = refl
  stored_count t j (Some s) = given_count t j (setpoint_setting s.setpoint s.value ∷ [])

  with_table : (d : Device V) (t : Table V) → t.count ≡ d.channels.count → bare (with_channels d t) ≡ bare d
  with_table d t c = ap (λ n. record (bare d) { channels = record { rows = []; count = n } }) c

  pub idle_is : (s : State V) → is_idle s ≡ true → s ≡ Idle
  idle_is Idle i = refl
  idle_is s i = absurd (false≢true i)

  -- a device beside itself
  pub itself : {k : ℕ} {b : Bool} {d : Device V} → d.teach.state ≡ Idle → Beside k b d d
  itself i = record { fixed = refl; row = refl; on = λ y. record { state = refl; flags = refl }; off = λ y. i }

  module _ {k : ℕ} {b : Bool} {d e : Device V} (w : Beside k b d e) where
    with_tables : (t u : Table V) → t.count ≡ d.channels.count → u.count ≡ e.channels.count → row_at u k ≡ row_at t k
        → Beside k b (with_channels d t) (with_channels e u)
    with_tables t u c c' r = record {
      fixed = with_table e u c' ∙ w.fixed ∙ sym (with_table d t c);
      row = r;
      on = w.on;
      off = w.off;
    }

    -- the row of channel k is changed by f in both
    pub both_changed : (f : Row V → Row V) (t u : Table V) → t.count ≡ d.channels.count → u.count ≡ e.channels.count
        → row_at t k ≡ option_map f (row_at d.channels k) → row_at u k ≡ option_map f (row_at e.channels k)
        → Beside k b (with_channels d t) (with_channels e u)
    both_changed f t u c c' i j = with_tables t u c c' (j ∙ ap (option_map f) w.row ∙ sym i)

    pub both_given : (j : ℕ) (ss : List (Setting V))
        → Beside k b (with_channels d (with_settings_at d.channels j ss))
        (with_channels e (with_settings_at e.channels j ss))
    both_given j ss =
        both_changed (λ r. with_settings r (cond (eqb j k) ss [])) (with_settings_at d.channels j ss)
        (with_settings_at e.channels j ss)
        (given_count d.channels j ss) (given_count e.channels j ss) (given_to d.channels j k ss)
        (given_to e.channels j k ss)

    pub other_given : (j : ℕ) (ss : List (Setting V)) → eqb j k ≡ false
        → Beside k b (with_channels d (with_settings_at d.channels j ss)) e
    other_given j ss i = with_tables (with_settings_at d.channels j ss) e.channels (given_count d.channels j ss) refl
        (w.row ∙ sym (given_other d.channels j k ss i))

    pub both_keypads : (f : Keypad → Keypad) → Beside k b (with_keypad d (f d.keypad)) (with_keypad e (f e.keypad))
    both_keypads f = record {
      fixed = ap (λ (x : Device V). with_keypad x (f x.keypad)) w.fixed;
      row = w.row;
      on = w.on;
      off = w.off;
    }

    pub both_select : {b' : Bool} (j : ℕ) → Beside k b' (selecting d j) (selecting e j)
    both_select j = record {
      fixed = ap (λ x. selecting x j) w.fixed;
      row = w.row;
      on = λ y. record { state = refl; flags = refl };
      off = λ y. refl;
    }

  module _ {k : ℕ} (s z : Bool) {d e : Device V} (w : Beside k (s && cond (is_idle d.teach.state) false z) d e) where
    -- where no teach runs in the full run, none does in the struck one
    pub rests : is_idle d.teach.state ≡ true → e.teach.state ≡ Idle
    rests i = w.off (rw i (and_right s false refl))

    -- after it the next teach may begin
    pub go_on : Beside k (s && z) d e
    go_on = go (is_idle d.teach.state) refl w
      where
        go : (i : Bool) → is_idle d.teach.state ≡ i → Beside k (s && cond i false z) d e → Beside k (s && z) d e
        go false i v = v
        go true i v =
            let p = idle_is d.teach.state i in
            record {
              fixed = w.fixed;
              row = w.row;
              on = λ y. record { state = rests i ∙ sym p; flags = rw p };
              off = λ y. rests i;
            }

  module _ {k : ℕ} (l : Bool) {d e : Device V} (x : Moved V)
      (w : Beside k (eqb d.selected k && cond (is_stored x.effect.verdict) true l) d e) where
    abbrev store : Option (Store V)
    store = store_of x.effect.verdict

    -- both runs take the teach on
    pub both_taken : (eqb d.selected k && cond (is_stored x.effect.verdict) true l) ≡ true → Leads d.teach.state x
        → Beside k (eqb d.selected k && l) (after_step d x) (after_step e x)
    both_taken y f =
        let i : e.selected ≡ d.selected = ap (λ (z : Device V). z.selected) w.fixed in
        let v = both_changed w (λ r. with_settings r (cond (eqb d.selected k) (stored_settings store) []))
        (stored d.channels d.selected store) (stored e.channels e.selected store)
        (stored_count d.channels d.selected store) (stored_count e.channels e.selected store)
        (stored_to d.channels d.selected k store) (rw i (stored_to e.channels d.selected k store)) in
        record {
          fixed = v.fixed;
          row = v.row;
          on = λ z. record { state = refl; flags = f.flags d.teach.flags e.teach.flags (w.on y).flags };
          off = λ z. f.ends (stored_now (eqb d.selected k) (is_stored x.effect.verdict) l y z);
        }

    -- the full run alone does
    pub one_taken : (eqb d.selected k && cond (is_stored x.effect.verdict) true l) ≡ false
        → Beside k (eqb d.selected k && l) (after_step d x) e
    one_taken y =
        let n = neither (eqb d.selected k) (is_stored x.effect.verdict) l y in
        record {
          fixed = w.fixed ∙ sym (with_table d (stored d.channels d.selected store)
              (stored_count d.channels d.selected store));
          row = w.row ∙ sym (stored_other d.channels d.selected k x.effect.verdict n.0);
          on = λ z. absurd (true≢false (sym z ∙ n.1));
          off = λ z. w.off y;
        }
