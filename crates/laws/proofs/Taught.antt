-- What a teach stores, and when, is what its captured values say.
use Rattle.std.proofs.Common.{◌≡◌, ℕ, ◌≤◌, Bool, true, false, cond, List, [], ◌∷◌, ◌++◌, ◌<ℤ◌, Some, None, Ok, Err}
use Rattle.std.proofs.Common.{Option, Result, refl, sym, ap, ◌∙◌, subst, arith}
use Rattle.std.specs.Option.{option_map}
use Rattle.std.proofs.lemmas.Bool.{eq-eqb}
use Rattle.std.proofs.lemmas.Int.{ints}
use Rattle.faults.specs.declared.Fault.{Fault}
use Rattle.faults.specs.declared.Place.{Place}
use Rattle.faults.specs.declared.Denial.TheVariants.{TeachRunning}
use Rattle.faults.specs.Denials.{fault, then}
use Rattle.keypad.specs.Operations.{opening_checked}
use Rattle.kinds.specs.Meaning.{Meaning, under}
use Rattle.channels.specs.declared.reading.Reading.{Reading}
use Rattle.channels.specs.declared.reading.Reading.TheVariants.{Value}
use Rattle.channels.specs.declared.row.Row.{Row}
use Rattle.teach.specs.declared.command.Command.{Command}
use Rattle.teach.specs.declared.command.Setpoint.{Setpoint}
use Rattle.teach.specs.declared.command.Setpoint.TheVariants.{Sp1, Sp2}
use Rattle.teach.specs.declared.command.Step.{Step}
use Rattle.teach.specs.declared.machine.Change.TheVariants.{Keep}
use Rattle.teach.specs.declared.machine.State.TheVariants.{Idle}
use Rattle.teach.specs.declared.machine.Verdict.TheVariants.{Open, Fails, Stores}
use Rattle.teach.specs.declared.teaching.Teach.{Teach}
use Rattle.teach.specs.declared.terms.Terms.{Terms}
use Rattle.teach.specs.Machine.{Moved, moved, row_checked}
use Rattle.teach.specs.Commands as Commands
use Rattle.teach.specs.Teaching.{is_idle, named, row_in, stepped, store_of, teach_state}
use Rattle.objects.specs.Writes.{with_settings}
use Rattle.sensor.specs.declared.device.Device.{Device}
use Rattle.sensor.specs.declared.sensor.Sensor.{Sensor}
use Rattle.sensor.specs.Calls.{Call, Act, Order, to_start, to_sample, to_show, to_select, to_command, to_write}
use Rattle.sensor.specs.Calls.{to_open, to_close, to_restart, starts, samples, commands, opens}
use Rattle.sensor.specs.Devices.{setpoint_setting, stored_settings}
use Rattle.sensor.specs.Rules.{after, asked, blank, carried, checked, device_by, next}
use Rattle.sensor.specs.Samples.{heard}
use Rattle.laws.specs.Events.{command_by, accepted_command, resting, row_of, selected_of, value_of, verdict_of}
use Rattle.laws.specs.Settings.{gives}
use Rattle.laws.specs.Stores.{Purpose, captured, captured_since, captured_with, counting, captures, capturing}
use Rattle.laws.specs.Stores.{discards, held_in, setpoint_of, value_for, whole}
use Rattle.laws.specs.Taught.{Evaluation, Says, StoresUnless, TaughtBy, TaughtFromCaptured, beginning, begun}
use Rattle.laws.specs.Taught.{begun_since, dynamic, evaluation_in, none, setpoint_in, single, step_in, taught}
use Rattle.laws.specs.Taught.{two_value}
use Rattle.laws.proofs.Each.{each_at}
use Rattle.laws.proofs.Holding.{Began, Evaluates, Holding, Owed, RowOwed, Tells, began_by, feeds, grown, renewed}
use Rattle.laws.proofs.Holding.{row_owed, stays, teaches}
use Rattle.laws.proofs.Origins.{Fresh, OriginIn, fresh_of, order_fact, origin_of}
use Rattle.laws.proofs.Settings.{row_next, sets_up, turned, went}
use Rattle.laws.proofs.Sound.{Sound, SoundDevice, row_exists, sound_after, sound_next}

-- ---- the channel holds what is stored

module _ {V : Type 0} where
  setpoint_held : (sp : Setpoint) (v : V) (r : Row V) → setpoint_of sp (with_settings r (setpoint_setting sp v ∷ []))
      ≡ v
  setpoint_held Sp1 v r = refl
  setpoint_held Sp2 v r = refl

  gives_stored : (s : Sensor V) (x : Result (Act V) Fault) (sp : Setpoint) (v : V) → verdict_of x ≡ Stores sp v
      → (sets_up x ≡ false) × (gives (selected_of s) s x ≡ setpoint_setting sp v ∷ [])
  gives_stored s (Ok (samples r g)) sp v e =
      (refl, rw (eq-eqb (selected_of s) (selected_of s) refl) (ap (λ z. stored_settings (store_of z)) e))
  gives_stored s (Ok (commands g)) sp v e =
      (refl, rw (eq-eqb (selected_of s) (selected_of s) refl) (ap (λ z. stored_settings (store_of z)) e))
  gives_stored s x sp v e = cc

module _ {V : Type 0} (m : Meaning V) where
  -- a call judged to x, which stores
  held_after : (s : Sensor V) (x : Result (Act V) Fault) (r : Row V) (sp : Setpoint) (v : V)
      → row_of s (selected_of s) ≡ Some r → verdict_of x ≡ Stores sp v
      → held_in sp (row_of (went m s x) (selected_of s)) ≡ Some v
  held_after s x r sp v w e =
      let k = gives_stored s x sp v e in
      ap (held_in sp) (row_next m s (selected_of s) x k.0
      ∙ ap (option_map (λ z. with_settings (turned m x z) (gives (selected_of s) s x))) w)
      ∙ ap (λ ss. Some (setpoint_of sp (with_settings (turned m x r) ss))) k.1
      ∙ ap Some (setpoint_held sp v (turned m x r))

  not_under : (a b : V) → (m.rank a <ℤ m.rank b → ⊥) → under m a b ≡ false
  not_under a b h = grind (arith, ints)

  is_under : (a b : V) → m.rank a <ℤ m.rank b → under m a b ≡ true
  is_under a b h = grind (arith, ints)

  -- ---- one call

  -- a sensor that is set up holds, of the values captured for each purpose, what its teach goes by, and b began the
  -- teach
  abbrev HoldingIn : Option (Device V) → (Purpose → List V) → Option Command → Type 0
  HoldingIn None L b = Unit {0}
  HoldingIn (Some d) L b = (1 ≤ d.terms.capture) × Holding m d.terms d.teach.state L × Began d.teach.state b

  -- a fresh device holds nothing
  fresh_holds : (e : Device V) (us vs : Purpose → List V) (rested : Bool) (z b : Option Command) → Fresh e
      → HoldingIn (Some e) (λ x. grown (is_idle e.teach.state) (discards x z) (us x) (vs x))
      (renewed (is_idle e.teach.state) rested z b)
  fresh_holds e us vs rested z b f =
      let Fits : Teach V → Type 0 = λ w. Holding m e.terms w.state
      (λ x. grown (is_idle w.state) (discards x z) (us x) (vs x))
      × Began w.state (renewed (is_idle w.state) rested z b) in
      let p = subst Fits (sym f.teach) (λ x. refl, (refl, refl)) in
      (f.some_capture, p.0, p.1)

  -- what a call tells of a sensor in which the values L are captured, in a teach that b began
  abbrev ToldIn : Option (Device V) → Sensor V → Call → (Purpose → List V) → Option Command → Type 0
  ToldIn None s c L b = verdict_of (checked m s c) ≡ Open
  ToldIn (Some d) s c L b =
      Tells m d.terms (λ a b sp v. StoresUnless m (m.rank a <ℤ m.rank b) s c sp v) (verdict_of (checked m s c) ≡ Open)
      (setpoint_in b) (evaluation_in d.terms.capture (step_in b) (captures m whole s c ++ L whole)
      (value_of (checked m s c)) (step_in (accepted_command m s c))) (captures m whole s c ++ L whole) L

module _ {V : Type 0} (m : Meaning V) (d : Device V) (L : Purpose → List V) (b : Option Command)
    (h : HoldingIn m (Some d) L b) (sound : SoundDevice d) (c : Call) where
  abbrev at : Sensor V
  at = record { device = Some d }

  abbrev U : V → V → Setpoint → V → Type 0
  U a b sp v = StoresUnless m (m.rank a <ℤ m.rank b) at c sp v

  -- a call judged to x, which takes the teach to g
  evaluates : (x : Result (Act V) Fault) (g : Moved V) → checked m at c ≡ x
      → (device_by m d x).teach ≡ stepped d.teach g → verdict_of x ≡ g.effect.verdict → Evaluates m U g
  evaluates x g e t w a b sp v i =
      let r = row_exists d d.selected sound sound.selected_there in
      let by : (z : Bool) → under m a b ≡ z → g ≡ moved Idle Keep (cond z Fails (Stores sp v)) =
      λ z j. i ∙ ap (λ y. moved Idle Keep (cond y Fails (Stores sp v))) j in
      let verdict : verdict_of (checked m at c) ≡ g.effect.verdict = ap verdict_of e ∙ w in
      record {
        stores = λ n. (let k : verdict_of (checked m at c) ≡ Stores sp v = verdict
            ∙ ap (λ z. z.effect.verdict) (by false (not_under m a b n)) in
            (k, held_after m at (checked m at c) r.0 sp v r.1 k));
        fails = λ y. (let k = by true (is_under m a b y) in (
          verdict ∙ ap (λ z. z.effect.verdict) k,
          ap (λ z. teach_state z z.state) (ap (λ z. (device_by m d z).teach) e ∙ t ∙ ap (stepped d.teach) k),
        ));
      }

  -- a call judged to x tells what it has to, in a teach of the setpoint y that began with the step z
  abbrev Told : Option Setpoint → Option Step → Result (Act V) Fault → Type 0
  Told y z x =
      Tells m d.terms U (verdict_of x ≡ Open) y
      (evaluation_in d.terms.capture z (value_for whole (capturing d.teach.state) (value_of x) ++ L whole)
      (value_of x) (step_in (command_by m (Some d) c x))) (value_for whole (capturing d.teach.state) (value_of x)
      ++ L whole) L

  -- it keeps what is held, and tells what it has to
  abbrev Kept : Result (Act V) Fault → Type 0
  Kept x =
      HoldingIn m (Some (device_by m d x))
      (λ y. grown (is_idle (device_by m d x).teach.state) (discards y (command_by m (Some d) c x))
      (value_for y (capturing d.teach.state) (value_of x)) (L y))
      (renewed (is_idle (device_by m d x).teach.state) (is_idle d.teach.state) (command_by m (Some d) c x) b)
      × Told (teaches d.teach.state) (began_by d.teach.state) x

  -- without a value or a command
  quiet : Owed m U d.terms L b d.teach.state None None (moved d.teach.state Keep Open)
  quiet = stays m U d.terms L b d.teach.state h.1 h.2

  -- a call that leaves the teach as it is
  abbrev left : Kept (Err (fault TeachRunning))
  left = ((h.0, quiet.0, quiet.1), quiet.2)

  sample_kept : (r : Reading V) → asked m d c ≡ Ok (to_sample r) → checked m at c ≡ Ok (samples r (heard m d r))
      → Kept (Ok (samples r (heard m d r)))
  sample_kept (Value v) i e =
      let g = heard m d (Value v) in
      let p = feeds m U d.terms L b h.0 d.teach.state v h.1 h.2 (evaluates (Ok (samples (Value v) g)) g e refl refl) in
      rw i ((h.0, p.0, p.1), p.2)
  sample_kept r i e = rw i left

  command_kept : (place : Place) (code : ℕ) (z : Command) (o : Option (Moved V))
      → asked m d c ≡ Ok (to_command place code) → Commands.command_of code ≡ Some z
      → row_in m d.terms d.teach z ≡ o → checked m at c ≡ then (row_checked place o) (λ g. Ok (commands g))
      → Kept (then (row_checked place o) (λ g. Ok (commands g)))
  command_kept place code z None i k j e = left
  command_kept place code z (Some g) i k j e =
      let owed = row_owed m U d.terms L b h.0 d.teach.flags d.teach.state z.step z h.1 h.2 in
      let p = each_at (RowOwed m U d.terms L b d.teach.state z) (row_in m d.terms d.teach z) g j owed
      (evaluates (Ok (commands g)) g e refl refl) in
      rw (i, k) ((h.0, p.0, p.1), p.2)

  -- what a command comes to, by the row of its code
  abbrev coming : Place → Option Command → Result (Act V) Fault
  coming place y = then (then (named place y) (λ z. row_checked place (row_in m d.terms d.teach z)))
      (λ g. Ok (commands g))

  code_kept : (place : Place) (code : ℕ) (y : Option Command) → asked m d c ≡ Ok (to_command place code)
      → Commands.command_of code ≡ y
      → checked m at c ≡ coming place y → Kept (coming place y)
  code_kept place code None i k e = left
  code_kept place code (Some z) i k e = command_kept place code z (row_in m d.terms d.teach z) i k refl e

  order_kept : (o : Result (Order V) Fault) → asked m d c ≡ o → checked m at c ≡ carried m d o → Kept (carried m d o)
  order_kept (Err f) i e = left
  order_kept (Ok (to_start f)) i e = rw i (
    fresh_holds m f (λ y. value_for y (capturing d.teach.state) None) L (is_idle d.teach.state) None b
        (order_fact m d c (to_start f) i),
    quiet.2,
  )
  order_kept (Ok (to_sample r)) i e = sample_kept r i e
  order_kept (Ok (to_show x)) i e = rw i left
  order_kept (Ok (to_select k)) i e = rw i ((h.0, λ x. refl, (refl, refl)), quiet.2)
  order_kept (Ok (to_command place code)) i e = code_kept place code (Commands.command_of code) i refl e
  order_kept (Ok (to_write k ss)) i e = rw i left
  order_kept (Ok to_open) i e = go (opening_checked d.keypad (is_idle d.teach.state))
    where
      go : (x : Result (Unit {0}) Fault) → Kept (then x (λ _. Ok opens))
      go (Ok tt) = rw i left
      go (Err f) = left
  order_kept (Ok to_close) i e = rw i left
  order_kept (Ok to_restart) i e = rw i ((h.0, λ x. refl, (refl, refl)), quiet.2)

  kept : Kept (checked m at c)
  unfolding checked
  kept = order_kept (asked m d c) refl refl

  -- by the command that began the teach
  told : Told (setpoint_in b) (step_in b) (checked m at c)
  told = subst (λ y. Told y (step_in b) (checked m at c)) (sym h.2.0)
      (subst (λ z. Told (teaches d.teach.state) z (checked m at c)) (sym h.2.1) kept.1)

module _ {V : Type 0} (m : Meaning V) where
  -- a blank sensor
  blank_told : (x : Result (Act V) Fault) (c : Call) → ((a : Act V) → x ≡ Ok a → OriginIn m None c a)
      → verdict_of x ≡ Open
  blank_told (Ok (samples r g)) c o = absurd (o (samples r g) refl)
  blank_told (Ok (commands g)) c o = absurd (o (commands g) refl)
  blank_told x c o = refl

  blank_next : (x : Result (Act V) Fault) (c : Call) (L : Purpose → List V) (b : Option Command)
      → ((e : Device V) → x ≡ Ok (starts e) → Fresh e)
      → HoldingIn m (went m blank x).device
      (λ y. grown (resting (went m blank x)) (discards y None) (value_for y None (value_of x)) (L y))
      (renewed (resting (went m blank x)) true None b)
  blank_next (Ok (starts e)) c L b f = fresh_holds m e (λ y. []) L true None b (f e refl)
  blank_next x c L b f = tt

  told_in : (o : Option (Device V)) (c : Call) (L : Purpose → List V) (b : Option Command)
      → Sound (record { device = o }) → HoldingIn m o L b → ToldIn m o (record { device = o }) c L b
  told_in None c L b s h = blank_told (checked m blank c) c (origin_of m blank c)
  told_in (Some d) c L b s h = told m d L b h s c

  holding_next : (o : Option (Device V)) (c : Call) (L : Purpose → List V) (b : Option Command)
      → Sound (record { device = o }) → HoldingIn m o L b
      → HoldingIn m (next m (record { device = o }) c).device (λ x. counting m x (record { device = o }) c (L x))
      (beginning m (record { device = o }) c b)
  holding_next None c L b s h = blank_next (checked m blank c) c L b (fresh_of m blank c)
  holding_next (Some d) c L b s h = (kept m d L b h s c).0

  -- ---- calls

  holding_after : (s : Sensor V) (cs : List Call) (L : Purpose → List V) (b : Option Command) → Sound s
      → HoldingIn m s.device L b → HoldingIn m (after m s cs).device (λ x. captured_since m x s cs (L x))
      (begun_since m s cs b)
  holding_after s [] L b i h = h
  holding_after s (c ∷ cs) L b i h = holding_after (next m s c) cs (λ x. counting m x s c (L x)) (beginning m s c b)
      (sound_next m s c i) (holding_next s.device c L b i h)

  says : (t : Terms) (e : Evaluation) (before : List Call) (c : Call)
      → Tells m t (λ a b sp v. StoresUnless m (m.rank a <ℤ m.rank b) (after m blank before) c sp v)
      (verdict_of (checked m (after m blank before) c) ≡ Open) (taught m before) e (captured_with m whole before c)
      (λ x. captured m x before) → Says m t e before c
  says t none before c h = h
  says t single before c h = h
  says t two_value before c h = h
  says t dynamic before c h = h

  taught_by : (o : Option (Device V)) (before : List Call) (c : Call)
      → ToldIn m o (after m blank before) c (λ x. captured m x before) (begun m before) → TaughtBy m o before c
  taught_by None before c h = h
  taught_by (Some d) before c h = says d.terms _ before c h

  pub taught_from_captured : (cs : List Call) → TaughtFromCaptured m cs
  taught_from_captured cs before c rest _ =
      let s = after m blank before in
      taught_by s.device before c (told_in s.device c (λ x. captured m x before) (begun m before) (sound_after m before)
      (holding_after blank before (λ x. []) None tt tt))
