-- An unfinished teach or another channel never shows in a channel: each call keeps the struck run beside the full one.
use Rattle.std.proofs.Common.{◌≡◌, ℕ, Bool, true, false, cond, not, ◌&&◌, eqb, List, [], ◌∷◌, Some, None, Ok, Err}
use Rattle.std.proofs.Common.{Option, Result, sym, refl, ap, subst, ap₂}
use Rattle.faults.specs.declared.Fault.{Fault}
use Rattle.faults.specs.declared.Place.{Place}
use Rattle.faults.specs.declared.Denial.TheVariants.{AlreadyOpen, TeachRunning}
use Rattle.faults.specs.Denials.{fault, then}
use Rattle.keypad.specs.Operations.{closed, opened}
use Rattle.kinds.specs.Meaning.{Meaning}
use Rattle.channels.specs.declared.reading.Reading.{Reading}
use Rattle.channels.specs.declared.row.Row.{Row}
use Rattle.channels.specs.Judging.{judged}
use Rattle.channels.specs.Table.{judged_table, inactive_row, inactive_table}
use Rattle.teach.specs.Machine.{Moved, row_checked}
use Rattle.teach.specs.declared.command.Command.{Command}
use Rattle.teach.specs.Commands as Commands
use Rattle.teach.specs.Teaching.{is_idle, named, row_in}
use Rattle.sensor.specs.declared.device.Device.{Device}
use Rattle.sensor.specs.declared.sensor.Sensor.{Sensor}
use Rattle.sensor.specs.Calls.{Call, Order, to_start, to_sample, to_show, to_select, to_command, to_write, to_open}
use Rattle.sensor.specs.Calls.{to_close, to_restart, Act, starts, samples, commands, writes, opens}
use Rattle.sensor.specs.Devices.{after_step, with_channels}
use Rattle.sensor.specs.Rules.{after, asked, blank, carried, checked, next, performed}
use Rattle.sensor.specs.Samples.{heard}
use Rattle.laws.specs.Events.{is_accepted, resting, row_of, selected_of, stores}
use Rattle.laws.specs.Strikes.{AllAccepted, ForeignCallsLeaveNoTrace, after_each, after_staying, finished, shown_in}
use Rattle.laws.specs.Strikes.{shows_of, stays, stays_by, struck}
use Rattle.laws.proofs.Again.{asked_same}
use Rattle.laws.proofs.Each.{Each}
use Rattle.laws.proofs.Origins.{fresh_of, origin_of}
use Rattle.laws.proofs.Settings.{went}
use Rattle.laws.proofs.Struck.{Beside, Leads, Same, both_changed, both_given, both_keypads, both_select, both_taken}
use Rattle.laws.proofs.Struck.{go_on, heard_leads, heard_same, idle_is, itself, one_taken, other_given, rests}
use Rattle.laws.proofs.Struck.{row_leads, row_same, unheard}
use Rattle.laws.proofs.Tables.{judged_at, inactive_at}

-- by what a test says
decide : (P : Bool → Type 0) (b : Bool) → (b ≡ true → P true) → (b ≡ false → P false) → P b
decide P true p q = p refl
decide P false p q = q refl

module _ {V : Type 0} (m : Meaning V) (k : ℕ) where
  abbrev sensor : Option (Device V) → Sensor V
  sensor o = record { device = o }

  -- channel k is selected, and the teach that runs, or that the first of the calls begins, is finished
  abbrev due : Sensor V → List Call → Bool
  due s cs = eqb (selected_of s) k && finished m s cs

  -- a teach of channel k runs, and is finished
  abbrev running : Sensor V → List Call → Bool
  running s cs = eqb (selected_of s) k && cond (resting s) false (finished m s cs)

  -- due, where the checks of the first call come to x
  abbrev due_by : Sensor V → Result (Act V) Fault → List Call → Bool
  due_by s x cs = eqb (selected_of s) k && cond (stores x) true
      (cond (resting (went m s x)) false (finished m (went m s x) cs))

  -- both runs are blank, or their devices are beside each other
  abbrev BesideIn : Bool → Option (Device V) → Option (Device V) → Type 0
  BesideIn b None None = Unit {0}
  BesideIn b (Some d) (Some e) = Beside k b d e
  BesideIn b o p = ⊥

  abbrev RunsBeside : Bool → Sensor V → Sensor V → Type 0
  RunsBeside b s n = BesideIn b s.device n.device

  -- what a call owes whose checks come to x and y: one that stays is accepted again and keeps the runs beside each
  -- other, and without one that goes they still are
  abbrev Owed : Bool → Sensor V → Sensor V → Result (Act V) Fault → Result (Act V) Fault → List Call → Type 0
  Owed true s n x y cs = (is_accepted y ≡ true) × RunsBeside (running (went m s x) cs) (went m s x) (went m n y)
  Owed false s n x y cs = RunsBeside (running (went m s x) cs) (went m s x) n

  -- ---- the calls

  module _ (d e : Device V) (c : Call) (cs : List Call) where
    abbrev full : Sensor V
    full = sensor (Some d)

    -- what it owes, and what it is given, where d is in the full run and e in the struck one
    abbrev Owes : Bool → Result (Act V) Fault → Result (Act V) Fault → Type 0
    Owes b x y = Owed b full (sensor (Some e)) x y cs

    abbrev Given : Result (Act V) Fault → Type 0
    Given x = Beside k (due_by full x cs) d e

    sample_owes : (r : Reading V) → Given (Ok (samples r (heard m d r)))
        → Owes true (Ok (samples r (heard m d r))) (Ok (samples r (heard m e r)))
    sample_owes r w =
        let x = heard m d r in
        let d' = with_channels d (judged_table m r d.channels) in
        let e' = with_channels e (judged_table m r e.channels) in
        let v = both_changed w (judged m r) d'.channels e'.channels refl refl (judged_at m r d.channels k)
        (judged_at m r e.channels k) in
        let l = cond (is_idle x.state) false (finished m (went m full (Ok (samples r x))) cs) in
        let P : Moved V → Type 0 = λ y. Beside k (eqb d.selected k && l) (after_step d' x) (after_step e' y) in (
          refl,
          decide (λ _. P (heard m e r)) (due_by full (Ok (samples r x)) cs)
              (λ y. subst P (sym (heard_same m d e r (ap (λ (z : Device V). z.terms) w.fixed) (w.on y).state))
              (both_taken l x v y (heard_leads m d r)))
              (λ y. subst P (sym (unheard m e r (w.off y))) (one_taken l x v y)),
        )

    abbrev commanded : Place → Option (Moved V) → Result (Act V) Fault
    commanded place o = then (row_checked place o) (λ x. Ok (commands x))

    -- o and p: the command's row in each run
    command_owes : (place : Place) (o p : Option (Moved V)) → checked m full c ≡ commanded place o
        → Each (Leads d.teach.state) o → (Same d.teach e.teach → p ≡ o) → Given (commanded place o)
        → Owes (stays_by m k full (c ∷ cs) (commanded place o)) (commanded place o) (commanded place p)
    command_owes place None p q f a w = w
    command_owes place (Some x) p q f a w =
        let l = cond (is_idle x.state) false (finished m (went m full (Ok (commands x))) cs) in
        let P : Bool → Option (Moved V) → Type 0 = λ b p. Owes b (Ok (commands x)) (commanded place p) in
        subst (λ y. P (due_by full y cs) p) (sym q)
        (decide (λ b. P b p) (due_by full (Ok (commands x)) cs)
        (λ y. subst (P true) (sym (a (w.on y))) (refl, both_taken l x w y f)) (λ y. one_taken l x w y))

    -- what a command comes to, by the row of its code
    abbrev coming : Device V → Place → Option Command → Result (Act V) Fault
    coming x place y = then (then (named place y) (λ z. row_checked place (row_in m x.terms x.teach z)))
        (λ g. Ok (commands g))

    code_owes : (place : Place) (y : Option Command) → checked m full c ≡ coming d place y → Given (coming d place y)
        → Owes (stays_by m k full (c ∷ cs) (coming d place y)) (coming d place y) (coming e place y)
    code_owes place None q w = w
    code_owes place (Some z) q w =
        command_owes place (row_in m d.terms d.teach z) (row_in m e.terms e.teach z) q
        (row_leads m d.terms d.teach.flags d.teach.state z.step z)
        (λ s. rw (ap (λ (x : Device V). x.terms) w.fixed, s.state)
        (row_same m d.terms d.teach.flags e.teach.flags d.teach.state z.step z s.flags)) w

    -- what an opening comes to, by whether an operation is open and whether the teach is idle
    abbrev opening : Bool → Bool → Result (Act V) Fault
    opening a b = then (cond a (Err (fault AlreadyOpen)) (cond (not b) (Err (fault TeachRunning)) (Ok (tt {0}))))
        (λ _. Ok opens)

    opening_owes : (a b : Bool) → is_idle d.teach.state ≡ b → Given (opening a b)
        → Owes (stays_by m k full (c ∷ cs) (opening a b)) (opening a b) (opening a (is_idle e.teach.state))
    opening_owes true b i w = w
    opening_owes false true i w =
        let j = ap is_idle (rests _ (finished m (went m full (Ok opens)) cs) w i) in
        subst (λ b. Owes true (Ok opens) (opening false b)) (sym j) (refl, both_keypads w opened)
    opening_owes false false i w = w

    order_owes : (o : Result (Order V) Fault) → checked m full c ≡ carried m d o → Given (carried m d o)
        → Owes (stays_by m k full (c ∷ cs) (carried m d o)) (carried m d o) (carried m e o)
    order_owes (Err f) q w = w
    order_owes (Ok (to_start f)) q w = (refl, itself (ap (λ t. t.state) (fresh_of m full c f q).teach))
    order_owes (Ok (to_sample r)) q w = sample_owes r w
    order_owes (Ok (to_show s)) q w = w
    order_owes (Ok (to_select j)) q w = (refl, both_select w j)
    order_owes (Ok (to_command place code)) q w = code_owes place (Commands.command_of code) q w
    order_owes (Ok (to_write j ss)) q w =
        decide (λ b. Owes b (Ok (writes j ss)) (Ok (writes j ss))) (eqb j k) (λ i. (refl, both_given w j ss))
        (λ i. other_given w j ss i)
    order_owes (Ok to_open) q w =
        subst
        (λ p. Owes (stays_by m k full (c ∷ cs) (performed m d to_open)) (performed m d to_open)
        (opening p (is_idle e.teach.state)))
        (sym (ap (λ (x : Device V). x.keypad.is_open) w.fixed))
        (opening_owes d.keypad.is_open (is_idle d.teach.state) refl w)
    order_owes (Ok to_close) q w = (refl, both_keypads w closed)
    order_owes (Ok to_restart) q w = (
      refl,
      both_select (both_changed w inactive_row (inactive_table d.channels) (inactive_table e.channels) refl
          refl (inactive_at d.channels k) (inactive_at e.channels k)) 1,
    )

  -- a blank sensor takes a set-up alone
  blank_owes : (c : Call) (cs : List Call) (x : Result (Act V) Fault) → checked m blank c ≡ x
      → Owed (stays_by m k blank (c ∷ cs) x) blank blank x x cs
  blank_owes c cs (Err f) q = tt
  blank_owes c cs (Ok (starts e)) q = (refl, itself (ap (λ t. t.state) (fresh_of m blank c e q).teach))
  blank_owes c cs (Ok a) q = absurd (origin_of m blank c a q)

  owes : (c : Call) (cs : List Call) (o p : Option (Device V)) → BesideIn (due (sensor o) (c ∷ cs)) o p
      → Owed (stays m k (sensor o) c cs) (sensor o) (sensor p) (checked m (sensor o) c) (checked m (sensor p) c) cs
  unfolding checked
  owes c cs None None w = blank_owes c cs (checked m blank c) refl
  owes c cs (Some d) (Some e) w =
      subst (λ o. Owes d e c cs (stays m k (full d e c cs) c cs) (checked m (sensor (Some d)) c) (carried m e o))
      (sym (asked_same m d e c w.fixed)) (order_owes d e c cs (asked m d c) refl w)
  owes c cs o p w = absurd w

  -- ---- the whole run

  -- a teach that is finished runs, or begins next
  next_due : (cs : List Call) (o p : Option (Device V)) → BesideIn (running (sensor o) cs) o p
      → BesideIn (due (sensor o) cs) o p
  next_due cs None None w = tt
  next_due cs (Some d) (Some e) w = go_on _ (finished m (sensor (Some d)) cs) w
  next_due cs o p w = absurd w

  same_row : (b : Bool) (o p : Option (Device V)) → BesideIn b o p → row_of (sensor p) k ≡ row_of (sensor o) k
  same_row b None None w = refl
  same_row b (Some d) (Some e) w = w.row
  same_row b o p w = absurd w

  abbrev NoTrace : Sensor V → List Call → List (Option (Row V × Bool)) → Type 0
  NoTrace n rest seen = AllAccepted m n rest × (after_each m k n rest ≡ seen)

  beside : (s n : Sensor V) (cs : List Call) → RunsBeside (due s cs) s n
      → NoTrace n (struck m k s cs) (after_staying m k s cs)
  beside s n [] w = (tt, refl)
  beside s n (c ∷ cs) w = go (λ x v. beside (next m s c) x cs (next_due cs (next m s c).device x.device v))
      (stays m k s c cs) (owes c cs s.device n.device w)
    where
      go : ((x : Sensor V) → RunsBeside (running (next m s c) cs) (next m s c) x
          → NoTrace x (struck m k (next m s c) cs) (after_staying m k (next m s c) cs)) → (b : Bool)
          → Owed b s n (checked m s c) (checked m n c) cs
          → NoTrace n (cond b (c ∷ struck m k (next m s c) cs) (struck m k (next m s c) cs))
          (cond b (shows_of k (next m s c) ∷ after_staying m k (next m s c) cs) (after_staying m k (next m s c) cs))
      go later true v =
          let rest = later (next m n c) v.1 in (
            (v.0, rest.0),
            ap₂ ◌∷◌ (ap shown_in
                (same_row (running (next m s c) cs) (next m s c).device (next m n c).device v.1)) rest.1,
          )
      go later false v = later n v

  -- a sensor beside itself, where no teach runs
  resting_beside : (b : Bool) (o : Option (Device V)) → resting (sensor o) ≡ true → BesideIn b o o
  resting_beside b None r = tt
  resting_beside b (Some d) r = itself (idle_is d.teach.state r)

pub foreign_calls_leave_no_trace : {V : Type 0} (m : Meaning V) → (cs : List Call) → ForeignCallsLeaveNoTrace m cs
foreign_calls_leave_no_trace m cs before rest i r k =
    let s = after m blank before in
    beside m k s s rest (resting_beside m k (due m k s rest) s.device r)
