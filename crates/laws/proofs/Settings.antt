-- Each setting of a channel is the one last written or stored, else the set-up's.
use Rattle.std.proofs.Common.{◌≡◌, ℕ, zero, suc, ◌-◌, Bool, true, false, cond, eqb, List, [], ◌∷◌, ◌++◌, replicate}
use Rattle.std.proofs.Common.{Some, None, Ok, Option, Result, sym, refl, ap, ◌∙◌, ⊎_elim, append-nil, append_assoc}
use Rattle.std.specs.Option.{option_map}
use Rattle.std.proofs.lemmas.Bool.{cases_Bool, eqb-true, true≢false}
use Rattle.faults.specs.declared.Fault.{Fault}
use Rattle.kinds.specs.Meaning.{Meaning}
use Rattle.channels.specs.declared.range.Range.{Range}
use Rattle.channels.specs.declared.reading.Reading.{Reading}
use Rattle.channels.specs.declared.reading.Reading.TheVariants.{Value, Below, Above, NoData}
use Rattle.channels.specs.declared.row.Row.{Row}
use Rattle.channels.specs.declared.table.Table.{Table}
use Rattle.channels.specs.Judging.{judged}
use Rattle.channels.specs.Table.{fresh_row, fresh_table, judged_table, most_channels, nth, inactive_row, row_at}
use Rattle.teach.specs.declared.teaching.Store.{Store}
use Rattle.teach.specs.Teaching.{store_of}
use Rattle.objects.specs.Writes.{Setting, sets_sp1, sets_sp2, sets_logic, sets_mode, sets_hysteresis, with_setting}
use Rattle.objects.specs.Writes.{with_settings}
use Rattle.sensor.specs.declared.device.Device.{Device}
use Rattle.sensor.specs.declared.sensor.Sensor.{Sensor}
use Rattle.sensor.specs.Calls.{Call, Act, starts, samples, commands, writes, restarts}
use Rattle.sensor.specs.Devices.{with_settings_at, setpoint_setting, stored, stored_settings}
use Rattle.sensor.specs.Rules.{after, blank, checked, device_by, next, next_by}
use Rattle.laws.specs.Events.{row_of}
use Rattle.laws.specs.Settings.{LastWrittenStands, given_in, gives, hysteresis_of, latest, logic_of, mode_of, or_else}
use Rattle.laws.specs.Settings.{set_up_settings, sp1_of, sp2_of}
use Rattle.laws.proofs.Origins.{Fresh, fresh_of}
use Rattle.laws.proofs.Tables.{given_at, given_other, judged_at, inactive_at, row_there}

module _ {V : Type 0} where
  mapped_id : (o : Option (Row V)) → o ≡ option_map (λ r. r) o
  mapped_id None = refl
  mapped_id (Some r) = refl

  mapped_both : (f g : Row V → Row V) (o : Option (Row V)) → option_map g (option_map f o) ≡ option_map (λ r. g (f r)) o
  mapped_both f g None = refl
  mapped_both f g (Some r) = refl

  -- settings given to a channel show in that channel alone
  pub given_to : (t : Table V) (j k : ℕ) (ss : List (Setting V))
      → row_at (with_settings_at t j ss) k ≡ option_map (λ r. with_settings r (cond (eqb j k) ss [])) (row_at t k)
  given_to t j k ss = ⊎_elim same other (cases_Bool (eqb j k))
    where
      same : eqb j k ≡ true → row_at (with_settings_at t j ss) k
          ≡ option_map (λ r. with_settings r (cond (eqb j k) ss [])) (row_at t k)
      same e =
          ap (λ i. row_at (with_settings_at t i ss) k) (eqb-true j k e)
          ∙ given_at t k ss
          ∙ ap (λ (b : Bool). option_map (λ r. with_settings r (cond b ss [])) (row_at t k)) (sym e)

      other : eqb j k ≡ false → row_at (with_settings_at t j ss) k
          ≡ option_map (λ r. with_settings r (cond (eqb j k) ss [])) (row_at t k)
      other e =
          given_other t j k ss e
          ∙ mapped_id (row_at t k)
          ∙ ap (λ (b : Bool). option_map (λ r. with_settings r (cond b ss [])) (row_at t k)) (sym e)

  -- and so does what a teach stores
  pub stored_to : (t : Table V) (j k : ℕ) (o : Option (Store V))
      → row_at (stored t j o) k ≡ option_map (λ r. with_settings r (cond (eqb j k) (stored_settings o) [])) (row_at t k)
  stored_to t j k None = go (eqb j k)
    where
      go : (b : Bool) → row_at t k ≡ option_map (λ r. with_settings r (cond b [] [])) (row_at t k)
      go true = mapped_id (row_at t k)
      go false = mapped_id (row_at t k)
  stored_to t j k (Some s) = given_to t j k (setpoint_setting s.setpoint s.value ∷ [])

  -- the call is an accepted set-up
  abbrev pub sets_up : Result (Act V) Fault → Bool
  sets_up (Ok (starts e)) = true
  sets_up x = false

module _ {V : Type 0} (m : Meaning V) where
  -- a sensor after a call
  abbrev pub went : Sensor V → Result (Act V) Fault → Sensor V
  went s x = record { device = next_by m s.device x }

  -- the effect on a state of a call that is no set-up: samples judge, a restart makes inactive
  abbrev pub turned : Result (Act V) Fault → Row V → Row V
  turned (Ok (samples x g)) r = judged m x r
  turned (Ok restarts) r = inactive_row r
  turned x r = r

  row_device : (d : Device V) (k : ℕ) (x : Result (Act V) Fault) → sets_up x ≡ false
      → row_at (device_by m d x).channels k
      ≡ option_map (λ r. with_settings (turned x r) (gives k (record { device = Some d }) x)) (row_at d.channels k)
  row_device d k (Ok (starts e)) n = absurd (true≢false n)
  row_device d k (Ok (samples x g)) n =
      let given : Row V → Row V = λ r. with_settings r
      (cond (eqb d.selected k) (stored_settings (store_of g.effect.verdict)) []) in
      stored_to (judged_table m x d.channels) d.selected k (store_of g.effect.verdict)
      ∙ ap (option_map given) (judged_at m x d.channels k)
      ∙ mapped_both (judged m x) given (row_at d.channels k)
  row_device d k (Ok (commands g)) n = stored_to d.channels d.selected k (store_of g.effect.verdict)
  row_device d k (Ok (writes j ss)) n = given_to d.channels j k ss
  row_device d k (Ok restarts) n = inactive_at d.channels k
  row_device d k x n = mapped_id (row_at d.channels k)

  -- a channel's row after a call that is no set-up: its state turned, its settings those that the call gives
  pub row_next : (s : Sensor V) (k : ℕ) (x : Result (Act V) Fault) → sets_up x ≡ false
      → row_of (went s x) k ≡ option_map (λ r. with_settings (turned x r) (gives k s x)) (row_of s k)
  row_next s k x n = go s.device x n
    where
      go : (o : Option (Device V)) (x : Result (Act V) Fault) → sets_up x ≡ false
          → row_of (went (record { device = o }) x) k
          ≡ option_map (λ r. with_settings (turned x r) (gives k (record { device = o }) x))
          (row_of (record { device = o }) k)
      go (Some d) x n = row_device d k x n
      go None (Ok (starts e)) n = absurd (true≢false n)
      go None x n = refl

  -- a row that is there after such a call was there before it
  row_before : (s : Sensor V) (k : ℕ) (x : Result (Act V) Fault) (r : Row V) → sets_up x ≡ false
      → row_of (went s x) k ≡ Some r → (r₀ : Row V) × (row_of s k ≡ Some r₀)
      × (r ≡ with_settings (turned x r₀) (gives k s x))
  row_before s k x r n e = go (row_of s k) refl (sym (row_next s k x n) ∙ e)
    where
      go : (o : Option (Row V)) → row_of s k ≡ o → option_map (λ r. with_settings (turned x r) (gives k s x)) o ≡ Some r
          → (r₀ : Row V) × (row_of s k ≡ Some r₀) × (r ≡ with_settings (turned x r₀) (gives k s x))
      go None p q = cc
      go (Some r₀) p q = (r₀, p, cc)

-- ---- one setting

or_else_assoc : {A : Type 0} (a b c : Option A) → or_else (or_else a b) c ≡ or_else a (or_else b c)
or_else_assoc None b c = refl
or_else_assoc (Some a) b c = refl

or_else_none : {A : Type 0} (a : Option A) → a ≡ or_else a None
or_else_none None = refl
or_else_none (Some a) = refl

module _ {V : Type 0} where
  latest_append : {A : Type 0} (f : Setting V → Option A) (ps qs : List (Setting V))
      → latest f (ps ++ qs) ≡ or_else (latest f qs) (latest f ps)
  latest_append f [] qs = or_else_none (latest f qs)
  latest_append f (p ∷ ps) qs = ap (λ o. or_else o (f p)) (latest_append f ps qs)
      ∙ or_else_assoc (latest f qs) (latest f ps) (f p)

  same_fresh : (n j : ℕ) (x r : Row V) → nth (replicate n x) j ≡ Some r → r ≡ x
  same_fresh zero j x r e = cc
  same_fresh (suc n) zero x r e = cc
  same_fresh (suc n) (suc j) x r e = same_fresh n j x r e

  -- every row of a fresh device is the set-up's
  fresh_at : (e : Device V) (k : ℕ) (r : Row V) → Fresh e → row_at e.channels k ≡ Some r
      → r ≡ fresh_row e.range.low e.range.high
  fresh_at e k r f i =
      let t : Table V = fresh_table f.count e.range.low e.range.high in
      same_fresh most_channels (k - 1) (fresh_row e.range.low e.range.high) r
      (row_there t k r (ap (λ (u : Table V). row_at u k) (sym f.channels) ∙ i)).1

  -- what is given, or brought by a set-up, is where a row has it, whatever the row's state
  record Follows {A : Type 0} (f : Setting V → Option A) (g : Row V → A) : Type 0 where
    given : (r : Row V) (p : Setting V) → or_else (f p) (Some (g r)) ≡ Some (g (with_setting r p))
    set_up : (range : Range V) → latest f (set_up_settings range) ≡ Some (g (fresh_row range.low range.high))
    kept : (r : Row V) (b : Bool) → g (record {
      sp1 = r.sp1;
      sp2 = r.sp2;
      hysteresis = r.hysteresis;
      logic = r.logic;
      mode = r.mode;
      active = b;
    }) ≡ g r

  -- a channel's setting is the latest of those given so far
  abbrev Stands : {A : Type 0} → (Setting V → Option A) → (Row V → A) → ℕ → Sensor V → List (Setting V) → Type 0
  Stands f g k s ss = (r : Row V) → row_of s k ≡ Some r → latest f ss ≡ Some (g r)

module _ {V : Type 0} (m : Meaning V) {A : Type 0} (f : Setting V → Option A) (g : Row V → A) (h : Follows f g) where
  -- settings that are given to a row
  by_settings : (r : Row V) (ss : List (Setting V)) → or_else (latest f ss) (Some (g r)) ≡ Some (g (with_settings r ss))
  by_settings r [] = refl
  by_settings r (p ∷ ps) =
      or_else_assoc (latest f ps) (f p) (Some (g r))
      ∙ ap (or_else (latest f ps)) (h.given r p)
      ∙ by_settings (with_setting r p) ps

  -- judging keeps a setting
  by_judging : (x : Reading V) (r : Row V) → g (judged m x r) ≡ g r
  by_judging (Value v) r = h.kept r _
  by_judging Below r = refl
  by_judging Above r = refl
  by_judging NoData r = refl

  by_turning : (x : Result (Act V) Fault) (r : Row V) → g (turned m x r) ≡ g r
  by_turning (Ok (samples x o)) r = by_judging x r
  by_turning (Ok restarts) r = h.kept r false
  by_turning x r = refl

  -- the setting stands through a call that is no set-up
  stands_by : (s : Sensor V) (k : ℕ) (x : Result (Act V) Fault) (ss : List (Setting V)) → sets_up x ≡ false
      → Stands f g k s ss → Stands f g k (went m s x) (ss ++ gives k s x)
  stands_by s k x ss n i r e =
      let w = row_before m s k x r n e in
      latest_append f ss (gives k s x)
      ∙ ap (or_else (latest f (gives k s x))) (i w.0 w.1 ∙ ap Some (sym (by_turning x w.0)))
      ∙ by_settings (turned m x w.0) (gives k s x)
      ∙ ap (λ q. Some (g q)) (sym w.2)

  -- through a set-up, which brings it anew
  stands_set_up : (s : Sensor V) (k : ℕ) (e : Device V) (ss : List (Setting V)) → Fresh e
      → Stands f g k (went m s (Ok (starts e))) (ss ++ set_up_settings e.range)
  stands_set_up s k e ss q r i =
      let fresh = fresh_at e k r q (go s.device i) in
      latest_append f ss (set_up_settings e.range)
      ∙ ap (λ o. or_else o (latest f ss)) (h.set_up e.range ∙ ap (λ u. Some (g u)) (sym fresh))
    where
      go : (o : Option (Device V)) → row_of (went m (record { device = o }) (Ok (starts e))) k ≡ Some r
          → row_at e.channels k ≡ Some r
      go None i = i
      go (Some d) i = i

  stands_next : (s : Sensor V) (k : ℕ) (x : Result (Act V) Fault) (ss : List (Setting V))
      → ((e : Device V) → x ≡ Ok (starts e) → Fresh e) → Stands f g k s ss
      → Stands f g k (went m s x) (ss ++ gives k s x)
  stands_next s k (Ok (starts e)) ss q i = stands_set_up s k e ss (q e refl)
  stands_next s k x ss q i = stands_by s k x ss refl i

  -- through calls, with what was given before them
  stands_after : (s : Sensor V) (k : ℕ) (cs : List Call) (ss : List (Setting V)) → Stands f g k s ss
      → Stands f g k (after m s cs) (ss ++ given_in m k s cs)
  stands_after s k [] ss i r e = ap (latest f) (append-nil ss) ∙ i r e
  stands_after s k (c ∷ cs) ss i r e =
      ap (latest f) (sym (append_assoc ss (gives k s (checked m s c)) (given_in m k (next m s c) cs)))
      ∙ stands_after (next m s c) k cs (ss ++ gives k s (checked m s c))
      (stands_next s k (checked m s c) ss (fresh_of m s c) i) r e

  setting_stands : (k : ℕ) (cs : List Call) → Stands f g k (after m blank cs) (given_in m k blank cs)
  setting_stands k cs = stands_after blank k cs [] (λ r e. cc)

module _ {V : Type 0} where
  -- what a setting brings is that setting of the row, and the others stay
  given_each : (r : Row V) (p : Setting V)
      → (or_else (sp1_of p) (Some r.sp1) ≡ Some (with_setting r p).sp1)
      × (or_else (sp2_of p) (Some r.sp2) ≡ Some (with_setting r p).sp2)
      × (or_else (logic_of p) (Some r.logic) ≡ Some (with_setting r p).logic)
      × (or_else (mode_of p) (Some r.mode) ≡ Some (with_setting r p).mode)
      × (or_else (hysteresis_of p) (Some r.hysteresis) ≡ Some (with_setting r p).hysteresis)
  given_each r (sets_sp1 v) = (refl, refl, refl, refl, refl)
  given_each r (sets_sp2 v) = (refl, refl, refl, refl, refl)
  given_each r (sets_logic n) = (refl, refl, refl, refl, refl)
  given_each r (sets_mode n) = (refl, refl, refl, refl, refl)
  given_each r (sets_hysteresis n) = (refl, refl, refl, refl, refl)

  pub last_written_stands : (m : Meaning V) (cs : List Call) → LastWrittenStands m cs
  last_written_stands m cs k before rest r _ e = record {
    sp1 = setting_stands m sp1_of (λ s. s.sp1) (record {
      given = λ s p. (given_each s p).0;
      set_up = λ t. refl;
      kept = λ s b. refl;
    }) k before r e;
    sp2 = setting_stands m sp2_of (λ s. s.sp2) (record {
      given = λ s p. (given_each s p).1;
      set_up = λ t. refl;
      kept = λ s b. refl;
    }) k before r e;
    logic = setting_stands m logic_of (λ s. s.logic) (record {
      given = λ s p. (given_each s p).2;
      set_up = λ t. refl;
      kept = λ s b. refl;
    }) k before r e;
    mode = setting_stands m mode_of (λ s. s.mode) (record {
      given = λ s p. (given_each s p).3;
      set_up = λ t. refl;
      kept = λ s b. refl;
    }) k before r e;
    hysteresis = setting_stands m hysteresis_of (λ s. s.hysteresis)
        (record { given = λ s p. (given_each s p).4; set_up = λ t. refl; kept = λ s b. refl }) k before r e;
  }
