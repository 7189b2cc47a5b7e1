-- What one call makes of one channel's row.
use Rattle.std.proofs.Common.{◌≡◌, ℕ, Bool, true, false, cond, not, ◌&&◌, ◌||◌, eqb, List, [], ◌∷◌, Some, Ok, Result}
use Rattle.std.proofs.Common.{sym, refl, ap, ◌∙◌}
use Rattle.std.specs.Option.{option_map}
use Rattle.std.proofs.lemmas.Bool.{true≢false}
use Rattle.faults.specs.declared.Fault.{Fault}
use Rattle.kinds.specs.Meaning.{Meaning}
use Rattle.channels.specs.declared.reading.Reading.TheVariants.{Value}
use Rattle.channels.specs.declared.row.Row.{Row}
use Rattle.channels.specs.Judging.{state_after}
use Rattle.teach.specs.declared.machine.Verdict.{Verdict}
use Rattle.teach.specs.declared.machine.Verdict.TheVariants.{Open, Fails, Stores}
use Rattle.teach.specs.Machine.{Moved}
use Rattle.teach.specs.Teaching.{store_of}
use Rattle.objects.specs.Writes.{Setting, sets_sp1, sets_sp2, sets_logic, sets_mode, sets_hysteresis, with_setting}
use Rattle.objects.specs.Writes.{with_settings}
use Rattle.sensor.specs.declared.sensor.Sensor.{Sensor}
use Rattle.sensor.specs.Calls.{Act, starts, samples, commands, writes, restarts}
use Rattle.sensor.specs.Devices.{stored_settings}
use Rattle.laws.specs.Events.{active_in, starts_over, is_stored, row_of, selected_of, state_of, touches, value_of}
use Rattle.laws.specs.Settings.{gives}
use Rattle.laws.proofs.Settings.{row_next, sets_up, turned, went}

kept_state : (a b : Bool) → (b ≡ not a → ⊥) → b ≡ a
kept_state true true h = refl
kept_state true false h = absurd (h refl)
kept_state false true h = absurd (h refl)
kept_state false false h = refl

false_or : (a b : Bool) → (a || b) ≡ false → a ≡ false
false_or true b e = absurd (true≢false e)
false_or false b e = refl

module _ {V : Type 0} where
  -- a setting keeps the state
  setting_active : (r : Row V) (p : Setting V) → (with_setting r p).active ≡ r.active
  setting_active r (sets_sp1 v) = refl
  setting_active r (sets_sp2 v) = refl
  setting_active r (sets_logic n) = refl
  setting_active r (sets_mode n) = refl
  setting_active r (sets_hysteresis n) = refl

  settings_active : (r : Row V) (ss : List (Setting V)) → (with_settings r ss).active ≡ r.active
  settings_active r [] = refl
  settings_active r (p ∷ ps) = settings_active (with_setting r p) ps ∙ setting_active r p

  none_stored : (b : Bool) (v : Verdict V) → (b && is_stored v) ≡ false → cond b (stored_settings (store_of v)) [] ≡ []
  none_stored false v e = refl
  none_stored true Open e = refl
  none_stored true Fails e = refl
  none_stored true (Stores sp v) e = absurd (true≢false e)

  -- a call that does not touch a channel's settings gives none
  none_given : (s : Sensor V) (k : ℕ) (x : Result (Act V) Fault) → sets_up x ≡ false → touches k s x ≡ false
      → gives k s x ≡ []
  none_given s k (Ok (starts e)) n u = absurd (true≢false n)
  none_given s k (Ok (samples r x)) n u = none_stored (eqb (selected_of s) k) x.effect.verdict u
  none_given s k (Ok (commands x)) n u = none_stored (eqb (selected_of s) k) x.effect.verdict u
  none_given s k (Ok (writes j ss)) n u = ap (λ (b : Bool). cond b ss []) (false_or (eqb j k) _ u)
  none_given s k x n u = refl

  set_up_begins : (x : Result (Act V) Fault) → starts_over x ≡ false → sets_up x ≡ false
  set_up_begins (Ok (starts e)) n = n
  set_up_begins x n = refl

module _ {V : Type 0} (m : Meaning V) where
  -- channel k turns at v in the call
  abbrev pub Turned : ℕ → Sensor V → Result (Act V) Fault → V → Type 0
  Turned k s x v = (value_of x ≡ Some v) × (state_of k (went m s x) ≡ not (state_of k s))

  row_went : (s : Sensor V) (k : ℕ) (r : Row V) (x : Result (Act V) Fault) → sets_up x ≡ false → row_of s k ≡ Some r
      → row_of (went m s x) k ≡ Some (with_settings (turned m x r) (gives k s x))
  row_went s k r x n e = row_next m s k x n ∙ ap (option_map (λ r. with_settings (turned m x r) (gives k s x))) e

  -- a call that does not touch the channel only turns its row
  pub row_turned : (s : Sensor V) (k : ℕ) (r : Row V) (x : Result (Act V) Fault) → sets_up x ≡ false
      → touches k s x ≡ false → row_of s k ≡ Some r → row_of (went m s x) k ≡ Some (turned m x r)
  row_turned s k r x n u e = row_went s k r x n e
      ∙ ap (λ ss. Some (with_settings (turned m x r) ss)) (none_given s k x n u)

  -- the state that a call leaves
  state_went : (s : Sensor V) (k : ℕ) (r : Row V) (x : Result (Act V) Fault) → sets_up x ≡ false → row_of s k ≡ Some r
      → state_of k (went m s x) ≡ (turned m x r).active
  state_went s k r x n e = ap active_in (row_went s k r x n e) ∙ settings_active (turned m x r) (gives k s x)

  -- a row stands where its channel does not turn and is not touched, and the sensor is neither restarted nor set up
  -- anew
  pub hold : (s : Sensor V) (k : ℕ) (r : Row V) (x : Result (Act V) Fault) → row_of s k ≡ Some r
      → ((v : V) → Turned k s x v → ⊥) → touches k s x ≡ false → starts_over x ≡ false → row_of (went m s x) k ≡ Some r
  hold s k r x e t u n = row_turned s k r x (set_up_begins x n) u e ∙ ap Some (go x t n)
    where
      go : (x : Result (Act V) Fault) → ((v : V) → Turned k s x v → ⊥) → starts_over x ≡ false → turned m x r ≡ r
      go (Ok (samples (Value v) g)) t n =
          let q : state_after m v r ≡ r.active =
          kept_state r.active (state_after m v r)
          (λ i. t v (
            refl,
            state_went s k r (Ok (samples (Value v) g)) refl e ∙ i
                ∙ ap (λ o. not (active_in o)) (sym e),
          )) in
          ap (λ (b : Bool). record {
            sp1 = r.sp1;
            sp2 = r.sp2;
            hysteresis = r.hysteresis;
            logic = r.logic;
            mode = r.mode;
            active = b;
          }) q
      go (Ok restarts) t n = absurd (true≢false n)
      go x t n = refl

  -- a turn is an accepted sample of its value, which the row is judged by
  pub turning : (s : Sensor V) (k : ℕ) (r : Row V) (x : Result (Act V) Fault) (v : V) → row_of s k ≡ Some r
      → Turned k s x v → (g : Moved V) × (x ≡ Ok (samples (Value v) g)) × (state_after m v r ≡ not r.active)
  turning s k r (Ok (samples (Value w) g)) v e t =
      let i : w ≡ v = cc (t.0) in (
        g,
        ap (λ a. Ok (samples (Value a) g)) i,
        ap (λ a. state_after m a r) (sym i) ∙ sym (state_went s k r (Ok (samples (Value w) g)) refl e) ∙ t.1
            ∙ ap (λ o. not (active_in o)) e,
      )
  turning s k r x v e t = cc (t.0)
