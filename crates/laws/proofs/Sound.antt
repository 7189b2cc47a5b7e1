-- Through every call the selected channel is there, and the table has a row for each channel that there may be.
use Rattle.std.proofs.Common.{◌≡◌, ℕ, zero, suc, ◌-◌, ◌<◌, ◌≤◌, Bool, true, false, cond, leb, List, [], ◌∷◌, ◌++◌, map}
use Rattle.std.proofs.Common.{length, take, drop, set, Some, None, Ok, Err, Option, Result, refl, ap, ◌∙◌, arith}
use Rattle.std.proofs.Common.{length-set}
use Rattle.std.proofs.lemmas.Bool.{and_from, le-leb}
use Rattle.faults.specs.declared.Fault.{Fault}
use Rattle.kinds.specs.Meaning.{Meaning}
use Rattle.channels.specs.declared.row.Row.{Row}
use Rattle.channels.specs.declared.table.Table.{Table}
use Rattle.channels.specs.Judging.{judged}
use Rattle.channels.specs.Table.{has_channel, judged_table, most_channels, nth, inactive_row, row_at, rows_present}
use Rattle.teach.specs.declared.teaching.Store.{Store}
use Rattle.teach.specs.Teaching.{store_of}
use Rattle.objects.specs.Writes.{Setting}
use Rattle.sensor.specs.declared.device.Device.{Device}
use Rattle.sensor.specs.declared.sensor.Sensor.{Sensor}
use Rattle.sensor.specs.Calls.{Call, Act, starts, samples, shows, selects, commands, writes, opens, closes, restarts}
use Rattle.sensor.specs.Devices.{with_settings_at, on_row, setpoint_setting, stored}
use Rattle.sensor.specs.Rules.{after, blank, checked, device_by, next, next_by}
use Rattle.laws.proofs.Origins.{Fresh, Origin, OriginIn, origin_of}
use Rattle.laws.proofs.Tables.{there}

pub record SoundDevice {V : Type 0} (d : Device V) : Type 0 where
  pub selected_there : has_channel d.channels d.selected ≡ true
  pub every_row : length d.channels.rows ≡ most_channels

module _ {V : Type 0} where
  abbrev SoundIn : Option (Device V) → Type 0
  SoundIn None = Unit {0}
  SoundIn (Some d) = SoundDevice d

  abbrev pub Sound : Sensor V → Type 0
  Sound s = SoundIn s.device

  set_length : (b : Bool) (rows : List (Row V)) (k : ℕ) (r : Row V) → length (cond b (set rows k r) rows) ≡ length rows
  set_length true rows k r = simp length-set
  set_length false rows k r = refl

  mapped_length : (f : Row V → Row V) (n : ℕ) (rows : List (Row V))
      → length (map f (take n rows) ++ drop n rows) ≡ length rows
  mapped_length f zero rows = refl
  mapped_length f (suc n) [] = refl
  mapped_length f (suc n) (r ∷ rows) = ap suc (mapped_length f n rows)

  given_rows : (t : Table V) (k : ℕ) (ss : List (Setting V)) → length (with_settings_at t k ss).rows ≡ length t.rows
  given_rows t k ss = go (row_at t k)
    where
      go : (o : Option (Row V)) → length (on_row t k ss o).rows ≡ length t.rows
      go None = refl
      go (Some r) = set_length (has_channel t k) t.rows (k - 1) _

  given_there : (t : Table V) (j k : ℕ) (ss : List (Setting V))
      → has_channel (with_settings_at t j ss) k ≡ has_channel t k
  given_there t j k ss = go (row_at t j)
    where
      go : (o : Option (Row V)) → has_channel (on_row t j ss o) k ≡ has_channel t k
      go None = refl
      go (Some r) = refl

  stored_rows : (t : Table V) (k : ℕ) (o : Option (Store V)) → length (stored t k o).rows ≡ length t.rows
  stored_rows t k None = refl
  stored_rows t k (Some s) = given_rows t k (setpoint_setting s.setpoint s.value ∷ [])

  stored_there : (t : Table V) (j k : ℕ) (o : Option (Store V)) → has_channel (stored t j o) k ≡ has_channel t k
  stored_there t j k None = refl
  stored_there t j k (Some s) = given_there t j k (setpoint_setting s.setpoint s.value ∷ [])

  first_there : (t : Table V) → 1 ≤ rows_present t → has_channel t 1 ≡ true
  first_there t h = and_from (leb 1 1) (leb 1 (rows_present t)) refl (le-leb 1 (rows_present t) h)

  nth_there : (rows : List (Row V)) (j : ℕ) → j < length rows → (r : Row V) × (nth rows j ≡ Some r)
  nth_there [] j h = absurd (omega arith)
  nth_there (r ∷ rows) zero h = (r, refl)
  nth_there (r ∷ rows) (suc j) h = nth_there rows j (omega arith)

  -- a channel that is there has a row
  pub row_exists : (d : Device V) (k : ℕ) → SoundDevice d → has_channel d.channels k ≡ true → (r : Row V)
      × (row_at d.channels k ≡ Some r)
  row_exists d k s h =
      let p = there d.channels k h in
      let w = nth_there d.channels.rows (k - 1) (omega (arith, s.every_row)) in
      (w.0, ap (λ (b : Bool). cond b (nth d.channels.rows (k - 1)) None) h ∙ w.1)

  sound_fresh : (e : Device V) → Fresh e → SoundDevice e
  sound_fresh e f = record {
    selected_there = ap (has_channel e.channels) f.selected ∙ first_there e.channels f.some_channel;
    every_row = ap (λ (t : Table V). length t.rows) f.channels;
  }

module _ {V : Type 0} (m : Meaning V) where
  sound_device : (d : Device V) (c : Call) (x : Result (Act V) Fault) → ((a : Act V) → x ≡ Ok a → Origin m d c a)
      → SoundDevice d → SoundDevice (device_by m d x)
  sound_device d c (Err f) o s = s
  sound_device d c (Ok (starts e)) o s = sound_fresh e (o (starts e) refl)
  sound_device d c (Ok (samples r x)) o s = record {
    selected_there = stored_there (judged_table m r d.channels) d.selected d.selected (store_of x.effect.verdict)
        ∙ s.selected_there;
    every_row = stored_rows (judged_table m r d.channels) d.selected (store_of x.effect.verdict)
        ∙ mapped_length (judged m r) (rows_present d.channels) d.channels.rows ∙ s.every_row;
  }
  sound_device d c (Ok (shows octets)) o s = s
  sound_device d c (Ok (selects k)) o s = record {
    selected_there = o (selects k) refl (let p = there d.channels d.selected s.selected_there in omega arith);
    every_row = s.every_row;
  }
  sound_device d c (Ok (commands x)) o s = record {
    selected_there = stored_there d.channels d.selected d.selected (store_of x.effect.verdict) ∙ s.selected_there;
    every_row = stored_rows d.channels d.selected (store_of x.effect.verdict) ∙ s.every_row;
  }
  sound_device d c (Ok (writes k ss)) o s = record {
    selected_there = given_there d.channels k d.selected ss ∙ s.selected_there;
    every_row = given_rows d.channels k ss ∙ s.every_row;
  }
  sound_device d c (Ok opens) o s = record { selected_there = s.selected_there; every_row = s.every_row }
  sound_device d c (Ok closes) o s = record { selected_there = s.selected_there; every_row = s.every_row }
  sound_device d c (Ok restarts) o s = record {
    selected_there = first_there d.channels (let p = there d.channels d.selected s.selected_there in omega arith);
    every_row = mapped_length inactive_row (rows_present d.channels) d.channels.rows ∙ s.every_row;
  }

  sound_by : (o : Option (Device V)) (c : Call) (x : Result (Act V) Fault) → ((a : Act V) → x ≡ Ok a → OriginIn m o c a)
      → Sound (record { device = o }) → Sound (record { device = next_by m o x })
  sound_by (Some d) c x o s = sound_device d c x o s
  sound_by None c (Ok (starts e)) o s = sound_fresh e (o (starts e) refl)
  sound_by None c x o s = tt

  pub sound_next : (s : Sensor V) (c : Call) → Sound s → Sound (next m s c)
  sound_next s c h = sound_by s.device c (checked m s c) (origin_of m s c) h

  sound_from : (s : Sensor V) (cs : List Call) → Sound s → Sound (after m s cs)
  sound_from s [] h = h
  sound_from s (c ∷ cs) h = sound_from (next m s c) cs (sound_next s c h)

  -- after each list of calls that a sensor takes from blank on
  pub sound_after : (cs : List Call) → Sound (after m blank cs)
  sound_after cs = sound_from blank cs tt
