-- Where what a call does comes from: the set-up, the teach's row or the fed value, and the checks that it passed.
use Rattle.std.proofs.Common.{◌≡◌, ℕ, ◌≤◌, max, Bool, true, false, cond, not, ltb, leb, List, [], ◌∷◌, Some, None, Ok}
use Rattle.std.proofs.Common.{Err, Option, Result, sym, refl, ap, subst, arith}
use Rattle.std.proofs.lemmas.Bool.{and_from, and_parts, le-leb, leb-true, ltb-false}
use Rattle.faults.specs.declared.Fault.{Fault}
use Rattle.faults.specs.declared.Place.{Place}
use Rattle.faults.specs.declared.Denial.TheVariants.{AlreadyOpen, Blank, BufferTooShort, CaptureLength, ChannelCount}
use Rattle.faults.specs.declared.Denial.TheVariants.{NoValue, NotInState, Range, ResponseBuffer, SetupUnderKeypad}
use Rattle.faults.specs.declared.Denial.TheVariants.{TeachRunning}
use Rattle.faults.specs.Denials.{fault, fault_at, then}
use Rattle.isdu.specs.Decoding.{decoded}
use Rattle.kinds.specs.Meaning.{Meaning}
use Rattle.channels.specs.declared.range.Range as Ranges
use Rattle.channels.specs.declared.reading.Reading.{Reading}
use Rattle.channels.specs.declared.table.Table.{Table}
use Rattle.channels.specs.Readings.{process_data_length, within}
use Rattle.channels.specs.Table.{fresh_table, has_channel, most_channels, rows_present}
use Rattle.teach.specs.declared.teaching.Store.{Store}
use Rattle.teach.specs.Machine.{Moved, row_checked}
use Rattle.teach.specs.Teaching.{commanded, idle, is_idle}
use Rattle.objects.specs.declared.access.Access.{Access}
use Rattle.objects.specs.declared.access.Access.TheVariants.{Read, Write}
use Rattle.objects.specs.declared.access.Written.{Written}
use Rattle.objects.specs.Objects.{access_checked, from_to, place_of}
use Rattle.objects.specs.Writes.{settings_checked}
use Rattle.sensor.specs.declared.device.Device.{Device}
use Rattle.sensor.specs.declared.sensor.Sensor.{Sensor}
use Rattle.sensor.specs.declared.setup.Setup.{Setup}
use Rattle.sensor.specs.Calls.{Call, set_up, sample, request, open_keypad, write_keypad, close_keypad, restart, Order}
use Rattle.sensor.specs.Calls.{to_start, to_sample, to_show, to_select, to_command, to_write, to_open, to_close}
use Rattle.sensor.specs.Calls.{to_restart, Act, starts, samples, shows, selects, commands, writes, opens, closes}
use Rattle.sensor.specs.Calls.{restarts}
use Rattle.sensor.specs.Devices.{setpoint_setting}
use Rattle.keypad.specs.Operations.{opening_checked, ticket_checked}
use Rattle.sensor.specs.Keypad.{keypad_checked}
use Rattle.sensor.specs.Requests.{access_asked, asked_of, octets_shown, past_count, response_room, write_asked}
use Rattle.sensor.specs.Rules.{asked, checked, checked_by, performed}
use Rattle.sensor.specs.Samples.{heard, reading_of, sample_asked}
use Rattle.sensor.specs.Setups.{ends_checked, fresh_device, lawful_range, range_checked, set_up_checked}

pub ok_same : {A : Type 0} (a b : A) → ◌≡◌ {A = Result A Fault} (Ok a) (Ok b) → a ≡ b
ok_same a b e = cc

pub err_ok : {A : Type 0} (f : Fault) (a : A) → ◌≡◌ {A = Result A Fault} (Err f) (Ok a) → ⊥
err_ok f a e = cc

-- a chain of checks that is passed passes each
pub passed : {A B : Type 0} (x : Result A Fault) (f : A → Result B Fault) (b : B) → then x f ≡ Ok b → (a : A)
    × (x ≡ Ok a) × (f a ≡ Ok b)
passed (Ok a) f b e = (a, refl, e)
passed (Err d) f b e = absurd (err_ok d b e)

pub past_test : {A : Type 0} (t : Bool) (f : Fault) (x : Result A Fault) (a : A) → cond t (Err f) x ≡ Ok a → (t ≡ false)
    × (x ≡ Ok a)
past_test true f x a e = absurd (err_ok f a e)
past_test false f x a e = (refl, e)

-- a test of a number's bounds that is passed
at_least : (first last n : ℕ) → not (from_to first last n) ≡ false → first ≤ n
at_least first last n e = leb-true first n (and_parts (leb first n) (leb n last) (go (from_to first last n) e)).0
  where
    go : (b : Bool) → not b ≡ false → b ≡ true
    go true e = refl
    go false e = sym e

-- the device that a set-up gives: its teach is idle, its first channel selected, its channels fresh and at least one,
-- and a capture takes at least one value
pub record Fresh {V : Type 0} (e : Device V) : Type 0 where
  pub teach : e.teach ≡ idle
  pub selected : e.selected ≡ 1
  pub count : ℕ
  pub channels : e.channels ≡ fresh_table count e.range.low e.range.high
  pub some_channel : 1 ≤ rows_present e.channels
  pub some_capture : 1 ≤ e.terms.capture

module _ {V : Type 0} (m : Meaning V) where
  -- ---- orders

  set_up_fresh : (keypad : Bool) (g : Setup (List ℕ)) (e : Device V) → set_up_checked m keypad g ≡ Ok e → Fresh e
  set_up_fresh keypad g e i =
      let ends : Result (Ranges.Range V) Fault = ends_checked m (m.read g.range.low) (m.read g.range.high) in
      let counted = past_test keypad (fault SetupUnderKeypad)
      (cond (not (from_to 1 most_channels g.channels)) (Err (fault ChannelCount)) (then ends (range_checked m g))) e
      i in
      let read = past_test (not (from_to 1 most_channels g.channels)) (fault ChannelCount)
      (then ends (range_checked m g)) e counted.1 in
      let ranged = passed ends (range_checked m g) e read.1 in
      let r : Ranges.Range V = ranged.0 in
      let fresh-device : Result (Device V) Fault = Ok (fresh_device g r) in
      let lawful = past_test (not (lawful_range m r)) (fault Range)
      (cond (not (from_to 1 64 g.terms.capture)) (Err (fault CaptureLength)) fresh-device) e ranged.2 in
      let all = past_test (not (from_to 1 64 g.terms.capture)) (fault CaptureLength) fresh-device e lawful.1 in
      let some : 1 ≤ g.channels = at_least 1 most_channels g.channels read.0 in
      let fresh : Fresh (fresh_device g r) = record {
        teach = refl;
        selected = refl;
        count = g.channels;
        channels = refl;
        some_channel = omega arith;
        some_capture = at_least 1 64 g.terms.capture all.0;
      } in
      subst Fresh (ok_same (fresh_device g r) e all.1) fresh

  -- a set-up gives a fresh device, and a channel that may be selected is there
  abbrev pub OrderFact : Table V → Order V → Type 0
  OrderFact t (to_start e) = Fresh e
  OrderFact t (to_select k) = 1 ≤ rows_present t → has_channel t k ≡ true
  OrderFact t o = Unit {0}

  selectable : (t : Table V) (n : ℕ) → ltb (rows_present t) n ≡ false → OrderFact t (to_select (max n 1))
  selectable t n e some =
      let h : n ≤ rows_present t = ltb-false (rows_present t) n e in
      and_from (leb 1 (max n 1)) (leb (max n 1) (rows_present t)) (le-leb 1 (max n 1) (omega arith))
      (le-leb (max n 1) (rows_present t) (omega arith))

  write_fact : (d : Device V) (place : Place) (w : Written (List ℕ)) (o : Order V) → write_asked m d place w ≡ Ok o
      → OrderFact d.channels o
  write_fact d place (Written.Command code) o e = subst (OrderFact d.channels) (ok_same (to_command place code) o e) tt
  write_fact d place (Written.Select n) o e =
      let p = past_test (past_count d n) (fault_at NoValue place) (Ok (to_select (max n 1))) o e in
      subst (OrderFact d.channels) (ok_same (to_select (max n 1)) o p.1) (selectable d.channels n p.0)
  write_fact d place (Written.Channel k content) o e =
      let p = passed (settings_checked m d.range place.index content) (λ ss. Ok (to_write k ss)) o e in
      subst (OrderFact d.channels) (ok_same (to_write k p.0) o p.2) tt

  access_fact : (d : Device V) (place : Place) (x : Access (List ℕ)) (o : Order V) → access_asked m d place x ≡ Ok o
      → OrderFact d.channels o
  access_fact d place (Read shown) o e = subst (OrderFact d.channels) (ok_same (to_show shown) o e) tt
  access_fact d place (Write w) o e = write_fact d place w o e

  sample_fact : (d : Device V) (r : Option (Reading V)) (room : ℕ) (o : Order V) → sample_asked m d r room ≡ Ok o
      → OrderFact d.channels o
  sample_fact d None room o e = absurd (err_ok (fault NoValue) o e)
  sample_fact d (Some r) room o e =
      let s : Order V = to_sample (within m d.range.low d.range.high r) in
      let p = past_test (ltb room (process_data_length m)) (fault BufferTooShort) (Ok s) o e in
      subst (OrderFact d.channels) (ok_same s o p.1) tt

  pub order_fact : (d : Device V) (c : Call) (o : Order V) → asked m d c ≡ Ok o → OrderFact d.channels o
  order_fact d (set_up g) o e =
      let p = passed (set_up_checked m d.keypad.is_open g) (λ f. Ok (to_start f)) o e in
      subst (OrderFact d.channels) (ok_same (to_start p.0) o p.2) (set_up_fresh d.keypad.is_open g p.0 p.1)
  order_fact d (sample r room) o e = sample_fact d (reading_of m r) room o e
  order_fact d (request frame room) o e =
      let p = past_test (ltb room response_room) (fault ResponseBuffer) (then (decoded frame) (asked_of m d)) o e in
      let q = passed (decoded frame) (asked_of m d) o p.1 in
      let s = passed (access_checked m d.channels d.keypad.is_open q.0) (access_asked m d (place_of q.0)) o q.2 in
      access_fact d (place_of q.0) s.0 o s.2
  order_fact d open_keypad o e = subst (OrderFact d.channels) (ok_same to_open o e) tt
  order_fact d (write_keypad serial k n octets) o e =
      let write : Store V → Order V = λ s. to_write k (setpoint_setting s.setpoint s.value ∷ []) in
      let p = passed (keypad_checked m d serial k n octets) (λ s. Ok (write s)) o e in
      subst (OrderFact d.channels) (ok_same (write p.0) o p.2) tt
  order_fact d (close_keypad serial) o e =
      let p = passed (ticket_checked d.keypad serial) (λ _. Ok to_close) o e in
      subst (OrderFact d.channels) (ok_same to_close o p.2) tt
  order_fact d restart o e = subst (OrderFact d.channels) (ok_same to_restart o e) tt

  -- ---- acts

  -- where what a call does to a device comes from
  abbrev pub Origin : Device V → Call → Act V → Type 0
  Origin d call (starts e) = Fresh e
  Origin d call (samples r x) = x ≡ heard m d r
  Origin d call (selects k) = 1 ≤ rows_present d.channels → has_channel d.channels k ≡ true
  Origin d call a = Unit {0}

  order_origin : (d : Device V) (call : Call) (o : Order V) (a : Act V) → asked m d call ≡ Ok o → performed m d o ≡ Ok a
      → Origin d call a
  order_origin d call (to_start f) a i e =
      subst (Origin d call) (ok_same (starts f) a e) (order_fact d call (to_start f) i)
  order_origin d call (to_sample r) a i e = subst (Origin d call) (ok_same (samples r (heard m d r)) a e) refl
  order_origin d call (to_show shown) a i e = subst (Origin d call) (ok_same (shows (octets_shown m d shown)) a e) tt
  order_origin d call (to_select k) a i e =
      subst (Origin d call) (ok_same (selects k) a e) (order_fact d call (to_select k) i)
  order_origin d call (to_command place code) a i e =
      let p = passed (commanded m d.terms place d.teach code) (λ x. Ok (commands x)) a e in
      subst (Origin d call) (ok_same (commands p.0) a p.2) tt
  order_origin d call (to_write k ss) a i e = subst (Origin d call) (ok_same (writes k ss) a e) tt
  order_origin d call to_open a i e =
      let p = passed (opening_checked d.keypad (is_idle d.teach.state)) (λ _. Ok opens) a e in
      subst (Origin d call) (ok_same opens a p.2) tt
  order_origin d call to_close a i e = subst (Origin d call) (ok_same closes a e) tt
  order_origin d call to_restart a i e = subst (Origin d call) (ok_same restarts a e) tt

  pub origin : (d : Device V) (c : Call) (a : Act V) → checked_by m (Some d) c ≡ Ok a → Origin d c a
  origin d c a e =
      let p = passed (asked m d c) (performed m d) a e in
      order_origin d c p.0 a p.1 p.2

  -- ---- a sensor

  -- a blank sensor takes a set-up alone
  abbrev BlankOrigin : Act V → Type 0
  BlankOrigin (starts e) = Fresh e
  BlankOrigin a = ⊥

  abbrev pub OriginIn : Option (Device V) → Call → Act V → Type 0
  OriginIn None c a = BlankOrigin a
  OriginIn (Some d) c a = Origin d c a

  blank_origin : (c : Call) (a : Act V) → checked_by m None c ≡ Ok a → BlankOrigin a
  blank_origin (set_up g) a e =
      let p = passed (set_up_checked m false g) (λ f. Ok (starts f)) a e in
      subst BlankOrigin (ok_same (starts p.0) a p.2) (set_up_fresh false g p.0 p.1)
  blank_origin c a e = absurd (err_ok (fault Blank) a e)

  origin_by : (o : Option (Device V)) (c : Call) (a : Act V) → checked_by m o c ≡ Ok a → OriginIn o c a
  origin_by None c a e = blank_origin c a e
  origin_by (Some d) c a e = origin d c a e

  pub origin_of : (s : Sensor V) (c : Call) (a : Act V) → checked m s c ≡ Ok a → OriginIn s.device c a
  unfolding checked
  origin_of s c a e = origin_by s.device c a e

  -- an accepted set-up gives a fresh device
  pub fresh_of : (s : Sensor V) (c : Call) (e : Device V) → checked m s c ≡ Ok (starts e) → Fresh e
  fresh_of s c e i = go s.device (origin_of s c (starts e) i)
    where
      go : (o : Option (Device V)) → OriginIn o c (starts e) → Fresh e
      go None f = f
      go (Some d) f = f
