-- What each call of a sensor leaves of the ticket that is due.
use Rattle.std.proofs.Common.{◌≡◌, ℕ, Bool, true, false, cond, not, ltb, List, ◌∷◌, [], Some, None, Ok, Err, Option}
use Rattle.std.proofs.Common.{Result, IfOk, refl, sym, ap, ◌∙◌, eqb, eq-eqb}
use Rattle.std.proofs.lemmas.Bool.{eqb-true, false≢true}
use Rattle.faults.specs.declared.Fault.{Fault}
use Rattle.faults.specs.declared.Place.{Place}
use Rattle.faults.specs.declared.Denial.TheVariants.{AlreadyOpen, BufferTooShort, CaptureLength, ChannelCount, NotOpen}
use Rattle.faults.specs.declared.Denial.TheVariants.{OtherSerial, Range, ResponseBuffer, TeachRunning}
use Rattle.faults.specs.Denials.{fault, then}
use Rattle.isdu.specs.Decoding.{decoded}
use Rattle.isdu.specs.Requests.{Asked}
use Rattle.keypad.specs.declared.Ticket.{Ticket}
use Rattle.keypad.specs.declared.Unclosed.{Unclosed}
use Rattle.keypad.specs.Operations.{returned, serial_of, ticket_of, ticketed}
use Rattle.kinds.specs.Meaning.{Meaning}
use Rattle.channels.specs.declared.range.Range as Ranges
use Rattle.channels.specs.declared.reading.Reading.{Reading}
use Rattle.channels.specs.Readings.{process_data_length, within}
use Rattle.channels.specs.Table.{most_channels}
use Rattle.teach.specs.declared.teaching.Store.{Store}
use Rattle.teach.specs.Teaching.{is_idle}
use Rattle.objects.specs.declared.access.Access.{Access}
use Rattle.objects.specs.declared.access.Access.TheVariants.{Read, Write}
use Rattle.objects.specs.Objects.{access_checked, from_to, place_of}
use Rattle.sensor.specs.declared.device.Device.{Device}
use Rattle.sensor.specs.declared.sensor.Sensor.{Sensor}
use Rattle.sensor.specs.declared.setup.Setup.{Setup}
use Rattle.sensor.specs.Calls.{Call, set_up, sample, request, open_keypad, write_keypad, close_keypad, restart, Act}
use Rattle.sensor.specs.Calls.{starts, opens, closes, to_close, to_sample, to_write}
use Rattle.sensor.specs.Devices.{setpoint_setting}
use Rattle.sensor.specs.Keypad.{keypad_checked}
use Rattle.sensor.specs.Requests.{access_asked, asked_of, request_asked, response_room, write_asked}
use Rattle.sensor.specs.Rules.{carried, checked, checked_by, device_by, keypad_open, next, next_by, serial}
use Rattle.sensor.specs.Samples.{reading_of, sample_asked}
use Rattle.sensor.specs.Setups.{ends_checked, fresh_device, lawful_range, range_checked, set_up_checked}
use Rattle.sensor.proofs.Orders.{Writing, write_writes}
use Rattle.sensor.proofs.Starting.{denied_next, set_up_is}
use Rattle.bench_sensor.specs.Kept.{due, due_from}

some_ticket : (t u : Ticket) → Some t ≡ Some u → t ≡ u
some_ticket t u e = cc

unclosed_same : (u v : Unclosed) → ◌≡◌ {A = Result (Unit {0}) Unclosed} (Err u) (Err v) → u ≡ v
unclosed_same u v e = cc

module _ {V : Type 0} (m : Meaning V) where
  -- ---- calls that leave it

  -- what these calls do
  abbrev Leaves : Act V → Type 0
  Leaves (starts e) = ⊥
  Leaves opens = ⊥
  Leaves closes = ⊥
  Leaves a = Unit {0}

  left_by : (o : Option (Device V)) (x : Result (Act V) Fault) → IfOk x Leaves → due_from (next_by m o x) ≡ due_from o
  left_by None (Err f) h = refl
  left_by None (Ok (starts e)) h = absurd h
  left_by None (Ok a) h = refl
  left_by (Some d) (Err f) h = refl
  left_by (Some d) (Ok (starts e)) h = absurd h
  left_by (Some d) (Ok opens) h = absurd h
  left_by (Some d) (Ok closes) h = absurd h
  left_by (Some d) (Ok a) h = refl

  sample_leaves : (d : Device V) (o : Option (Reading V)) (room : ℕ)
      → IfOk (carried m d (sample_asked m d o room)) Leaves
  sample_leaves d None room = tt
  sample_leaves d (Some r) room = go (ltb room (process_data_length m))
    where
      go : (b : Bool) → IfOk (carried m d
          (cond b (Err (fault BufferTooShort)) (Ok (to_sample (within m d.range.low d.range.high r))))) Leaves
      go true = tt
      go false = tt

  writing_leaves : (x : Result (Act V) Fault) → IfOk x Writing → IfOk x Leaves
  writing_leaves (Err f) h = tt
  writing_leaves (Ok (starts e)) h = h
  writing_leaves (Ok opens) h = h
  writing_leaves (Ok closes) h = h
  writing_leaves (Ok a) h = tt

  access_leaves : (d : Device V) (place : Place) (x : Result (Access (List ℕ)) Fault)
      → IfOk (carried m d (then x (access_asked m d place))) Leaves
  access_leaves d place (Err f) = tt
  access_leaves d place (Ok (Read shown)) = tt
  access_leaves d place (Ok (Write w)) = writing_leaves (carried m d (write_asked m d place w))
      (write_writes m d place w)

  request_leaves : (d : Device V) (frame : List ℕ) (room : ℕ) → IfOk (carried m d (request_asked m d frame room)) Leaves
  request_leaves d frame room = go (ltb room response_room) (decoded frame)
    where
      go : (b : Bool) (a : Result Asked Fault)
          → IfOk (carried m d (cond b (Err (fault ResponseBuffer)) (then a (asked_of m d)))) Leaves
      go true a = tt
      go false (Err f) = tt
      go false (Ok a) = access_leaves d (place_of a) (access_checked m d.channels d.keypad.is_open a)

  write_leaves : (d : Device V) (k : ℕ) (x : Result (Store V) Fault)
      → IfOk (carried m d (then x (λ s. Ok (to_write k (setpoint_setting s.setpoint s.value ∷ []))))) Leaves
  write_leaves d k (Err f) = tt
  write_leaves d k (Ok s) = tt

  -- ---- a set-up: it meets no open operation, and leaves none

  abbrev NoneOpen : Bool → Device V → Type 0
  NoneOpen keypad e = (keypad ≡ false) × (e.keypad.is_open ≡ false)

  set_up_closed : (keypad : Bool) (g : Setup (List ℕ)) → IfOk (set_up_checked m keypad g) (NoneOpen keypad)
  set_up_closed true g = tt
  set_up_closed false g = by_count (not (from_to 1 most_channels g.channels))
      (ends_checked m (m.read g.range.low) (m.read g.range.high))
    where
      by_range : (a b : Bool) (range : Ranges.Range V)
          → IfOk (cond a (Err (fault Range)) (cond b (Err (fault CaptureLength)) (Ok (fresh_device g range))))
          (NoneOpen false)
      by_range true b range = tt
      by_range false true range = tt
      by_range false false range = (refl, refl)

      by_count : (b : Bool) (x : Result (Ranges.Range V) Fault)
          → IfOk (cond b (Err (fault ChannelCount)) (then x (range_checked m g))) (NoneOpen false)
      by_count true x = tt
      by_count false (Err f) = tt
      by_count false (Ok range) = by_range (not (lawful_range m range)) (not (from_to 1 64 g.terms.capture)) range

  none_due : (o : Option (Device V)) → keypad_open (record { device = o }) ≡ false → due_from o ≡ None
  none_due None e = refl
  none_due (Some d) e = ap (λ (b : Bool). cond b (Some (ticket_of d.keypad.serial)) None) e

  set_up_left : (o : Option (Device V)) (y : Result (Device V) Fault)
      → IfOk y (NoneOpen (keypad_open (record { device = o })))
      → due_from (next_by m o (then y (λ e. Ok (starts e)))) ≡ due_from o
  set_up_left None (Err f) h = refl
  set_up_left (Some d) (Err f) h = refl
  set_up_left None (Ok e) h = none_due (Some e) h.1
  set_up_left (Some d) (Ok e) h = none_due (Some e) h.1 ∙ sym (none_due (Some d) h.0)

  -- ---- every call but an opening and a closing

  abbrev pub GivesAndTakesNone : Call → Type 0
  GivesAndTakesNone open_keypad = ⊥
  GivesAndTakesNone (close_keypad serial) = ⊥
  GivesAndTakesNone c = Unit {0}

  due_by : (o : Option (Device V)) (c : Call) → GivesAndTakesNone c
      → due_from (next_by m o (checked_by m o c)) ≡ due_from o
  unfolding checked
  due_by o (set_up g) h =
      let keypad = keypad_open (record { device = o }) in
      ap (λ x. due_from (next_by m o x)) (set_up_is m (record { device = o }) g)
      ∙ set_up_left o (set_up_checked m keypad g) (set_up_closed keypad g)
  due_by o open_keypad h = absurd h
  due_by o (close_keypad serial) h = absurd h
  due_by None c h = refl
  due_by (Some d) (sample r room) h = left_by (Some d) (checked_by m (Some d) (sample r room))
      (sample_leaves d (reading_of m r) room)
  due_by (Some d) (request frame room) h =
      left_by (Some d) (checked_by m (Some d) (request frame room)) (request_leaves d frame room)
  due_by (Some d) (write_keypad serial k n octets) h =
      left_by (Some d) (checked_by m (Some d) (write_keypad serial k n octets))
      (write_leaves d k (keypad_checked m d serial k n octets))
  due_by (Some d) restart h = refl

  -- a ticket that is kept stays due
  pub stays : (s t : Sensor V) (kept : Option Ticket) (c : Call) → GivesAndTakesNone c → kept ≡ due s → t ≡ next m s c
      → kept ≡ due t
  unfolding checked
  stays s t kept c h k e = k ∙ sym (due_by s.device c h) ∙ ap due (sym e)

  -- ---- openings

  -- what an opening comes to, by whether an operation is open and whether the teach is idle
  abbrev opening_by : Bool → Bool → Result (Act V) Fault
  opening_by a b = then (cond a (Err (fault AlreadyOpen)) (cond (not b) (Err (fault TeachRunning)) (Ok (tt {0}))))
      (λ _. Ok opens)

  -- an opening that is accepted meets no ticket that is due, and gives the one that then is
  open_by : (d : Device V) (t : Ticket) (a b : Bool) → d.keypad.is_open ≡ a
      → Ok t ≡ ticketed d.keypad.serial (opening_by a b)
      → (due_from (Some d) ≡ None) × (Some t ≡ due_from (Some (device_by m d (opening_by a b))))
  open_by d t true b i e = cc
  open_by d t false true i e = (none_due (Some d) i, cc)
  open_by d t false false i e = cc

  open_from : (o : Option (Device V)) (n : ℕ) (t : Ticket) → n ≡ serial (record { device = o })
      → Ok t ≡ ticketed n (checked_by m o open_keypad)
      → (due_from o ≡ None) × (Some t ≡ due_from (next_by m o (checked_by m o open_keypad)))
  open_from None n t i e = cc
  open_from (Some d) n t i e = open_by d t d.keypad.is_open (is_idle d.teach.state) refl (e
      ∙ ap (λ k. ticketed k (checked_by m (Some d) open_keypad)) i)

  pub opening : (s : Sensor V) (t : Ticket) → Ok t ≡ ticketed (serial s) (checked m s open_keypad)
      → (due s ≡ None) × (Some t ≡ due (next m s open_keypad))
  unfolding checked
  opening s t e = open_from s.device (serial s) t refl e

  -- a call that is denied leaves the sensor, with what is due
  denied : (s t : Sensor V) (kept : Option Ticket) (c : Call) (f : Fault) → kept ≡ due s → checked m s c ≡ Err f
      → t ≡ next m s c → kept ≡ due t
  denied s t kept c f k e i = k ∙ ap due_from (denied_next m s.device f ∙ ap (next_by m s.device) (sym e))
      ∙ ap due (sym i)

  unticketed : (n : ℕ) (x : Result (Act V) Fault) (f : Fault) → Err f ≡ ticketed n x → x ≡ Err f
  unticketed n (Ok a) f e = cc
  unticketed n (Err g) f e = cc

  pub not_opened : (s t : Sensor V) (kept : Option Ticket) (f : Fault) → kept ≡ due s
      → Err f ≡ ticketed (serial s) (checked m s open_keypad)
      → t ≡ next m s open_keypad → kept ≡ due t
  not_opened s t kept f k e i = denied s t kept open_keypad f k (unticketed (serial s) (checked m s open_keypad) f e) i

  -- ---- closings

  -- what a closing comes to, by whether its ticket bears the serial number and whether an operation is open
  abbrev closing_by : Device V → Bool → Bool → Result (Act V) Fault
  closing_by d a b = carried m d (then (cond (not a) (Err (fault OtherSerial))
      (cond (not b) (Err (fault NotOpen)) (Ok (tt {0})))) (λ _. Ok to_close))

  -- a sensor takes back the ticket that is due, which bears its serial number
  takes_back_by : (d : Device V) (t : Ticket) (b : Bool) → d.keypad.is_open ≡ b
      → Some t ≡ cond b (Some (ticket_of d.keypad.serial)) None
      → (checked_by m (Some d) (close_keypad (serial_of t)) ≡ Ok closes) × (serial_of t ≡ d.keypad.serial)
  takes_back_by d t false i e = cc
  takes_back_by d t true i e =
      let same = some_ticket t (ticket_of d.keypad.serial) e in
      let n : serial_of t ≡ d.keypad.serial = ap serial_of same in (
        ap (λ k. checked_by m (Some d) (close_keypad k)) n
            ∙ go (eqb d.keypad.serial d.keypad.serial) d.keypad.is_open (eq-eqb d.keypad.serial d.keypad.serial refl) i,
        n,
      )
    where
      go : (a b : Bool) → a ≡ true → b ≡ true → closing_by d a b ≡ Ok closes
      go true true p q = refl
      go false b p q = absurd (false≢true p)
      go true false p q = absurd (false≢true q)

  takes_back_from : (o : Option (Device V)) (t : Ticket) → Some t ≡ due_from o
      → (checked_by m o (close_keypad (serial_of t)) ≡ Ok closes) × (serial_of t ≡ serial (record { device = o }))
  takes_back_from None t e = cc
  takes_back_from (Some d) t e = takes_back_by d t d.keypad.is_open refl e

  pub takes_back : (s : Sensor V) (t : Ticket) → Some t ≡ due s → (checked m s (close_keypad (serial_of t)) ≡ Ok closes)
      × (serial_of t ≡ serial s)
  unfolding checked
  takes_back s t e = takes_back_from s.device t e

  not_refused : (t : Ticket) (x : Result (Act V) Fault) (u : Unclosed) → x ≡ Ok closes → Err u ≡ returned t x → ⊥
  not_refused t (Ok a) u i e = cc
  not_refused t (Err f) u i e = cc

  pub closes_with_its_own : (s : Sensor V) (t : Ticket) (u : Unclosed) → Some t ≡ due s
      → Err u ≡ returned t (checked m s (close_keypad (serial_of t))) → ⊥
  closes_with_its_own s t u k e = not_refused t (checked m s (close_keypad (serial_of t))) u (takes_back s t k).0 e

  -- a closing that is accepted takes the ticket that is due, and leaves none
  close_by : (d : Device V) (t : Ticket) (a b : Bool) → eqb d.keypad.serial (serial_of t) ≡ a → d.keypad.is_open ≡ b
      → Ok tt ≡ returned t (closing_by d a b)
      → (due_from (Some d) ≡ Some (ticket_of (serial_of t)))
      × (None ≡ due_from (Some (device_by m d (closing_by d a b))))
  close_by d t false b i j e = cc
  close_by d t true false i j e = cc
  close_by d t true true i j e = (
    ap (λ (b : Bool). cond b (Some (ticket_of d.keypad.serial)) None) j
        ∙ ap (λ n. Some (ticket_of n)) (eqb-true d.keypad.serial (serial_of t) i),
    refl,
  )

  close_from : (o : Option (Device V)) (t : Ticket) → Ok tt ≡ returned t (checked_by m o (close_keypad (serial_of t)))
      → (due_from o ≡ Some (ticket_of (serial_of t)))
      × (None ≡ due_from (next_by m o (checked_by m o (close_keypad (serial_of t)))))
  close_from None t e = cc
  close_from (Some d) t e = close_by d t (eqb d.keypad.serial (serial_of t)) d.keypad.is_open refl refl e

  pub closing : (s : Sensor V) (t : Ticket) → Ok tt ≡ returned t (checked m s (close_keypad (serial_of t)))
      → (due s ≡ Some (ticket_of (serial_of t))) × (None ≡ due (next m s (close_keypad (serial_of t))))
  unfolding checked
  closing s t e = close_from s.device t e

  -- which bears the serial number that the closing was asked for
  pub closed_serial : (s : Sensor V) (t own : Ticket) (n : ℕ) → serial_of t ≡ n → Some own ≡ due s
      → Ok tt ≡ returned t (checked m s (close_keypad (serial_of t)))
      → n ≡ serial_of own
  closed_serial s t own n i k e = sym (ap serial_of (some_ticket own (ticket_of (serial_of t)) (k ∙ (closing s t e).0))
      ∙ i)

  unreturned : (t : Ticket) (x : Result (Act V) Fault) (u : Unclosed) → Err u ≡ returned t x → (x ≡ Err u.fault)
      × (u.ticket ≡ t)
  unreturned t (Ok a) u e = cc
  unreturned t (Err f) u e =
      let same = unclosed_same u (record { fault = f; ticket = t }) e in
      (ap (λ (x : Unclosed). Err x.fault) (sym same), ap (λ (x : Unclosed). x.ticket) same)

  -- one that is denied hands its ticket back
  pub not_closed : (s t : Sensor V) (kept : Option Ticket) (given : Ticket) (u : Unclosed) → kept ≡ due s
      → Err u ≡ returned given (checked m s (close_keypad (serial_of given)))
      → t ≡ next m s (close_keypad (serial_of given))
      → (kept ≡ due t) × (u.ticket ≡ given)
  not_closed s t kept given u k e i =
      let c = close_keypad (serial_of given) in
      let p = unreturned given (checked m s c) u e in
      (denied s t kept c u.fault k p.0 i, p.1)

  -- where none is due, a closing changes nothing
  none_closed_from : (o : Option (Device V)) (n : ℕ) → None ≡ due_from o
      → o ≡ next_by m o (checked_by m o (close_keypad n))
  none_closed_from None n e = refl
  none_closed_from (Some d) n e = go (eqb d.keypad.serial n) d.keypad.is_open e
    where
      go : (a b : Bool) → None ≡ cond b (Some (ticket_of d.keypad.serial)) None
          → Some d ≡ Some (device_by m d (closing_by d a b))
      go a true e = cc
      go true false e = refl
      go false false e = refl

  pub none_closed : (s : Sensor V) (n : ℕ) → None ≡ due s → s ≡ next m s (close_keypad n)
  unfolding checked
  none_closed s n e = ap (λ o. record { device = o }) (none_closed_from s.device n e)
