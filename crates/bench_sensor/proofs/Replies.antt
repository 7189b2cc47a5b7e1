-- What each call answers by the length of what it wrote, and the buffers that stay.
use Rattle.std.proofs.Common.{◌≡◌, ℕ, Bool, true, false, cond, ltb, List, [], length, take, drop, Some, None, Ok, Err}
use Rattle.std.proofs.Common.{Option, Result, refl, ap, ◌∙◌}
use lib.Seq.{take-append_seam}
use Rattle.octets.specs.Buffers.{over}
use Rattle.faults.specs.declared.Fault.{Fault}
use Rattle.faults.specs.declared.Denial.TheVariants.{ResponseBuffer}
use Rattle.faults.specs.Denials.{entry, fault, then}
use Rattle.isdu.specs.declared.Direction.{Direction}
use Rattle.isdu.specs.Decoding.{decoded}
use Rattle.isdu.specs.Requests.{Asked}
use Rattle.isdu.proofs.Unanswered.{Unanswered, unanswered}
use Rattle.keypad.specs.declared.Ticket.{Ticket}
use Rattle.keypad.specs.declared.Unclosed.{Unclosed}
use Rattle.keypad.specs.Operations.{returned, serial_of, ticket_of, ticketed}
use Rattle.kinds.specs.Meaning.{Meaning}
use Rattle.channels.specs.declared.reading.Reading.{Reading}
use Rattle.sensor.specs.declared.device.Device.{Device}
use Rattle.sensor.specs.declared.sensor.Sensor.{Sensor}
use Rattle.sensor.specs.Answers.{counted, plain}
use Rattle.sensor.specs.Calls.{Call, sample, request, open_keypad, close_keypad, Act, accepted, denied}
use Rattle.sensor.specs.Requests.{asked_of, negative, refused, response_room}
use Rattle.sensor.specs.Rules.{carried, checked, checked_by, reply, reply_by, serial, written, written_by}
use Rattle.bench_sensor.specs.declared.call.Reply.{Reply}
use Rattle.bench_sensor.specs.declared.call.Reply.TheVariants.{Accepted, Ticket as TicketTold, Denied}
use Rattle.bench_sensor.specs.Told.{counted_told, numbered, plainly_told, read_from, refusal_length, responded_told}

module _ {V : Type 0} (m : Meaning V) where
  -- ---- calls that write nothing

  abbrev pub WritesNothing : Call → Type 0
  WritesNothing (sample r room) = ⊥
  WritesNothing (request frame room) = ⊥
  WritesNothing c = Unit {0}

  none_written : (o : Option (Device V)) (c : Call) (x : Result (Act V) Fault) → WritesNothing c
      → [] ≡ written_by m o c x
  none_written o (sample r room) x h = absurd h
  none_written o (request frame room) x h = absurd h
  none_written None c x h = refl
  none_written (Some d) c x h = refl

  pub buffer_stays : (s : Sensor V) (c d : Call) (buffer : List ℕ) → WritesNothing c → c ≡ d
      → buffer ≡ over (written m s d) buffer
  buffer_stays s c d buffer h e =
      ap (λ octets. over octets buffer) (none_written s.device c (checked m s c) h)
      ∙ ap (λ k. over (written m s k) buffer) e

  -- an opening is told by the serial number of its ticket
  abbrev pub Plain : Call → Type 0
  Plain open_keypad = ⊥
  Plain c = WritesNothing c

  plain_by : (n : ℕ) (o : Option (Device V)) (c : Call) (x : Result (Act V) Fault) → Plain c
      → plainly_told (plain x) ≡ numbered (reply_by m n c (written_by m o c x) x)
  plain_by n o (sample r room) x h = absurd h
  plain_by n o (request frame room) x h = absurd h
  plain_by n o open_keypad x h = absurd h
  plain_by n None c (Ok a) h = refl
  plain_by n None c (Err f) h = refl
  plain_by n (Some d) c (Ok a) h = refl
  plain_by n (Some d) c (Err f) h = refl

  pub plain_told : (s : Sensor V) (c d : Call) (answer : Result (Unit {0}) Fault) (r : Reply ℕ) → Plain c
      → r ≡ plainly_told answer → answer ≡ plain (checked m s c) → c ≡ d → r ≡ numbered (reply m s d)
  plain_told s c d answer r h e i k =
      e ∙ ap plainly_told i ∙ plain_by (serial s) s.device c (checked m s c) h
      ∙ ap (λ call. numbered (reply m s call)) k

  -- ---- openings and closings

  opened_by : (n : ℕ) (octets : List ℕ) (x : Result (Act V) Fault) (t : Ticket) → Ok t ≡ ticketed n x
      → TicketTold (serial_of t) ≡ numbered (reply_by m n open_keypad octets x)
  opened_by n octets (Ok a) t e = ap TicketTold (same t e)
    where
      same : (t : Ticket) → ◌≡◌ {A = Result Ticket Fault} (Ok t) (Ok (ticket_of n)) → serial_of t ≡ n
      same t e = cc
  opened_by n octets (Err f) t e = cc

  pub opened_told : (s : Sensor V) (t : Ticket) → Ok t ≡ ticketed (serial s) (checked m s open_keypad)
      → TicketTold (serial_of t) ≡ numbered (reply m s open_keypad)
  opened_told s t e = opened_by (serial s) (written m s open_keypad) (checked m s open_keypad) t e

  unopened_by : (n : ℕ) (o : Option (Device V)) (x : Result (Act V) Fault) (f : Fault) → Err f ≡ ticketed n x
      → Denied f 0 ≡ numbered (reply_by m n open_keypad (written_by m o open_keypad x) x)
  unopened_by n o (Ok a) f e = cc
  unopened_by n None (Err g) f e = cc
  unopened_by n (Some d) (Err g) f e = cc

  pub unopened_told : (s : Sensor V) (f : Fault) → Err f ≡ ticketed (serial s) (checked m s open_keypad)
      → Denied f 0 ≡ numbered (reply m s open_keypad)
  unopened_told s f e = unopened_by (serial s) s.device (checked m s open_keypad) f e

  closed_plain : (t : Ticket) (x : Result (Act V) Fault) → Ok tt ≡ returned t x → Ok tt ≡ plain x
  closed_plain t (Ok a) e = refl
  closed_plain t (Err f) e = cc

  unclosed_plain : (t : Ticket) (x : Result (Act V) Fault) (u : Unclosed) → Err u ≡ returned t x → Err u.fault ≡ plain x
  unclosed_plain t (Ok a) u e = cc
  unclosed_plain t (Err f) u e = cc

  pub closed_told : (s : Sensor V) (t : Ticket) (n : ℕ) → serial_of t ≡ n
      → Ok tt ≡ returned t (checked m s (close_keypad (serial_of t)))
      → Accepted 0 ≡ numbered (reply m s (close_keypad n))
  closed_told s t n i e =
      let c = close_keypad (serial_of t) in
      plain_told s c (close_keypad n) (Ok tt) (Accepted 0) tt refl (closed_plain t (checked m s c) e)
      (ap close_keypad i)

  pub unclosed_told : (s : Sensor V) (t : Ticket) (n : ℕ) (u : Unclosed) → serial_of t ≡ n
      → Err u ≡ returned t (checked m s (close_keypad (serial_of t)))
      → Denied u.fault 0 ≡ numbered (reply m s (close_keypad n))
  unclosed_told s t n u i e =
      let c = close_keypad (serial_of t) in
      plain_told s c (close_keypad n) (Err u.fault) (Denied u.fault 0) tt refl (unclosed_plain t (checked m s c) u e)
      (ap close_keypad i)

  -- ---- samples and requests

  sample_by : (n : ℕ) (o : Option (Device V)) (r : Reading (List ℕ)) (room : ℕ) (x : Result (Act V) Fault)
      → counted_told (counted (written_by m o (sample r room) x) x)
      ≡ numbered (reply_by m n (sample r room) (written_by m o (sample r room) x) x)
  sample_by n o r room (Ok a) = refl
  sample_by n None r room (Err f) = refl
  sample_by n (Some d) r room (Err f) = refl

  pub sample_told : (s : Sensor V) (r : Reading (List ℕ)) (room : ℕ) (d : Call) (answer : Result ℕ Fault)
      (told : Reply ℕ)
      → told ≡ counted_told answer → answer ≡ counted (written m s (sample r room)) (checked m s (sample r room))
      → sample r room ≡ d
      → told ≡ numbered (reply m s d)
  sample_told s r room d answer told e i k =
      e ∙ ap counted_told i ∙ sample_by (serial s) s.device r room (checked m s (sample r room))
      ∙ ap (λ call. numbered (reply m s call)) k

  -- a denial has a negative response where a request is there to answer, and the denial has an ErrorCode
  negative_length : (direction : Direction) (code : Option ℕ) → refusal_length code ≡ length (negative direction code)
  negative_length direction None = refl
  negative_length direction (Some code) = refl

  -- a frame that is no request is denied without one
  abbrev Silent : Result Asked Fault → Result (Act V) Fault → Type 0
  Silent (Ok a) x = Unit {0}
  Silent (Err e) (Ok a) = Unit {0}
  Silent (Err e) (Err f) = (entry f.denial).code ≡ None

  silent : (d : Device V) (b : Bool) (a : Result Asked Fault) → Unanswered a
      → Silent a (carried m d (cond b (Err (fault ResponseBuffer)) (then a (asked_of m d))))
  silent d b (Ok a) u = tt
  silent d true (Err f) u = refl
  silent d false (Err f) u = u

  refused_length : (a : Result Asked Fault) (f : Fault) → Silent a (Err f)
      → refusal_length (entry f.denial).code ≡ length (refused a f)
  refused_length (Ok a) f u = negative_length a.direction (entry f.denial).code
  refused_length (Err e) f u = ap refusal_length u

  request_by : (n : ℕ) (o : Option (Device V)) (frame : List ℕ) (room : ℕ)
      → responded_told (counted (written_by m o (request frame room) (checked_by m o (request frame room)))
      (checked_by m o (request frame room)))
      ≡ numbered (reply_by m n (request frame room)
      (written_by m o (request frame room) (checked_by m o (request frame room)))
      (checked_by m o (request frame room)))
  request_by n None frame room = refl
  request_by n (Some d) frame room = go (checked_by m (Some d) (request frame room))
      (silent d (ltb room response_room) (decoded frame) (unanswered frame))
    where
      go : (x : Result (Act V) Fault) → Silent (decoded frame) x
          → responded_told (counted (written_by m (Some d) (request frame room) x) x)
          ≡ numbered (reply_by m n (request frame room) (written_by m (Some d) (request frame room) x) x)
      go (Ok a) u = refl
      go (Err f) u = ap (Denied f) (refused_length (decoded frame) f u)

  unfolded : (s : Sensor V) (frame : List ℕ) (room : ℕ)
      → responded_told (counted (written m s (request frame room)) (checked m s (request frame room)))
      ≡ numbered (reply m s (request frame room))
  unfolding checked
  unfolded s frame room = request_by (serial s) s.device frame room

  pub request_told : (s : Sensor V) (frame : List ℕ) (room : ℕ) (d : Call) (answer : Result ℕ Fault) (told : Reply ℕ)
      → told ≡ responded_told answer → answer
      ≡ counted (written m s (request frame room)) (checked m s (request frame room)) → request frame room ≡ d
      → told ≡ numbered (reply m s d)
  request_told s frame room d answer told e i k =
      e ∙ ap responded_told i ∙ unfolded s frame room ∙ ap (λ call. numbered (reply m s call)) k

  -- ---- a reply is read back from the buffer that the call wrote to

  front : (octets buffer : List ℕ) → take (length octets) (over octets buffer) ≡ octets
  front octets buffer = take-append_seam octets (drop (length octets) buffer)

  read_by : (n : ℕ) (c : Call) (octets buffer : List ℕ) (x : Result (Act V) Fault)
      → read_from (over octets buffer) (numbered (reply_by m n c octets x)) ≡ reply_by m n c octets x
  read_by n open_keypad octets buffer (Ok a) = refl
  read_by n c octets buffer (Ok a) = ap accepted (front octets buffer)
  read_by n c octets buffer (Err f) = ap (denied f) (front octets buffer)

  pub read_back : (s : Sensor V) (c d : Call) (before buffer : List ℕ) (made : Reply ℕ)
      → made ≡ numbered (reply m s c) → buffer ≡ over (written m s c) before → c ≡ d
      → read_from buffer made ≡ reply m s d
  read_back s c d before buffer made e i k =
      ap (read_from buffer) e
      ∙ ap (λ octets. read_from octets (numbered (reply m s c))) i
      ∙ read_by (serial s) c (written m s c) before (checked m s c)
      ∙ ap (reply m s) k
