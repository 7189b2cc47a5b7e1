-- A request: its checks in their order but for those of a command, what a read shows, and the negative response.
use Rattle.std.specs.Prelude.{ℕ, max, Bool, cond, List, [], ◌∷◌, Some, None, Ok, Err, Option, Result, nat_lt}
use Rattle.faults.specs.declared.Fault.{Fault}
use Rattle.faults.specs.declared.Place.{Place}
use Rattle.faults.specs.declared.Denial.TheVariants.{NoValue, ResponseBuffer}
use Rattle.faults.specs.Denials.{entry, fault, fault_at, then}
use Rattle.isdu.specs.declared.Direction.{Direction}
use Rattle.isdu.specs.Decoding.{decoded}
use Rattle.isdu.specs.Replies.{refusal}
use Rattle.isdu.specs.Requests.{Asked}
use Rattle.kinds.specs.Meaning.{Meaning}
use Rattle.channels.specs.Table.{row_at, rows_present}
use Rattle.teach.specs.Teaching.{teach_result}
use Rattle.objects.specs.declared.access.Access.{Access}
use Rattle.objects.specs.declared.access.Access.TheVariants.{Read, Write}
use Rattle.objects.specs.declared.access.Shown.{Shown}
use Rattle.objects.specs.declared.access.Written.{Written}
use Rattle.objects.specs.Objects.{access_checked, place_of}
use Rattle.objects.specs.Reads.{part_read, row_read}
use Rattle.objects.specs.Writes.{settings_checked}
use Rattle.sensor.specs.declared.device.Device.{Device}
use Rattle.sensor.specs.Calls.{Order, to_show, to_select, to_command, to_write}

-- a response buffer has at least so many octets, so that every response has room
abbrev pub response_room : ℕ
response_room = 16

module _ {V : Type 0} where
  -- n is over the number of channels that are present
  abbrev pub past_count : Device V → ℕ → Bool
  past_count d n = nat_lt (rows_present d.channels) n

  -- 17: TeachSelect over the channel count; 0 means channel 1
  abbrev pub select_asked : Device V → Place → ℕ → Result (Order V) Fault
  select_asked d place n = cond (past_count d n) (Err (fault_at NoValue place)) (Ok (to_select (max n 1)))

module _ {V : Type 0} (m : Meaning V) where
  -- 17, 18 and 19: the values of a channel. A command is checked by the teach: 20 and 21
  abbrev pub write_asked : Device V → Place → Written (List ℕ) → Result (Order V) Fault
  write_asked d place (Written.Command code) = Ok (to_command place code)
  write_asked d place (Written.Select n) = select_asked d place n
  write_asked d place (Written.Channel k content) =
      then (settings_checked m d.range place.index content) (λ ss. Ok (to_write k ss))

  abbrev pub access_asked : Device V → Place → Access (List ℕ) → Result (Order V) Fault
  access_asked d place (Read shown) = Ok (to_show shown)
  access_asked d place (Write written) = write_asked d place written

  -- 11 to 16: the access. Then the values
  abbrev pub asked_of : Device V → Asked → Result (Order V) Fault
  asked_of d a = then (access_checked m d.channels d.keypad.is_open a) (access_asked d (place_of a))

  -- 7: the response buffer is too short. 8, 9, 10: the frame
  abbrev pub request_asked : Device V → List ℕ → ℕ → Result (Order V) Fault
  request_asked d frame room =
      cond (nat_lt room response_room) (Err (fault ResponseBuffer)) (then (decoded frame) (asked_of d))

  -- what a read shows
  abbrev pub octets_shown : Device V → Shown → List ℕ
  octets_shown d Shown.Selected = d.selected ∷ []
  octets_shown d Shown.TeachResult = teach_result d.teach ∷ []
  octets_shown d (Shown.Channel k p) = row_read (part_read m p) (row_at d.channels k)

-- the negative response tells a denial's ErrorCode; a denial without one has none
abbrev pub negative : Direction → Option ℕ → List ℕ
negative direction None = []
negative direction (Some code) = refusal direction code

-- the response to a request that is denied: a frame that is no request has none
abbrev pub refused : Result Asked Fault → Fault → List ℕ
refused (Ok a) f = negative a.direction (entry f.denial).code
refused (Err e) f = []
