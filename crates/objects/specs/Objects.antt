-- What a request may reach, by index and subindex, and what it asks for there.
use Rattle.std.specs.Prelude.{◌≡◌, ℕ, ◌-◌, ◌/◌, ◌%◌, Bool, true, cond, ◌&&◌, List, length, take, drop}
use Rattle.std.specs.Prelude.{is_some, Some, None, Ok, Err, Option, Result, ◌==◌, nat_le, nat_lt, slice_index}
use Rattle.faults.specs.declared.Fault.{Fault}
use Rattle.faults.specs.declared.Place.{Place}
use Rattle.faults.specs.declared.Denial.TheVariants.{NoIndex, NoSubindex, WrongDirection}
use Rattle.faults.specs.declared.Denial.TheVariants.{DataTooLong, DataTooShort, WriteUnderKeypad}
use Rattle.faults.specs.Denials.{fault_at, then}
use Rattle.isdu.specs.declared.Direction.{Direction}
use Rattle.isdu.specs.Requests.{Asked}
use Rattle.octets.specs.Numbers.{two_number}
use Rattle.kinds.specs.Meaning.{Meaning}
use Rattle.channels.specs.declared.table.Table.{Table}
use Rattle.channels.specs.Table.{has_channel, row_at}
use Rattle.objects.specs.declared.access.Access.{Access}
use Rattle.objects.specs.declared.access.Access.TheVariants.{Read, Write}
use Rattle.objects.specs.declared.access.Content.{Content}
use Rattle.objects.specs.declared.access.Shown.{Shown}
use Rattle.objects.specs.declared.access.Written.{Written}
use Rattle.objects.specs.declared.object.Item.{Item}
use Rattle.objects.specs.declared.object.Object.{Object}
use Rattle.objects.specs.declared.object.Object.TheVariants.{SystemCommand, TeachSelect, TeachResult}
use Rattle.objects.specs.declared.object.Object.TheVariants.{Setpoints, Configuration}
use Rattle.objects.specs.declared.part.Part.{Part}
use Rattle.objects.specs.Parts.{configuration_part, part_length, setpoints_part}

-- from the first number to the last
abbrev pub from_to : ℕ → ℕ → ℕ → Bool
from_to first last n = nat_le first n && nat_le n last

-- ---- the object at an index

-- the channel that an index belongs to: 60 and 61 are channel 1's, 62 and 63 channel 2's,
-- 0x4000 + 2(k-3) and the next channel k's, for k from 3 to 8; every other index belongs to none
abbrev pub channel_of : ℕ → Option ℕ
channel_of i =
    cond (from_to 60 63 i) (Some ((i - 58) / 2))
    (cond (from_to 0x4000 0x400b i) (Some ((i - 0x3ffa) / 2)) None)

-- a channel's first index is its setpoints, the next its configuration
abbrev pub of_channel : ℕ → ℕ → Object
of_channel k i = cond (i % 2 == 0) (Setpoints k) (Configuration k)

-- the object of an index of a channel that is present
abbrev pub channel_object : {V : Type 0} → Table V → ℕ → Option ℕ → Option Object
channel_object t i None = None
channel_object t i (Some k) = cond (has_channel t k) (Some (of_channel k i)) None

-- 2 SystemCommand, 58 TeachSelect, 59 TeachResult, then the channels that are present
abbrev pub object_at : {V : Type 0} → Table V → ℕ → Option Object
object_at t i =
    cond (i == 2) (Some SystemCommand)
    (cond (i == 58) (Some TeachSelect)
    (cond (i == 59) (Some TeachResult)
    (channel_object t i (channel_of i))))

-- ---- the item at a subindex: the first three objects have no parts

abbrev pub only_whole : ℕ → Item → Option Item
only_whole n i = cond (n == 0) (Some i) None

abbrev pub on_channel : ℕ → Option Part → Option Item
on_channel k None = None
on_channel k (Some p) = Some (Item.Channel k p)

abbrev pub item_at : Object → ℕ → Option Item
item_at SystemCommand n = only_whole n Item.SystemCommand
item_at TeachSelect n = only_whole n Item.TeachSelect
item_at TeachResult n = only_whole n Item.TeachResult
item_at (Setpoints k) n = on_channel k (setpoints_part n)
item_at (Configuration k) n = on_channel k (configuration_part n)

-- ---- what a write brings, its octets in their number

-- SP1 and then SP2, of w octets each; logic, mode and hysteresis, of two octets
abbrev pub content_of : ℕ → Part → List ℕ → Content (List ℕ)
content_of w Part.Setpoints octets = Content.Setpoints (take w octets) (drop w octets)
content_of w Part.Sp1 octets = Content.Sp1 octets
content_of w Part.Sp2 octets = Content.Sp2 octets
content_of w Part.Configuration octets =
    Content.Configuration (slice_index octets 0) (slice_index octets 1)
    (two_number (slice_index octets 2) (slice_index octets 3))
content_of w Part.Logic octets = Content.Logic (slice_index octets 0)
content_of w Part.Mode octets = Content.Mode (slice_index octets 0)
content_of w Part.Hysteresis octets = Content.Hysteresis (two_number (slice_index octets 0) (slice_index octets 1))

-- ---- the checks of an access

abbrev pub place_of : Asked → Place
place_of a = record { index = a.index; subindex = a.subindex }

-- 11: no such index
abbrev pub index_checked : Asked → Option Object → Result Object Fault
index_checked a None = Err (fault_at NoIndex (place_of a))
index_checked a (Some o) = Ok o

-- 12: no such subindex
abbrev pub subindex_checked : Asked → Option Item → Result Item Fault
subindex_checked a None = Err (fault_at NoSubindex (place_of a))
subindex_checked a (Some i) = Ok i

abbrev pub item_found : {V : Type 0} → Table V → Asked → Result Item Fault
item_found t a = then (index_checked a (object_at t a.index)) (λ o. subindex_checked a (item_at o a.subindex))

-- 13: SystemCommand is only written
abbrev pub read_checked : Asked → Item → Result Shown Fault
read_checked a Item.SystemCommand = Err (fault_at WrongDirection (place_of a))
read_checked a Item.TeachSelect = Ok Shown.Selected
read_checked a Item.TeachResult = Ok Shown.TeachResult
read_checked a (Item.Channel k p) = Ok (Shown.Channel k p)

-- 14: the data is too long. 15: too short. 16: a write while a keypad operation is open
abbrev pub data_checked : Bool → Asked → ℕ → Result (Unit {0}) Fault
data_checked keypad a n =
    cond (nat_lt n (length a.octets)) (Err (fault_at DataTooLong (place_of a)))
    (cond (nat_lt (length a.octets) n) (Err (fault_at DataTooShort (place_of a)))
    (cond keypad (Err (fault_at WriteUnderKeypad (place_of a)))
    (Ok tt)))

module _ {V : Type 0} (m : Meaning V) where
  -- 13: TeachResult is only read. Then 14 and 15 by the number of octets, and 16
  abbrev pub write_checked : Bool → Asked → Item → Result (Written (List ℕ)) Fault
  write_checked keypad a Item.SystemCommand =
      then (data_checked keypad a 1) (λ _. Ok (Written.Command (slice_index a.octets 0)))
  write_checked keypad a Item.TeachSelect =
      then (data_checked keypad a 1) (λ _. Ok (Written.Select (slice_index a.octets 0)))
  write_checked keypad a Item.TeachResult = Err (fault_at WrongDirection (place_of a))
  write_checked keypad a (Item.Channel k p) =
      then (data_checked keypad a (part_length m.width p)) (λ _. Ok (Written.Channel k (content_of m.width p a.octets)))

  abbrev pub item_checked : Bool → Asked → Direction → Item → Result (Access (List ℕ)) Fault
  item_checked keypad a Direction.Read i = then (read_checked a i) (λ s. Ok (Read s))
  item_checked keypad a Direction.Write i = then (write_checked keypad a i) (λ w. Ok (Write w))

  -- the checks 11 to 16 in their order, and what the request asks for
  abbrev pub access_checked : Table V → Bool → Asked → Result (Access (List ℕ)) Fault
  access_checked t keypad a = then (item_found t a) (item_checked keypad a a.direction)

module _ {V : Type 0} where
  -- a channel has its row
  abbrev pub HasRow : Table V → ℕ → Type 0
  HasRow t k = is_some (row_at t k) ≡ true

  -- the channel of an object, of an item, of what is shown or written has its row
  abbrev pub ObjectHasRow : Table V → Object → Type 0
  ObjectHasRow t SystemCommand = Unit {0}
  ObjectHasRow t TeachSelect = Unit {0}
  ObjectHasRow t TeachResult = Unit {0}
  ObjectHasRow t (Setpoints k) = HasRow t k
  ObjectHasRow t (Configuration k) = HasRow t k

  abbrev pub ItemHasRow : Table V → Item → Type 0
  ItemHasRow t Item.SystemCommand = Unit {0}
  ItemHasRow t Item.TeachSelect = Unit {0}
  ItemHasRow t Item.TeachResult = Unit {0}
  ItemHasRow t (Item.Channel k p) = HasRow t k

  abbrev pub ShownHasRow : Table V → Shown → Type 0
  ShownHasRow t Shown.Selected = Unit {0}
  ShownHasRow t Shown.TeachResult = Unit {0}
  ShownHasRow t (Shown.Channel k p) = HasRow t k

  abbrev pub WrittenHasRow : {T : Type 0} → Table V → Written T → Type 0
  WrittenHasRow t (Written.Command code) = Unit {0}
  WrittenHasRow t (Written.Select channel) = Unit {0}
  WrittenHasRow t (Written.Channel k c) = HasRow t k

  abbrev pub AccessHasRow : {T : Type 0} → Table V → Access T → Type 0
  AccessHasRow t (Read s) = ShownHasRow t s
  AccessHasRow t (Write w) = WrittenHasRow t w
