-- The denials: number, layer and, where a negative response tells of one, its ErrorCode; and how a layer, a denial, a
-- place and a fault are printed.
use Rattle.std.specs.Prelude.{ℕ, cond, ◌&&◌, List, [], ◌++◌, Some, None, Ok, Err, Option, Result, ◌==◌, codes, decimal}
use Rattle.faults.specs.declared.Denial.{Denial}
use Rattle.faults.specs.declared.Denial.TheVariants.{SetupUnderKeypad, ChannelCount, Range, CaptureLength, Blank}
use Rattle.faults.specs.declared.Denial.TheVariants.{BufferTooShort, ResponseBuffer, FrameLength, CheckOctet, Service}
use Rattle.faults.specs.declared.Denial.TheVariants.{NoIndex, NoSubindex, WrongDirection, DataTooLong, DataTooShort}
use Rattle.faults.specs.declared.Denial.TheVariants.{WriteUnderKeypad, NoValue, AboveRange, BelowRange}
use Rattle.faults.specs.declared.Denial.TheVariants.{UnknownCommand, NotInState, AlreadyOpen, TeachRunning}
use Rattle.faults.specs.declared.Denial.TheVariants.{OtherSerial, NotOpen, NoSetpoint, NoFrame}
use Rattle.faults.specs.declared.Layer.{Layer}
use Rattle.faults.specs.declared.Layer.TheVariants.{Device, Frame, Access, Value, Teach, Keypad}
use Rattle.faults.specs.declared.Fault.{Fault}
use Rattle.faults.specs.declared.Place.{Place}

pub record Entry : Type 0 where
  pub number : ℕ
  pub layer : Layer
  pub code : Option ℕ

-- a denial that no response tells of
abbrev silent : ℕ → Layer → Entry
silent n l = record { number = n; layer = l; code = None }

-- a denial that a negative response tells of, by its ErrorCode
abbrev answered : ℕ → Layer → ℕ → Entry
answered n l c = record { number = n; layer = l; code = Some c }

abbrev pub entry : Denial → Entry
entry SetupUnderKeypad = silent 1 Device
entry ChannelCount = silent 2 Device
entry Range = silent 3 Device
entry CaptureLength = silent 4 Device
entry Blank = silent 5 Device
entry BufferTooShort = silent 6 Device
entry ResponseBuffer = silent 7 Frame
entry FrameLength = silent 8 Frame
entry CheckOctet = silent 9 Frame
entry Service = silent 10 Frame
entry NoIndex = answered 11 Access 0x8011
entry NoSubindex = answered 12 Access 0x8012
entry WrongDirection = answered 13 Access 0x8023
entry DataTooLong = answered 14 Access 0x8033
entry DataTooShort = answered 15 Access 0x8034
entry WriteUnderKeypad = answered 16 Keypad 0x8021
entry NoValue = answered 17 Value 0x8030
entry AboveRange = answered 18 Value 0x8031
entry BelowRange = answered 19 Value 0x8032
entry UnknownCommand = answered 20 Teach 0x8035
entry NotInState = answered 21 Teach 0x8036
entry AlreadyOpen = silent 22 Keypad
entry TeachRunning = silent 23 Keypad
entry OtherSerial = silent 24 Keypad
entry NotOpen = silent 25 Keypad
entry NoSetpoint = silent 26 Keypad
entry NoFrame = silent 27 Frame

-- the word that a layer is printed as
abbrev pub layer_text : Layer → List ℕ
layer_text Device = codes "device"
layer_text Frame = codes "frame"
layer_text Access = codes "access"
layer_text Value = codes "value"
layer_text Teach = codes "teach"
layer_text Keypad = codes "keypad"

-- a denial in words
abbrev pub denial_text : Denial → List ℕ
denial_text SetupUnderKeypad = codes "set-up while a keypad operation is open"
denial_text ChannelCount = codes "channel count not 1 to 8"
denial_text Range = codes "range ends out of order or past the limits"
denial_text CaptureLength = codes "capture length not 1 to 64"
denial_text Blank = codes "sensor not set up"
denial_text BufferTooShort = codes "buffer too short"
denial_text ResponseBuffer = codes "response buffer under 16 octets"
denial_text FrameLength = codes "wrong frame length"
denial_text CheckOctet = codes "wrong check octet"
denial_text Service = codes "no such service, or fields that do not fit it"
denial_text NoIndex = codes "no such index"
denial_text NoSubindex = codes "no such subindex"
denial_text WrongDirection = codes "object not read or not written"
denial_text DataTooLong = codes "data too long"
denial_text DataTooShort = codes "data too short"
denial_text WriteUnderKeypad = codes "write while a keypad operation is open"
denial_text NoValue = codes "no value of the kind, or a code out of its table"
denial_text AboveRange = codes "setpoint above the range"
denial_text BelowRange = codes "setpoint below the range"
denial_text UnknownCommand = codes "unknown command"
denial_text NotInState = codes "command not in the teach state's row"
denial_text AlreadyOpen = codes "keypad operation already open"
denial_text TeachRunning = codes "teach not idle"
denial_text OtherSerial = codes "ticket of another serial number"
denial_text NotOpen = codes "no keypad operation open"
denial_text NoSetpoint = codes "no such channel or setpoint"
denial_text NoFrame = codes "no frame holds it"

-- the fault of a denial that concerns the object at a place
abbrev pub fault_at : Denial → Place → Fault
fault_at d p = record { denial = d; place = p }

-- where no object is concerned, index and subindex are 0
abbrev pub no_object : Place
no_object = record { index = 0; subindex = 0 }

-- the fault of a denial that concerns no object
abbrev pub fault : Denial → Fault
fault d = fault_at d no_object

-- where a fault is, unless it concerns no object
abbrev pub place_text : Place → List ℕ
place_text p =
    cond (p.index == 0 && p.subindex == 0) []
    (codes " at index " ++ decimal p.index ++ codes ", subindex " ++ decimal p.subindex)

-- a fault on one line: number, layer, place, and the denial in words
abbrev pub fault_text : Fault → List ℕ
fault_text f =
    codes "denial " ++ decimal (entry f.denial).number ++ codes " (" ++ layer_text (entry f.denial).layer ++ codes ")"
    ++ place_text f.place ++ codes ": " ++ denial_text f.denial

-- the first denial, or what follows
abbrev pub then : {A B : Type 0} → Result A Fault → (A → Result B Fault) → Result B Fault
then (Ok a) f = f a
then (Err e) f = Err e
