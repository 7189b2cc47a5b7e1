-- Worked sessions on a sensor with one channel, range -100 to 10,000, scale 0, C 1, S 0, D 10: all of IntegerT16, but
-- for the one that says Float32T. Each is the replies to a list of calls on a blank sensor, a set-up first, but for the
-- one that tells a middle; every buffer has 16 octets.
use Rattle.std.specs.Prelude.{◌≡◌, ℕ, List, [], ◌∷◌, pos, negsuc, Ok, Err, Result}
use Rattle.faults.specs.declared.Fault.{Fault}
use Rattle.faults.specs.declared.Layer.{Layer}
use Rattle.faults.specs.Denials.{entry}
use Rattle.kinds.specs.declared.integer_t16.IntegerT16.{IntegerT16}
use Rattle.kinds.specs.Float32T.{floats}
use Rattle.kinds.specs.IntegerT16.{integer_t16}
use Rattle.kinds.specs.Integers.{integers}
use Rattle.kinds.specs.Meaning.{Meaning}
use Rattle.channels.specs.declared.reading.Reading.TheVariants.{Value}
use Rattle.sensor.specs.declared.setup.Setup.{Setup}
use Rattle.sensor.specs.declared.sensor.Sensor.{Sensor}
use Rattle.sensor.specs.Calls.{Call, set_up, sample, request, Reply, accepted, denied}
use Rattle.sensor.specs.Rules.{blank, next, reply}

abbrev int16 : Meaning IntegerT16
int16 = integers integer_t16

-- a set-up by the octets of the range's ends
abbrev bench_setup : List ℕ → List ℕ → Setup (List ℕ)
bench_setup low high = record {
  serial = 7;
  channels = 1;
  scale = pos 0;
  terms = record { capture = 1; spread = 0; distance = 10 };
  range = record { low = low; high = high };
}

-- -100 and 10,000
abbrev bench : Setup (List ℕ)
bench = bench_setup (0xff ∷ 0x9c ∷ []) (0x27 ∷ 0x10 ∷ [])

abbrev bench_float : Setup (List ℕ)
bench_float = bench_setup (0xc2 ∷ 0xc8 ∷ 0x00 ∷ 0x00 ∷ []) (0x46 ∷ 0x1c ∷ 0x40 ∷ 0x00 ∷ [])

-- a denial told whole: number and layer, the place of the object that it concerns, and the octets of the negative
-- response
pub record Refusal : Type 0 where
  pub number : ℕ
  pub layer : Layer
  pub index : ℕ
  pub subindex : ℕ
  pub octets : List ℕ

abbrev refusal : ℕ → Layer → ℕ → ℕ → List ℕ → Refusal
refusal number layer index subindex octets =
    record { number = number; layer = layer; index = index; subindex = subindex; octets = octets }

abbrev refusal_of : Fault → List ℕ → Refusal
refusal_of f octets = refusal (entry f.denial).number (entry f.denial).layer f.place.index f.place.subindex octets

-- a reply; one that denies is told as its refusal
abbrev told : Reply → Result Reply Refusal
told (denied f octets) = Err (refusal_of f octets)
told r = Ok r

-- accepted, with the octets that are written
abbrev done : List ℕ → Result Reply Refusal
done octets = Ok (accepted octets)

-- the replies to calls, one after the other
abbrev replies_from : {V : Type 0} → Meaning V → Sensor V → List Call → List (Result Reply Refusal)
replies_from m s [] = []
replies_from m s (c ∷ calls) = told (reply m s c) ∷ replies_from m (next m s c) calls

-- the replies to calls on a blank sensor
abbrev replies : {V : Type 0} → Meaning V → List Call → List (Result Reply Refusal)
replies m = replies_from m blank

-- a write of 1,000, which a read shows; then 10,000, the range's high end, is taken, and shown; then 10,001 is above
-- the range, and SP1 is as it was
abbrev WritesSP1 : Type 0
WritesSP1 =
    replies int16 (set_up bench
    ∷ request (0x26 ∷ 0x3c ∷ 0x01 ∷ 0x03 ∷ 0xe8 ∷ 0xf0 ∷ []) 16
    ∷ request (0xa4 ∷ 0x3c ∷ 0x01 ∷ 0x99 ∷ []) 16
    ∷ request (0x26 ∷ 0x3c ∷ 0x01 ∷ 0x27 ∷ 0x10 ∷ 0x2c ∷ []) 16
    ∷ request (0xa4 ∷ 0x3c ∷ 0x01 ∷ 0x99 ∷ []) 16
    ∷ request (0x26 ∷ 0x3c ∷ 0x01 ∷ 0x27 ∷ 0x11 ∷ 0x2d ∷ []) 16
    ∷ request (0xa4 ∷ 0x3c ∷ 0x01 ∷ 0x99 ∷ []) 16
    ∷ [])
    ≡ done []
    ∷ done (0x52 ∷ 0x52 ∷ [])
    ∷ done (0xd4 ∷ 0x03 ∷ 0xe8 ∷ 0x3f ∷ [])
    ∷ done (0x52 ∷ 0x52 ∷ [])
    ∷ done (0xd4 ∷ 0x27 ∷ 0x10 ∷ 0xe3 ∷ [])
    ∷ Err (refusal 18 Layer.Value 60 1 (0x44 ∷ 0x80 ∷ 0x31 ∷ 0xf5 ∷ []))
    ∷ done (0xd4 ∷ 0x27 ∷ 0x10 ∷ 0xe3 ∷ [])
    ∷ []

-- 10,001 is above the range, and SP1 is the low end, as it was
abbrev DeniesAboveTheRange : Type 0
DeniesAboveTheRange =
    replies int16 (set_up bench
    ∷ request (0x26 ∷ 0x3c ∷ 0x01 ∷ 0x27 ∷ 0x11 ∷ 0x2d ∷ []) 16
    ∷ request (0xa4 ∷ 0x3c ∷ 0x01 ∷ 0x99 ∷ []) 16
    ∷ [])
    ≡ done []
    ∷ Err (refusal 18 Layer.Value 60 1 (0x44 ∷ 0x80 ∷ 0x31 ∷ 0xf5 ∷ []))
    ∷ done (0xd4 ∷ 0xff ∷ 0x9c ∷ 0xb7 ∷ [])
    ∷ []

-- Teach SP1: busy, then taught by the sample
abbrev TeachesSP1 : Type 0
TeachesSP1 =
    replies int16 (set_up bench
    ∷ request (0x14 ∷ 0x02 ∷ 0x41 ∷ 0x57 ∷ []) 16
    ∷ request (0x93 ∷ 0x3b ∷ 0xa8 ∷ []) 16
    ∷ sample (Value (0x05 ∷ 0xdc ∷ [])) 16
    ∷ request (0x93 ∷ 0x3b ∷ 0xa8 ∷ []) 16
    ∷ [])
    ≡ done []
    ∷ done (0x52 ∷ 0x52 ∷ [])
    ∷ done (0xd3 ∷ 0x05 ∷ 0xd6 ∷ [])
    ∷ done (0x05 ∷ 0xdc ∷ 0x00 ∷ 0x01 ∷ [])
    ∷ done (0xd3 ∷ 0x01 ∷ 0xd2 ∷ [])
    ∷ []

-- Stop in Idle, then an index that is not there
abbrev DeniesStop : Type 0
DeniesStop =
    replies int16 (set_up bench
    ∷ request (0x14 ∷ 0x02 ∷ 0x48 ∷ 0x5e ∷ []) 16
    ∷ request (0x93 ∷ 0x63 ∷ 0xf0 ∷ []) 16
    ∷ [])
    ≡ done []
    ∷ Err (refusal 21 Layer.Teach 2 0 (0x44 ∷ 0x80 ∷ 0x36 ∷ 0xf2 ∷ []))
    ∷ Err (refusal 11 Layer.Access 99 0 (0xc4 ∷ 0x80 ∷ 0x11 ∷ 0x55 ∷ []))
    ∷ []

-- an index that is not there
abbrev DeniesNoIndex : Type 0
DeniesNoIndex =
    replies int16 (set_up bench
    ∷ request (0x93 ∷ 0x63 ∷ 0xf0 ∷ []) 16
    ∷ [])
    ≡ done []
    ∷ Err (refusal 11 Layer.Access 99 0 (0xc4 ∷ 0x80 ∷ 0x11 ∷ 0x55 ∷ []))
    ∷ []

-- SP1 1,000, hysteresis 5: off, on, on, off
abbrev SwitchesSinglePoint : Type 0
SwitchesSinglePoint =
    replies int16 (set_up bench
    ∷ request (0x26 ∷ 0x3c ∷ 0x01 ∷ 0x03 ∷ 0xe8 ∷ 0xf0 ∷ []) 16
    ∷ request (0x26 ∷ 0x3d ∷ 0x03 ∷ 0x00 ∷ 0x05 ∷ 0x1d ∷ []) 16
    ∷ sample (Value (0x03 ∷ 0xe7 ∷ [])) 16
    ∷ sample (Value (0x03 ∷ 0xe8 ∷ [])) 16
    ∷ sample (Value (0x03 ∷ 0xe3 ∷ [])) 16
    ∷ sample (Value (0x03 ∷ 0xe2 ∷ [])) 16
    ∷ [])
    ≡ done []
    ∷ done (0x52 ∷ 0x52 ∷ [])
    ∷ done (0x52 ∷ 0x52 ∷ [])
    ∷ done (0x03 ∷ 0xe7 ∷ 0x00 ∷ 0x00 ∷ [])
    ∷ done (0x03 ∷ 0xe8 ∷ 0x00 ∷ 0x01 ∷ [])
    ∷ done (0x03 ∷ 0xe3 ∷ 0x00 ∷ 0x01 ∷ [])
    ∷ done (0x03 ∷ 0xe2 ∷ 0x00 ∷ 0x00 ∷ [])
    ∷ []

-- Window 2,000 and 1,000, hysteresis 5: on, on, off, on, on, off
abbrev SwitchesWindow : Type 0
SwitchesWindow =
    replies int16 (set_up bench
    ∷ request (0x17 ∷ 0x3c ∷ 0x07 ∷ 0xd0 ∷ 0x03 ∷ 0xe8 ∷ 0x17 ∷ []) 16
    ∷ request (0x17 ∷ 0x3d ∷ 0x00 ∷ 0x02 ∷ 0x00 ∷ 0x05 ∷ 0x2d ∷ []) 16
    ∷ sample (Value (0x03 ∷ 0xe8 ∷ [])) 16
    ∷ sample (Value (0x03 ∷ 0xe3 ∷ [])) 16
    ∷ sample (Value (0x03 ∷ 0xe2 ∷ [])) 16
    ∷ sample (Value (0x07 ∷ 0xd0 ∷ [])) 16
    ∷ sample (Value (0x07 ∷ 0xd5 ∷ [])) 16
    ∷ sample (Value (0x07 ∷ 0xd6 ∷ [])) 16
    ∷ [])
    ≡ done []
    ∷ done (0x52 ∷ 0x52 ∷ [])
    ∷ done (0x52 ∷ 0x52 ∷ [])
    ∷ done (0x03 ∷ 0xe8 ∷ 0x00 ∷ 0x01 ∷ [])
    ∷ done (0x03 ∷ 0xe3 ∷ 0x00 ∷ 0x01 ∷ [])
    ∷ done (0x03 ∷ 0xe2 ∷ 0x00 ∷ 0x00 ∷ [])
    ∷ done (0x07 ∷ 0xd0 ∷ 0x00 ∷ 0x01 ∷ [])
    ∷ done (0x07 ∷ 0xd5 ∷ 0x00 ∷ 0x01 ∷ [])
    ∷ done (0x07 ∷ 0xd6 ∷ 0x00 ∷ 0x00 ∷ [])
    ∷ []

-- TP1 at 1,000, TP2 at 1,009, Apply: TeachState 7, and SP1 is as it was
abbrev FailsTooClose : Type 0
FailsTooClose =
    replies int16 (set_up bench
    ∷ request (0x14 ∷ 0x02 ∷ 0x43 ∷ 0x55 ∷ []) 16
    ∷ sample (Value (0x03 ∷ 0xe8 ∷ [])) 16
    ∷ request (0x14 ∷ 0x02 ∷ 0x44 ∷ 0x52 ∷ []) 16
    ∷ sample (Value (0x03 ∷ 0xf1 ∷ [])) 16
    ∷ request (0x14 ∷ 0x02 ∷ 0x40 ∷ 0x56 ∷ []) 16
    ∷ request (0x93 ∷ 0x3b ∷ 0xa8 ∷ []) 16
    ∷ request (0xa4 ∷ 0x3c ∷ 0x01 ∷ 0x99 ∷ []) 16
    ∷ [])
    ≡ done []
    ∷ done (0x52 ∷ 0x52 ∷ [])
    ∷ done (0x03 ∷ 0xe8 ∷ 0x00 ∷ 0x01 ∷ [])
    ∷ done (0x52 ∷ 0x52 ∷ [])
    ∷ done (0x03 ∷ 0xf1 ∷ 0x00 ∷ 0x01 ∷ [])
    ∷ done (0x52 ∷ 0x52 ∷ [])
    ∷ done (0xd3 ∷ 0x37 ∷ 0xe4 ∷ [])
    ∷ done (0xd4 ∷ 0xff ∷ 0x9c ∷ 0xb7 ∷ [])
    ∷ []

-- TP2 at 1,010: SP1 is 1,005
abbrev StoresTheMiddle : Type 0
StoresTheMiddle =
    replies int16 (set_up bench
    ∷ request (0x14 ∷ 0x02 ∷ 0x43 ∷ 0x55 ∷ []) 16
    ∷ sample (Value (0x03 ∷ 0xe8 ∷ [])) 16
    ∷ request (0x14 ∷ 0x02 ∷ 0x44 ∷ 0x52 ∷ []) 16
    ∷ sample (Value (0x03 ∷ 0xf2 ∷ [])) 16
    ∷ request (0x14 ∷ 0x02 ∷ 0x40 ∷ 0x56 ∷ []) 16
    ∷ request (0x93 ∷ 0x3b ∷ 0xa8 ∷ []) 16
    ∷ request (0xa4 ∷ 0x3c ∷ 0x01 ∷ 0x99 ∷ []) 16
    ∷ [])
    ≡ done []
    ∷ done (0x52 ∷ 0x52 ∷ [])
    ∷ done (0x03 ∷ 0xe8 ∷ 0x00 ∷ 0x01 ∷ [])
    ∷ done (0x52 ∷ 0x52 ∷ [])
    ∷ done (0x03 ∷ 0xf2 ∷ 0x00 ∷ 0x01 ∷ [])
    ∷ done (0x52 ∷ 0x52 ∷ [])
    ∷ done (0xd3 ∷ 0x31 ∷ 0xe2 ∷ [])
    ∷ done (0xd4 ∷ 0x03 ∷ 0xed ∷ 0x3a ∷ [])
    ∷ []

-- a written 1,200 stands after SP1 TP1, a sample of 500 and Cancel
abbrev CancelPutsNothingBack : Type 0
CancelPutsNothingBack =
    replies int16 (set_up bench
    ∷ request (0x26 ∷ 0x3c ∷ 0x01 ∷ 0x04 ∷ 0xb0 ∷ 0xaf ∷ []) 16
    ∷ request (0x14 ∷ 0x02 ∷ 0x43 ∷ 0x55 ∷ []) 16
    ∷ sample (Value (0x01 ∷ 0xf4 ∷ [])) 16
    ∷ request (0x14 ∷ 0x02 ∷ 0x4f ∷ 0x59 ∷ []) 16
    ∷ request (0xa4 ∷ 0x3c ∷ 0x01 ∷ 0x99 ∷ []) 16
    ∷ [])
    ≡ done []
    ∷ done (0x52 ∷ 0x52 ∷ [])
    ∷ done (0x52 ∷ 0x52 ∷ [])
    ∷ done (0x01 ∷ 0xf4 ∷ 0x00 ∷ 0x00 ∷ [])
    ∷ done (0x52 ∷ 0x52 ∷ [])
    ∷ done (0xd4 ∷ 0x04 ∷ 0xb0 ∷ 0x60 ∷ [])
    ∷ []

-- the middle of -3 and 0 is -2
abbrev MiddleRoundsDown : Type 0
MiddleRoundsDown = (v w : IntegerT16) → v.value ≡ negsuc 2 → w.value ≡ pos 0 → (int16.middle v w).value ≡ negsuc 1

-- Float32T: what is not a number is no value; 1000.0 is written, and reads back
abbrev pub DeniesNotANumber : Type 0
DeniesNotANumber =
    replies floats (set_up bench_float
    ∷ request (0x28 ∷ 0x3c ∷ 0x01 ∷ 0x7f ∷ 0xc0 ∷ 0x00 ∷ 0x00 ∷ 0xaa ∷ []) 16
    ∷ request (0x28 ∷ 0x3c ∷ 0x01 ∷ 0x44 ∷ 0x7a ∷ 0x00 ∷ 0x00 ∷ 0x2b ∷ []) 16
    ∷ request (0xa4 ∷ 0x3c ∷ 0x01 ∷ 0x99 ∷ []) 16
    ∷ [])
    ≡ done []
    ∷ Err (refusal 17 Layer.Value 60 1 (0x44 ∷ 0x80 ∷ 0x30 ∷ 0xf4 ∷ []))
    ∷ done (0x52 ∷ 0x52 ∷ [])
    ∷ done (0xd6 ∷ 0x44 ∷ 0x7a ∷ 0x00 ∷ 0x00 ∷ 0xe8 ∷ [])
    ∷ []

-- all of them
abbrev pub Sessions : Type 0
Sessions =
    WritesSP1
    × DeniesAboveTheRange
    × TeachesSP1
    × DeniesStop
    × DeniesNoIndex
    × SwitchesSinglePoint
    × SwitchesWindow
    × FailsTooClose
    × StoresTheMiddle
    × CancelPutsNothingBack
    × MiddleRoundsDown
    × DeniesNotANumber
