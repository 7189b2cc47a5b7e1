-- Set-up: its checks in their order, and the device that it gives.
use Rattle.std.specs.Prelude.{ℕ, Bool, cond, not, ◌&&◌, List, ℤ, Some, Ok, Err, Option, Result}
use Rattle.std.specs.Int.{w8}
use Rattle.std.proofs.Common.{of_z}
use Rattle.faults.specs.declared.Fault.{Fault}
use Rattle.faults.specs.declared.Denial.TheVariants.{SetupUnderKeypad, ChannelCount, Range, CaptureLength, NoValue}
use Rattle.faults.specs.Denials.{fault, then}
use Rattle.keypad.specs.Operations.{closed_keypad}
use Rattle.kinds.specs.Meaning.{Meaning, at_most, under}
use Rattle.channels.specs.declared.range.Range as Ranges
use Rattle.channels.specs.Table.{fresh_table, most_channels}
use Rattle.objects.specs.Objects.{from_to}
use Rattle.teach.specs.Teaching.{idle}
use Rattle.sensor.specs.declared.setup.Setup.{Setup}
use Rattle.sensor.specs.declared.device.Device.{Device}

-- the scale's octet, in two's complement
abbrev pub scale_octet : ℤ → ℕ
scale_octet scale = of_z w8 scale

module _ {V : Type 0} where
  -- the device after an accepted set-up: every channel fresh, channel 1 selected, the teach idle, no keypad operation
  -- open
  abbrev pub fresh_device : Setup (List ℕ) → Ranges.Range V → Device V
  fresh_device g range = record {
    range = range;
    scale = scale_octet g.scale;
    keypad = closed_keypad g.serial;
    selected = 1;
    terms = g.terms;
    teach = idle;
    channels = fresh_table g.channels range.low range.high;
  }

module _ {V : Type 0} (m : Meaning V) where
  -- within the kind's limits, which are allowed themselves
  abbrev within_limits : V → Bool
  within_limits v = at_most m m.low_limit v && at_most m v m.high_limit

  -- low below high, and neither end past the limits
  abbrev pub lawful_range : Ranges.Range V → Bool
  lawful_range range = under m range.low range.high && (within_limits range.low && within_limits range.high)

  -- 17: an end is no value
  abbrev pub ends_checked : Option V → Option V → Result (Ranges.Range V) Fault
  ends_checked (Some low) (Some high) = Ok (record { low = low; high = high })
  ends_checked low high = Err (fault NoValue)

  -- 3: the range. 4: C is 1 to 64
  abbrev pub range_checked : Setup (List ℕ) → Ranges.Range V → Result (Device V) Fault
  range_checked g range =
      cond (not (lawful_range range)) (Err (fault Range))
      (cond (not (from_to 1 64 g.terms.capture)) (Err (fault CaptureLength))
      (Ok (fresh_device g range)))

  -- the checks in their order. 1: a keypad operation is open. 2: the channel count. Then 17, 3 and 4
  abbrev pub set_up_checked : Bool → Setup (List ℕ) → Result (Device V) Fault
  set_up_checked keypad g =
      cond keypad (Err (fault SetupUnderKeypad))
      (cond (not (from_to 1 most_channels g.channels)) (Err (fault ChannelCount))
      (then (ends_checked (m.read g.range.low) (m.read g.range.high)) (range_checked g)))
