-- How each method of a sensor hands out what a call comes to.
use Rattle.std.specs.Prelude.{ℕ, List, length, Ok, Err, Result}
use Rattle.faults.specs.declared.Fault.{Fault}
use Rattle.objects.specs.Reads.{OneToEight}
use Rattle.sensor.specs.Calls.{Act, shows}

module _ {V : Type 0} where
  -- accepted, or the fault
  abbrev pub plain : Result (Act V) Fault → Result (Unit {0}) Fault
  plain (Ok a) = Ok tt
  plain (Err f) = Err f

  -- the number of octets that were written
  abbrev pub counted : List ℕ → Result (Act V) Fault → Result ℕ Fault
  counted octets (Ok a) = Ok (length octets)
  counted octets (Err f) = Err f

  -- a read shows one octet to eight
  abbrev pub ShowsOneToEight : Act V → Type 0
  ShowsOneToEight (shows octets) = OneToEight octets
  ShowsOneToEight a = Unit {0}
