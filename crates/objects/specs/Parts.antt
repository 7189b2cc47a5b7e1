-- The parts of a channel's objects: what of a channel is read or written at once.
use Rattle.std.specs.Prelude.{ℕ, ◌*◌, cond, Some, None, Option, ◌==◌}
use Rattle.faults.specs.declared.Place.{Place}
use Rattle.objects.specs.declared.part.Part.{Part}
use Rattle.objects.specs.declared.part.Part.TheVariants.{Setpoints, Sp1, Sp2, Configuration, Logic, Mode, Hysteresis}

-- the subindex of a part; 0 is the whole object
abbrev pub number : Part → ℕ
number Setpoints = 0
number Sp1 = 1
number Sp2 = 2
number Configuration = 0
number Logic = 1
number Mode = 2
number Hysteresis = 3

-- the part of a channel's setpoints at a subindex
abbrev pub setpoints_part : ℕ → Option Part
setpoints_part n =
    cond (n == number Setpoints) (Some Setpoints)
    (cond (n == number Sp1) (Some Sp1)
    (cond (n == number Sp2) (Some Sp2) None))

-- the part of a channel's configuration at a subindex
abbrev pub configuration_part : ℕ → Option Part
configuration_part n =
    cond (n == number Configuration) (Some Configuration)
    (cond (n == number Logic) (Some Logic)
    (cond (n == number Mode) (Some Mode)
    (cond (n == number Hysteresis) (Some Hysteresis) None)))

-- how many octets a write of a part has: a setpoint has the kind's width; logic 1, mode 1, hysteresis 2
abbrev pub part_length : ℕ → Part → ℕ
part_length w Setpoints = 2 * w
part_length w Sp1 = w
part_length w Sp2 = w
part_length w Configuration = 4
part_length w Logic = 1
part_length w Mode = 1
part_length w Hysteresis = 2

-- the place of a part, by the index of its object
abbrev pub place_at : ℕ → Part → Place
place_at index p = record { index = index; subindex = number p }
