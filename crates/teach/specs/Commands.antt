-- The table of teach commands.
use Rattle.std.specs.Prelude.{ℕ, List, [], ◌∷◌, Option, ◌==◌}
use Rattle.std.specs.List.{find}
use Rattle.teach.specs.declared.command.Command.{Command}
use Rattle.teach.specs.declared.command.Setpoint.{Setpoint}
use Rattle.teach.specs.declared.command.Setpoint.TheVariants.{Sp1, Sp2}
use Rattle.teach.specs.declared.command.Teachpoint.{Teachpoint}
use Rattle.teach.specs.declared.command.Teachpoint.TheVariants.{Tp1, Tp2}
use Rattle.teach.specs.declared.command.Step.{Step}
use Rattle.teach.specs.declared.command.Step.TheVariants.{Apply, Single, Point, Start, Stop, Cancel}

abbrev row : ℕ → Setpoint → Teachpoint → Step → Command
row c s t k = record { code = c; setpoint = s; teachpoint = t; step = k }

-- the codes are hexadecimal: 40 Apply; 41, 42 Teach SP1, SP2; 43, 44 SP1 TP1, TP2; 45, 46 SP2 TP1, TP2; 47, 48 SP1
-- Start, Stop; 49, 4A SP2 Start, Stop; 4F Cancel. Where a command has no setpoint or no teachpoint, nothing looks at it
abbrev pub commands : List Command
commands =
    row 0x40 Sp1 Tp1 Apply
    ∷ row 0x41 Sp1 Tp1 Single
    ∷ row 0x42 Sp2 Tp1 Single
    ∷ row 0x43 Sp1 Tp1 Point
    ∷ row 0x44 Sp1 Tp2 Point
    ∷ row 0x45 Sp2 Tp1 Point
    ∷ row 0x46 Sp2 Tp2 Point
    ∷ row 0x47 Sp1 Tp1 Start
    ∷ row 0x48 Sp1 Tp1 Stop
    ∷ row 0x49 Sp2 Tp1 Start
    ∷ row 0x4A Sp2 Tp1 Stop
    ∷ row 0x4F Sp1 Tp1 Cancel
    ∷ []

-- the first row with a code
abbrev pub found : ℕ → List Command → Option Command
found code = find (λ c. c.code == code)

abbrev pub command_of : ℕ → Option Command
command_of code = found code commands
