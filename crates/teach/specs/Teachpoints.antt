-- What a setpoint's teachpoints have.
use Rattle.teach.specs.declared.command.Teachpoint.{Teachpoint}
use Rattle.teach.specs.declared.command.Teachpoint.TheVariants.{Tp1, Tp2}
use Rattle.teach.specs.declared.machine.Teachpoints.{Teachpoints}

-- what one teachpoint has is replaced
abbrev pub with_teachpoint : {T : Type 0} → Teachpoints T → Teachpoint → T → Teachpoints T
with_teachpoint p Tp1 x = record { tp1 = x; tp2 = p.tp2 }
with_teachpoint p Tp2 x = record { tp1 = p.tp1; tp2 = x }
