-- The services of a request: 1, 2, 3 write and 9, A, B read, each with its way to give index and subindex.
use Rattle.std.specs.Prelude.{ℕ, cond, Some, None, Option, ◌==◌}
use Rattle.isdu.specs.declared.Direction.{Direction}
use Rattle.isdu.specs.declared.Direction.TheVariants.{Read, Write}
use Rattle.isdu.specs.declared.services.Addressing.{Addressing}
use Rattle.isdu.specs.declared.services.Addressing.TheVariants.{Index8, Index8Sub, Index16Sub}
use Rattle.isdu.specs.declared.services.Service.{Service}

-- the digit of a service
abbrev pub service_digit : Direction → Addressing → ℕ
service_digit Write Index8 = 0x1
service_digit Write Index8Sub = 0x2
service_digit Write Index16Sub = 0x3
service_digit Read Index8 = 0x9
service_digit Read Index8Sub = 0xA
service_digit Read Index16Sub = 0xB

abbrev pub service : Direction → Addressing → Service
service direction addressing = record { direction = direction; addressing = addressing }

-- the service of a digit; every other digit is none of a request
abbrev pub service_of : ℕ → Option Service
service_of digit =
    cond (digit == service_digit Write Index8) (Some (service Write Index8))
    (cond (digit == service_digit Write Index8Sub) (Some (service Write Index8Sub))
    (cond (digit == service_digit Write Index16Sub) (Some (service Write Index16Sub))
    (cond (digit == service_digit Read Index8) (Some (service Read Index8))
    (cond (digit == service_digit Read Index8Sub) (Some (service Read Index8Sub))
    (cond (digit == service_digit Read Index16Sub) (Some (service Read Index16Sub)) None)))))
