-- What the values of the code stand for.
use Rattle.std.specs.Prelude.{Ok, Err, Result}
use Rattle.faults.specs.declared.Fault.{Fault}
use Rattle.isdu.specs.declared.Request.{Request}
use Rattle.isdu.specs.Requests.{Asked}

-- what a request of the code asks for
abbrev pub asks : Request → Asked
asks request = record {
  direction = request.direction;
  index = request.index;
  subindex = request.subindex;
  octets = request.«data».now;
}

-- what a decoding of the code answers
abbrev pub told : Result Request Fault → Result Asked Fault
told (Ok request) = Ok (asks request)
told (Err denied) = Err denied
