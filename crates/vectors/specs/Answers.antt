-- What a sensor's reply and response buffer are, by a line of the vectors.
use Rattle.std.specs.Prelude.{◌≡◌, ℕ, List, length, replicate, Some, None, Ok, Err, Result, vec_items}
use Rattle.octets.specs.Buffers.{over}
use Rattle.faults.specs.declared.Fault.{Fault}
use Rattle.faults.specs.Denials.{entry}
use Rattle.vectors.specs.declared.answers.Answer.{Answer}

-- the response buffer before a request: 16 octets 0xAA
abbrev pub untouched : List ℕ
untouched = replicate 16 0xAA

-- the reply is the length of the line's response, or the denial that the line names
abbrev pub Replies : Result ℕ Fault → Answer → Type 0
Replies (Ok n) line = (line.denied ≡ None) × (n ≡ length (vec_items line.response))
Replies (Err f) line = line.denied ≡ Some (entry f.denial).number

-- the buffer has the line's response over its front, and is untouched past it
abbrev pub Leaves : List ℕ → Answer → Type 0
Leaves buffer line = buffer ≡ over (vec_items line.response) untouched
