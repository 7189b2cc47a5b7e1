-- Frames of requests and replies as they are on the wire.
use Rattle.std.specs.Prelude.{◌≡◌, ℕ, List, [], ◌∷◌, ◌++◌, length, replicate, Ok, Err}
use Rattle.faults.specs.declared.Denial.TheVariants.{FrameLength, CheckOctet, Service, BufferTooShort, NoFrame}
use Rattle.faults.specs.Denials.{fault}
use Rattle.isdu.specs.declared.Direction.TheVariants.{Read, Write}
use Rattle.isdu.specs.Requests.{Asked}
use Rattle.isdu.specs.Decoding.{decoded}
use Rattle.isdu.specs.Composing.{frame_of, composed}
use Rattle.isdu.specs.Replies.{write_reply, read_reply, refusal}

abbrev pub write : ℕ → ℕ → List ℕ → Asked
write index subindex octets = record { direction = Write; index = index; subindex = subindex; octets = octets }

abbrev pub read : ℕ → ℕ → Asked
read index subindex = record { direction = Read; index = index; subindex = subindex; octets = [] }

-- the octets decode as the request, and it composes as the octets where they just have room
abbrev pub Stands : Asked → List ℕ → Type 0
Stands asked octets =
    (decoded octets ≡ Ok asked) × (frame_of asked ≡ octets) × (composed asked (length octets) ≡ Ok (length octets))

pub record Examples : Type 0 where
  -- setpoint SP1 of channel 1 becomes 1000
  pub writes_setpoint : Stands (write 60 1 (0x03 ∷ 0xE8 ∷ [])) (0x26 ∷ 0x3C ∷ 0x01 ∷ 0x03 ∷ 0xE8 ∷ 0xF0 ∷ [])
  -- the command Teach SP1
  pub writes_command : Stands (write 2 0 (0x41 ∷ [])) (0x14 ∷ 0x02 ∷ 0x41 ∷ 0x57 ∷ [])
  -- TeachResult
  pub reads_result : Stands (read 59 0) (0x93 ∷ 0x3B ∷ 0xA8 ∷ [])
  -- the setpoints of channel 3, which take a 16-bit index
  pub reads_wide : Stands (read 0x4000 0) (0xB5 ∷ 0x40 ∷ 0x00 ∷ 0x00 ∷ 0xF5 ∷ [])
  -- the longest frame with its length in the first octet
  pub fifteen :
      Stands (write 24 0 (0x62 ∷ 0x6F ∷ 0x74 ∷ 0x74 ∷ 0x6C ∷ 0x69 ∷ 0x6E ∷ 0x67 ∷ 0x20 ∷ 0x6F ∷ 0x6E ∷ 0x65 ∷ []))
      (0x1F ∷ 0x18 ∷ 0x62 ∷ 0x6F ∷ 0x74 ∷ 0x74 ∷ 0x6C ∷ 0x69 ∷ 0x6E ∷ 0x67 ∷ 0x20 ∷ 0x6F ∷ 0x6E ∷ 0x65 ∷ 0x42 ∷ [])
  -- one data octet more takes the second length octet too
  pub seventeen :
      Stands
      (write 24 0 (0x62 ∷ 0x6F ∷ 0x74 ∷ 0x74 ∷ 0x6C ∷ 0x69 ∷ 0x6E ∷ 0x67 ∷ 0x20 ∷ 0x66 ∷ 0x6F ∷ 0x75 ∷ 0x72 ∷ []))
      (0x11 ∷ 0x11 ∷ 0x18
      ∷ 0x62 ∷ 0x6F ∷ 0x74 ∷ 0x74 ∷ 0x6C ∷ 0x69 ∷ 0x6E ∷ 0x67 ∷ 0x20 ∷ 0x66 ∷ 0x6F ∷ 0x75 ∷ 0x72 ∷ 0x37 ∷ [])
  -- the longest frame has 238 octets
  pub longest :
      Stands (write 24 0 (replicate 234 0x20)) (0x11 ∷ 0xEE ∷ 0x18 ∷ (replicate 234 0x20 ++ (0xE7 ∷ [])))
  -- none has 239
  pub too_long : composed (write 24 0 (replicate 235 0x20)) 239 ≡ Err (fault NoFrame)
  pub reads_too_long :
      decoded (0x11 ∷ 0xEF ∷ 0x18 ∷ (replicate 235 0x20 ++ (0xC6 ∷ []))) ≡ Err (fault FrameLength)
  -- no frame has 16 octets
  pub sixteen :
      decoded
      (0x11 ∷ 0x10 ∷ 0x18
      ∷ 0x62 ∷ 0x6F ∷ 0x74 ∷ 0x74 ∷ 0x6C ∷ 0x69 ∷ 0x6E ∷ 0x67 ∷ 0x20 ∷ 0x6F ∷ 0x6E ∷ 0x65 ∷ 0x5C ∷ [])
      ≡ Err (fault FrameLength)
  -- a form that is not the shortest is read all the same
  pub reads_long_form : decoded (0xA4 ∷ 0x3B ∷ 0x00 ∷ 0x9F ∷ []) ≡ Ok (read 59 0)
  pub no_length : decoded (0x90 ∷ 0x90 ∷ []) ≡ Err (fault FrameLength)
  pub wrong_check : decoded (0x93 ∷ 0x3B ∷ 0xA9 ∷ []) ≡ Err (fault CheckOctet)
  pub empty_write : decoded (0x13 ∷ 0x3B ∷ 0x28 ∷ []) ≡ Err (fault Service)
  pub reply_service : decoded (0x52 ∷ 0x52 ∷ []) ≡ Err (fault Service)
  pub no_room : composed (read 59 0) 2 ≡ Err (fault BufferTooShort)
  pub grants_write : write_reply ≡ 0x52 ∷ 0x52 ∷ []
  pub grants_read : read_reply (0x05 ∷ []) ≡ 0xD3 ∷ 0x05 ∷ 0xD6 ∷ []
  pub grants_empty_read : read_reply [] ≡ 0xD2 ∷ 0xD2 ∷ []
  -- the longest reply with its length in the first octet, and one with a data octet more
  pub grants_read_of_13 :
      read_reply (1 ∷ 2 ∷ 3 ∷ 4 ∷ 5 ∷ 6 ∷ 7 ∷ 8 ∷ 9 ∷ 10 ∷ 11 ∷ 12 ∷ 13 ∷ [])
      ≡ 0xDF ∷ 1 ∷ 2 ∷ 3 ∷ 4 ∷ 5 ∷ 6 ∷ 7 ∷ 8 ∷ 9 ∷ 10 ∷ 11 ∷ 12 ∷ 13 ∷ 0xDE ∷ []
  pub grants_read_of_14 :
      read_reply (1 ∷ 2 ∷ 3 ∷ 4 ∷ 5 ∷ 6 ∷ 7 ∷ 8 ∷ 9 ∷ 10 ∷ 11 ∷ 12 ∷ 13 ∷ 14 ∷ [])
      ≡ 0xD1 ∷ 0x11 ∷ 1 ∷ 2 ∷ 3 ∷ 4 ∷ 5 ∷ 6 ∷ 7 ∷ 8 ∷ 9 ∷ 10 ∷ 11 ∷ 12 ∷ 13 ∷ 14 ∷ 0xCF ∷ []
  pub refuses_write : refusal Write 0x8031 ≡ 0x44 ∷ 0x80 ∷ 0x31 ∷ 0xF5 ∷ []
  pub refuses_read : refusal Read 0x8011 ≡ 0xC4 ∷ 0x80 ∷ 0x11 ∷ 0x55 ∷ []
