-- What a word stands for.
use Rattle.std.specs.Prelude.{ℕ, Bool, cond, not, ◌&&◌, List, [], Some, None, Ok, Err, Option, Result, codes}
use Rattle.std.specs.Str.{bytes_eq}
use Rattle.hex.specs.Hex.{decode_of}
use Rattle.hex.specs.declared.error.FromHexError.{FromHexError}
use Rattle.words.specs.declared.KindName.{KindName}
use Rattle.words.specs.declared.KindName.TheVariants.{Int16, Int32, Float32}
use Rattle.words.specs.declared.Unread.{Unread}
use Rattle.words.specs.declared.Unread.TheVariants.{Unknown}

-- the kind of a name
abbrev pub kind_named : List ℕ → Result KindName Unread
kind_named word =
    cond (bytes_eq word (codes "int16")) (Ok Int16)
    (cond (bytes_eq word (codes "int32")) (Ok Int32)
    (cond (bytes_eq word (codes "float32")) (Ok Float32) (Err Unknown)))

abbrev read_as : Result (List ℕ) FromHexError → Option (List ℕ)
read_as (Ok octets) = Some octets
read_as (Err error) = None

-- the octets of a word: two hexadecimal digits each, in either case; a dash stands for none, and an empty word for
-- nothing
abbrev pub octets_told : List ℕ → Option (List ℕ)
octets_told word =
    cond (bytes_eq word (codes "-")) (Some [])
    (cond (bytes_eq word []) None (read_as (decode_of word)))

-- whether it is neither of these two: no other word takes memory
abbrev pub has_digits : List ℕ → Bool
has_digits word = not (bytes_eq word (codes "-")) && not (bytes_eq word [])
