-- Octets that are written behind the first octet of a buffer.
use Rattle.std.proofs.Common.{◌≡◌, ℕ, ◌+◌, ◌-◌, ◌≤◌, List, [], ◌++◌, length, take, drop, Some, Option, sym, ap, ◌∙◌}
use Rattle.std.proofs.Common.{arith, drop_of_length-le}
use borrow.Rule.Slice.PartMut.{put_mid}
use Rattle.std.proofs.lemmas.List.{append-nil, length-drop, take_all}
use Rattle.std.proofs.lemmas.Option.{same_Some}
use Rattle.octets.specs.Buffers.{fitting, over, placed}
use Rattle.octets.proofs.Rooms.{fitting_room, placed_room}

module _ (ds xs : List ℕ) (room : length ds + 1 ≤ length xs) where
  -- the part that is lent
  abbrev pub part : List ℕ
  part = take (length xs - 1) (drop 1 xs)

  part_is : part ≡ drop 1 xs
  part_is = take_all (length xs - 1) (drop 1 xs) (omega (arith, length-drop 1 xs))

  part_room : length ds ≤ length part
  part_room = omega (arith, ap length part_is, length-drop 1 xs)

  pub behind_some : Some (length ds) ≡ fitting ds part
  behind_some = fitting_room ds part part_room

  pub behind_count : (r : Option ℕ) (n : ℕ) → r ≡ fitting ds part → r ≡ Some n → n ≡ length ds
  behind_count r n e f = same_Some n (length ds) (sym f ∙ e ∙ sym behind_some)

  pub behind_put : (ys : List ℕ) → ys ≡ placed ds part → put_mid 1 (length xs - 1) xs ys ≡ take 1 xs
      ++ over ds (drop 1 xs)
  behind_put ys e =
      let rest : drop (length xs - 1) (drop 1 xs) ≡ [] =
      drop_of_length-le (drop 1 xs) (omega (arith, length-drop 1 xs)) in
      let all : ys ++ drop (length xs - 1) (drop 1 xs) ≡ over ds (drop 1 xs) =
      ap (λ us. ys ++ us) rest ∙ append-nil ys ∙ e ∙ sym (placed_room ds part part_room) ∙ ap (over ds) part_is in
      ap (λ us. take 1 xs ++ us) all
