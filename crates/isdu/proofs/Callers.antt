-- For callers: what the contracts say of the octets that were written.
use Rattle.std.proofs.Common.{◌≡◌, ℕ, ◌+◌, ◌≤◌, false, List, ◌++◌, length, take, drop, Ok, Result}
use Rattle.std.proofs.Common.{sym, ap, ◌∙◌, arith, le-ltb}
use Rattle.std.proofs.lemmas.Bool.{cond-false}
use Rattle.std.proofs.lemmas.List.{drop-drop, length-append, length-drop, length-take-le, take_at, drop_at}
use Rattle.octets.specs.Buffers.{left, over}
use Rattle.faults.specs.declared.Fault.{Fault}
use Rattle.faults.specs.declared.Denial.TheVariants.{NoFrame}
use Rattle.faults.specs.Denials.{fault}
use Rattle.isdu.specs.Requests.{Asked}
use Rattle.isdu.specs.Decoding.{fits_service, most_in_digit}
use Rattle.isdu.specs.Composing.{frame_of, short_length, total_length, delivered, composed}
use Rattle.isdu.specs.Replies.{read_reply}
use Rattle.isdu.proofs.Answered.{met}
use Rattle.isdu.proofs.Buffers.{over_front, deliverable}
use Rattle.isdu.proofs.Frames.{framed_length, total_short}

-- as many octets as composing answers, at the front of the buffer, are the frame
pub composed_front : (m : Asked) (room n : ℕ) (xs ys : List ℕ)
    → Ok n ≡ composed m room → ys ≡ over (frame_of m) xs → take n ys ≡ frame_of m
composed_front m room n xs ys e b =
    let whole = delivered (length (frame_of m)) room in
    let f = met (fits_service m.direction false m.octets) (fault NoFrame) whole n (sym e) in
    over_front (frame_of m) xs ys n (deliverable (length (frame_of m)) room n (sym f.1)).0 b

-- the reply to a read, put around data that were written behind the first octet of a buffer
module _ (ds xs ys : List ℕ) (some : 1 ≤ length ds) (few : short_length (length ds) ≤ most_in_digit)
    (room : length ds + 2 ≤ length xs) (written : ys ≡ take 1 xs ++ over ds (drop 1 xs)) where
  reply_length : length (read_reply ds) ≡ length ds + 2
  reply_length = framed_length 0xD ds ∙ total_short (length ds) (omega arith)

  first : length (take 1 xs) ≡ 1
  first = length-take-le 1 xs (omega arith)

  behind : drop 1 ys ≡ over ds (drop 1 xs)
  behind = ap (drop 1) written ∙ drop_at (take 1 xs) (over ds (drop 1 xs)) 1 first

  pub data_there : take (length ds) (drop 1 ys) ≡ ds
  data_there = ap (take (length ds)) behind ∙ take_at ds (drop (length ds) (drop 1 xs)) (length ds) (λ i. length ds)

  pub room_there : length ys ≡ length xs
  room_there =
      let parts = length-append (take 1 xs) (over ds (drop 1 xs)) in
      let tail = length-append ds (drop (length ds) (drop 1 xs)) in
      ap length written ∙ omega (arith, parts, tail, length-drop (length ds) (drop 1 xs), length-drop 1 xs, first)

  pub read_answer : delivered (total_length (length ds)) (length ys) ≡ Ok (length (read_reply ds))
  read_answer =
      ap (λ n. delivered n (length ys)) (total_short (length ds) (omega arith))
      ∙ cond-false _ _ _ (le-ltb 238 (length ds + 2) (omega arith))
      ∙ cond-false _ _ _ (le-ltb (length ys) (length ds + 2) (omega (arith, room_there)))
      ∙ ap Ok (sym reply_length)

  sums : (n : ℕ) → n + 2 ≡ 1 + (n + 1)
  sums n = omega arith

  rest_there : drop (length ds + 2) ys ≡ drop (length ds + 2) xs
  rest_there =
      ap (λ n. drop n ys) (sums (length ds))
      ∙ sym (drop-drop (length ds + 1) 1 ys)
      ∙ ap (drop (length ds + 1)) behind
      ∙ sym (drop-drop 1 (length ds) (over ds (drop 1 xs)))
      ∙ ap (drop 1) (drop_at ds (drop (length ds) (drop 1 xs)) (length ds) (λ i. length ds))
      ∙ ap (drop 1) (drop-drop (length ds) 1 xs)
      ∙ drop-drop 1 (1 + length ds) xs
      ∙ ap (λ n. drop n xs) (omega arith)

  pub read_buffer : over (read_reply ds) ys ≡ over (read_reply ds) xs
  read_buffer =
      ap (λ n. read_reply ds ++ drop n ys) reply_length
      ∙ ap (λ us. read_reply ds ++ us) rest_there
      ∙ ap (λ n. read_reply ds ++ drop n xs) (sym reply_length)

  pub read_confirmed : (r : Result ℕ Fault) (n : ℕ) (zs : List ℕ) → n ≡ length ds
      → r ≡ delivered (total_length n) (length ys) → zs ≡ left r (read_reply (take n (drop 1 ys))) ys
      → (r ≡ Ok (length (read_reply ds))) × (zs ≡ over (read_reply ds) xs)
  read_confirmed r n zs e a b =
      let whole : r ≡ Ok (length (read_reply ds)) =
      a ∙ ap (λ k. delivered (total_length k) (length ys)) e ∙ read_answer in
      let there = ap (λ us. over (read_reply us) ys) data_there in
      (whole, b ∙ (λ i. left (whole i) (read_reply (take (e i) (drop 1 ys))) ys) ∙ there ∙ read_buffer)
