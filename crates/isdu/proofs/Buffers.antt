-- A buffer after one part of a frame was written behind another.
use Rattle.std.proofs.Common.{◌≡◌, ℕ, ◌+◌, ◌≤◌, true, false, List, [], ◌∷◌, ◌++◌, length, take, drop, Ok}
use Rattle.std.proofs.Common.{refl, sym, ap, ◌∙◌, subst, arith}
use Rattle.octets.specs.Buffers.{over}
use Rattle.std.proofs.lemmas.List.{append_assoc, length-append, length-drop, length-take-le, take-append-drop}
use Rattle.std.proofs.lemmas.List.{take_at, drop_at, drop-drop}
use Rattle.isdu.specs.CheckOctet.{exclusive_or, with_check}
use Rattle.isdu.specs.Composing.{takes_second, shortest_heading, total_length, framed, delivered}
use Rattle.isdu.proofs.Frames.{heading_one, heading_two, heading_some, heading_whole, total_two}

pub over_front : (ws xs ys : List ℕ) (n : ℕ) → n ≡ length ws → ys ≡ over ws xs → take n ys ≡ ws
over_front ws xs ys n l y = rw (l, y) (take_at ws (drop (length ws) xs) (length ws) refl)

over_more : (ws vs xs ys zs : List ℕ) (n : ℕ) → n ≡ length ws → ys ≡ over ws xs → zs ≡ take n ys ++ over vs (drop n ys)
    → zs ≡ over (ws ++ vs) xs
over_more ws vs xs ys zs n l y z =
    let f : take n ys ≡ ws = over_front ws xs ys n l y in
    let g : drop n ys ≡ drop (length ws) xs = rw (l, y) (drop_at ws (drop (length ws) xs) (length ws) refl) in
    let end = append_assoc ws vs (drop (length ws + length vs) xs) in
    let e : ws ++ over vs (drop (length ws) xs) ≡ over (ws ++ vs) xs =
    rw (drop-drop (length vs) (length ws) xs, length-append ws vs, end) in
    z ∙ ap (λ u. u ++ over vs (drop n ys)) f ∙ ap (λ u. ws ++ over vs u) g ∙ e

-- heading, address, data and check octet, written in this order
pub four_writes : (hs bs ds xs o₁ o₂ o₃ o₄ : List ℕ) (n₁ n₂ n₃ : ℕ)
    → n₁ ≡ length hs → o₁ ≡ over hs xs
    → n₂ ≡ n₁ + length bs → o₂ ≡ take n₁ o₁ ++ over bs (drop n₁ o₁)
    → n₃ ≡ n₂ + length ds → o₃ ≡ take n₂ o₂ ++ over ds (drop n₂ o₂)
    → o₄ ≡ take n₃ o₃ ++ over (exclusive_or (take n₃ o₃) ∷ []) (drop n₃ o₃)
    → o₄ ≡ over (with_check (hs ++ (bs ++ ds))) xs
four_writes hs bs ds xs o₁ o₂ o₃ o₄ n₁ n₂ n₃ l₁ e₁ l₂ e₂ l₃ e₃ e₄ =
    let ws = (hs ++ bs) ++ ds in
    let m₂ : n₂ ≡ length (hs ++ bs) = omega (arith, length-append hs bs) in
    let m₃ : n₃ ≡ length ws = omega (arith, length-append (hs ++ bs) ds) in
    let f₂ : o₂ ≡ over (hs ++ bs) xs = over_more hs bs xs o₁ o₂ n₁ l₁ e₁ e₂ in
    let f₃ : o₃ ≡ over ws xs = over_more (hs ++ bs) ds xs o₂ o₃ n₂ m₂ f₂ e₃ in
    over_more ws (exclusive_or (take n₃ o₃) ∷ []) xs o₃ o₄ n₃ m₃ f₃ e₄
    ∙ ap (λ us. over (ws ++ exclusive_or us ∷ []) xs) (over_front ws xs o₃ n₃ m₃ f₃)
    ∙ ap (λ us. over (with_check us) xs) (append_assoc hs bs ds)

-- so many octets behind the front stay where they are
there : (ws xs : List ℕ) (n : ℕ) → length ws + n ≤ length xs → over ws xs ≡ over (ws ++ take n (drop (length ws) xs)) xs
there ws xs n h =
    let ds = drop (length ws) xs in
    let m : length (take n ds) ≡ n = length-take-le n ds (omega (arith, length-drop (length ws) xs)) in
    let k : length ws + n ≡ length (ws ++ take n ds) = omega (arith, length-append ws (take n ds), m) in
    ap (λ us. ws ++ us) (sym (take-append-drop n ds))
    ∙ sym (append_assoc ws (take n ds) (drop n ds))
    ∙ ap (λ us. (ws ++ take n ds) ++ us) (drop-drop n (length ws) xs ∙ ap (λ i. drop i xs) k)

-- heading and check octet, written around n octets that stand behind the heading
pub around : (hs xs o₁ o₂ : List ℕ) (a n : ℕ) → length hs + n ≤ length xs → a ≡ length hs → o₁ ≡ over hs xs
    → o₂ ≡ take (a + n) o₁ ++ over (exclusive_or (take (a + n) o₁) ∷ []) (drop (a + n) o₁)
    → o₂ ≡ over (with_check (hs ++ take n (drop (length hs) xs))) xs
around hs xs o₁ o₂ a n h l e₁ e₂ =
    let ds = drop (length hs) xs in
    let ws = hs ++ take n ds in
    let t : length (take n ds) ≡ n = length-take-le n ds (omega (arith, length-drop (length hs) xs)) in
    let m : a + n ≡ length ws = omega (arith, length-append hs (take n ds), t) in
    let f : o₁ ≡ over ws xs = e₁ ∙ there hs xs n h in
    over_more ws (exclusive_or (take (a + n) o₁) ∷ []) xs o₁ o₂ (a + n) m f e₂
    ∙ ap (λ us. over (ws ++ exclusive_or us ∷ []) xs) (over_front ws xs o₁ (a + n) m f)

-- a buffer in which n octets stand behind a heading of k octets, which stood behind the first octet of another; what
-- lies past them is that buffer's
pub record Ready (k n : ℕ) (xs os : List ℕ) : Type 0 where
  pub content : take n (drop k os) ≡ take n (drop 1 xs)
  pub past : drop (k + n) os ≡ drop (k + n) xs
  pub long : length os ≡ length xs

-- octets that stay behind one octet of heading
pub kept : (digit n : ℕ) (xs os : List ℕ) → takes_second n ≡ false → os ≡ xs
    → Ready (length (shortest_heading digit n)) n xs os
kept digit n xs os s e =
    let k : length (shortest_heading digit n) ≡ 1 = heading_one digit n s in
    record {
      content = ap (λ i. take n (drop i os)) k ∙ ap (λ us. take n (drop 1 us)) e;
      past = ap (drop (length (shortest_heading digit n) + n)) e;
      long = ap length e;
    }

-- octets that are moved up by one, behind two octets of heading
pub moved : (digit n : ℕ) (xs os : List ℕ) → takes_second n ≡ true → total_length n ≤ length xs
    → os ≡ take 2 xs ++ over (take n (drop 1 xs)) (drop 2 xs) → Ready (length (shortest_heading digit n)) n xs os
moved digit n xs os s h e =
    let ds = take n (drop 1 xs) in
    let k : 2 ≡ length (shortest_heading digit n) = sym (heading_two digit n s) in
    let room : n + 3 ≤ length xs = omega (arith, total_two n s) in
    let m : length ds ≡ n = length-take-le n (drop 1 xs) (omega (arith, length-drop 1 xs)) in
    let two : length (take 2 xs) ≡ 2 = length-take-le 2 xs (omega arith) in
    let behind : drop 2 os ≡ over ds (drop 2 xs) = ap (drop 2) e ∙ drop_at (take 2 xs) (over ds (drop 2 xs)) 2 two in
    let past : drop n (drop 2 os) ≡ drop n (drop 2 xs) =
    ap (drop n) behind ∙ drop_at ds (drop (length ds) (drop 2 xs)) n m ∙ ap (λ i. drop i (drop 2 xs)) m in
    let tail = length-append ds (drop (length ds) (drop 2 xs)) in
    let parts = length-append (take 2 xs) (over ds (drop 2 xs)) in
    record {
      content = ap (λ i. take n (drop i os)) (sym k) ∙ over_front ds (drop 2 xs) (drop 2 os) n (sym m) behind;
      past = subst (λ i. drop (i + n) os ≡ drop (i + n) xs) k (sym (drop-drop n 2 os) ∙ past ∙ drop-drop n 2 xs);
      long = ap length e ∙ omega (arith, two, parts, tail, length-drop (length ds) (drop 2 xs), length-drop 2 xs, m);
    }

-- the same of the shortest frame of a service
pub enclosed : (digit n a : ℕ) (xs os o₁ o₂ : List ℕ) → total_length n ≤ length xs
    → Ready (length (shortest_heading digit n)) n xs os → a ≡ length (shortest_heading digit n)
    → o₁ ≡ over (shortest_heading digit n) os
    → o₂ ≡ take (a + n) o₁ ++ over (exclusive_or (take (a + n) o₁) ∷ []) (drop (a + n) o₁)
    → o₂ ≡ over (framed digit (take n (drop 1 xs))) xs
enclosed digit n a xs os o₁ o₂ h r l e₁ e₂ =
    let hs = shortest_heading digit n in
    let k = length hs in
    let ds = take n (drop 1 xs) in
    let ws = with_check (hs ++ ds) in
    let t : k + n + 1 ≡ total_length n = heading_whole digit n in
    let m : length ds ≡ n = length-take-le n (drop 1 xs) (omega (arith, length-drop 1 xs, t, heading_some digit n)) in
    let w : length ws ≡ k + n + 1 =
    omega (arith, length-append (hs ++ ds) (exclusive_or (hs ++ ds) ∷ []), length-append hs ds, m) in
    let rest : drop (k + n + 1) os ≡ drop (k + n + 1) xs =
    sym (drop-drop 1 (k + n) os) ∙ ap (drop 1) r.past ∙ drop-drop 1 (k + n) xs in
    around hs os o₁ o₂ a n (omega (arith, r.long, t)) l e₁ e₂
    ∙ ap (λ us. over (with_check (hs ++ us)) os) r.content
    ∙ ap (λ i. ws ++ drop i os) w
    ∙ ap (λ us. ws ++ us) rest
    ∙ ap (λ i. ws ++ drop i xs) (sym w)
    ∙ ap (λ i. over (with_check (shortest_heading digit i ++ ds)) xs) (sym m)

-- a frame of an address and data, by the lengths that are known before it is written
pub framed_parts : (digit : ℕ) (bs ds : List ℕ)
    → framed digit (bs ++ ds) ≡ with_check (shortest_heading digit (length bs + length ds) ++ (bs ++ ds))
framed_parts digit bs ds = ap (λ k. with_check (shortest_heading digit k ++ (bs ++ ds))) (length-append bs ds)

pub deliverable : (total room n : ℕ) → Ok n ≡ delivered total room → (n ≡ total) × (total ≤ 238) × (total ≤ room)
deliverable total room n h = grind arith
