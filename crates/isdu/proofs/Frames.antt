-- The length of a frame, and what a frame with its length and check octet decodes as.
use Rattle.std.proofs.Common.{◌≡◌, ℕ, ◌+◌, ◌*◌, ◌/◌, ◌%◌, ◌<◌, ◌≤◌, true, false, eqb}
use Rattle.std.proofs.Common.{List, [], ◌∷◌, ◌++◌, length, Some, ap, ◌∙◌, arith}
use Rattle.std.proofs.lemmas.List.{length_push}
use Rattle.std.proofs.lemmas.Bool.{cond-true, cond-false, le-leb, le-ltb, lt-ltb, eq-eqb, ne_eqb}
use Rattle.isdu.specs.CheckOctet.{exclusive_or, before_check}
use Rattle.isdu.specs.Services.{service_of}
use Rattle.isdu.specs.Decoding.{has_second, stated_length, past_length, request_of, decoded}
use Rattle.isdu.specs.Composing.{heading, takes_second, shortest_heading, total_length, framed}
use Rattle.isdu.proofs.Balance.{before_check_push}

pub total_short : (n : ℕ) → n + 2 ≤ 15 → total_length n ≡ n + 2
total_short n h = cond-false _ _ _ (le-ltb 15 (n + 2) h)

pub total_long : (n : ℕ) → 15 < n + 2 → total_length n ≡ n + 2 + 1
total_long n h = cond-true _ _ _ (lt-ltb 15 (n + 2) h)

pub heading_short : (s n : ℕ) → n + 2 ≤ 15 → shortest_heading s n ≡ heading false s (n + 2)
heading_short s n h =
    ap (λ t. heading t s (total_length n)) (le-ltb 15 (n + 2) h) ∙ ap (heading false s) (total_short n h)

pub heading_long : (s n : ℕ) → 15 < n + 2 → shortest_heading s n ≡ heading true s (n + 2 + 1)
heading_long s n h =
    ap (λ t. heading t s (total_length n)) (lt-ltb 15 (n + 2) h) ∙ ap (heading true s) (total_long n h)

-- a heading has an octet or more, and with content and check octet it is the whole length
pub heading_some : (s n : ℕ) → 1 ≤ length (shortest_heading s n)
heading_some s n = grind arith

pub heading_whole : (s n : ℕ) → length (shortest_heading s n) + n + 1 ≡ total_length n
heading_whole s n = grind arith

-- the heading has two octets where it has a second length octet, else one
pub heading_one : (s n : ℕ) → takes_second n ≡ false → length (shortest_heading s n) ≡ 1
heading_one s n e = ap (λ t. length (heading t s (total_length n))) e

pub heading_two : (s n : ℕ) → takes_second n ≡ true → length (shortest_heading s n) ≡ 2
heading_two s n e = ap (λ t. length (heading t s (total_length n))) e

pub total_two : (n : ℕ) → takes_second n ≡ true → total_length n ≡ n + 2 + 1
total_two n e = cond-true _ _ _ e

pub framed_length : (s : ℕ) (xs : List ℕ) → length (framed s xs) ≡ total_length (length xs)
framed_length s xs = grind (arith, length_push)

-- a frame that has the length it states and a right check octet
pub decoded_cons : (first : ℕ) (rest : List ℕ) → stated_length first rest ≡ Some (length (first ∷ rest))
    → exclusive_or (first ∷ rest) ≡ 0
    → decoded (first ∷ rest)
    ≡ request_of (service_of (first / 16)) (has_second first) (before_check (past_length (has_second first) rest))
decoded_cons first rest l z = grind arith

pub decoded_short : (s n c : ℕ) (xs : List ℕ) → n ≡ length xs + 2 → n ≤ 15
    → exclusive_or ((16 * s + n) ∷ xs ++ c ∷ []) ≡ 0
    → decoded ((16 * s + n) ∷ xs ++ c ∷ []) ≡ request_of (service_of s) false xs
decoded_short s n c xs e h z =
    let low : (16 * s + n) % 16 ≡ n = omega arith in
    let high : (16 * s + n) / 16 ≡ s = omega arith in
    let one : eqb ((16 * s + n) % 16) 1 ≡ false = ne_eqb _ _ (λ k. omega arith) in
    decoded_cons (16 * s + n) (xs ++ c ∷ []) (rw one (ap Some (omega (arith, length_push xs c)))) z
    ∙ rw (one, high, before_check_push xs c)

pub decoded_long : (s n c : ℕ) (xs : List ℕ) → n ≡ length xs + 3 → 17 ≤ n → n ≤ 238
    → exclusive_or ((16 * s + 1) ∷ n ∷ xs ++ c ∷ []) ≡ 0
    → decoded ((16 * s + 1) ∷ n ∷ xs ++ c ∷ []) ≡ request_of (service_of s) true xs
decoded_long s n c xs e h k z =
    let low : (16 * s + 1) % 16 ≡ 1 = omega arith in
    let high : (16 * s + 1) / 16 ≡ s = omega arith in
    let one : eqb ((16 * s + 1) % 16) 1 ≡ true = eq-eqb _ _ low in
    decoded_cons (16 * s + 1) (n ∷ xs ++ c ∷ [])
    (rw (one, le-leb 17 n h, le-leb n 238 k) (ap Some (omega (arith, length_push xs c)))) z
    ∙ rw (one, high, before_check_push xs c)
