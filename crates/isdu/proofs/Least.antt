-- A composed frame is laid out for its request, and no frame of the request is shorter.
use Rattle.std.proofs.Common.{◌≡◌, ℕ, suc, ◌+◌, ◌<◌, ◌≤◌, Bool, true, false, List, [], ◌∷◌, ◌++◌, length}
use Rattle.std.proofs.Common.{get_or, Ok, Err, Result, sym, ap, ◌∙◌, ⊎_elim, arith}
use Rattle.octets.specs.Buffers.{left}
use Rattle.std.proofs.lemmas.List.{append_assoc, length-append, length_push}
use Rattle.std.proofs.lemmas.Bool.{cases_lt}
use Rattle.faults.specs.declared.Fault.{Fault}
use Rattle.faults.specs.declared.Denial.TheVariants.{NoFrame}
use Rattle.faults.specs.Denials.{fault}
use Rattle.isdu.specs.declared.Direction.{Direction}
use Rattle.isdu.specs.declared.services.Addressing.{Addressing}
use Rattle.isdu.specs.Requests.{Asked}
use Rattle.isdu.specs.CheckOctet.{exclusive_or, with_check}
use Rattle.isdu.specs.Services.{service_digit}
use Rattle.isdu.specs.Addresses.{address_octets, shortest_addressing}
use Rattle.isdu.specs.Decoding.{fits_service, decoded}
use Rattle.isdu.specs.Composing.{heading, addressing_of, request_content, frame_of, delivered, composed}
use Rattle.isdu.specs.Layout.{Addresses, Carries, Laid}
use Rattle.isdu.specs.Promises.{Octets, ReadsBack, Shortest, Recomposes}
use Rattle.isdu.proofs.Answered.{met}
use Rattle.isdu.proofs.Balance.{checked_balanced}
use Rattle.isdu.proofs.Frames.{heading_short, heading_long, total_short, total_long, framed_length}
use Rattle.isdu.proofs.Agreement.{laid_decodes, decodes_laid, carried_fits}
use Rattle.isdu.proofs.Buffers.{over_front, deliverable}

-- the shortest addressing, by index and subindex

shortest_addresses : (i s : ℕ) → i < 65536 → Addresses (shortest_addressing i s) i s
shortest_addresses i s w = grind arith

address_most : (a : Addressing) (i s : ℕ) → length (address_octets a i s) ≤ 3
address_most a i s = grind arith

address_least : (a : Addressing) (i s : ℕ) → Addresses a i s
    → length (address_octets (shortest_addressing i s) i s) ≤ length (address_octets a i s)
address_least a i s h = grind arith

-- a composed frame is laid out for its request

-- only a write is so long that its length takes a second octet
carried_long : (d : Direction) (adr ys : List ℕ) → length adr ≤ 3 → 15 < length (adr ++ ys) + 2
    → fits_service d false ys ≡ true → Carries d true ys
carried_long d adr ys h k f = grind (arith, length-append)

pub frame_laid : (m : Asked) → m.index < 65536 → fits_service m.direction false m.octets ≡ true
    → length (frame_of m) ≤ 238 → Laid (frame_of m) m
frame_laid m w f t =
    let a = addressing_of m in
    let s = service_digit m.direction a in
    let adr = address_octets a m.index m.subindex in
    let n = length (request_content m) in
    let holds = shortest_addresses m.index m.subindex w in
    ⊎_elim
    (λ h.
    let c = exclusive_or (heading true s (n + 2 + 1) ++ request_content m) in
    let e : frame_of m ≡ with_check (heading true s (n + 2 + 1) ++ request_content m) =
    ap (λ hs. with_check (hs ++ request_content m)) (heading_long s n h) in
    let len : length (frame_of m) ≡ n + 2 + 1 = framed_length s (request_content m) ∙ total_long n h in
    record {
      addressing = a;
      second = true;
      check = c;
      whole =
          e
          ∙ ap (λ k. heading true s k ++ (request_content m ++ c ∷ [])) (sym len)
          ∙ ap (λ ys. heading true s (length (frame_of m)) ++ ys) (append_assoc adr m.octets (c ∷ []));
      lengths = (omega arith, t);
      addresses = holds;
      carries = carried_long m.direction adr m.octets (address_most a m.index m.subindex) h f;
      balanced = ap exclusive_or e ∙ checked_balanced (heading true s (n + 2 + 1) ++ request_content m);
    })
    (λ h.
    let c = exclusive_or (heading false s (n + 2) ++ request_content m) in
    let e : frame_of m ≡ with_check (heading false s (n + 2) ++ request_content m) =
    ap (λ hs. with_check (hs ++ request_content m)) (heading_short s n h) in
    let len : length (frame_of m) ≡ n + 2 = framed_length s (request_content m) ∙ total_short n h in
    record {
      addressing = a;
      second = false;
      check = c;
      whole =
          e
          ∙ ap (λ k. heading false s k ++ (request_content m ++ c ∷ [])) (sym len)
          ∙ ap (λ ys. heading false s (length (frame_of m)) ++ ys) (append_assoc adr m.octets (c ∷ []));
      lengths = (omega arith, omega arith);
      addresses = holds;
      carries = carried_fits m.direction false m.octets f;
      balanced = ap exclusive_or e ∙ checked_balanced (heading false s (n + 2) ++ request_content m);
    })
    (cases_lt 15 (n + 2))

-- no frame of a request is shorter than the composed one

-- a frame of t octets, with or without a second length octet, has room for the content
pub record Room (m : Asked) (t : ℕ) : Type 0 where
  pub least : length (frame_of m) ≤ t
  pub small : t ≤ 238
  pub fits : fits_service m.direction false m.octets ≡ true

room_for : (m : Asked) (second : Bool) (a : Addressing) (s c t : ℕ) → Addresses a m.index m.subindex
    → t ≡ length (heading second s t ++ (address_octets a m.index m.subindex ++ (m.octets ++ c ∷ [])))
    → (second ≡ false → t ≤ 15) → length (frame_of m) ≤ t
room_for m second a s c t h e l =
    let adr = address_octets a m.index m.subindex in
    let room = length-append adr (m.octets ++ c ∷ []) in
    let less = address_least a m.index m.subindex h in
    let k = length-append (address_octets (addressing_of m) m.index m.subindex) m.octets in
    let q = framed_length (service_digit m.direction (addressing_of m)) (request_content m) in
    grind (arith, length_push m.octets c)

pub laid_room : (xs : List ℕ) (m : Asked) → Laid xs m → Room m (length xs)
laid_room xs m l =
    record {
      least =
          room_for m l.second l.addressing _ l.check (length xs) l.addresses (ap length l.whole)
          (λ e. grind (arith, l.lengths));
      small = grind (arith, l.lengths);
      fits = grind (arith, l.carries);
    }

composed_since : (m : Asked) (t : ℕ) → Room m t → (room : ℕ) → length (frame_of m) ≤ room
    → composed m room ≡ Ok (length (frame_of m))
composed_since m t r room h = grind (arith, r.fits, r.least, r.small)

pub recomposes : (xs : List ℕ) (r : Result Asked Fault) → Octets xs → r ≡ decoded xs → Recomposes r (length xs)
recomposes xs (Ok m) o e =
    let k = laid_room xs m (decodes_laid xs m o (sym e)) in
    (k.least, composed_since m (length xs) k)
recomposes xs (Err f) o e = tt

-- what composing promises

pub record Promised (m : Asked) (r : Result ℕ Fault) (ys : List ℕ) : Type 0 where
  pub reads_back : ReadsBack m r ys
  pub shortest : Shortest m r

pub promised : (m : Asked) (r : Result ℕ Fault) (xs ys : List ℕ) → m.index < 65536
    → r ≡ composed m (length xs) → ys ≡ left r (frame_of m) xs → Promised m r ys
promised m (Ok n) xs ys w e b =
    let whole = delivered (length (frame_of m)) (length xs) in
    let f = met (fits_service m.direction false m.octets) (fault NoFrame) whole n (sym e) in
    let s = deliverable (length (frame_of m)) (length xs) n (sym f.1) in
    record {
      reads_back =
          ap decoded (over_front (frame_of m) xs ys n s.0 b)
          ∙ laid_decodes (frame_of m) m (frame_laid m w f.0 s.1);
      shortest = λ zs o d. omega (arith, (laid_room zs m (decodes_laid zs m o d)).least, s.0);
    }
promised m (Err f) xs ys w e b = record { reads_back = tt; shortest = tt }

pub octets_all : (xs : List ℕ) → ((i : ℕ) → get_or xs i 0 < 256) → Octets xs
octets_all [] h = tt
octets_all (x ∷ xs) h = (h 0, octets_all xs (λ i. h (suc i)))
