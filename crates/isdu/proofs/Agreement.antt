-- Octets decode as a request just where they are laid out as a frame of it.
use Rattle.std.proofs.Common.{◌≡◌, ℕ, zero, suc, ◌+◌, ◌-◌, ◌*◌, ◌/◌, ◌%◌, ◌<◌, ◌≤◌, Bool, true, false, cond, not, eqb}
use Rattle.std.proofs.Common.{List, [], ◌∷◌, ◌++◌, length, get_or, take, Some, None, Ok, Err, Option, Result, sym}
use Rattle.std.proofs.Common.{refl, ap, ◌∙◌, subst, arith}
use Rattle.std.proofs.lemmas.List.{append_assoc, length_push}
use Rattle.std.proofs.lemmas.Option.{none-some, same_Some}
use Rattle.std.specs.Option.{option_eq}
use Rattle.std.proofs.lemmas.Bool.{cond-true, eqb-true, not-false}
use Rattle.faults.specs.declared.Fault.{Fault}
use Rattle.faults.specs.declared.Denial.TheVariants.{FrameLength, CheckOctet}
use Rattle.faults.specs.Denials.{fault}
use Rattle.isdu.specs.declared.Direction.{Direction}
use Rattle.isdu.specs.declared.services.Addressing.{Addressing}
use Rattle.isdu.specs.declared.services.Addressing.TheVariants.{Index8, Index8Sub, Index16Sub}
use Rattle.isdu.specs.Requests.{Asked}
use Rattle.isdu.specs.CheckOctet.{exclusive_or, before_check}
use Rattle.isdu.specs.declared.services.Service.{Service}
use Rattle.isdu.specs.Services.{service, service_digit, service_of}
use Rattle.isdu.specs.Addresses.{address_octets, address_of}
use Rattle.isdu.specs.Decoding.{second_length, has_second, stated_length, past_length, fits_service, request_with}
use Rattle.isdu.specs.Decoding.{request_of, decoded}
use Rattle.isdu.specs.Composing.{heading}
use Rattle.isdu.specs.Layout.{Lengths, Addresses, Carries, Laid, Judged}
use Rattle.isdu.specs.Promises.{Octets}
use Rattle.isdu.proofs.Answered.{no_answer, passed, same_answer}
use Rattle.isdu.proofs.Balance.{before_check_length, split_last}
use Rattle.isdu.proofs.Frames.{decoded_short, decoded_long}

-- from the layout to the request

service_back : (d : Direction) (a : Addressing) → service_of (service_digit d a) ≡ Some (service d a)
service_back d a = grind arith

address_back : (a : Addressing) (i s : ℕ) (ys : List ℕ) → Addresses a i s
    → address_of a (address_octets a i s ++ ys) ≡ Some (i, s, ys)
address_back Index8 i s ys h =
    let low : i % 256 ≡ i = omega (arith, h.0) in ap (λ j. Some (j, 0, ys)) low ∙ ap (λ t. Some (i, t, ys)) (sym h.1)
address_back Index8Sub i s ys h = let low : i % 256 ≡ i = omega arith in ap (λ j. Some (j, s, ys)) low
address_back Index16Sub i s ys h = let both : i / 256 % 256 * 256 + i % 256 ≡ i = omega arith in
    ap (λ j. Some (j, s, ys)) both

fits_carried : (d : Direction) (second : Bool) (ys : List ℕ) → Carries d second ys → fits_service d second ys ≡ true
fits_carried d second ys h = grind arith

decoded_heading : (second : Bool) (s n c : ℕ) (bs : List ℕ) → Lengths second n
    → n ≡ length (heading second s n ++ (bs ++ c ∷ []))
    → exclusive_or (heading second s n ++ (bs ++ c ∷ [])) ≡ 0
    → decoded (heading second s n ++ (bs ++ c ∷ [])) ≡ request_of (service_of s) second bs
decoded_heading false s n c bs h e z = decoded_short s n c bs (omega (arith, length_push bs c)) h.1 z
decoded_heading true s n c bs h e z = decoded_long s n c bs (omega (arith, length_push bs c)) h.0 h.1 z

pub laid_decodes : (xs : List ℕ) (m : Asked) → Laid xs m → decoded xs ≡ Ok m
laid_decodes xs m l =
    let a = l.addressing in
    let d = m.direction in
    let adr = address_octets a m.index m.subindex in
    let h = heading l.second (service_digit d a) (length xs) in
    let e : xs ≡ h ++ ((adr ++ m.octets) ++ l.check ∷ []) =
    l.whole ∙ ap (λ ys. h ++ ys) (sym (append_assoc adr m.octets (l.check ∷ []))) in
    ap decoded e
    ∙ decoded_heading l.second (service_digit d a) (length xs) l.check (adr ++ m.octets) l.lengths (ap length e)
    (ap exclusive_or (sym e) ∙ l.balanced)
    ∙ ap (λ o. request_of o l.second (adr ++ m.octets)) (service_back d a)
    ∙ ap (request_with d l.second) (address_back a m.index m.subindex m.octets l.addresses)
    ∙ cond-true _ _ _ (fits_carried d l.second m.octets l.carries)

-- from the request to the layout

digit_back : (n : ℕ) (q : Service) → service_of n ≡ Some q → n ≡ service_digit q.direction q.addressing
digit_back n q h = grind arith

pub carried_fits : (d : Direction) (second : Bool) (ys : List ℕ) → fits_service d second ys ≡ true → Carries d second ys
carried_fits d second ys h = grind arith

-- what the octets between length and check octet are, where they make a request
abbrev Body : Direction → Addressing → Bool → List ℕ → Asked → Type 0
Body d a second bs m =
    (m.direction ≡ d) × Addresses a m.index m.subindex × Carries m.direction second m.octets
    × (bs ≡ address_octets a m.index m.subindex ++ m.octets)

made : (d : Direction) (second : Bool) (i s : ℕ) (ys : List ℕ) (m : Asked)
    → request_with d second (Some (i, s, ys)) ≡ Ok m
    → Carries d second ys × (record { direction = d; index = i; subindex = s; octets = ys } ≡ m)
made d second i s ys m h = grind arith

body : (d : Direction) (a : Addressing) (second : Bool) (bs : List ℕ) (m : Asked) → Octets bs
    → request_with d second (address_of a bs) ≡ Ok m → Body d a second bs m
body d Index8 second [] m o h = absurd (no_answer _ m h)
body d Index8 second (i ∷ ys) m o h =
    let k = made d second i 0 ys m h in
    let low : i ≡ i % 256 = omega (arith, o.0) in
    subst (Body d Index8 second (i ∷ ys)) k.1 (refl, (o.0, refl), k.0, ap (λ j. j ∷ ys) low)
body d Index8Sub second [] m o h = absurd (no_answer _ m h)
body d Index8Sub second (i ∷ []) m o h = absurd (no_answer _ m h)
body d Index8Sub second (i ∷ s ∷ ys) m o h =
    let k = made d second i s ys m h in
    let low : i ≡ i % 256 = omega (arith, o.0) in
    subst (Body d Index8Sub second (i ∷ s ∷ ys)) k.1 (refl, o.0, k.0, ap (λ j. j ∷ s ∷ ys) low)
body d Index16Sub second [] m o h = absurd (no_answer _ m h)
body d Index16Sub second (i ∷ []) m o h = absurd (no_answer _ m h)
body d Index16Sub second (i ∷ j ∷ []) m o h = absurd (no_answer _ m h)
body d Index16Sub second (i ∷ j ∷ s ∷ ys) m o h =
    let k = made d second (i * 256 + j) s ys m h in
    let b : i < 256 = o.0 in
    let c : j < 256 = o.1.0 in
    let high : i ≡ (i * 256 + j) / 256 % 256 = omega arith in
    let low : j ≡ (i * 256 + j) % 256 = omega arith in
    subst (Body d Index16Sub second (i ∷ j ∷ s ∷ ys)) k.1 (
      refl,
      omega arith,
      k.0,
      ap (λ u. u ∷ j ∷ s ∷ ys) high
          ∙ ap (λ u. ((i * 256 + j) / 256 % 256) ∷ u ∷ s ∷ ys) low,
    )

second_range : (n : ℕ) (xs : List ℕ) (t : ℕ) → second_length (n ∷ xs) ≡ Some t → (n ≡ t) × (17 ≤ n) × (n ≤ 238)
second_range n xs t h = grind arith

octets_take : (n : ℕ) (xs : List ℕ) → Octets xs → Octets (take n xs)
octets_take zero xs o = tt
octets_take (suc n) [] o = tt
octets_take (suc n) (x ∷ xs) o = (o.0, octets_take n xs o.1)

-- the octets after the length, as address, data and check octet
rest_whole : (a : Addressing) (i s : ℕ) (ys rest : List ℕ) → 1 ≤ length rest → before_check rest ≡ address_octets a i s
    ++ ys
    → rest ≡ address_octets a i s ++ (ys ++ get_or rest (length rest - 1) 0 ∷ [])
rest_whole a i s ys rest h b =
    let c = get_or rest (length rest - 1) 0 in
    split_last rest h ∙ ap (λ bs. bs ++ c ∷ []) b ∙ append_assoc (address_octets a i s) ys (c ∷ [])

address_some : (a : Addressing) (i s : ℕ) (ys : List ℕ) → 1 ≤ length (address_octets a i s ++ ys)
address_some a i s ys = grind arith

laid_at : (q : Service) (second : Bool) (first : ℕ) (rest : List ℕ) (m : Asked) → Octets rest
    → first / 16 ≡ service_digit q.direction q.addressing → has_second first ≡ second
    → cond second (second_length rest) (Some (first % 16)) ≡ Some (length (first ∷ rest))
    → exclusive_or (first ∷ rest) ≡ 0
    → request_with q.direction second (address_of q.addressing (before_check (past_length second rest))) ≡ Ok m
    → Laid (first ∷ rest) m
laid_at q false first rest m o e b l z r =
    let a = q.addressing in
    let bs = before_check rest in
    let k = body q.direction a false bs m (octets_take (length rest - 1) rest o) r in
    let some : 1 ≤ length bs = rw k.3 (address_some a m.index m.subindex m.octets) in
    let u = before_check_length rest in
    let w = rest_whole a m.index m.subindex m.octets rest (omega arith) k.3 in
    let e' : first / 16 ≡ service_digit m.direction a = e ∙ ap (λ d. service_digit d a) (sym k.0) in
    let low = same_Some (first % 16) (length (first ∷ rest)) l in
    let f : first ≡ 16 * service_digit m.direction a + length (first ∷ rest) = omega arith in
    record {
      addressing = a;
      second = false;
      check = get_or rest (length rest - 1) 0;
      whole = ap (λ x. x ∷ rest) f ∙ ap (λ ys. (16 * service_digit m.direction a + length (first ∷ rest)) ∷ ys) w;
      lengths = (omega arith, omega arith);
      addresses = k.1;
      carries = k.2;
      balanced = z;
    }
laid_at q true first [] m o e b l z r = absurd (none-some _ l)
laid_at q true first (t ∷ rest) m o e b l z r =
    let a = q.addressing in
    let bs = before_check rest in
    let k = body q.direction a true bs m (octets_take (length rest - 1) rest o.1) r in
    let some : 1 ≤ length bs = rw k.3 (address_some a m.index m.subindex m.octets) in
    let u = before_check_length rest in
    let w = rest_whole a m.index m.subindex m.octets rest (omega arith) k.3 in
    let v = second_range t rest (length (first ∷ t ∷ rest)) l in
    let e' : first / 16 ≡ service_digit m.direction a = e ∙ ap (λ d. service_digit d a) (sym k.0) in
    let one = eqb-true (first % 16) 1 b in
    let f : first ≡ 16 * service_digit m.direction a + 1 = omega arith in
    record {
      addressing = a;
      second = true;
      check = get_or rest (length rest - 1) 0;
      whole =
          ap (λ x. x ∷ t ∷ rest) f
          ∙ ap (λ x. (16 * service_digit m.direction a + 1) ∷ x ∷ rest) v.0
          ∙ ap (λ ys. (16 * service_digit m.direction a + 1) ∷ length (first ∷ t ∷ rest) ∷ ys) w;
      lengths = (omega (arith, v.0, v.1), omega (arith, v.0, v.2));
      addresses = k.1;
      carries = k.2;
      balanced = z;
    }

laid_served : (o : Option Service) (second : Bool) (first : ℕ) (rest : List ℕ) (m : Asked) → service_of (first / 16) ≡ o
    → has_second first ≡ second → Octets rest
    → cond second (second_length rest) (Some (first % 16)) ≡ Some (length (first ∷ rest))
    → exclusive_or (first ∷ rest) ≡ 0
    → request_of o second (before_check (past_length second rest)) ≡ Ok m → Laid (first ∷ rest) m
laid_served None second first rest m e b o l z r = absurd (no_answer _ m r)
laid_served (Some q) second first rest m e b o l z r =
    laid_at q second first rest m o (digit_back (first / 16) q e) b l z r

is_stated : (o : Option ℕ) (n : ℕ) → option_eq eqb o (Some n) ≡ true → o ≡ Some n
is_stated o n h = grind arith

pub decodes_laid : (xs : List ℕ) (m : Asked) → Octets xs → decoded xs ≡ Ok m → Laid xs m
decodes_laid [] m o h = absurd (no_answer _ m h)
decodes_laid (first ∷ rest) m o h =
    let p = passed (not (option_eq eqb (stated_length first rest) (Some (length (first ∷ rest))))) (fault FrameLength) _
    m h in
    let r = passed (not (eqb (exclusive_or (first ∷ rest)) 0)) (fault CheckOctet) _ m p.1 in
    let l = is_stated (stated_length first rest) (length (first ∷ rest)) (not-false _ p.0) in
    let z = eqb-true (exclusive_or (first ∷ rest)) 0 (not-false _ r.0) in
    laid_served (service_of (first / 16)) (has_second first) first rest m refl refl o.1 l z r.1

pub judged : (xs : List ℕ) (r : Result Asked Fault) → Octets xs → r ≡ decoded xs → Judged r xs
judged xs (Ok m) o e = (
  decodes_laid xs m o (sym e),
  λ other l. same_answer other m (sym (laid_decodes xs other l) ∙ sym e),
)
judged xs (Err f) o e = λ m l. no_answer f m (e ∙ laid_decodes xs m l)
