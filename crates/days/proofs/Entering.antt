-- Entries, one after the other.
use Rattle.std.proofs.Common.{◌≡◌, ℕ, List, [], ◌∷◌, ◌++◌, length, map, take, refl, sym, ap, ◌∙◌, subst}
use Rattle.std.proofs.Common.{inl, inr, Ok, Err, Result, OnErr}
use lib.Seq.{take-append_seam}
use Rattle.kinds.specs.Meaning.{Meaning}
use Rattle.channels.specs.declared.row.Row.{Row}
use Rattle.sensor.specs.declared.sensor.Sensor.{Sensor}
use Rattle.sensor.specs.Calls.{Call}
use Rattle.sensor.specs.Rules.{channels_of, entries, entry_of, next, with_signal}
use Rattle.bench_sensor.specs.declared.call.Line.{Line}
use Rattle.bench_sensor.specs.Told.{call_of}
use Rattle.days.specs.declared.entry.Channel.{Channel}
use Rattle.days.specs.declared.entry.Entry.{Entry}
use Rattle.days.specs.Entries.{channel_of, channel_told, entry_told}
use Rattle.days.specs.Runs.{Reaches}

-- the channels of an entry
channels_told : {V : Type 0} (rows : List (Row V)) → map channel_told (map channel_of rows) ≡ map with_signal rows
channels_told [] = refl
channels_told (r ∷ rows) = ap (λ rest. with_signal r ∷ rest) (channels_told rows)

pub channels_shown : {V : Type 0} (s t : Sensor V) (channels : List (Channel V))
    → channels ≡ map channel_of (channels_of s) → s ≡ t
    → map channel_told channels ≡ map with_signal (channels_of t)
channels_shown s t channels e i = ap (map channel_told) e ∙ channels_told (channels_of s)
    ∙ ap (λ x. map with_signal (channels_of x)) i

-- the sensor after a call that is known by another name
pub next_by_name : {V : Type 0} (m : Meaning V) (s t : Sensor V) (c d : Call) → t ≡ next m s c → c ≡ d → t ≡ next m s d
next_by_name m s t c d e i = e ∙ ap (next m s) i

-- one entry more
push_told : {A B : Type 0} (f : A → B) (log : List A) (e : A) (rest : List B) → map f (log ++ (e ∷ []))
    ++ rest ≡ map f log ++ (f e ∷ rest)
push_told f [] e rest = refl
push_told f (x ∷ log) e rest = ap (λ z. f x ∷ z) (push_told f log e rest)

pub entered : {V : Type 0} (m : Meaning V) (s t : Sensor V) (log pushed : List (Entry V)) (e : Entry V) (line : Line)
    (left : List Line) → pushed ≡ log ++ (e ∷ [])
    → entry_told e ≡ entry_of m s (call_of line) → t ≡ next m s (call_of line)
    → map entry_told pushed ++ entries m t (map call_of left) ≡ map entry_told log
    ++ entries m s (map call_of (line ∷ left))
entered m s t log pushed e line left i told new =
    ap (λ z. map entry_told z ++ entries m t (map call_of left)) i
    ∙ push_told entry_told log e (entries m t (map call_of left))
    ∙ (λ j. map entry_told log ++ (told j ∷ entries m (new j) (map call_of left)))

-- what was written to the lent octets of a vector stands in it
pub written_back : (new rest : List ℕ) (long : ℕ) → length new ≡ long → take long (new ++ rest) ≡ new
written_back new rest long e = ap (λ n. take n (new ++ rest)) (sym e) ∙ take-append_seam new rest

-- calls lead from where a sensor stands to where it stands
pub reaches_here : {V : Type 0} (m : Meaning V) (s : Sensor V) (calls : List Call) → Reaches m s calls s
reaches_here m s [] = refl
reaches_here m s (c ∷ calls) = inl refl

-- wherever the calls that are left lead from s, all calls lead from where the first of them was made
abbrev pub Carries : {V : Type 0} → Meaning V → Sensor V → List Call → Sensor V → List Call → Type 0
Carries {V} m s left s0 calls = (t : Sensor V) → Reaches m s left t → Reaches m s0 calls t

-- one call more is made
pub carried : {V : Type 0} (m : Meaning V) (s u s0 : Sensor V) (c : Call) (left whole calls : List Call)
    → u ≡ next m s c → (c ∷ left) ≡ whole → Carries m s whole s0 calls → Carries m u left s0 calls
carried m s u s0 c left whole calls e f k t r =
    k t (subst (λ z. Reaches m s z t) f (inr (subst (λ z. Reaches m z left t) e r)))

-- what the first of some calls lead to, more calls lead to
reaches_more : {V : Type 0} (m : Meaning V) (s t : Sensor V) (c : Call) (left : List Call)
    → Reaches m s (c ∷ []) t → Reaches m s (c ∷ left) t
reaches_more m s t c left (inl e) = inl e
reaches_more m s t c left (inr e) =
    inr (subst (λ z. Reaches m (next m s c) left z) (sym e) (reaches_here m (next m s c) left))

-- a call is not told
pub untold : {V : Type 0} (m : Meaning V) (s s0 t : Sensor V) (c : Call) (left whole calls : List Call)
    → (c ∷ left) ≡ whole → Carries m s whole s0 calls → Reaches m s (c ∷ []) t → Reaches m s0 calls t
untold m s s0 t c left whole calls f k r = k t (subst (λ z. Reaches m s z t) f (reaches_more m s t c left r))

-- what holds anyway holds on an error
pub on_err : {T E : Type 0} (r : Result T E) (P : Type 0) → P → OnErr r P
on_err (Ok v) P p = tt
on_err (Err e) P p = p
