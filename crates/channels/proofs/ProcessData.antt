-- Process data: its length, and two octets written behind others at the front of a buffer.
use Rattle.std.proofs.Common.{◌≡◌, ℕ, suc, ◌+◌, ◌≤◌, List, [], ◌∷◌, ◌++◌, length, drop, set, sym, refl, ap, ◌∙◌}
use Rattle.std.proofs.Common.{add-one, arith, length-append, length-drop, drop-drop}
use Rattle.kinds.specs.Meaning.{Meaning, Lawful}
use Rattle.channels.specs.declared.reading.Reading.{Reading}
use Rattle.channels.specs.declared.reading.Reading.TheVariants.{Value, Below, Above, NoData}
use Rattle.channels.specs.Readings.{process_data, process_data_length, reading_octets}
use Rattle.octets.specs.Buffers.{over}

behind : (ws xs : List ℕ) (a b : ℕ) → 2 ≤ length xs → set (set (ws ++ xs) (length ws) a) (suc (length ws)) b
    ≡ (ws ++ a ∷ b ∷ []) ++ drop 2 xs
behind [] [] a b h = absurd (omega arith)
behind [] (x ∷ []) a b h = absurd (omega arith)
behind [] (x ∷ y ∷ xs) a b h = refl
behind (w ∷ ws) xs a b h = ap (λ l. w ∷ l) (behind ws xs a b h)

pub two_behind : (ws buffer : List ℕ) (n a b : ℕ) → length ws ≡ n → n + 2 ≤ length buffer
    → set (set (over ws buffer) n a) (n + 1) b ≡ over (ws ++ a ∷ b ∷ []) buffer
two_behind ws buffer n a b e h =
    (λ i. set (set (over ws buffer) (sym e i) a) (add-one (sym e i) i) b)
    ∙ behind ws (drop (length ws) buffer) a b (omega (arith, length-drop (length ws) buffer))
    ∙ ap (λ l. (ws ++ a ∷ b ∷ []) ++ l) (drop-drop 2 (length ws) buffer
    ∙ ap (λ k. drop k buffer) (sym (length-append ws (a ∷ b ∷ []))))

-- a reading is shown by as many octets as a value has, and process data has two more
pub shown_wide : {V : Type 0} (m : Meaning V) (l : Lawful V m) (r : Reading V) → length (reading_octets m r) ≡ m.width
shown_wide m l (Value v) = l.octets_wide v
shown_wide m l Below = l.below_wide
shown_wide m l Above = l.above_wide
shown_wide m l NoData = l.no_data_wide

pub block_long : {V : Type 0} (m : Meaning V) (l : Lawful V m) (r : Reading V) (a b : ℕ)
    → length (process_data m r a b) ≡ process_data_length m
block_long m l r a b = length-append (reading_octets m r) (a ∷ b ∷ []) ∙ ap (λ n. n + 2) (shown_wide m l r)
