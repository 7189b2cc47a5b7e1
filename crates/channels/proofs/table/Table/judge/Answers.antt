use Rattle.std.proofs.Common.{◌≡◌, ℕ, suc, ◌-◌, ◌<◌, ◌≤◌, Bool, true, false, cond, List, length, map, take, drop, set}
use Rattle.std.proofs.Common.{get_or, refl, sym, ap, ◌∙◌, subst, arith, length-take}
use mir.Val.{bool_byte}
use Rattle.std.proofs.lemmas.List.{length-map, length-drop}
use Rattle.channels.specs.declared.row.Row.{Row}
use Rattle.channels.specs.Judging.{judged, signal}
use Rattle.channels.specs.Table.{packed}
use Rattle.channels.proofs.Backward.{changed_from, one_more, item_at, drop_one}
use Rattle.channels.proofs.Packing.{packed_small}
use Rattle.channels.proofs.table.Table.judge.Goals as goal

bit_is : (b : Bool) → bool_byte b ≡ cond b 1 0
bit_is true = refl
bit_is false = refl

bit_small : (b : Bool) → bool_byte b ≤ 1
bit_small true = omega arith
bit_small false = omega arith

signals_small : {V : Type 0} (f : Row V → Row V) (rows : List (Row V)) (n i s : ℕ) → n ≤ 8 → 1 ≤ i
    → s ≡ packed (map signal (map f (drop i (take n rows)))) → s < 128
signals_small f rows n i s h k e =
    let rest = drop i (take n rows) in
    let short : length (map signal (map f rest)) ≤ 7 =
    omega (arith, length-map (map f rest) signal, length-map rest f, length-drop i (take n rows), length-take n rows) in
    subst (λ x. x < 128) (sym e) (packed_small (map signal (map f rest)) short)

pub overflow_mul-signals : goal.overflow_mul-signals
overflow_mul-signals g c =
    let small = signals_small (judged g.K.Kind.meaning c.args.reading) c.args.self.now.rows c.len-n.result c.loop-i.i
    c.loop-i.signals (omega arith) (omega arith) c.loop-i.invariant.signals_packed in
    record { fits = omega (arith, small) }

pub overflow_add-signals : goal.overflow_add-signals
overflow_add-signals g c =
    let small = signals_small (judged g.K.Kind.meaning c.args.reading) c.args.self.now.rows c.len-n.result c.loop-i.i
    c.loop-i.signals (omega arith) (omega arith) c.loop-i.invariant.signals_packed in
    let bit : c.from.result ≤ 1 = subst (λ n. n ≤ 1) (sym c.from.ensures) (bit_small c.signal.result) in
    record { fits = omega (arith, small, bit) }

pub loop-i-preserved : goal.loop-i-preserved
loop-i-preserved g c =
    let rows = c.args.self.now.rows in
    let n = c.len-n.result in
    let k = c.loop-i.i - 1 in
    let s = c.loop-i.signals in
    let f = judged g.K.Kind.meaning c.args.reading in
    let y = c.judge.new.self in
    let item = c.index-self-i.result in
    let i-is : c.loop-i.i ≡ suc k = omega arith in
    let h : k < n = omega arith in
    let w : k < length rows = omega arith in
    let before : c.loop-i.self.rows ≡ changed_from f rows n (suc k) =
    subst (λ i. c.loop-i.self.rows ≡ changed_from f rows n i) i-is c.loop-i.invariant.rows_judged in
    let item-is : get_or c.loop-i.self.rows k item ≡ get_or rows k item =
    ap (λ xs. get_or xs k item) before ∙ item_at f rows n k item h w in
    let y-is : y ≡ f (get_or rows k item) = c.judge.ensures ∙ ap f item-is in
    let packed-before : s ≡ packed (map signal (map f (drop (suc k) (take n rows)))) =
    subst (λ i. s ≡ packed (map signal (map f (drop i (take n rows))))) i-is c.loop-i.invariant.signals_packed in
    let bit : c.from.result ≡ cond (signal (f (get_or rows k item))) 1 0 =
    c.from.ensures ∙ bit_is c.signal.result ∙ ap (λ b. cond b 1 0) (c.signal.ensures ∙ ap signal y-is) in
    record {
      within = omega arith;
      count_kept = c.loop-i.invariant.count_kept;
      rows_judged = ap (λ xs. set xs k y) before ∙ ap (λ x. set (changed_from f rows n (suc k)) k x) y-is
          ∙ one_more f rows n k item h w;
      signals_packed =
          omega (arith, ap (λ xs. packed (map signal (map f xs))) (drop_one rows n k item h w), packed-before, bit);
    }
