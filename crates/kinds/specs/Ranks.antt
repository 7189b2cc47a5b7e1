-- Floats compare as their ranks do.
use Rattle.std.specs.Prelude.{◌≡◌, Bool, true, false, T, Some, ◌<ℤ◌, refl, Float}
use Rattle.std.specs.Cmp.{int_ranks}
use Rattle.std.specs.Ordering.{MatchOrdering, int_cmp, float_partial_cmp}
use Rattle.std.proofs.Common.{Ordering, Less, Equal, Greater, sym, ◌∙◌, subst, ⊎_elim, arith}
use Rattle.std.proofs.lemmas.Float.{lt-or-eq, eq-not_lt, eq_flip}
use Rattle.std.proofs.lemmas.Int.{ints}
use Rattle.std.specs.Float.Ieee.{lt, le, eq}
use Rattle.numbers.specs.Floats.{rank, proper}
use Rattle.numbers.proofs.Moves.{rank_fixes}
use Rattle.numbers.proofs.Order.{le_rank, lt_rank}

holds : (b : Bool) → T b → b ≡ true
holds true t = refl
holds false t = absurd t

fails : (b : Bool) → (T b → ⊥) → b ≡ false
fails true f = absurd (f tt)
fails false f = refl

module _ (x y : Float) (h : proper x ≡ true) (k : proper y ≡ true) where
  go : (o : Ordering) → MatchOrdering o (rank x <ℤ rank y) (rank x ≡ rank y) (rank y <ℤ rank x)
      → float_partial_cmp x y ≡ Some o
  go Less r =
      let below : lt x y ≡ true = lt_rank x y h k ∙ grind (arith, ints) in
      rw below
  go Equal r =
      let same : y ≡ x = sym (rank_fixes x y h k r) in
      let below : lt x x ≡ false = lt_rank x x h h ∙ grind (arith, ints) in
      let most : le x x ≡ true = le_rank x x h h ∙ grind (arith, ints) in
      let level : eq x x ≡ true =
      holds (eq x x) (⊎_elim (λ t. absurd (subst T below t)) (λ t. t) (lt-or-eq x x (subst T (sym most) tt))) in
      subst (λ (z : Float). float_partial_cmp x z ≡ Some Equal) (sym same) (rw (below, level))
  go Greater r =
      let below : lt x y ≡ false = lt_rank x y h k ∙ grind (arith, ints) in
      let above : lt y x ≡ true = lt_rank y x k h ∙ grind (arith, ints) in
      let apart : eq x y ≡ false = fails (eq x y) (λ t. eq-not_lt y x (eq_flip x y t) (subst T (sym above) tt)) in
      rw (below, apart, above)

  pub floats_ranked : float_partial_cmp x y ≡ Some (int_cmp (rank x) (rank y))
  floats_ranked = go (int_cmp (rank x) (rank y)) (int_ranks (rank x) (rank y))
