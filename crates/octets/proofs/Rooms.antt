-- Octets with room in a buffer, and without.
use Rattle.std.proofs.Common.{◌≡◌, ℕ, ◌<◌, ◌≤◌, Bool, cond, List, length, Some, None, sym, ap, le-leb}
use Rattle.std.proofs.lemmas.Bool.{lt-leb}
use Rattle.octets.specs.Buffers.{over, fitting, placed}

module _ (octets buffer : List ℕ) where
  pub fitting_room : length octets ≤ length buffer → Some (length octets) ≡ fitting octets buffer
  fitting_room h = sym (ap (λ (b : Bool). cond b (Some (length octets)) None)
      (le-leb (length octets) (length buffer) h))

  pub placed_room : length octets ≤ length buffer → over octets buffer ≡ placed octets buffer
  placed_room h = sym (ap (λ (b : Bool). cond b (over octets buffer) buffer) (le-leb (length octets) (length buffer) h))

  pub fitting_none : length buffer < length octets → None ≡ fitting octets buffer
  fitting_none h = sym (ap (λ (b : Bool). cond b (Some (length octets)) None)
      (lt-leb (length octets) (length buffer) h))

  pub placed_none : length buffer < length octets → buffer ≡ placed octets buffer
  placed_none h = sym (ap (λ (b : Bool). cond b (over octets buffer) buffer) (lt-leb (length octets) (length buffer) h))
