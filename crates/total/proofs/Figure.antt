-- The figure stays true: what is exchanged in a true figure gives the sum over the holds with the new one in its place.
use mathlib.Core.Path.{◌≡◌}
use mathlib.Core.List.{List}
use Prim.Native.Nat.{ℕ, ◌≤◌, ◌<◌, ◌^◌}
use native.Mathlib.Omega.{arith}
use lib.ListN.{length, get_or, set}
use Rattle.record.specs.declared.Hold.{Hold}
use Rattle.record.specs.Filler.{no_hold}
use Rattle.whole.proofs.Lists.{sum_at, sum_set, sum_le}
use Rattle.grain.specs.Sum.{weight_moment, total_weight}
use Rattle.total.specs.Total.{exchanged}
use Rattle.total.proofs.Sound.{PlaceSound, place_weighed, place_le}

module _ (hs : List Hold) (long : length hs ≡ 16) (sound : (i : ℕ) → i < 16 → PlaceSound (get_or hs i no_hold)) where
  pub total_le : total_weight hs ≤ 2 ^ 39
  unfolding total_weight
  total_le = omega (arith, sum_le weight_moment no_hold hs (2 ^ 35) (λ i p. place_le (get_or hs i no_hold) (sound i (omega arith))))

  pub exchange_true : (i : ℕ) (h : Hold) → i < 16 → PlaceSound h → exchanged (total_weight hs) (get_or hs i no_hold) (weight_moment h) ≡ total_weight (set hs i h)
  unfolding exchanged total_weight
  exchange_true i h p s =
      let off = place_weighed (get_or hs i no_hold) (sound i p) in
      let put = sum_set weight_moment no_hold hs i h (omega arith) in
      let part = sum_at weight_moment no_hold hs i (omega arith) in
      omega (arith, off, put, part, total_le, place_le h s)
