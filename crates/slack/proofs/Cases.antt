-- The row of Deck.antt by its tests.
use mathlib.Core.Path.{◌≡◌}
use mathlib.Core.Bool.{true, false}
use Prim.Native.Nat.{ℕ, ◌+◌, ◌*◌, min}
use Rattle.slack.specs.Deck.{is_uncut, lies_in_triangle, uncut_moment, triangle_moment, neither_moment, deck_moment}

module _ (b v g : ℕ) where
  pub row_uncut : is_uncut b v g ≡ true → deck_moment b v g ≡ uncut_moment b
  unfolding deck_moment
  row_uncut e = rw e

  pub row_triangle : is_uncut b v g ≡ false → lies_in_triangle b v g ≡ true → deck_moment b v g ≡ triangle_moment b (b * min v g)
  unfolding deck_moment
  row_triangle e f = rw (e, f)

  pub row_neither : is_uncut b v g ≡ false → lies_in_triangle b v g ≡ false → deck_moment b v g ≡ neither_moment b v g (v + g)
  unfolding deck_moment
  row_neither e f = rw (e, f)
