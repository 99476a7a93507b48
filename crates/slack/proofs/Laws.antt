-- The laws of the shapes and of the moment, together.
use mathlib.Core.Path.{refl}
use borrow.Author.Tests.{leb-true}
use Rattle.whole.specs.Root.{root_digits}
use Rattle.slack.specs.Deck.{deck_moment}
use Rattle.slack.specs.Laws.{QuarterIsTooLittle, Laws}
use Rattle.slack.proofs.Triangles.{by_squares_lem, base_fits_lem}
use Rattle.slack.proofs.Shapes.{shapes_apart, line_fits_lem, uncut_unrounded_lem, neither_unrounded_lem, void_around_grain_lem}
use Rattle.slack.proofs.Rows.{moments_near, exchanged_alike_lem}
use Rattle.slack.proofs.Edges.{no_depth_met_lem, no_height_met_lem}

quarter_too_little : QuarterIsTooLittle
unfolding deck_moment root_digits
quarter_too_little A M e f = rw (e, f) (leb-true _ _ refl)

pub laws : Laws
laws =
    record {
      moments_are_near = moments_near;
      by_squares = by_squares_lem;
      quarter_is_too_little = quarter_too_little;
      shapes_are_apart = shapes_apart;
      no_depth_met = no_depth_met_lem;
      no_height_met = no_height_met_lem;
      base_fits = base_fits_lem;
      line_fits = line_fits_lem;
      uncut_unrounded = uncut_unrounded_lem;
      neither_unrounded = neither_unrounded_lem;
      void_around_grain = void_around_grain_lem;
      exchanged_alike = exchanged_alike_lem;
    }
