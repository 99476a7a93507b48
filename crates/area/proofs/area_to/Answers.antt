-- `area_to`: AREA from 0 to UPPER.
use mathlib.Core.Path.{refl, ◌∙◌}
use Rattle.std.proofs.Common.{rules}
use Rattle.std.specs.List.{range_with_len}
use Rattle.std.proofs.lemmas.Iterator.{YieldsList-from_range, YieldsList-from_map}
use Rattle.std.proofs.lemmas.Iterator.Consumers.{sum_by_from_yields_List, fits_by_from_yields_list}
use Rattle.arms.specs.Arms.{plus_at, minus_at}
use Rattle.area.specs.Area.{stretch_area}
use Rattle.area.proofs.Stretches.{stretches_fit, stretches_are}
use Rattle.area.proofs.area_to.Goals as goal

pub sum-requires-clause-fits : goal.sum-requires-clause-fits
sum-requires-clause-fits c =
    let ds = c.args.ds.values in
    let f = stretch_area (plus_at ds) (minus_at ds) c.args.upper in
    fits_by_from_yields_list f (range_with_len 0 9) c.map.result _
    (YieldsList-from_map _ f (YieldsList-from_range 0 9 9 c.map.ensures.source refl) c.map.ensures.closure (λ k r q h. (search rules, search rules)))
    (stretches_fit ds c.args.upper c.args.ds.bounded)

pub returns : goal.returns
returns c =
    let ds = c.args.ds.values in
    let f = stretch_area (plus_at ds) (minus_at ds) c.args.upper in
    sum_by_from_yields_List f (range_with_len 0 9) c.map.result _ c.sum.ensures.ran
    (YieldsList-from_map _ f (YieldsList-from_range 0 9 9 c.map.ensures.source refl) c.map.ensures.closure (λ k r q h. (search rules, search rules)))
    ∙ stretches_are ds c.args.upper
