-- Demand 2: spaces are free but inside a run.
use Rattle.line_codes.proofs.Spaces.{tokens_free, reading_free, not_inside}
use Rattle.sending.proofs.Alike.{step_alike}
use Rattle.demands.specs.Demands.{SpacesAreFree}
use mathlib.Core.List.{◌∷◌, ◌++◌}

pub spaces_are_free_lem : SpacesAreFree
spaces_are_free_lem c a b lent h n =
    let e = not_inside a b n in
    step_alike (a ++ 32 ∷ b) (a ++ b) (tokens_free a b e) c lent (reading_free a b e h)
