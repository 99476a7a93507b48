-- The replies to lines, one behind the other.
use Rattle.std.specs.Prelude.{List, [], ◌∷◌, ◌++◌, map, ℕ}
use Rattle.condition.specs.declared.Condition.{Condition}
use Rattle.panel.specs.Step.{Outcome, Sent, outcomes}

-- lines sent to the panel, each with a buffer that is long enough for every reply
abbrev pub sent : List (List ℕ) → List Sent
sent ls = map (λ l. record { line = l; lent = 2100 }) ls

-- the replies to lines, one behind the other, in their order
unfoldable pub together : List Outcome → List ℕ
together [] = []
together (o ∷ os) = o.reply ++ together os

abbrev pub replies_to : Condition → List (List ℕ) → List ℕ
replies_to c ls = together (outcomes c (sent ls))
