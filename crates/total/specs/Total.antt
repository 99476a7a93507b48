-- Document 02, P4: the weight moment of all holds, and the one stored figure that keeps it.
use Rattle.std.specs.Prelude.{ℕ, ◌+◌, ◌-◌, min}
use Rattle.record.specs.declared.Hold.{Hold}
use Rattle.grain.specs.Sum.{weighed_moment, weighed_of, total_weight}
use Rattle.condition.specs.declared.Condition.{Condition}

-- W, the sum over the holds; the stored figure `c.total` is true where it is this sum
abbrev pub weight : Condition → ℕ
weight c = total_weight c.holds

-- the figure once a moment stands in the place of a hold's: the hold's is taken off, the new one put on. Where the figure is not true, which
-- lines cannot bring about, no more is taken off than is there, and none is put on above the most that 64 bits hold
unfoldable pub exchanged : (figure : ℕ) → Hold → (moment : ℕ) → ℕ
exchanged figure old moment = min (figure - weighed_moment (weighed_of old) + moment) 18446744073709551615
