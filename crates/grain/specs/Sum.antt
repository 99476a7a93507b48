-- Document 01, the sum: parts in thousandths of m⁴, weight moments in kg·m.
use Rattle.std.specs.Prelude.{Bool, true, cond, Result, Ok, Err, List, ℕ, ◌*◌}
use Rattle.whole.specs.Divide.{ceil_div}
use Rattle.whole.specs.Lists.{all, sum_of}
use Rattle.record.specs.declared.Mode.{Mode}
use Rattle.record.specs.declared.Mode.TheVariants.{Trimmed, Voided, Partial}
use Rattle.record.specs.declared.Part.{Part}
use Rattle.record.specs.declared.Hold.{Hold}
use Rattle.record.specs.Held.{cells_of, parts_of}
use Rattle.limits.specs.Limits.{hold_limits}
use Rattle.grain.specs.declared.NotWeighed.{NotWeighed}
use Rattle.grain.specs.declared.NotWeighed.TheVariants.{Limits, NoFit}
use Rattle.grain.specs.Section.{section_moment, fits}
use Rattle.grain.specs.Slack.{slack_volume}

-- section moment × LENGTH, in mm⁴
abbrev pub section_volume : Part → ℕ
section_volume p = section_moment (cells_of p) * p.length

abbrev pub part_volume : Mode → Part → ℕ
part_volume Trimmed p = section_volume p
part_volume Voided p = section_volume p
part_volume Partial p = slack_volume p

-- a part: that, rounded up to thousandths of m⁴ (10⁹ mm⁴ each)
unfoldable pub part_moment : Mode → Part → ℕ
part_moment mode p = ceil_div (part_volume mode p) 1000000000

-- the percentage of a hold, by its mode
abbrev pub percentage : Mode → ℕ
percentage Trimmed = 100
percentage Voided = 106
percentage Partial = 112

-- a hold: the sum of its parts × its percentage, rounded up
unfoldable pub hold_moment : Hold → ℕ
hold_moment h = ceil_div (sum_of (part_moment h.head.mode) (parts_of h) * percentage h.head.mode) 100

-- the weight moment of a hold: 10,000 × that/SF, rounded up
unfoldable pub weight_moment : Hold → ℕ
weight_moment h = ceil_div (10000 * hold_moment h) h.head.factor

-- whether the void of a part fits: of the cells only
abbrev pub part_fits : Mode → Part → Bool
part_fits Trimmed p = fits (cells_of p)
part_fits Voided p = fits (cells_of p)
part_fits Partial p = true

-- whether every part's void fits; if not: code 21
unfoldable pub hold_fits : Hold → Bool
hold_fits h = all (part_fits h.head.mode) (parts_of h)

-- what a hold record answers: outside its limits (20), a void that does not fit (21), or its weight moment
unfoldable pub weighed_of : Hold → Result ℕ NotWeighed
weighed_of h = cond (hold_limits h) (cond (hold_fits h) (Ok (weight_moment h)) (Err NoFit)) (Err Limits)

-- the paper's code for each answer
abbrev pub not_weighed_code : NotWeighed → ℕ
not_weighed_code Limits = 20
not_weighed_code NoFit = 21

abbrev pub weighed_code : Result ℕ NotWeighed → ℕ
weighed_code (Ok w) = 0
weighed_code (Err why) = not_weighed_code why

-- the weight moment that an answer gives: 0 where a hold is outside its limits, as one without parts is, or does not fit
abbrev pub weighed_moment : Result ℕ NotWeighed → ℕ
weighed_moment (Ok w) = w
weighed_moment (Err why) = 0

-- the weight moments of all holds together; a place that holds no parts counts 0 (`nothing_weighs`: 0 over any SF is 0, over the
-- filler's 0 too)
unfoldable pub total_weight : List Hold → ℕ
total_weight hs = sum_of weight_moment hs
