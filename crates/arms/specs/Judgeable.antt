-- What the arms are worked from.
use Rattle.std.specs.Prelude.{◌≡◌, true, ◌≤◌, ◌<◌, length}
use Rattle.limits.specs.Limits.{load_limits, column_limits}
use Rattle.arms.specs.declared.Basis.{Basis}

-- two columns around D, a load and a weight moment within their limits
pub record Judgeable (b : Basis) : Type 0 where
  pub low : column_limits b.low ≡ true
  pub high : column_limits b.high ≡ true
  pub ten_low : length b.low.kn ≡ 10
  pub ten_high : length b.high.kn ≡ 10
  pub load : load_limits b.load ≡ true
  pub apart : b.low.d < b.high.d
  pub from : b.low.d ≤ b.load.d
  pub to : b.load.d ≤ b.high.d
  pub weight : b.weight ≤ 1000000000
