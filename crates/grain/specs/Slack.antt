-- Document 01, Partly filled, with the deck of document 02, P3, and the boards of P7: section moment × length, in mm⁴.
use Rattle.std.specs.Prelude.{ℕ, ◌*◌}
use Rattle.record.specs.declared.Slack.{Slack}
use Rattle.record.specs.declared.Slack.TheVariants.{Undivided, Split}
use Rattle.record.specs.declared.Part.{Part}
use Rattle.slack.specs.Deck.{deck_moment}
use Rattle.boards.specs.Split.{split_volume}

-- from side to side over all of LENGTH, the line of 25 degrees stopped at deck and floor; or beside a board
abbrev pub slack_over : ℕ → Slack → ℕ
slack_over length (Undivided b v g) = deck_moment b v g * length
slack_over length (Split run l r) = split_volume length run l r

unfoldable pub slack_volume : Part → ℕ
slack_volume p = slack_over p.length p.slack
