-- The worked runs, by computing from the definitions.
use mathlib.Core.Path.{refl}
use Rattle.whole.specs.Lists.{within, all, sum_of, tabulate}
use Rattle.whole.specs.Root.{root_digits}
use Rattle.columns.specs.Columns.{is_above, column_answer, in_order}
use Rattle.record.specs.Filler.{padded}
use Rattle.limits.specs.Limits.{ship_limits, load_limits, column_limits, cell_limits, section_limits, slack_limits, hold_limits, item_limits}
use Rattle.weights.specs.Weights.{with_item, weighed_kg}
use Rattle.cells.specs.Depth.{standard_depth, wing_depth, cell_depth, cell_area}
use Rattle.cells.specs.Sizes.{most_held}
use Rattle.grain.specs.Section.{kept_from, fits_from, first_moment, high_moment, old_twice, section_moment}
use Rattle.slack.specs.Deck.{deck_moment}
use Rattle.boards.specs.Split.{split_volume}
use Rattle.grain.specs.Slack.{slack_volume}
use Rattle.grain.specs.Sum.{part_moment, hold_moment, weight_moment, hold_fits, weighed_of}
use Rattle.total.specs.Total.{exchanged}
use Rattle.arms.specs.Angles.{angle, sine}
use Rattle.area.specs.Area.{area_over}
use Rattle.arms.specs.Arms.{gm, kn_arm, kg_arm, righting_arm, heeling_arm, diff}
use Rattle.columns.specs.Search.{columns_around}
use Rattle.stability.specs.Verdict.{angles_below, diff_at, peak, fails_among, judged_by, verdict_of}
use Rattle.text.specs.Token.{tokens, same, value_from, number_of}
use Rattle.line_codes.specs.Line.{walked, reading_of}
use Rattle.items.specs.Grammar.{named, numbers?, last_numbers?, items?}
use Rattle.request.specs.Shape.{request_of}
use Rattle.spelling.specs.Spelling.{spell}
use Rattle.showing.specs.Show.{form_inside}
use Rattle.reply.specs.Replies.{verdict_reply, total_reply}
use Rattle.reply.specs.Written.{digits, figure}
use Rattle.judging.specs.Judge.{judged_of}
use Rattle.operations.specs.Operations.{ship_operation, load_operation, column_operation, hold_operation, drop_operation, weighing_operation}
use Rattle.panel.specs.Step.{outcome_of, step_of, condition_after, outcomes}
use Rattle.demands.specs.Runs.{FirstRun, SecondRun, DeckRun, ShowRun, TotalRun, WeighingRun, BoardRun}

pub first_run_lem : FirstRun
unfolding within all sum_of tabulate root_digits is_above column_answer in_order padded ship_limits load_limits column_limits cell_limits section_limits slack_limits hold_limits cell_depth cell_area most_held kept_from fits_from first_moment high_moment old_twice section_moment slack_volume deck_moment part_moment hold_moment weight_moment hold_fits exchanged weighed_of angle sine area_over columns_around gm kn_arm kg_arm righting_arm heeling_arm diff angles_below diff_at peak fails_among judged_by verdict_of tokens same value_from number_of walked reading_of named numbers? last_numbers? items? request_of verdict_reply digits figure judged_of ship_operation load_operation column_operation hold_operation drop_operation outcome_of step_of outcomes condition_after
first_run_lem = (refl, refl)

pub second_run_lem : SecondRun
unfolding within all sum_of tabulate root_digits is_above column_answer in_order padded ship_limits load_limits column_limits cell_limits section_limits slack_limits hold_limits standard_depth wing_depth cell_depth cell_area most_held kept_from fits_from first_moment high_moment old_twice section_moment slack_volume deck_moment part_moment hold_moment weight_moment hold_fits exchanged weighed_of angle sine area_over columns_around gm kn_arm kg_arm righting_arm heeling_arm diff angles_below diff_at peak fails_among judged_by verdict_of tokens same value_from number_of walked reading_of named numbers? last_numbers? items? request_of verdict_reply digits figure judged_of ship_operation load_operation column_operation hold_operation drop_operation outcome_of step_of outcomes
second_run_lem = refl

pub deck_run_lem : DeckRun
unfolding within all sum_of tabulate root_digits is_above column_answer in_order padded ship_limits load_limits column_limits cell_limits section_limits slack_limits hold_limits cell_depth cell_area most_held kept_from fits_from first_moment high_moment old_twice section_moment slack_volume deck_moment part_moment hold_moment weight_moment hold_fits exchanged weighed_of angle sine area_over columns_around gm kn_arm kg_arm righting_arm heeling_arm diff angles_below diff_at peak fails_among judged_by verdict_of tokens same value_from number_of walked reading_of named numbers? last_numbers? items? request_of verdict_reply digits figure judged_of ship_operation load_operation column_operation hold_operation drop_operation outcome_of step_of outcomes condition_after
deck_run_lem = refl

pub show_run_lem : ShowRun
unfolding within all padded tokens same value_from number_of walked reading_of named numbers? last_numbers? items? request_of form_inside spell judged_of outcome_of step_of outcomes
show_run_lem = (refl, refl)

pub total_run_lem : TotalRun
unfolding within all sum_of tabulate root_digits is_above column_answer in_order padded ship_limits load_limits column_limits cell_limits section_limits slack_limits hold_limits cell_depth cell_area most_held kept_from fits_from first_moment high_moment old_twice section_moment slack_volume deck_moment part_moment hold_moment weight_moment hold_fits exchanged weighed_of angle sine area_over columns_around gm kn_arm kg_arm righting_arm heeling_arm diff angles_below diff_at peak fails_among judged_by verdict_of tokens same value_from number_of walked reading_of named numbers? last_numbers? items? request_of verdict_reply digits figure judged_of ship_operation load_operation column_operation hold_operation drop_operation outcome_of step_of outcomes condition_after total_reply form_inside spell
total_run_lem = refl

pub weighing_run_lem : WeighingRun
unfolding within all sum_of tabulate root_digits is_above column_answer in_order padded ship_limits load_limits column_limits cell_limits section_limits slack_limits hold_limits cell_depth cell_area most_held kept_from fits_from first_moment high_moment old_twice section_moment slack_volume deck_moment part_moment hold_moment weight_moment hold_fits exchanged weighed_of angle sine area_over columns_around gm kn_arm kg_arm righting_arm heeling_arm diff angles_below diff_at peak fails_among judged_by verdict_of tokens same value_from number_of walked reading_of named numbers? last_numbers? items? request_of verdict_reply digits figure judged_of ship_operation load_operation column_operation hold_operation drop_operation outcome_of step_of outcomes condition_after total_reply form_inside spell item_limits with_item weighed_kg weighing_operation
weighing_run_lem = refl

pub board_run_lem : BoardRun
unfolding within all sum_of tabulate root_digits is_above column_answer in_order padded ship_limits load_limits column_limits cell_limits section_limits slack_limits hold_limits cell_depth cell_area most_held kept_from fits_from first_moment high_moment old_twice section_moment slack_volume split_volume deck_moment part_moment hold_moment weight_moment hold_fits exchanged weighed_of angle sine area_over columns_around gm kn_arm kg_arm righting_arm heeling_arm diff angles_below diff_at peak fails_among judged_by verdict_of tokens same value_from number_of walked reading_of named numbers? last_numbers? items? request_of verdict_reply digits figure judged_of ship_operation load_operation column_operation hold_operation drop_operation outcome_of step_of outcomes condition_after total_reply form_inside spell
board_run_lem = refl
