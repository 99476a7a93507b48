-- The three demands, of the step of one line and of its repetition over any list of lines.
use Rattle.line_codes.proofs.Decimals.{number_is}
use Rattle.reply.proofs.Shown.{at_front}
use Rattle.condition.proofs.Empty.{starts_empty_lem}
use Rattle.weights.proofs.Items.{sums_of_items_lem}
use Rattle.showing.proofs.Splits.{taken_as_split_lem}
use Rattle.sending.proofs.Sending.{records_can_be_sent_lem}
use Rattle.stability.proofs.Covers.{every_angle_lem}
use Rattle.boards.proofs.Laws.{laws}
use Rattle.grain.proofs.Boards.{boards_add_no_weight_lem}
use Rattle.demands.specs.Demands.{Demands}
use Rattle.demands.proofs.ByOperation.{codes_by_operation_lem}
use Rattle.demands.proofs.Demand1.{codes_are_printed_lem, refusals_change_nothing_lem, clear_starts_anew_lem}
use Rattle.demands.proofs.Stored.{records_are_stored_lem, replies_show_the_code_lem}
use Rattle.demands.proofs.Show.{shows_a_form, shows_the_form_lem, shapes_are_four_deep_lem}
use Rattle.demands.proofs.Spaces.{spaces_are_free_lem}
use Rattle.demands.proofs.Demand2.{weight_is_total_lem}
use Rattle.demands.proofs.Demand3.{verdicts_hold_lem}
use Rattle.demands.proofs.Reached.{steps_stay_within_lem, reached_are_within_lem, ranges_are_within_lem}
use Rattle.demands.proofs.Total.{stored_is_the_sum_lem, total_stands_alone_lem, total_with_items_lem, totals_are_shown_lem, stored_is_shown_lem, sent_weigh_the_same_lem}
use Rattle.demands.proofs.Items.{sums_are_of_the_items_lem, items_can_be_taken_lem, weighed_makes_the_load_lem, weighed_is_within_lem, weighing_stands_alone_lem, weighing_with_other_lem}
use Rattle.demands.proofs.Boards.{split_is_not_of_cells_lem}
use Rattle.demands.proofs.Runs.{first_run_lem, second_run_lem, deck_run_lem, show_run_lem, total_run_lem, weighing_run_lem, board_run_lem}

pub demands : Demands
demands =
    record {
      codes_are_printed = codes_are_printed_lem;
      codes_by_operation = codes_by_operation_lem;
      refusals_change_nothing = refusals_change_nothing_lem;
      records_are_stored = records_are_stored_lem;
      replies_show_the_code = replies_show_the_code_lem;
      written_at_front = at_front;
      starts_empty = starts_empty_lem;
      clear_starts_anew = clear_starts_anew_lem;
      first_run = first_run_lem;
      second_run = second_run_lem;
      deck_run = deck_run_lem;
      shows_a_form = shows_a_form;
      shows_the_form = shows_the_form_lem;
      shapes_are_four_deep = shapes_are_four_deep_lem;
      show_run = show_run_lem;
      records_can_be_sent = records_can_be_sent_lem;
      stored_is_the_sum = stored_is_the_sum_lem;
      total_stands_alone = total_stands_alone_lem;
      total_with_items = total_with_items_lem;
      totals_are_shown = totals_are_shown_lem;
      stored_is_shown = stored_is_shown_lem;
      total_run = total_run_lem;
      sent_weigh_the_same = sent_weigh_the_same_lem;
      sums_are_of_the_items = sums_are_of_the_items_lem;
      items_can_be_taken = items_can_be_taken_lem;
      weighed_makes_the_load = weighed_makes_the_load_lem;
      weighed_is_within = weighed_is_within_lem;
      sums_of_items = sums_of_items_lem;
      weighing_stands_alone = weighing_stands_alone_lem;
      weighing_with_other = weighing_with_other_lem;
      weighing_run = weighing_run_lem;
      taken_as_split = taken_as_split_lem;
      split_is_not_of_cells = split_is_not_of_cells_lem;
      board_laws = laws;
      boards_add_no_weight = boards_add_no_weight_lem;
      board_run = board_run_lem;
      spaces_are_free = spaces_are_free_lem;
      numbers_are_read = number_is;
      weight_is_total = weight_is_total_lem;
      verdicts_hold = verdicts_hold_lem;
      every_angle = every_angle_lem;
      steps_stay_within = steps_stay_within_lem;
      reached_are_within = reached_are_within_lem;
      ranges_are_within = ranges_are_within_lem;
    }
