-- The plays A to K of document 01: every entry of the list gives its answer by the definitions, computed. Assumes nothing.
use lib.Dec.{T}
use lib.Ieee.{lt, le, mul, sub, div, neg, of_int, of_bits, is_nan, to_unsigned, to_signed}
use Rattle.rounding.specs.Round.{round_even}
use Rattle.rounding.specs.Distance.{distance}
use Rattle.rounding.specs.Quotient.{rounded_up}
use Rattle.quotients.specs.Steps.{floor, ceil, round_ties_even, max, abs}
use Rattle.score_state.specs.Points.{hits, points}
use Rattle.units.specs.Gap.{gap}
use Rattle.score_state.specs.Given.{or, missing, given_hits, given_points, fill}
use Rattle.score_state.specs.Accuracy.{accuracy_of}
use Rattle.inspect.specs.Inspect.{shortened, total_hits, capped_misses, misses, remain}
use Rattle.inspect.specs.Target.{target}
use Rattle.inspect.specs.Checks.{chart_over, unknown_code, over_cap, count_over, acc_outside, stop_of}
use Rattle.ignore_acc.specs.IgnoreAcc.{assign_specified, unwrap_or_else, second_pass, passes, add_shortfall, best_case, worst_case, by_priority, ignore_acc}
use Rattle.fast.specs.Fast.{if_none, clamped, prelim, provided, num_provided, all_provided, one_missing, numerator, target_total, delta_of, upgrade, upgrades, first_missing, left_place, plus_left, add_left, three_or_fewer, provide, with_acc, by_acc, fast}
use Rattle.closest_laws.specs.Loops as Loops
use Rattle.closest_laws.specs.Loops.{from, range, each, scan}
use Rattle.closest_f64.specs.Rust.{x_values, at_x, solve_two_vars, match_two_missing, optimize_two_missing, n200_values, at_n200, optimize_last_three, min_space_needed, n320_values, n300_values, result_at, dist_of, at_new300, at_new320, best_result, optimize_three_plus_missing, count, optimize_hitresults, match_given, target_numerator, args_of, closest_at_f64}
use Rattle.nearest_laws.specs.Walk as Walk
use Rattle.nearest_laws.specs.Walk.{gcd_in, gcd, stride, better, settle, lowest, trial, pair, rows, settings, last_of, init_of, middles, middles_of, candidates, walk}
use Rattle.nearest_laws.specs.Nearest.{fold, all_given, stops, found, nearest}
use Rattle.generate_laws.specs.Generate.{closest_of, found_of, nearest_of, by_method, scored_by, answer_by, generate_answer}
use Rattle.generate_laws.specs.Plays.{plays, same_list, right, all}

pub plays-right : T (all right plays)
unfolding plays same_list right generate_answer answer_by scored_by by_method closest_of found_of nearest_of lt le mul sub div neg of_int of_bits round_even distance hits points gap or missing given_hits given_points fill accuracy_of shortened total_hits capped_misses misses remain target chart_over unknown_code over_cap count_over acc_outside stop_of assign_specified unwrap_or_else second_pass passes add_shortfall best_case worst_case by_priority ignore_acc if_none clamped prelim provided num_provided all_provided one_missing numerator target_total delta_of upgrade upgrades first_missing left_place plus_left add_left three_or_fewer provide with_acc by_acc fast from range each Loops.offer scan rounded_up floor ceil round_ties_even max abs is_nan to_unsigned to_signed x_values at_x solve_two_vars match_two_missing optimize_two_missing n200_values at_n200 optimize_last_three min_space_needed n320_values n300_values result_at dist_of at_new300 at_new320 best_result optimize_three_plus_missing count optimize_hitresults match_given target_numerator args_of closest_at_f64 gcd_in gcd stride Walk.start Walk.over better Walk.offer settle lowest trial pair rows settings last_of init_of middles middles_of candidates walk fold all_given stops found nearest
plays-right = tt
