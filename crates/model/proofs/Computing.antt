-- What a proof by computation unfolds of this layer and those below: `unfolding charts_compute` stands for the definitions on charts, and the way in
-- which charts are drawn; `unfolding cases_compute` for the charts and the cases of specs/Cases too.
use Rattle.timer_set.proofs.Computing.{sets_compute}
use Rattle.comparison.specs.Comparison.{met}
use Rattle.model.specs.Version.{known_version, width_of, allows_spare, in_version, is_large, large_constant, large_in_version1}
use Rattle.model.specs.Chart.{tested}
use Rattle.model.specs.Run.{grown, restarted, all_met, after, enabled, attempt, steps, begin, outcome, every_time, player_time, accepts, waited}
use Rattle.model.specs.Flow.{brings, made, round, rounds_of, same_sets, changing, settled, rounds}
use Rattle.model.specs.Live.{starts_set, tests_set, tested_sets, at_initial, live_flow, unstarted_flow, reached_flow}
use Rattle.model.specs.Live.{live_sets, live_rounds, fullest, unstarted_sets, reached_sets, live, is_empty, first_unreached, first_unstarted}
use Rattle.model.specs.Spare.{leaves_reached, reached_part, spare_cleared}
use Rattle.model.specs.Twins.{in_same_sets, lowest_in_same, lowest_twin, merged_sets}
use Rattle.model.specs.Family.{is_pair, live_pairs, family_number, link_flow, family_of, family_from, families, meets}
use Rattle.model.specs.FirstFit.{held, free, place, first_fit, used_by, number_at, all_held, blocked, board, used}
use Rattle.model.specs.SmallestPlan.{placings, meeting_differ, planned, fewest}
use Rattle.model.specs.Floor.{searched, floor}
use Rattle.model.specs.Rewrite.{numbering, through, board_numbering, renamed, new_tests, new_starts, new_transition, rewritten_by, rewritten}
use Rattle.model.specs.Judge.{judged, fitted, rewriting}
use Rattle.model.specs.Player.{arrival, answer_of, too_large, counts_judged, steps_of, played}
use Rattle.model.specs.AnyOrder.{last_to_first}
use Rattle.model.specs.Cases.{arrow, on_event, test, drawn, A, B, C, self_loop, never_started, restart, own_start, two_events, above_floor, lone}
use Rattle.model.specs.Cases.{started_together, lowest_untested, B', C', started_together', self_loop', two_events', long_dwell, long_dwell'}
use Rattle.model.specs.Cases.{beyond_counts, with_spare, with_spare', spare_unstarted, spare_unstarted', board_numbers, ask, case, starred, unnoticed}

unfoldable pub charts_compute : Unit {0}
unfolding sets_compute met arrow on_event test drawn
    known_version width_of allows_spare in_version is_large large_constant large_in_version1 tested last_to_first
    grown restarted all_met after enabled attempt steps begin outcome every_time player_time accepts waited
    brings made round rounds_of same_sets changing settled rounds
    starts_set tests_set tested_sets at_initial live_flow unstarted_flow reached_flow
    live_sets live_rounds fullest unstarted_sets reached_sets live is_empty first_unreached first_unstarted
    leaves_reached reached_part spare_cleared in_same_sets lowest_in_same lowest_twin merged_sets
    is_pair live_pairs family_number link_flow family_of family_from families meets
    held free place first_fit used_by number_at all_held blocked board used
    placings meeting_differ planned fewest searched floor
    numbering through board_numbering renamed new_tests new_starts new_transition rewritten_by rewritten
    judged fitted rewriting arrival answer_of too_large counts_judged steps_of played
charts_compute = tt

unfoldable pub cases_compute : Unit {0}
unfolding charts_compute
    A B C self_loop never_started restart own_start two_events above_floor lone started_together lowest_untested
    B' C' started_together' self_loop' two_events' long_dwell beyond_counts long_dwell' with_spare with_spare' spare_unstarted spare_unstarted'
    board_numbers ask case starred unnoticed
cases_compute = tt
