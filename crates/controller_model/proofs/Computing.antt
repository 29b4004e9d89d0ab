-- What a proof by computation unfolds of this layer and those below: `unfolding controller_compute` stands for these definitions.
use Rattle.file_format.proofs.Computing.{files_compute}
use Rattle.chart_lists.specs.Lists.{put}
use Rattle.judgement.specs.Judging.{judged_in}
use Rattle.controller_model.specs.Parts.{offset, part_of, in_order, every_below, stretch, written}
use Rattle.controller_model.specs.Heads.{allowed_number, charts_in, charts_judged, counts_in_order, long_enough, blocks_fit}
use Rattle.controller_model.specs.Heads.{set_up_judged, heads_judged}
use Rattle.controller_model.specs.Serving.{waits, state_of, can_take, lowest_to_take, left_by, report_of, next_turn, passed, leave, served, turned}
use Rattle.controller_model.specs.Controlling.{start_head, start_counts, at_start, set_up, sound_waiting, sound_head, sound_at, sound_state}
use Rattle.controller_model.specs.Controlling.{state_judged, receive, free, done_by, called, verdict_of, reported, step_of, turns_in}

unfoldable pub controller_compute : Unit {0}
unfolding files_compute put judged_in offset part_of in_order every_below stretch written
    allowed_number charts_in charts_judged counts_in_order long_enough blocks_fit set_up_judged heads_judged
    waits state_of can_take lowest_to_take left_by report_of next_turn passed leave served turned
    start_head start_counts at_start set_up sound_waiting sound_head sound_at sound_state
    state_judged receive free done_by called verdict_of reported step_of turns_in
controller_compute = tt
