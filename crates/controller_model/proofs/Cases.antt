-- The definitions give the replies that document 02, P4 and P7, gives, on files. Both sides are computed.
use mathlib.Core.Path.{◌≡◌, refl}
use mathlib.Core.List.{◌++◌, map}
use Rattle.model.proofs.Computing.{cases_compute}
use Rattle.controller_model.specs.Cases.{head_input, files_of, heads_of, counts_of, parts_of, numbers_of, shown, asked, all_asked, after_set_up}
use Rattle.controller_model.specs.Cases.{ask, Case, two_b, spare, choice, three_loops, state_with, waiting_at, is, no, at, case}
use Rattle.controller_model.specs.Cases.{driven, refused_at_set_up, handed_in}
use Rattle.controller_model.proofs.Computing.{controller_compute}

pub cases_hold : map (λ (x : Case). ask x.question) (driven ++ (refused_at_set_up ++ handed_in))
    ≡ map (λ (x : Case). x.replies) (driven ++ (refused_at_set_up ++ handed_in))
unfolding controller_compute cases_compute head_input files_of heads_of counts_of parts_of numbers_of shown asked all_asked after_set_up
    ask two_b spare choice three_loops state_with waiting_at is no at case driven refused_at_set_up handed_in
cases_hold = refl
