-- The definitions give the replies that document 02, P5 and P7, gives, on files. Both sides are computed.
use mathlib.Core.Path.{◌≡◌, refl}
use mathlib.Core.List.{◌++◌, map}
use Rattle.model.proofs.Computing.{cases_compute}
use Rattle.counter_model.specs.Cases.{ask, Case, case, arrived, three_tests, large_unmet, large_spare, passed, stopped, refused_calls}
use Rattle.counter_model.proofs.Computing.{counter_compute}

pub cases_hold : map (λ (x : Case). ask x.question) (passed ++ (stopped ++ refused_calls))
    ≡ map (λ (x : Case). x.reply) (passed ++ (stopped ++ refused_calls))
unfolding counter_compute cases_compute ask case arrived three_tests large_unmet large_spare passed stopped refused_calls
cases_hold = refl
