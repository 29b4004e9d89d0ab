-- What a function that writes leaves.
use Rattle.std.specs.Prelude.{◌≡◌, List, ℕ, length}
use Rattle.chart_lists.specs.Lists.{put}

-- the bytes stand over the front of a lent part, and their number is answered
pub record PutBytes (bytes before after : List ℕ) (size : ℕ) : Type 0 where
  pub size_is : size ≡ length bytes
  pub bytes_are : after ≡ put bytes before
