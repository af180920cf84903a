-- What a payload is seen as.
use Rattle.std.specs.Prelude.{ℕ, List}

-- what a payload is seen as: its bytes, and how many it has room for
pub record PayloadView : Type 0 where
  pub bytes : List ℕ
  pub room : ℕ
