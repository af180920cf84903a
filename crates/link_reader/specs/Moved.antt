-- A link that was read from and written to.
use Rattle.std.specs.Prelude.{ℕ, List}
use Rattle.outside_api.specs.Counts.{counted}
use Rattle.outside_api.specs.Link.{LinkView}
use Rattle.outside_api.specs.Told.{told}

-- a link after it gave and took these bytes, and timed out n times
abbrev pub moved : LinkView → List ℕ → List ℕ → ℕ → LinkView
moved link given taken idled = record link { given = told link.given given; taken = told link.taken taken; idles = counted link.idles idled }
