-- What a reader keeps, and what it gives its framer.
use Rattle.std.specs.Prelude.{◌≡◌, ◌≤◌, ◌<◌, ℕ, length}
use Rattle.link_reader.specs.Arrival.{ReaderView, unheard}
use Rattle.link_reader.specs.declared.reader.Arrival.{Arrival}
use Rattle.link_reader.specs.declared.reader.Arrival.TheVariants.{More}

-- the part of the piece that is left, in a piece that has room
pub record IsWithin (from to size : ℕ) : Type 0 where
  pub rising : from ≤ to
  pub within : to ≤ size
  pub some : 0 < size

-- the framer took bytes of the piece, and nothing was read from the link
pub record Gathered (r s : ReaderView) (arrival : Arrival) : Type 0 where
  pub more : arrival ≡ More
  pub limits : s.framer.limits ≡ r.framer.limits
  pub greeted : s.framer.greeted ≡ r.framer.greeted
  pub place : s.framer.place ≡ r.framer.place
  pub bytes : unheard r ≡ unheard s
  pub some : length r.framer.held < length s.framer.held
