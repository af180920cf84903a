-- What a link shows, and what its calls change.
use Rattle.std.specs.Prelude.{◌≡◌, ◌<◌, ◌≤◌, ℕ, Bool, true, false, List, take, length, Option, Some, Result, Ok, Err}
use Rattle.outside_api.specs.Told.{told, HasToldNothing}
use Rattle.outside_api.specs.Counts.{counted}
use Rattle.outside_api.specs.declared.link.Got.{Got}
use Rattle.outside_api.specs.declared.link.Got.TheVariants.{Bytes, End, Idle, Failed}
use Rattle.outside_api.specs.declared.link.LinkFault.{LinkFault}

-- what a link shows
pub record LinkView : Type 0 where
  -- the bytes that its reads gave
  pub given : Option (List ℕ)
  -- all bytes of its input, of which reads give one after the other; no call changes them
  pub input : Option (List ℕ)
  -- the bytes that its writes took
  pub taken : Option (List ℕ)
  -- whether its input has ended
  pub ended : Bool
  pub read_faults : ℕ
  pub write_faults : ℕ
  pub idles : ℕ

-- a link that nothing has passed through
pub record IsFresh (link : LinkView) : Type 0 where
  pub given : HasToldNothing link.given
  pub taken : HasToldNothing link.taken
  pub not_ended : link.ended ≡ false
  pub read_faults : link.read_faults ≡ 0
  pub write_faults : link.write_faults ≡ 0
  pub idles : link.idles ≡ 0

-- none of the input is left, where the link reports its input and what it gave of it
abbrev pub HasGivenAll : LinkView → Type 0
HasGivenAll link = (given all : List ℕ) → link.given ≡ Some given → link.input ≡ Some all → given ≡ all

-- what a read may give: bytes that go on from those before; the end, where none of the input is left; a timeout that is
-- counted; or a fault that is counted; after the end only the end
abbrev pub Reads : LinkView → LinkView → List ℕ → Got → Type 0
Reads old new buf (Bytes n) = (old.ended ≡ false) × (n ≤ length buf) × (0 < length buf → 0 < n) × (new ≡ record old { given = told old.given (take n buf) })
Reads old new buf End = HasGivenAll old × (new ≡ record old { ended = true })
Reads old new buf Idle = (old.ended ≡ false) × (new ≡ record old { idles = counted old.idles 1 })
Reads old new buf Failed = (old.ended ≡ false) × (new ≡ record old { read_faults = counted old.read_faults 1 })

-- what a write may give: all bytes are taken, or a prefix of them, and the fault is counted
abbrev pub Writes : {T : Type 0} → LinkView → LinkView → List ℕ → Result T LinkFault → Type 0
Writes old new bytes (Ok _) = new ≡ record old { taken = told old.taken bytes }
Writes old new bytes (Err _) =
    (n : ℕ) × (n ≤ length bytes) × (new ≡ record old { taken = told old.taken (take n bytes); write_faults = counted old.write_faults 1 })
