-- What one step of reading a link gives.
use Rattle.std.specs.Prelude.{◌≡◌, ◌<◌, ◌+◌, ◌⊎◌, ℕ, Bool, true, false, List, [], ◌++◌, length, MatchBool, IsTrue, ◌↔◌}
use Rattle.outside_api.specs.Counts.{counted}
use Rattle.outside_api.specs.Link.{LinkView, HasGivenAll}
use Rattle.ipc_frame.specs.Framing.{IsNeeded, IsTooLong}
use Rattle.ipc_frame.specs.Stream.{built, unbuilt, whole, fault, front_of, IsGreeting}
use Rattle.ipc_frame.specs.View.{FramerView, told_place, passed}
use Rattle.ipc_frame.specs.declared.bad.Bad.{Bad}
use Rattle.ipc_frame.specs.declared.bad.Bad.TheVariants as b
use Rattle.q_values.specs.Tree.{Tree, tree}
use Rattle.link_reader.specs.Moved.{moved}
use Rattle.link_reader.specs.declared.reader.Arrival.{Arrival}
use Rattle.link_reader.specs.declared.reader.Arrival.TheVariants as r

-- a reader: what its framer shows, and the bytes that were read and that the framer hasn't taken
pub record ReaderView : Type 0 where
  pub framer : FramerView
  pub pending : List ℕ

-- all bytes that were read and are not heard yet
abbrev pub unheard : ReaderView → List ℕ
unheard r = r.framer.held ++ r.pending

-- a reader after the bytes that its framer held were heard
abbrev pub heard_by : ReaderView → ReaderView
heard_by r = record r { framer = passed r.framer }

-- the link gave more bytes, or the framer took more, and nothing was heard
pub record Gathers (old new : LinkView) (r s : ReaderView) : Type 0 where
  pub given : List ℕ
  pub link : new ≡ moved old given [] 0
  pub limits : s.framer.limits ≡ r.framer.limits
  pub greeted : s.framer.greeted ≡ r.framer.greeted
  pub place : s.framer.place ≡ r.framer.place
  pub bytes : unheard r ++ given ≡ unheard s
  pub some : length r.framer.held < length s.framer.held + length given
  pub opened : (given ≡ []) ⊎ (old.ended ≡ false)

-- the bytes that are held are a whole message with this value, or one outside the profile
abbrev pub HoldsMessage : FramerView → Bool → Tree → Type 0
HoldsMessage f sync t = (f.greeted ≡ true) × (front_of f.limits f.held ≡ whole (length f.held) (record { sync = sync; content = built t }))

abbrev pub HoldsOutside : FramerView → Bool → ℕ → Type 0
HoldsOutside f sync k = (f.greeted ≡ true) × (front_of f.limits f.held ≡ whole (length f.held) (record { sync = sync; content = unbuilt k }))

-- the bytes that are held have a fault
abbrev pub HoldsFault : FramerView → Bad → ℕ → Type 0
HoldsFault f code at =
    MatchBool f.greeted
    ((k : ℕ) × (front_of f.limits f.held ≡ fault code k) × (at ≡ told_place (f.place + k)))
    (IsTooLong f.limits f.held × (code ≡ b.Greeting) × (at ≡ told_place (f.place + f.limits.greeting)))

-- the bytes that are held are a proper prefix of what comes next, and none is left to be taken
pub record Waits (r s : ReaderView) : Type 0 where
  pub same : s ≡ r
  pub needed : IsNeeded r.framer.limits r.framer.greeted r.framer.held
  pub taken : r.pending ≡ []

-- what a step of reading gives, with the link and the reader before and after it
abbrev pub Arrives : LinkView → LinkView → ReaderView → ReaderView → Arrival → Type 0
Arrives old new before after r.More = Gathers old new before after
Arrives old new before after (r.Greeting capability) =
    (new ≡ old) × (before.framer.greeted ≡ false) × IsGreeting before.framer.limits before.framer.held capability × (after ≡ heard_by before)
Arrives old new before after (r.Message m) = (new ≡ old) × HoldsMessage before.framer m.sync (tree m.value) × (after ≡ heard_by before)
Arrives old new before after (r.Outside sync) = (new ≡ old) × ((k : ℕ) × HoldsOutside before.framer sync k) × (after ≡ heard_by before)
Arrives old new before after (r.Skipped sync) = (new ≡ old) × ((t : Tree) × HoldsMessage before.framer sync t) × (after ≡ heard_by before)
Arrives old new before after (r.Bad code at) = (new ≡ old) × HoldsFault before.framer code at × (after ≡ before)
Arrives old new before after r.Idle = (new ≡ record old { idles = counted old.idles 1 }) × (old.ended ≡ false) × Waits before after
Arrives old new before after (r.Ended between) =
    HasGivenAll old × (new ≡ record old { ended = true }) × (IsTrue between ↔ (before.framer.held ≡ [])) × Waits before after
Arrives old new before after r.Failed = (new ≡ record old { read_faults = counted old.read_faults 1 }) × (old.ended ≡ false) × Waits before after
