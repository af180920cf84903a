-- Runs of a framer, and what they return.
use Rattle.std.specs.Prelude.{◌≡◌, ℕ, List, [], ◌∷◌, ◌++◌, take, map, Option, Some, None}
use Rattle.q_values.specs.Tree.{Tree, tree}
use Rattle.ipc_frame.specs.Framing.{Gives, Feeds}
use Rattle.ipc_frame.specs.Stream.{Message, Ending, closed, truncated, bad, built, unbuilt}
use Rattle.ipc_frame.specs.View.{FramerView, told_place}
use Rattle.ipc_frame.specs.declared.bad.Bad.{Bad}
use Rattle.ipc_frame.specs.declared.next.Next.{Next}
use Rattle.ipc_frame.specs.declared.next.Next.TheVariants as n

-- a call of a framer
pub data Step : Type 0 where
  -- `feed` took n bytes of a piece
  fed : List ℕ → ℕ → Step
  -- `next` returned this
  gave : Next → Step

abbrev pub Calls : FramerView → Step → FramerView → Type 0
Calls old (fed piece taken) new = Feeds old piece taken new
Calls old (gave next) new = Gives old next new

-- calls, in order
abbrev pub Runs : FramerView → List Step → FramerView → Type 0
Runs old [] new = new ≡ old
Runs old (step ∷ steps) new = (mid : FramerView) × Calls old step mid × Runs mid steps new

-- the bytes that were taken
abbrev pub bytes_of : List Step → List ℕ
bytes_of [] = []
bytes_of (fed piece taken ∷ steps) = take taken piece ++ bytes_of steps
bytes_of (gave next ∷ steps) = bytes_of steps

-- what `next` returned, `Need` aside
abbrev pub told_by : List Step → List Next
told_by [] = []
told_by (fed piece taken ∷ steps) = told_by steps
told_by (gave (n.Greeting capability) ∷ steps) = n.Greeting capability ∷ told_by steps
told_by (gave (n.Message m) ∷ steps) = n.Message m ∷ told_by steps
told_by (gave (n.NotBuilt sync at) ∷ steps) = n.NotBuilt sync at ∷ told_by steps
told_by (gave (n.Skipped sync) ∷ steps) = n.Skipped sync ∷ told_by steps
told_by (gave n.Need ∷ steps) = told_by steps
told_by (gave (n.Bad code at) ∷ steps) = n.Bad code at ∷ told_by steps

-- what a stream holds
pub data Item : Type 0 where
  greeting : ℕ → Item
  message : Message → Item
  fault_at : Bad → ℕ → Item

abbrev pub items_at_end : Ending → List Item
items_at_end closed = []
items_at_end truncated = []
items_at_end (bad code at) = fault_at code at ∷ []

-- the messages and the fault of a stream
abbrev pub items_after : List Message → Ending → List Item
items_after messages ending = map message messages ++ items_at_end ending

-- its handshake, messages and fault
abbrev pub items_of : Option ℕ → List Message → Ending → List Item
items_of None messages ending = items_after messages ending
items_of (Some capability) messages ending = greeting capability ∷ items_after messages ending

-- how a stream without a fault ends, where these bytes are left of it
abbrev pub ending_of : List ℕ → Ending
ending_of [] = closed
ending_of (b ∷ held) = truncated

-- what `next` returned is this item
abbrev pub Shows : Next → Item → Type 0
Shows (n.Greeting capability) (greeting c) = capability ≡ c
Shows (n.Message m) (message x) = x ≡ record { sync = m.sync; content = built (tree m.value) }
Shows (n.NotBuilt sync at) (message x) = (k : ℕ) × (x ≡ record { sync = sync; content = unbuilt k }) × (at ≡ told_place k)
Shows (n.Skipped sync) (message x) = (t : Tree) × (x ≡ record { sync = sync; content = built t })
Shows (n.Bad code at) (fault_at c k) = (code ≡ c) × (at ≡ told_place k)
Shows _ _ = ⊥

-- the items that are left after this one: a fault is returned again at each call
abbrev pub left_after : Item → List Item → List Item
left_after (greeting c) items = items
left_after (message x) items = items
left_after (fault_at c k) items = fault_at c k ∷ items

-- what `next` returned are these items, in order and from the first on, and `IsLeft` holds of those that are left
abbrev pub AreTold : (List Item → Type 0) → List Next → List Item → Type 0
AreTold IsLeft [] items = IsLeft items
AreTold IsLeft (next ∷ nexts) [] = ⊥
AreTold IsLeft (next ∷ nexts) (item ∷ items) = Shows next item × AreTold IsLeft nexts (left_after item items)
