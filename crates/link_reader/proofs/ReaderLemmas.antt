-- What a reader holds and what it has still to take.
use Rattle.std.proofs.Common.{◌≡◌, ◌≤◌, ◌<◌, ◌+◌, ◌-◌, ℕ, Bool, true, false, List, ◌++◌, length, take, drop, refl, sym, ap, ◌∙◌, arith, append_assoc, subst, zero, suc}
use Rattle.std.proofs.lemmas.List.{take-append-drop, drop-take, drop-drop, length-take, length-take-le, length-append, append-nil}
use Rattle.ipc_frame.specs.Framing.{IsNeeded, Stands, Feeds}
use Rattle.ipc_frame.specs.Taking.{Takes}
use Rattle.ipc_frame.specs.View.{FramerView}
use Rattle.ipc_frame.specs.declared.next.Next.TheVariants as n
use Rattle.q_values.specs.Tree.{Tree}
use Rattle.q_values.specs.declared.limits.Limits.{Limits}
use Rattle.link_reader.specs.Arrival.{HoldsMessage, HoldsOutside}
use Rattle.link_reader.specs.Reading.{Gathered}
use Rattle.link_reader.specs.declared.reader.Arrival.TheVariants.{More}

-- what is left of a part of a piece after the bytes that were taken
pub left_over : (from to t : ℕ) (p : List ℕ) → from ≤ to → t ≤ length (take (to - from) (drop from p)) → take t (take (to - from) (drop from p)) ++ take (to - (from + t)) (drop (from + t) p) ≡ take (to - from) (drop from p)
left_over from to t p rising within =
    let size = length-take (to - from) (drop from p) in
    let whole : to - from ≡ t + (to - (from + t)) = omega arith in
    let rest : drop t (take (t + (to - (from + t))) (drop from p)) ≡ take (to - (from + t)) (drop t (drop from p)) = drop-take t (to - (from + t)) (drop from p) in
    let moved : drop t (drop from p) ≡ drop (from + t) p = drop-drop t from p in
    let after : drop t (take (to - from) (drop from p)) ≡ take (to - (from + t)) (drop (from + t) p) = ap (λ n. drop t (take n (drop from p))) whole ∙ rest ∙ ap (λ l. take (to - (from + t)) l) moved in
    ap (λ l. take t (take (to - from) (drop from p)) ++ l) (sym after) ∙ take-append-drop t (take (to - from) (drop from p))

-- bytes that were taken follow those that were held
pub taken_over : (held : List ℕ) (from to t : ℕ) (p : List ℕ) → from ≤ to → t ≤ length (take (to - from) (drop from p)) → held ++ take (to - from) (drop from p) ≡ (held ++ take t (take (to - from) (drop from p))) ++ take (to - (from + t)) (drop (from + t) p)
taken_over held from to t p rising within =
    sym (append_assoc held (take t (take (to - from) (drop from p))) (take (to - (from + t)) (drop (from + t) p)) ∙ ap (λ l. held ++ l) (left_over from to t p rising within))

-- something is taken of bytes that are there, where more is needed
takes_some : (N : List ℕ → Type 0) (held piece : List ℕ) (t : ℕ) → Takes N held piece t → N held → 0 < length piece → 0 < t
takes_some N held piece zero takes needed some = absurd (takes.enough some (subst N (sym (append-nil held)) needed))
takes_some N held piece (suc t) takes needed some = omega arith

-- with bytes that were taken, more are held
holds_more : (held piece : List ℕ) (t : ℕ) → t ≤ length piece → 0 < t → length held < length (held ++ take t piece)
holds_more held piece t within some =
    let size = length-append held (take t piece) in
    let part = length-take-le t piece within in
    omega (arith, size, part)

-- the framer took bytes of the piece
pub gathered : (f g : FramerView) (from to t : ℕ) (p : List ℕ) → from ≤ to → IsNeeded f.limits f.greeted f.held → 0 < length (take (to - from) (drop from p)) → Feeds f (take (to - from) (drop from p)) t g → Gathered (record { framer = f; pending = take (to - from) (drop from p) }) (record { framer = g; pending = take (to - (from + t)) (drop (from + t) p) }) More
gathered f g from to t p rising needed some fed = record {
  more = refl;
  limits = ap (λ (v : FramerView). v.limits) fed.after;
  greeted = ap (λ (v : FramerView). v.greeted) fed.after;
  place = ap (λ (v : FramerView). v.place) fed.after;
  bytes = taken_over f.held from to t p rising fed.takes.within ∙ ap (λ (v : FramerView). v.held ++ take (to - (from + t)) (drop (from + t) p)) (sym fed.after);
  some = subst (λ (v : FramerView). length f.held < length v.held) (sym fed.after) (holds_more f.held (take (to - from) (drop from p)) t fed.takes.within (takes_some (IsNeeded f.limits f.greeted) f.held (take (to - from) (drop from p)) t fed.takes needed some));
}

outside_by : (limits : Limits) (greeted : Bool) (place : ℕ) (held : List ℕ) (sync : Bool) (at : ℕ) → Stands (record { limits = limits; greeted = greeted; place = place; held = held }) (n.NotBuilt sync at) → (k : ℕ) × HoldsOutside (record { limits = limits; greeted = greeted; place = place; held = held }) sync k
outside_by limits true place held sync at s = (s.0, (refl, s.1))
outside_by limits false place held sync at s = absurd s

-- what comes next is outside the profile
pub holds_outside : (f : FramerView) (sync : Bool) (at : ℕ) → Stands f (n.NotBuilt sync at) → (k : ℕ) × HoldsOutside f sync k
holds_outside f sync at s = outside_by f.limits f.greeted f.place f.held sync at s

skipped_by : (limits : Limits) (greeted : Bool) (place : ℕ) (held : List ℕ) (sync : Bool) → Stands (record { limits = limits; greeted = greeted; place = place; held = held }) (n.Skipped sync) → (t : Tree) × HoldsMessage (record { limits = limits; greeted = greeted; place = place; held = held }) sync t
skipped_by limits true place held sync s = (s.0, (refl, s.1))
skipped_by limits false place held sync s = absurd s

-- what comes next is a message whose value could not be built
pub holds_skipped : (f : FramerView) (sync : Bool) → Stands f (n.Skipped sync) → (t : Tree) × HoldsMessage f sync t
holds_skipped f sync s = skipped_by f.limits f.greeted f.place f.held sync s
