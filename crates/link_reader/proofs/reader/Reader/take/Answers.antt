use Rattle.std.proofs.Common.{subst, sym, ◌<◌, length, ◌-◌, ◌+◌, take, drop, List, ℕ}
use Rattle.ipc_frame.specs.Framing.{IsNeeded, Feeds}
use Rattle.link_reader.specs.Arrival.{ReaderView}
use Rattle.link_reader.proofs.ReaderLemmas.{gathered}
use Rattle.link_reader.specs.Reading.{Gathered}
use Rattle.link_reader.specs.declared.reader.Arrival.TheVariants.{More}
use Rattle.link_reader.proofs.reader.Reader.take.Goals as goal

pub returns : goal.returns
returns c =
    let from = c.self.inside.from in
    let to = c.self.inside.to in
    let fed = subst (λ (p : List ℕ). Feeds c.self.inside.framer (take (to - from) (drop from p)) c.feed-fed.result.taken c.feed-fed.new.self) c.deref.ensures.value c.feed-fed.ensures in
    let t = c.feed-fed.result.taken in
    let needed = subst (λ (v : ReaderView). IsNeeded v.framer.limits v.framer.greeted v.framer.held) (sym c.self.view_is) c.requires.needed in
    let some = subst (λ (v : ReaderView). 0 < length v.pending) (sym c.self.view_is) c.requires.some in
    subst (λ v. Gathered v (record { framer = c.feed-fed.new.self; pending = take (to - (from + t)) (drop (from + t) c.self.inside.piece.items) }) More) c.self.view_is (gathered c.self.inside.framer c.feed-fed.new.self from to c.feed-fed.result.taken c.self.inside.piece.items c.self.invariant.rising needed some fed)
