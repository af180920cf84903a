use Rattle.std.proofs.Common.{rules, refl, subst, ℕ}
use Rattle.q_values.specs.Tree.{Tree}
use Rattle.link_reader.proofs.ReaderLemmas.{holds_outside, holds_skipped}
use Rattle.link_reader.specs.Arrival.{ReaderView, HoldsOutside, HoldsMessage}
use Rattle.link_reader.proofs.reader.Reader.arrive.Goals as goal

pub returns-in-NotBuilt : goal.returns-in-NotBuilt
returns-in-NotBuilt g c =
    let held = holds_outside c.self.inside.framer c.in-NotBuilt.sync c.in-NotBuilt.at (rw c.in-NotBuilt.is at c.next.ensures.gives.stands) in
    (refl, subst (λ (v : ReaderView). (k : ℕ) × HoldsOutside v.framer c.in-NotBuilt.sync k) c.self.view_is held, search rules)

pub returns-in-Skipped : goal.returns-in-Skipped
returns-in-Skipped g c =
    let held = holds_skipped c.self.inside.framer c.in-Skipped.sync (rw c.in-Skipped.is at c.next.ensures.gives.stands) in
    (refl, subst (λ (v : ReaderView). (t : Tree) × HoldsMessage v.framer c.in-Skipped.sync t) c.self.view_is held, search rules)
