use Rattle.std.proofs.Common.{ap, ◌∙◌, replicate}
use Rattle.std.specs.Int.{w64}
use Rattle.std.proofs.lemmas.Int.{to_z-of_z}
use Rattle.std.proofs.Common.{rules, FitsSigned, sym}
use Rattle.q_lanes.specs.Loops.{worth_in_64}
use Rattle.q_verbs.specs.Numbers.{worth}
use Rattle.q_lanes.proofs.SideLemmas.{map-replicate}
use Rattle.q_lanes.proofs.wide.WideSide.of.Goals as goal

pub returns-in-Atom : goal.returns-in-Atom
returns-in-Atom c n =
    let fits : FitsSigned w64 c.number_of_atom.result = search rules in
    rw (c.in-Atom.is, to_z-of_z w64 c.number_of_atom.result fits) (map-replicate worth_in_64 n c.number_of_atom.result ∙ ap (replicate n) c.number_of_atom.ensures ∙ sym (map-replicate worth n c.in-Atom.atom.now))
