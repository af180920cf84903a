use Rattle.std.proofs.Common.{ℕ, Bool, List, map, ap, sym, ◌∙◌}
use Rattle.q_values.specs.Contents.{Contents}
use Rattle.q_values.specs.declared.atom.Atom.{Atom}
use Rattle.q_values.specs.declared.atom.Atom.TheVariants as a
use Rattle.q_values.specs.declared.kind.Kind.TheVariants as k
use Rattle.q_lanes.specs.Lanes.{text_items}
use Rattle.q_verbs.specs.Numbers.{worth}
use Rattle.q_verbs.specs.Like.{matches}
use Rattle.q_lanes.proofs.MapLemmas.{map-mapped}
use Rattle.q_matching.proofs.like.is_like.Goals as goal

pub returns : goal.returns
returns c =
    let of_atoms : List Atom → Contents = λ atoms. record { kind = k.Boolean; atoms = atoms } in
    let boolean : Bool → Atom = λ b. a.Boolean b in
    let symbol : List ℕ → Atom = λ s. a.Symbol s in
    let test : Atom → Atom = λ x. boolean (matches c.args.pattern.now (worth x).text) in
    let items = text_items 1 c.in-Symbols.items in
    c.booleans.ensures ∙ ap of_atoms (ap (map boolean) c.in_ok-values-in-Symbols.ensures ∙ map-mapped boolean (matches c.args.pattern.now) items ∙ sym (map-mapped test symbol items) ∙ ap (map test) (c.in-Symbols.ensures.atoms 1))
