use Rattle.std.proofs.Common.{ap, ◌∙◌, List}
use Rattle.q_values.specs.declared.atom.Atom.{Atom}
use Rattle.q_values.specs.Atom.{kind_of}
use Rattle.plant_memory.proofs.ItemsLemmas.{gathered-zeros}
use Rattle.plant_memory.proofs.items.spread_atom.Goals as goal

pub returns : goal.returns
returns c =
    let items = c.deref.ensures.value ∙ c.in_ok-indices.ensures.items_if_clones_equal (λ y e. e) in
    c.in_ok-spread.ensures ∙ rw (c.in_ok-one.ensures, items) (ap (λ (x : List Atom). record { kind = kind_of c.args.atom.now; atoms = x }) (gathered-zeros c.args.n c.args.atom.now))
