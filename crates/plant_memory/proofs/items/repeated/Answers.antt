use Rattle.std.proofs.Common.{ap, ◌≡◌, ◌∙◌, replicate, map, w64, to_z, of_z, rules, List}
use Rattle.q_values.specs.Column.{long_atom}
use Rattle.q_values.specs.declared.atom.Atom.{Atom}
use Rattle.q_values.specs.declared.kind.Kind.TheVariants as k
use Rattle.q_values.specs.declared.kind.LongKind.TheVariants as l
use Rattle.plant_memory.proofs.ItemsLemmas.{map-replicate}
use Rattle.plant_memory.proofs.items.repeated.Goals as goal

pub returns : goal.returns
returns c =
    let same : to_z w64 (of_z w64 c.args.time) ≡ c.args.time = search rules in
    let items = c.in_ok-times.ensures.items_if_clones_equal (λ y e. e) in
    c.from_column.ensures
    ∙ ap (λ (x : List Atom). record { kind = k.Timespan; atoms = x }) (ap (map (long_atom l.Timespan)) items ∙ map-replicate (long_atom l.Timespan) c.args.n _ ∙ ap (λ t. replicate c.args.n (long_atom l.Timespan t)) same)
