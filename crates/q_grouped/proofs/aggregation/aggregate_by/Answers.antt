use Rattle.std.proofs.Common.{◌≡◌, pos, Some, length, sym, ap, ◌∙◌}
use Rattle.std.proofs.lemmas.Result.{IfOk-weaker}
use Rattle.q_values.specs.Contents.{Contents}
use Rattle.q_values.specs.declared.kind.Kind.TheVariants as k
use Rattle.q_verbs.specs.Numbers.{written}
use Rattle.q_grouped.specs.Grouped.{by_group, aggregates}
use Rattle.q_grouped.proofs.GroupLemmas.{by_group-length}
use Rattle.q_grouped.proofs.aggregation.aggregate_by.Goals as goal

pub returns-in-Count-clause-atoms : goal.returns-in-Count-clause-atoms
returns-in-Count-clause-atoms c =
    let codes = c.args.codes.now in
    let atoms = c.args.column.now.atoms in
    let counts = by_group (λ rows. written k.Long (Some (pos (length rows)))) c.args.groups codes codes in
    IfOk-weaker c.count_by.result (λ (v : Contents). v.atoms ≡ counts) (λ (v : Contents). v.atoms ≡ aggregates c.args.verb c.args.column.now.kind c.args.groups codes atoms)
    (λ v is. is ∙ by_group-length (λ n. written k.Long (Some (pos n))) c.args.groups codes codes atoms c.requires.len ∙ ap (λ verb. aggregates verb c.args.column.now.kind c.args.groups codes atoms) (sym c.in-Count.is)) c.count_by.ensures.atoms
