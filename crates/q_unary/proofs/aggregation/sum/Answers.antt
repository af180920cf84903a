use Rattle.std.proofs.Common.{◌≡◌, rules, Some, FitsSigned, map, ap, sym, ◌∙◌, unwrap_or}
use Rattle.std.specs.Int.{w64, int_wrap}
use Rattle.std.proofs.lemmas.Int.{to_z-of_z}
use Rattle.q_values.specs.Contents.{Contents}
use Rattle.q_verbs.specs.Kinds.{total_kind}
use Rattle.q_verbs.specs.Numbers.{written}
use Rattle.q_verbs.specs.Aggregates.{total, number_of}
use Rattle.q_unary.proofs.AggregateLemmas.{written-wrapped}
use Rattle.q_unary.proofs.aggregation.sum.Goals as goal

pub returns : goal.returns
returns c =
    let fits : FitsSigned w64 c.total_of.result = search rules in
    let known : total_kind c.args.x.now.kind ≡ Some c.in-Some.kind = ap total_kind (sym c.kind.ensures.value) ∙ sym c.in-Some.ensures in
    let sum = total (map number_of c.args.x.now.atoms) in
    c.total_atom.ensures
    ∙ ap (λ z. written c.in-Some.kind (Some z)) (to_z-of_z w64 c.total_of.result fits ∙ c.total_of.ensures ∙ ap (λ (v : Contents). int_wrap w64 (total (map number_of v.atoms))) c.column.ensures)
    ∙ written-wrapped c.in-Some.kind sum
    ∙ ap (λ k. written (unwrap_or k c.args.x.now.kind) (Some sum)) (sym known)
