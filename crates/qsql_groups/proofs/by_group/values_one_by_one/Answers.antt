use Rattle.std.proofs.Common.{Option, Some, [], sym, ap, ◌∙◌}
use Rattle.std.specs.Prelude.{unwrap_or}
use Rattle.q_values.specs.Contents.{Contents}
use Rattle.q_values.specs.declared.kind.Kind.{Kind}
use Rattle.q_values.specs.declared.kind.Kind.TheVariants as k
use Rattle.qsql_groups.proofs.by_group.values_one_by_one.Goals as goal

empty_of : Option Kind → Contents
empty_of o = record { kind = unwrap_or o k.Boolean; atoms = [] }

pub loop-group-init : goal.loop-group-init
unfolding empty_of
loop-group-init c = c.new-items.ensures ∙ ap empty_of (sym c.in_ok-kind.ensures)

pub push_value-requires-clause-kind : goal.push_value-requires-clause-kind
push_value-requires-clause-kind c =
    c.in_ok-kind.ensures
    ∙ ap (λ (x : Kind). Some x) (sym (ap (λ (v : Contents). v.kind) c.loop-group.invariant ∙ ap (λ (o : Option Kind). unwrap_or o k.Boolean) c.in_ok-kind.ensures))
