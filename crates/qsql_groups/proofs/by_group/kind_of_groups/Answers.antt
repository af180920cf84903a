use Rattle.std.proofs.Common.{Some, sym, ap, ◌∙◌}
use Rattle.q_values.specs.declared.kind.Kind.{Kind}
use Rattle.qsql_request.specs.Views.{form}
use Rattle.qsql_values.specs.Frames.{Frame, kind_beside}
use Rattle.qsql_values.specs.Kinds.{kind_in}
use Rattle.qsql_groups.proofs.by_group.kind_of_groups.Goals as goal

pub returns : goal.returns
returns c =
    ap (λ (f : Frame). kind_in (kind_beside f) (form c.args.expr.now)) (sym c.rows_at-none.ensures)
    ∙ c.in_ok-value.ensures.kind
    ∙ ap (λ (x : Kind). Some x) (sym c.kind.ensures)
