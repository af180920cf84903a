use Rattle.std.proofs.Common.{◌≡◌, ap, ◌∙◌, sym}
use Rattle.qsql_request.specs.Forms.{Form, two}
use Rattle.qsql_request.specs.Views.{form, form_step}
use Rattle.qsql_request.specs.Unbuilt.{mentioned, has_other}
use Rattle.qsql_request.specs.declared.request.Expr.TheOpen.{Expr-F}
use Rattle.qsql_request.specs.declared.request.Expr.TheFolds.{fold-roll-Expr}
use Rattle.qsql_request.proofs.Lists.{has_other_first, has_other_rest}
use Rattle.qsql_request.proofs.mentions.+mentions_other.Goals as goal

pub returns-then-mentions_other : goal.returns-then-mentions_other
unfolding Rattle.qsql_request.specs.declared.request.Expr.TheViews.roll-Expr denote.Hole.Carrier.roll
returns-then-mentions_other t c =
    let two_form : form c.args.expr.now ≡ two c.in-Two.field-0 (form c.in-Two.left.value) (form c.in-Two.right.value) =
    ap form c.in-Two.is ∙ fold-roll-Expr Form form_step (Expr-F.Two c.in-Two.field-0 c.in-Two.left c.in-Two.right) in
    let first : c.mentions_other-in-Two.result ≡ has_other c.args.name.now (mentioned (form c.in-Two.left.value)) = cc (c.mentions_other-in-Two.ensures, c.deref-in-Two.ensures) in
    c.if-mentions_other.true ∙ sym (ap (λ (f : Form). has_other c.args.name.now (mentioned f)) two_form ∙ has_other_first c.args.name.now (mentioned (form c.in-Two.left.value)) (mentioned (form c.in-Two.right.value)) (sym first ∙ c.if-mentions_other.true))

pub returns-else-mentions_other : goal.returns-else-mentions_other
unfolding Rattle.qsql_request.specs.declared.request.Expr.TheViews.roll-Expr denote.Hole.Carrier.roll
returns-else-mentions_other t c =
    let two_form : form c.args.expr.now ≡ two c.in-Two.field-0 (form c.in-Two.left.value) (form c.in-Two.right.value) =
    ap form c.in-Two.is ∙ fold-roll-Expr Form form_step (Expr-F.Two c.in-Two.field-0 c.in-Two.left c.in-Two.right) in
    let first : c.mentions_other-in-Two.result ≡ has_other c.args.name.now (mentioned (form c.in-Two.left.value)) = cc (c.mentions_other-in-Two.ensures, c.deref-in-Two.ensures) in
    let rest : c.mentions_other-else-mentions_other.result ≡ has_other c.args.name.now (mentioned (form c.in-Two.right.value)) = cc (c.mentions_other-else-mentions_other.ensures, c.deref-else-mentions_other.ensures) in
    rest ∙ sym (ap (λ (f : Form). has_other c.args.name.now (mentioned f)) two_form ∙ has_other_rest c.args.name.now (mentioned (form c.in-Two.left.value)) (mentioned (form c.in-Two.right.value)) (sym first ∙ c.if-mentions_other.false))
