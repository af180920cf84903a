use Rattle.std.proofs.Common.{arith, ◌≡◌, refl, ap, ap₂, ◌∙◌, sym, subst}
use Rattle.std.specs.Prelude.{IfOk}
use Rattle.qsql_request.specs.Forms.{Form, one, two}
use Rattle.qsql_request.specs.Views.{form, form_step}
use Rattle.qsql_request.specs.declared.request.Expr.{Expr}
use Rattle.qsql_request.specs.declared.request.Expr.TheOpen.{Expr-F}
use Rattle.qsql_request.specs.declared.request.Expr.TheFolds.{fold-roll-Expr}
use Rattle.qsql_values.proofs.ResultLemmas.{made_of_one, made_of_two}
use Rattle.qsql_values.proofs.ShapeLemmas.{side_size, sides_size}
use Rattle.gateway.proofs.rest.+expr_copied.Goals as goal

pub expr_into-expr_into-requires : goal.expr_into-expr_into-requires
unfolding Rattle.qsql_request.specs.declared.request.Expr.TheViews.roll-Expr denote.Hole.Carrier.roll
expr_into-expr_into-requires t c =
    let expr = form c.args.expr.now in
    let side = form c.deref.result.now in
    let is : expr ≡ one c.in-One.verb side =
    ap form c.in-One.is ∙ fold-roll-Expr Form form_step (Expr-F.One c.in-One.verb c.in-One.side) ∙ ap (λ (x : Expr). one c.in-One.verb (form x)) (sym c.deref.ensures) in
    let smaller = side_size expr c.in-One.verb side side is refl in
    (omega (arith, smaller), tt)

pub expr_into-returns-in-One : goal.expr_into-returns-in-One
unfolding Rattle.qsql_request.specs.declared.request.Expr.TheViews.roll-Expr denote.Hole.Carrier.roll
expr_into-returns-in-One t c =
    let side = form c.deref.result.now in
    let is : form c.args.expr.now ≡ one c.in-One.verb side =
    ap form c.in-One.is ∙ fold-roll-Expr Form form_step (Expr-F.One c.in-One.verb c.in-One.side) ∙ ap (λ (x : Expr). one c.in-One.verb (form x)) (sym c.deref.ensures) in
    made_of_one
    c.on_side.new.out
    c.expr_into.new.out
    (λ (x : Expr). form x ≡ side)
    (λ (e x : Expr). form e ≡ one c.in-One.verb (form x))
    (λ (e : Expr). form e ≡ form c.args.expr.now)
    (λ e x p h. h ∙ ap (one c.in-One.verb) p ∙ sym is)
    c.expr_into.ensures
    c.on_side.ensures

pub expr_into-two_into-requires : goal.expr_into-two_into-requires
unfolding Rattle.qsql_request.specs.declared.request.Expr.TheViews.roll-Expr denote.Hole.Carrier.roll
expr_into-two_into-requires t c =
    let expr = form c.args.expr.now in
    let left = form c.deref-in-Two.result.now in
    let right = form c.deref-in-Two-2.result.now in
    let is : expr ≡ two c.in-Two.verb left right =
    ap form c.in-Two.is ∙ fold-roll-Expr Form form_step (Expr-F.Two c.in-Two.verb c.in-Two.left c.in-Two.right) ∙ ap₂ (λ (x y : Expr). two c.in-Two.verb (form x) (form y)) (sym c.deref-in-Two.ensures) (sym c.deref-in-Two-2.ensures) in
    let size = sides_size expr c.in-Two.verb left right is in
    (omega (arith, size), tt)

pub expr_into-returns-in-Two : goal.expr_into-returns-in-Two
unfolding Rattle.qsql_request.specs.declared.request.Expr.TheViews.roll-Expr denote.Hole.Carrier.roll
expr_into-returns-in-Two t c =
    let is : form c.args.expr.now ≡ two c.in-Two.verb (form c.deref-in-Two.result.now) (form c.deref-in-Two-2.result.now) =
    ap form c.in-Two.is ∙ fold-roll-Expr Form form_step (Expr-F.Two c.in-Two.verb c.in-Two.left c.in-Two.right) ∙ ap₂ (λ (x y : Expr). two c.in-Two.verb (form x) (form y)) (sym c.deref-in-Two.ensures) (sym c.deref-in-Two-2.ensures) in
    subst (λ (f : Form). IfOk c.two_into.new.out (λ e. form e ≡ f)) (sym is) c.two_into.ensures

pub two_into-expr_copied-requires : goal.two_into-expr_copied-requires
two_into-expr_copied-requires t c = (omega arith, tt)

pub two_into-expr_into-requires : goal.two_into-expr_into-requires
two_into-expr_into-requires t c = (omega arith, tt)

pub two_into-returns : goal.two_into-returns
two_into-returns t c =
    made_of_two
    c.on_sides.new.out
    c.expr_copied.result
    c.expr_into.new.out
    (λ (x : Expr). form x ≡ form c.args.left.now)
    (λ (y : Expr). form y ≡ form c.args.right.now)
    (λ (e x y : Expr). form e ≡ two c.args.verb (form x) (form y))
    (λ (e : Expr). form e ≡ two c.args.verb (form c.args.left.now) (form c.args.right.now))
    (λ e x p y q h. h ∙ ap₂ (two c.args.verb) p q)
    c.expr_copied.ensures
    c.expr_into.ensures
    c.on_sides.ensures
