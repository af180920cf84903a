use Rattle.std.proofs.Common.{arith, ◌≡◌, true, length, Option, Some, refl, ap, ap₂, ◌∙◌, sym, subst}
use Rattle.std.specs.Prelude.{is_some, option_and_then, IfOk}
use Rattle.std.proofs.lemmas.Result.{IfOk-weaker}
use Rattle.q_values.specs.declared.kind.Kind.{Kind}
use Rattle.q_verbs.specs.Kinds.{result_kind_of, result_kind1_of}
use Rattle.qsql_request.specs.Forms.{Form, one, two}
use Rattle.qsql_request.specs.Views.{form, form_step}
use Rattle.qsql_request.specs.Unbuilt.{has_unbuilt}
use Rattle.qsql_request.specs.declared.request.Expr.{Expr}
use Rattle.qsql_request.specs.declared.request.Expr.TheOpen.{Expr-F}
use Rattle.qsql_request.specs.declared.request.Expr.TheFolds.{fold-roll-Expr}
use Rattle.qsql_values.specs.Frames.{kind_beside}
use Rattle.qsql_values.specs.Kinds.{kind_in}
use Rattle.qsql_values.specs.Operands.{operand_tree, kind_of_tree, AreSides}
use Rattle.qsql_values.specs.Values.{val, value_of_one, value_of_two}
use Rattle.qsql_values.specs.declared.operand.Operand.{Operand}
use Rattle.qsql_values.proofs.CountingLemmas.{count_value, count_kind}
use Rattle.qsql_values.proofs.ResultLemmas.{both_if, made_of_one, made_of_two}
use Rattle.qsql_values.proofs.ShapeLemmas.{parts, kind_of_two, sides_of, side_of, side_size, sides_size, both_size}
use Rattle.qsql_values.proofs.values.+value_of.Goals as goal

-- `count` of a column

pub value_into-returns-in-One-clause-value : goal.value_into-returns-in-One-clause-value
value_into-returns-in-One-clause-value t c =
    let counts = sym c.is_row_count.ensures ∙ c.if-is_row_count.true in
    IfOk-weaker c.count_into.new.out _ (λ (v : Operand). operand_tree v ≡ val c.args.scope.now (form c.args.expr.now)) (λ v e. e ∙ count_value c.args.scope.now (form c.args.expr.now) counts) c.count_into.ensures

pub value_into-returns-in-One-clause-kind : goal.value_into-returns-in-One-clause-kind
value_into-returns-in-One-clause-kind t c =
    let counts = sym c.is_row_count.ensures ∙ c.if-is_row_count.true in
    let kind = count_kind (kind_beside c.args.scope.now) (form c.args.expr.now) (length c.args.scope.now.rows) counts c.requires.kind in
    IfOk-weaker c.count_into.new.out _ (λ (v : Operand). kind_in (kind_beside c.args.scope.now) (form c.args.expr.now) ≡ Some (kind_of_tree (operand_tree v))) (λ v e. kind ∙ ap (λ x. Some (kind_of_tree x)) (sym e)) c.count_into.ensures

-- a verb with one side

pub value_into-value_into-requires : goal.value_into-value_into-requires
unfolding Rattle.qsql_request.specs.declared.request.Expr.TheViews.roll-Expr denote.Hole.Carrier.roll
value_into-value_into-requires t c =
    let expr = form c.args.expr.now in
    let side = form c.deref-in_default.result.now in
    let is : expr ≡ one c.in-One-2.verb side =
    ap form c.in-One-2.is ∙ fold-roll-Expr Form form_step (Expr-F.One c.in-One-2.verb c.in-One-2.side) ∙ ap (λ (x : Expr). one c.in-One-2.verb (form x)) (sym c.deref-in_default.ensures) in
    let smaller = side_size expr c.in-One-2.verb side side is refl in
    (omega (arith, smaller), (side_of (kind_beside c.args.scope.now) expr c.in-One-2.verb side is c.requires.kind, ap has_unbuilt (sym is) ∙ c.requires.built))

pub value_into-of_one-requires : goal.value_into-of_one-requires
unfolding Rattle.qsql_request.specs.declared.request.Expr.TheViews.roll-Expr denote.Hole.Carrier.roll
value_into-of_one-requires t c =
    let columns = kind_beside c.args.scope.now in
    let expr = form c.args.expr.now in
    let side = form c.deref-in_default.result.now in
    let is : expr ≡ one c.in-One-2.verb side =
    ap form c.in-One-2.is ∙ fold-roll-Expr Form form_step (Expr-F.One c.in-One-2.verb c.in-One-2.side) ∙ ap (λ (x : Expr). one c.in-One-2.verb (form x)) (sym c.deref-in_default.ensures) in
    IfOk-weaker
    c.value_into.new.out
    (λ (x : Operand). kind_in columns side ≡ Some (kind_of_tree (operand_tree x)))
    (λ (x : Operand). is_some (result_kind1_of c.in-One-2.verb (kind_of_tree (operand_tree x))) ≡ true)
    (λ x p. ap is_some (sym (ap (kind_in columns) is ∙ ap (option_and_then (result_kind1_of c.in-One-2.verb)) p)) ∙ c.requires.kind)
    c.value_into.ensures.kind

pub value_into-returns-in_default-clause-value : goal.value_into-returns-in_default-clause-value
unfolding Rattle.qsql_request.specs.declared.request.Expr.TheViews.roll-Expr denote.Hole.Carrier.roll
value_into-returns-in_default-clause-value t c =
    let expr = form c.args.expr.now in
    let side = form c.deref-in_default.result.now in
    let is : expr ≡ one c.in-One-2.verb side =
    ap form c.in-One-2.is ∙ fold-roll-Expr Form form_step (Expr-F.One c.in-One-2.verb c.in-One-2.side) ∙ ap (λ (x : Expr). one c.in-One-2.verb (form x)) (sym c.deref-in_default.ensures) in
    made_of_one
    c.of_one.new.out
    c.value_into.new.out
    (λ (x : Operand). operand_tree x ≡ val c.args.scope.now side)
    (λ (v x : Operand). operand_tree v ≡ value_of_one c.in-One-2.verb (operand_tree x))
    (λ (v : Operand). operand_tree v ≡ val c.args.scope.now expr)
    (λ v x p e. e ∙ ap (value_of_one c.in-One-2.verb) p ∙ sym (ap (val c.args.scope.now) is))
    c.value_into.ensures.value
    c.of_one.ensures.value

pub value_into-returns-in_default-clause-kind : goal.value_into-returns-in_default-clause-kind
unfolding Rattle.qsql_request.specs.declared.request.Expr.TheViews.roll-Expr denote.Hole.Carrier.roll
value_into-returns-in_default-clause-kind t c =
    let columns = kind_beside c.args.scope.now in
    let expr = form c.args.expr.now in
    let side = form c.deref-in_default.result.now in
    let is : expr ≡ one c.in-One-2.verb side =
    ap form c.in-One-2.is ∙ fold-roll-Expr Form form_step (Expr-F.One c.in-One-2.verb c.in-One-2.side) ∙ ap (λ (x : Expr). one c.in-One-2.verb (form x)) (sym c.deref-in_default.ensures) in
    made_of_one
    c.of_one.new.out
    c.value_into.new.out
    (λ (x : Operand). kind_in columns side ≡ Some (kind_of_tree (operand_tree x)))
    (λ (v x : Operand). result_kind1_of c.in-One-2.verb (kind_of_tree (operand_tree x)) ≡ Some (kind_of_tree (operand_tree v)))
    (λ (v : Operand). kind_in columns expr ≡ Some (kind_of_tree (operand_tree v)))
    (λ v x p e. ap (kind_in columns) is ∙ ap (option_and_then (result_kind1_of c.in-One-2.verb)) p ∙ e)
    c.value_into.ensures.kind
    c.of_one.ensures.kind

-- a verb with two sides

pub value_into-two_into-requires : goal.value_into-two_into-requires
unfolding Rattle.qsql_request.specs.declared.request.Expr.TheViews.roll-Expr denote.Hole.Carrier.roll
value_into-two_into-requires t c =
    let expr = form c.args.expr.now in
    let left = form c.deref-in-Two.result.now in
    let right = form c.deref-in-Two-2.result.now in
    let is : expr ≡ two c.in-Two.verb left right =
    ap form c.in-Two.is ∙ fold-roll-Expr Form form_step (Expr-F.Two c.in-Two.verb c.in-Two.left c.in-Two.right) ∙ ap₂ (λ (x y : Expr). two c.in-Two.verb (form x) (form y)) (sym c.deref-in-Two.ensures) (sym c.deref-in-Two-2.ensures) in
    let size = sides_size expr c.in-Two.verb left right is in
    (omega (arith, size), (ap (λ (f : Form). is_some (kind_in (kind_beside c.args.scope.now) f)) (sym is) ∙ c.requires.kind, ap has_unbuilt (sym is) ∙ c.requires.built))

pub value_into-returns-in-Two-clause-value : goal.value_into-returns-in-Two-clause-value
unfolding Rattle.qsql_request.specs.declared.request.Expr.TheViews.roll-Expr denote.Hole.Carrier.roll
value_into-returns-in-Two-clause-value t c =
    let is : form c.args.expr.now ≡ two c.in-Two.verb (form c.deref-in-Two.result.now) (form c.deref-in-Two-2.result.now) =
    ap form c.in-Two.is ∙ fold-roll-Expr Form form_step (Expr-F.Two c.in-Two.verb c.in-Two.left c.in-Two.right) ∙ ap₂ (λ (x y : Expr). two c.in-Two.verb (form x) (form y)) (sym c.deref-in-Two.ensures) (sym c.deref-in-Two-2.ensures) in
    subst (λ (f : Form). IfOk c.two_into.new.out (λ v. operand_tree v ≡ val c.args.scope.now f)) (sym is) c.two_into.ensures.value

pub value_into-returns-in-Two-clause-kind : goal.value_into-returns-in-Two-clause-kind
unfolding Rattle.qsql_request.specs.declared.request.Expr.TheViews.roll-Expr denote.Hole.Carrier.roll
value_into-returns-in-Two-clause-kind t c =
    let is : form c.args.expr.now ≡ two c.in-Two.verb (form c.deref-in-Two.result.now) (form c.deref-in-Two-2.result.now) =
    ap form c.in-Two.is ∙ fold-roll-Expr Form form_step (Expr-F.Two c.in-Two.verb c.in-Two.left c.in-Two.right) ∙ ap₂ (λ (x y : Expr). two c.in-Two.verb (form x) (form y)) (sym c.deref-in-Two.ensures) (sym c.deref-in-Two-2.ensures) in
    subst (λ (f : Form). IfOk c.two_into.new.out (λ v. kind_in (kind_beside c.args.scope.now) f ≡ Some (kind_of_tree (operand_tree v)))) (sym is) c.two_into.ensures.kind

pub two_into-value_of-requires : goal.two_into-value_of-requires
two_into-value_of-requires t c =
    let both = parts (kind_beside c.args.scope.now) c.args.verb (form c.args.left.now) (form c.args.right.now) c.requires.kind c.requires.built in
    (omega arith, (both.left_kind, both.left_built))

pub two_into-value_into-requires : goal.two_into-value_into-requires
two_into-value_into-requires t c =
    let both = parts (kind_beside c.args.scope.now) c.args.verb (form c.args.left.now) (form c.args.right.now) c.requires.kind c.requires.built in
    (omega arith, (both.right_kind, both.right_built))

pub two_into-of_two-requires-clause-row : goal.two_into-of_two-requires-clause-row
two_into-of_two-requires-clause-row t c =
    let columns = kind_beside c.args.scope.now in
    let left = form c.args.left.now in
    let right = form c.args.right.now in
    let expr = two c.args.verb left right in
    both_if
    c.value_of.result
    c.value_into.new.out
    (λ (x : Operand). kind_in columns left ≡ Some (kind_of_tree (operand_tree x)))
    (λ (y : Operand). kind_in columns right ≡ Some (kind_of_tree (operand_tree y)))
    (λ (x y : Operand). is_some (result_kind_of c.args.verb (kind_of_tree (operand_tree x)) (kind_of_tree (operand_tree y))) ≡ true)
    (λ x p y q. ap is_some (sym (kind_of_two columns expr c.args.verb left right (kind_of_tree (operand_tree x)) (kind_of_tree (operand_tree y)) refl c.requires.kind p q)) ∙ c.requires.kind)
    c.value_of.ensures.kind
    c.value_into.ensures.kind

pub two_into-of_two-requires-clause-sides : goal.two_into-of_two-requires-clause-sides
two_into-of_two-requires-clause-sides t c =
    let frame = c.args.scope.now in
    let left = form c.args.left.now in
    let right = form c.args.right.now in
    both_if
    c.value_of.result
    c.value_into.new.out
    (λ (x : Operand). operand_tree x ≡ val frame left)
    (λ (y : Operand). operand_tree y ≡ val frame right)
    (λ (x y : Operand). AreSides c.args.verb (operand_tree x) (operand_tree y))
    (λ x p y q. sides_of frame (kind_beside frame) (two c.args.verb left right) c.args.verb left right (operand_tree x) (operand_tree y) refl c.requires.kind c.requires.built p q)
    c.value_of.ensures.value
    c.value_into.ensures.value

pub two_into-returns-clause-value : goal.two_into-returns-clause-value
two_into-returns-clause-value t c =
    let frame = c.args.scope.now in
    let left = form c.args.left.now in
    let right = form c.args.right.now in
    made_of_two
    c.of_two.new.out
    c.value_of.result
    c.value_into.new.out
    (λ (x : Operand). operand_tree x ≡ val frame left)
    (λ (y : Operand). operand_tree y ≡ val frame right)
    (λ (v x y : Operand). operand_tree v ≡ value_of_two c.args.verb (operand_tree x) (operand_tree y))
    (λ (v : Operand). operand_tree v ≡ val frame (two c.args.verb left right))
    (λ v x p y q e. e ∙ ap₂ (value_of_two c.args.verb) p q)
    c.value_of.ensures.value
    c.value_into.ensures.value
    c.of_two.ensures.value

pub two_into-returns-clause-kind : goal.two_into-returns-clause-kind
two_into-returns-clause-kind t c =
    let columns = kind_beside c.args.scope.now in
    let left = form c.args.left.now in
    let right = form c.args.right.now in
    let expr = two c.args.verb left right in
    made_of_two
    c.of_two.new.out
    c.value_of.result
    c.value_into.new.out
    (λ (x : Operand). kind_in columns left ≡ Some (kind_of_tree (operand_tree x)))
    (λ (y : Operand). kind_in columns right ≡ Some (kind_of_tree (operand_tree y)))
    (λ (v x y : Operand). result_kind_of c.args.verb (kind_of_tree (operand_tree x)) (kind_of_tree (operand_tree y)) ≡ Some (kind_of_tree (operand_tree v)))
    (λ (v : Operand). kind_in columns expr ≡ Some (kind_of_tree (operand_tree v)))
    (λ v x p y q e. kind_of_two columns expr c.args.verb left right (kind_of_tree (operand_tree x)) (kind_of_tree (operand_tree y)) refl c.requires.kind p q ∙ e)
    c.value_of.ensures.kind
    c.value_into.ensures.kind
    c.of_two.ensures.kind

-- an aggregate of a verb with two sides

pub value_into-both_into-requires : goal.value_into-both_into-requires
unfolding Rattle.qsql_request.specs.declared.request.Expr.TheViews.roll-Expr denote.Hole.Carrier.roll
value_into-both_into-requires t c =
    let expr = form c.args.expr.now in
    let left = form c.deref-in-Two-deref.result.now in
    let right = form c.deref-in-Two-deref-2.result.now in
    let inner : form c.deref.result.now ≡ two c.in-Two-deref.inner left right =
    ap form c.in-Two-deref.is ∙ fold-roll-Expr Form form_step (Expr-F.Two c.in-Two-deref.inner c.in-Two-deref.left c.in-Two-deref.right) ∙ ap₂ (λ (x y : Expr). two c.in-Two-deref.inner (form x) (form y)) (sym c.deref-in-Two-deref.ensures) (sym c.deref-in-Two-deref-2.ensures) in
    let is : expr ≡ one c.in-One-2.verb (two c.in-Two-deref.inner left right) =
    ap form c.in-One-2.is ∙ fold-roll-Expr Form form_step (Expr-F.One c.in-One-2.verb c.in-One-2.side) ∙ ap (λ (x : Expr). one c.in-One-2.verb (form x)) (sym c.deref.ensures) ∙ ap (one c.in-One-2.verb) inner in
    let size = both_size expr c.in-One-2.verb c.in-Two-deref.inner left right is in
    (omega (arith, size), (sym c.is_in_one_loop.ensures ∙ c.if-is_in_one_loop.true, (ap (λ (f : Form). is_some (kind_in (kind_beside c.args.scope.now) f)) (sym is) ∙ c.requires.kind, ap has_unbuilt (sym is) ∙ c.requires.built)))

pub value_into-returns-in-Two-deref-clause-value : goal.value_into-returns-in-Two-deref-clause-value
unfolding Rattle.qsql_request.specs.declared.request.Expr.TheViews.roll-Expr denote.Hole.Carrier.roll
value_into-returns-in-Two-deref-clause-value t c =
    let left = form c.deref-in-Two-deref.result.now in
    let right = form c.deref-in-Two-deref-2.result.now in
    let inner : form c.deref.result.now ≡ two c.in-Two-deref.inner left right =
    ap form c.in-Two-deref.is ∙ fold-roll-Expr Form form_step (Expr-F.Two c.in-Two-deref.inner c.in-Two-deref.left c.in-Two-deref.right) ∙ ap₂ (λ (x y : Expr). two c.in-Two-deref.inner (form x) (form y)) (sym c.deref-in-Two-deref.ensures) (sym c.deref-in-Two-deref-2.ensures) in
    let is : form c.args.expr.now ≡ one c.in-One-2.verb (two c.in-Two-deref.inner left right) =
    ap form c.in-One-2.is ∙ fold-roll-Expr Form form_step (Expr-F.One c.in-One-2.verb c.in-One-2.side) ∙ ap (λ (x : Expr). one c.in-One-2.verb (form x)) (sym c.deref.ensures) ∙ ap (one c.in-One-2.verb) inner in
    subst (λ (f : Form). IfOk c.both_into.new.out (λ v. operand_tree v ≡ val c.args.scope.now f)) (sym is) c.both_into.ensures.value

pub value_into-returns-in-Two-deref-clause-kind : goal.value_into-returns-in-Two-deref-clause-kind
unfolding Rattle.qsql_request.specs.declared.request.Expr.TheViews.roll-Expr denote.Hole.Carrier.roll
value_into-returns-in-Two-deref-clause-kind t c =
    let left = form c.deref-in-Two-deref.result.now in
    let right = form c.deref-in-Two-deref-2.result.now in
    let inner : form c.deref.result.now ≡ two c.in-Two-deref.inner left right =
    ap form c.in-Two-deref.is ∙ fold-roll-Expr Form form_step (Expr-F.Two c.in-Two-deref.inner c.in-Two-deref.left c.in-Two-deref.right) ∙ ap₂ (λ (x y : Expr). two c.in-Two-deref.inner (form x) (form y)) (sym c.deref-in-Two-deref.ensures) (sym c.deref-in-Two-deref-2.ensures) in
    let is : form c.args.expr.now ≡ one c.in-One-2.verb (two c.in-Two-deref.inner left right) =
    ap form c.in-One-2.is ∙ fold-roll-Expr Form form_step (Expr-F.One c.in-One-2.verb c.in-One-2.side) ∙ ap (λ (x : Expr). one c.in-One-2.verb (form x)) (sym c.deref.ensures) ∙ ap (one c.in-One-2.verb) inner in
    subst (λ (f : Form). IfOk c.both_into.new.out (λ v. kind_in (kind_beside c.args.scope.now) f ≡ Some (kind_of_tree (operand_tree v)))) (sym is) c.both_into.ensures.kind

pub both_into-value_of-requires : goal.both_into-value_of-requires
both_into-value_of-requires t c =
    let columns = kind_beside c.args.scope.now in
    let left = form c.args.left.now in
    let right = form c.args.right.now in
    let side = two c.args.inner left right in
    let both = parts columns c.args.inner left right (side_of columns (one c.args.outer side) c.args.outer side refl c.requires.kind) c.requires.built in
    (omega arith, (both.left_kind, both.left_built))

pub both_into-value_into-requires : goal.both_into-value_into-requires
both_into-value_into-requires t c =
    let columns = kind_beside c.args.scope.now in
    let left = form c.args.left.now in
    let right = form c.args.right.now in
    let side = two c.args.inner left right in
    let both = parts columns c.args.inner left right (side_of columns (one c.args.outer side) c.args.outer side refl c.requires.kind) c.requires.built in
    (omega arith, (both.right_kind, both.right_built))

pub both_into-of_both-requires-clause-rows : goal.both_into-of_both-requires-clause-rows
both_into-of_both-requires-clause-rows t c =
    let columns = kind_beside c.args.scope.now in
    let left = form c.args.left.now in
    let right = form c.args.right.now in
    let side = two c.args.inner left right in
    let kind = side_of columns (one c.args.outer side) c.args.outer side refl c.requires.kind in
    both_if
    c.value_of.result
    c.value_into.new.out
    (λ (x : Operand). kind_in columns left ≡ Some (kind_of_tree (operand_tree x)))
    (λ (y : Operand). kind_in columns right ≡ Some (kind_of_tree (operand_tree y)))
    (λ (x y : Operand). is_some (option_and_then (result_kind1_of c.args.outer) (result_kind_of c.args.inner (kind_of_tree (operand_tree x)) (kind_of_tree (operand_tree y)))) ≡ true)
    (λ x p y q. ap (λ (o : Option Kind). is_some (option_and_then (result_kind1_of c.args.outer) o)) (sym (kind_of_two columns side c.args.inner left right (kind_of_tree (operand_tree x)) (kind_of_tree (operand_tree y)) refl kind p q)) ∙ c.requires.kind)
    c.value_of.ensures.kind
    c.value_into.ensures.kind

pub both_into-of_both-requires-clause-sides : goal.both_into-of_both-requires-clause-sides
both_into-of_both-requires-clause-sides t c =
    let frame = c.args.scope.now in
    let columns = kind_beside frame in
    let left = form c.args.left.now in
    let right = form c.args.right.now in
    let side = two c.args.inner left right in
    let kind = side_of columns (one c.args.outer side) c.args.outer side refl c.requires.kind in
    both_if
    c.value_of.result
    c.value_into.new.out
    (λ (x : Operand). operand_tree x ≡ val frame left)
    (λ (y : Operand). operand_tree y ≡ val frame right)
    (λ (x y : Operand). AreSides c.args.inner (operand_tree x) (operand_tree y))
    (λ x p y q. sides_of frame columns side c.args.inner left right (operand_tree x) (operand_tree y) refl kind c.requires.built p q)
    c.value_of.ensures.value
    c.value_into.ensures.value

pub both_into-returns-clause-value : goal.both_into-returns-clause-value
both_into-returns-clause-value t c =
    let frame = c.args.scope.now in
    let left = form c.args.left.now in
    let right = form c.args.right.now in
    made_of_two
    c.of_both.new.out
    c.value_of.result
    c.value_into.new.out
    (λ (x : Operand). operand_tree x ≡ val frame left)
    (λ (y : Operand). operand_tree y ≡ val frame right)
    (λ (v x y : Operand). operand_tree v ≡ value_of_one c.args.outer (value_of_two c.args.inner (operand_tree x) (operand_tree y)))
    (λ (v : Operand). operand_tree v ≡ val frame (one c.args.outer (two c.args.inner left right)))
    (λ v x p y q e. e ∙ ap (value_of_one c.args.outer) (ap₂ (value_of_two c.args.inner) p q))
    c.value_of.ensures.value
    c.value_into.ensures.value
    c.of_both.ensures.value

pub both_into-returns-clause-kind : goal.both_into-returns-clause-kind
both_into-returns-clause-kind t c =
    let columns = kind_beside c.args.scope.now in
    let left = form c.args.left.now in
    let right = form c.args.right.now in
    let side = two c.args.inner left right in
    let kind = side_of columns (one c.args.outer side) c.args.outer side refl c.requires.kind in
    made_of_two
    c.of_both.new.out
    c.value_of.result
    c.value_into.new.out
    (λ (x : Operand). kind_in columns left ≡ Some (kind_of_tree (operand_tree x)))
    (λ (y : Operand). kind_in columns right ≡ Some (kind_of_tree (operand_tree y)))
    (λ (v x y : Operand). option_and_then (result_kind1_of c.args.outer) (result_kind_of c.args.inner (kind_of_tree (operand_tree x)) (kind_of_tree (operand_tree y))) ≡ Some (kind_of_tree (operand_tree v)))
    (λ (v : Operand). kind_in columns (one c.args.outer side) ≡ Some (kind_of_tree (operand_tree v)))
    (λ v x p y q e. ap (option_and_then (result_kind1_of c.args.outer)) (kind_of_two columns side c.args.inner left right (kind_of_tree (operand_tree x)) (kind_of_tree (operand_tree y)) refl kind p q) ∙ e)
    c.value_of.ensures.kind
    c.value_into.ensures.kind
    c.of_both.ensures.kind
