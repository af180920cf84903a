use Rattle.std.proofs.Common.{arith, ◌≡◌, true, false, length, refl, ap, ap₂, ◌∙◌, sym, subst}
use Rattle.std.specs.Prelude.{is_some, option_and_then, IfOk}
use Rattle.std.proofs.lemmas.Result.{IfOk-weaker}
use Rattle.q_verbs.specs.Kinds.{result_kind_of, result_kind1_of}
use Rattle.qsql_request.specs.Forms.{Form, one, two}
use Rattle.qsql_request.specs.Views.{form, form_step}
use Rattle.qsql_request.specs.Unbuilt.{has_unbuilt}
use Rattle.qsql_request.specs.declared.request.Expr.{Expr}
use Rattle.qsql_request.specs.declared.request.Expr.TheOpen.{Expr-F}
use Rattle.qsql_request.specs.declared.request.Expr.TheFolds.{fold-roll-Expr}
use Rattle.qsql_values.specs.Frames.{kind_beside}
use Rattle.qsql_values.specs.Kinds.{kind_in}
use Rattle.qsql_values.specs.Operands.{operand_tree, kind_of_tree}
use Rattle.qsql_values.specs.Ready.{IsReady}
use Rattle.qsql_values.proofs.ResultLemmas.{both_if}
use Rattle.qsql_values.proofs.ShapeLemmas.{parts, side_of, side_size, sides_size, kind_of_two}
use Rattle.qsql_groups.specs.OnePass.{is_one_pass, is_one_pass_verb, HasItems, IsByGroup}
use Rattle.qsql_groups.specs.declared.values.ByGroup.{ByGroup}
use Rattle.qsql_groups.proofs.ByGroupLemmas.{side_passes, sides_pass, verb_fits}
use Rattle.qsql_groups.proofs.values.+by_group.Goals as goal

-- a verb with one side

pub by_group_into-by_group_into-requires : goal.by_group_into-by_group_into-requires
unfolding Rattle.qsql_request.specs.declared.request.Expr.TheViews.roll-Expr denote.Hole.Carrier.roll
by_group_into-by_group_into-requires t c =
    let expr = form c.args.expr.now in
    let side = form c.deref.result.now in
    let is : expr ≡ one c.in-One.verb side =
    ap form c.in-One.is ∙ fold-roll-Expr Form form_step (Expr-F.One c.in-One.verb c.in-One.side) ∙ ap (λ (x : Expr). one c.in-One.verb (form x)) (sym c.deref.ensures) in
    let smaller = side_size expr c.in-One.verb side side is refl in
    let passes = side_passes expr c.in-One.verb side is c.requires.one_pass in
    let kind = side_of (kind_beside c.args.scope.now) expr c.in-One.verb side is c.requires.ready.kind in
    let built : has_unbuilt side ≡ false = ap has_unbuilt (sym is) ∙ c.requires.ready.built in
    let ready : IsReady c.args.scope.now side = record { kind = kind; built = built } in
    (omega (arith, smaller), (passes, (ready, c.requires.size)))

pub by_group_into-of_one-requires-clause-verb : goal.by_group_into-of_one-requires-clause-verb
unfolding Rattle.qsql_request.specs.declared.request.Expr.TheViews.roll-Expr denote.Hole.Carrier.roll
by_group_into-of_one-requires-clause-verb t c =
    let side = form c.deref.result.now in
    let is : form c.args.expr.now ≡ one c.in-One.verb side =
    ap form c.in-One.is ∙ fold-roll-Expr Form form_step (Expr-F.One c.in-One.verb c.in-One.side) ∙ ap (λ (x : Expr). one c.in-One.verb (form x)) (sym c.deref.ensures) in
    IfOk-weaker
    c.by_group_into.new.out
    (λ (s : ByGroup). IsByGroup c.args.scope.now c.args.groups.now side s.by_row (operand_tree s.value))
    (λ (s : ByGroup). is_one_pass_verb c.in-One.verb s.by_row ≡ true)
    (λ s found. verb_fits c.args.scope.now c.args.groups.now c.in-One.verb side s.by_row (operand_tree s.value) (ap is_one_pass (sym is) ∙ c.requires.one_pass) found)
    c.by_group_into.ensures

pub by_group_into-of_one-requires-clause-row : goal.by_group_into-of_one-requires-clause-row
unfolding Rattle.qsql_request.specs.declared.request.Expr.TheViews.roll-Expr denote.Hole.Carrier.roll
by_group_into-of_one-requires-clause-row t c =
    let columns = kind_beside c.args.scope.now in
    let side = form c.deref.result.now in
    let is : form c.args.expr.now ≡ one c.in-One.verb side =
    ap form c.in-One.is ∙ fold-roll-Expr Form form_step (Expr-F.One c.in-One.verb c.in-One.side) ∙ ap (λ (x : Expr). one c.in-One.verb (form x)) (sym c.deref.ensures) in
    IfOk-weaker
    c.by_group_into.new.out
    (λ (s : ByGroup). IsByGroup c.args.scope.now c.args.groups.now side s.by_row (operand_tree s.value))
    (λ (s : ByGroup). is_some (result_kind1_of c.in-One.verb (kind_of_tree (operand_tree s.value))) ≡ true)
    (λ s found. ap is_some (sym (ap (kind_in columns) is ∙ ap (option_and_then (result_kind1_of c.in-One.verb)) found.kind)) ∙ c.requires.ready.kind)
    c.by_group_into.ensures

pub by_group_into-of_one-requires-clause-items : goal.by_group_into-of_one-requires-clause-items
by_group_into-of_one-requires-clause-items t c =
    IfOk-weaker
    c.by_group_into.new.out
    (λ (s : ByGroup). IsByGroup c.args.scope.now c.args.groups.now (form c.deref.result.now) s.by_row (operand_tree s.value))
    (λ (s : ByGroup). HasItems (length c.args.groups.now.codes) (length c.args.groups.now.firsts) s.by_row (operand_tree s.value))
    (λ s found. found.values.items)
    c.by_group_into.ensures

pub by_group_into-returns-in-One : goal.by_group_into-returns-in-One
unfolding Rattle.qsql_request.specs.declared.request.Expr.TheViews.roll-Expr denote.Hole.Carrier.roll
by_group_into-returns-in-One t c =
    let side = form c.deref.result.now in
    let is : form c.args.expr.now ≡ one c.in-One.verb side =
    ap form c.in-One.is ∙ fold-roll-Expr Form form_step (Expr-F.One c.in-One.verb c.in-One.side) ∙ ap (λ (x : Expr). one c.in-One.verb (form x)) (sym c.deref.ensures) in
    subst (λ (f : Form). IfOk c.of_one.new.out (λ v. IsByGroup c.args.scope.now c.args.groups.now f v.by_row (operand_tree v.value))) (sym is) (c.of_one.ensures c.args.scope.now side c.by_group_into.ensures)

-- a verb with two sides

pub by_group_into-two_into-requires : goal.by_group_into-two_into-requires
unfolding Rattle.qsql_request.specs.declared.request.Expr.TheViews.roll-Expr denote.Hole.Carrier.roll
by_group_into-two_into-requires t c =
    let expr = form c.args.expr.now in
    let left = form c.deref-else-is_test.result.now in
    let right = form c.deref-else-is_test-2.result.now in
    let is : expr ≡ two c.in-Two.verb left right =
    ap form c.in-Two.is ∙ fold-roll-Expr Form form_step (Expr-F.Two c.in-Two.verb c.in-Two.left c.in-Two.right) ∙ ap₂ (λ (x y : Expr). two c.in-Two.verb (form x) (form y)) (sym c.deref-else-is_test.ensures) (sym c.deref-else-is_test-2.ensures) in
    let size = sides_size expr c.in-Two.verb left right is in
    (omega (arith, size), (sym c.is_test.ensures ∙ c.if-is_test.false, (ap is_one_pass (sym is) ∙ c.requires.one_pass, (subst (IsReady c.args.scope.now) is c.requires.ready, c.requires.size))))

pub by_group_into-returns-else-is_test : goal.by_group_into-returns-else-is_test
unfolding Rattle.qsql_request.specs.declared.request.Expr.TheViews.roll-Expr denote.Hole.Carrier.roll
by_group_into-returns-else-is_test t c =
    let is : form c.args.expr.now ≡ two c.in-Two.verb (form c.deref-else-is_test.result.now) (form c.deref-else-is_test-2.result.now) =
    ap form c.in-Two.is ∙ fold-roll-Expr Form form_step (Expr-F.Two c.in-Two.verb c.in-Two.left c.in-Two.right) ∙ ap₂ (λ (x y : Expr). two c.in-Two.verb (form x) (form y)) (sym c.deref-else-is_test.ensures) (sym c.deref-else-is_test-2.ensures) in
    subst (λ (f : Form). IfOk c.two_into.new.out (λ v. IsByGroup c.args.scope.now c.args.groups.now f v.by_row (operand_tree v.value))) (sym is) c.two_into.ensures

pub two_into-by_group-requires : goal.two_into-by_group-requires
two_into-by_group-requires t c =
    let frame = c.args.scope.now in
    let left = form c.args.left.now in
    let right = form c.args.right.now in
    let passes = sides_pass (two c.args.verb left right) c.args.verb left right refl c.requires.verb c.requires.one_pass in
    let both = parts (kind_beside frame) c.args.verb left right c.requires.ready.kind c.requires.ready.built in
    let ready : IsReady frame left = record { kind = both.left_kind; built = both.left_built } in
    (omega arith, (passes.0, (ready, c.requires.size)))

pub two_into-by_group_into-requires : goal.two_into-by_group_into-requires
two_into-by_group_into-requires t c =
    let frame = c.args.scope.now in
    let left = form c.args.left.now in
    let right = form c.args.right.now in
    let passes = sides_pass (two c.args.verb left right) c.args.verb left right refl c.requires.verb c.requires.one_pass in
    let both = parts (kind_beside frame) c.args.verb left right c.requires.ready.kind c.requires.ready.built in
    let ready : IsReady frame right = record { kind = both.right_kind; built = both.right_built } in
    (omega arith, (passes.1, (ready, c.requires.size)))

pub two_into-of_two-requires-clause-row : goal.two_into-of_two-requires-clause-row
two_into-of_two-requires-clause-row t c =
    let frame = c.args.scope.now in
    let groups = c.args.groups.now in
    let left = form c.args.left.now in
    let right = form c.args.right.now in
    both_if
    c.by_group.result
    c.by_group_into.new.out
    (λ (l : ByGroup). IsByGroup frame groups left l.by_row (operand_tree l.value))
    (λ (r : ByGroup). IsByGroup frame groups right r.by_row (operand_tree r.value))
    (λ (l r : ByGroup). is_some (result_kind_of c.args.verb (kind_of_tree (operand_tree l.value)) (kind_of_tree (operand_tree r.value))) ≡ true)
    (λ l first r second. ap is_some (sym (kind_of_two (kind_beside frame) (two c.args.verb left right) c.args.verb left right (kind_of_tree (operand_tree l.value)) (kind_of_tree (operand_tree r.value)) refl c.requires.ready.kind first.kind second.kind)) ∙ c.requires.ready.kind)
    c.by_group.ensures
    c.by_group_into.ensures

pub two_into-of_two-requires-clause-left : goal.two_into-of_two-requires-clause-left
two_into-of_two-requires-clause-left t c =
    IfOk-weaker
    c.by_group.result
    (λ (l : ByGroup). IsByGroup c.args.scope.now c.args.groups.now (form c.args.left.now) l.by_row (operand_tree l.value))
    (λ (l : ByGroup). HasItems (length c.args.groups.now.codes) (length c.args.groups.now.firsts) l.by_row (operand_tree l.value))
    (λ l found. found.values.items)
    c.by_group.ensures

pub two_into-of_two-requires-clause-right : goal.two_into-of_two-requires-clause-right
two_into-of_two-requires-clause-right t c =
    IfOk-weaker
    c.by_group_into.new.out
    (λ (r : ByGroup). IsByGroup c.args.scope.now c.args.groups.now (form c.args.right.now) r.by_row (operand_tree r.value))
    (λ (r : ByGroup). HasItems (length c.args.groups.now.codes) (length c.args.groups.now.firsts) r.by_row (operand_tree r.value))
    (λ r found. found.values.items)
    c.by_group_into.ensures

pub two_into-returns : goal.two_into-returns
two_into-returns t c = c.of_two.ensures c.args.scope.now (form c.args.left.now) (form c.args.right.now) c.requires.verb c.requires.ready.kind c.by_group.ensures c.by_group_into.ensures
