use Rattle.std.proofs.Common.{◌≡◌, ◌==◌, false, length, map, List, Some, None, ap, sym, subst, ◌∙◌, ℕ}
use Rattle.std.specs.List.{find}
use Rattle.std.proofs.lemmas.Result.{IfOk-weaker}
use Rattle.q_values.specs.Tree.{Tree, tree, list, items_of}
use Rattle.q_values.specs.declared.value.Value.{Value}
use Rattle.q_values.specs.declared.value.Value.TheVariants as v
use Rattle.day_rows.specs.Schema.{IsShape}
use Rattle.ipc_codec.proofs.TreeLemmas.{tree-List}
use Rattle.ipc_codec.specs.Written.{IsPlain}
use Rattle.publications.specs.Answer.{answer_tree, pair_tree, subscription_tree}
use Rattle.publications.proofs.AnswerLemmas.{is_named, answer_one, all_found, not_missing, pairs_plain, pair_plain}
use Rattle.publications.proofs.answer.subscription_answer.Goals as goal

pub returns-then-is_empty-clause-plain : goal.returns-then-is_empty-clause-plain
returns-then-is_empty-clause-plain c =
    let same : tree (v.List c.in_ok-pairs_of.field-0) ≡ list (items_of (map pair_tree c.args.schema.now)) = tree-List c.in_ok-pairs_of.field-0 ∙ ap (λ (ts : List Tree). list (items_of ts)) c.in_ok-pairs_of.ensures in
    subst IsPlain (sym same) (pairs_plain c.args.schema.now c.learn_schema.ensures)

pub pair_of-requires : goal.pair_of-requires
pair_of-requires c =
    all_found IsShape (is_named c.bytes-2.result.now) c.args.schema.now c.in-Some.shape.now c.learn_schema.ensures.each (sym c.in-Some.ensures)

pub unreachable-requires : goal.unreachable-requires
unreachable-requires c =
    let found : find (is_named c.args.tables.now) c.args.schema.now ≡ None = ap (λ (name : List ℕ). find (is_named name) c.args.schema.now) (sym c.bytes-2.ensures.value) ∙ sym c.in-None.ensures in
    let named : (length c.args.tables.now == 0) ≡ false = ap (λ (name : List ℕ). length name == 0) (sym c.bytes.ensures.value) ∙ sym c.if-is_empty.ensures in
    not_missing c.args.schema.now c.args.tables.now c.requires.known named found

pub returns-clause-value : goal.returns-clause-value
returns-clause-value c =
    let named : (length c.args.tables.now == 0) ≡ false = ap (λ (name : List ℕ). length name == 0) (sym c.bytes.ensures.value) ∙ sym c.if-is_empty.ensures in
    let found : find (is_named c.args.tables.now) c.args.schema.now ≡ Some c.in-Some.shape.now = ap (λ (name : List ℕ). find (is_named name) c.args.schema.now) (sym c.bytes-2.ensures.value) ∙ sym c.in-Some.ensures in
    IfOk-weaker c.pair_of.result (λ (value : Value). tree value ≡ pair_tree c.in-Some.shape.now) (λ (value : Value). tree value ≡ subscription_tree c.args.schema.now c.args.tables.now)
    (λ value is. is ∙ ap answer_tree (sym found) ∙ sym (answer_one c.args.schema.now c.args.tables.now named)) c.pair_of.ensures

pub returns-clause-plain : goal.returns-clause-plain
returns-clause-plain c =
    let shape = all_found IsShape (is_named c.bytes-2.result.now) c.args.schema.now c.in-Some.shape.now c.learn_schema.ensures.each (sym c.in-Some.ensures) in
    IfOk-weaker c.pair_of.result (λ (value : Value). tree value ≡ pair_tree c.in-Some.shape.now) (λ (value : Value). IsPlain (tree value))
    (λ value is. subst IsPlain (sym is) (pair_plain c.in-Some.shape.now shape)) c.pair_of.ensures
