use Rattle.std.proofs.Common.{◌≡◌, ℕ, Bool, true, false, not, ◌&&◌, List, None, unwrap_or, sym, ap, ◌∙◌}
use Rattle.std.specs.Prelude.{option_copied}
use Rattle.std.specs.List.{list_any, list_all}
use Rattle.std.specs.Option.{option_or}
use Rattle.std.specs.Str.{bytes_eq}
use Rattle.qsql_request.specs.Unbuilt.{is_empty}
use Rattle.qsql_request.specs.Views.{source_of, aj_of}
use Rattle.qsql_request.specs.declared.request.Source.{Source}
use Rattle.qsql_values.specs.Beside.{beside}
use Rattle.qsql_eval.specs.Views.{is_kind}
use Rattle.asof_join.specs.Asof.{added_names}
use Rattle.asof_join.specs.Judged.{first_absent, absent_key, has_clash, has_one_kind, is_typed_join}
use Rattle.asof_join.specs.Sources.{query_of_source, shown_names, shown_kinds, is_typed_source}
use Rattle.asof_join.proofs.JudgeLemmas.{judged_type, empty_is}
use Rattle.asof_join.proofs.checking.judge.Goals as goal

pub returns-then-is_typed-clause-fits : goal.returns-then-is_typed-clause-fits
returns-then-is_typed-clause-fits c =
    let q = aj_of c.args.query.now in
    let left = c.args.left.now in
    let right = c.args.right.now in
    let of_left = c.in_ok-of_left.of_left in
    let of_right = c.in_ok-of_right.of_right in
    let left_names : of_left.names ≡ shown_names (query_of_source q.left) left.table.now =
    c.in_ok-of_left.ensures.names ∙ ap (λ (s : Source). shown_names (query_of_source (source_of s)) left.table.now) c.requires.left in
    let right_names : of_right.names ≡ shown_names (query_of_source q.right) right.table.now =
    c.in_ok-of_right.ensures.names ∙ ap (λ (s : Source). shown_names (query_of_source (source_of s)) right.table.now) c.requires.right in
    let left_kinds : of_left.kinds.items ≡ shown_kinds (query_of_source q.left) left.table.now =
    c.in_ok-of_left.ensures.kinds ∙ ap (λ (s : Source). shown_kinds (query_of_source (source_of s)) left.table.now) c.requires.left in
    let right_kinds : of_right.kinds.items ≡ shown_kinds (query_of_source q.right) right.table.now =
    c.in_ok-of_right.ensures.kinds ∙ ap (λ (s : Source). shown_kinds (query_of_source (source_of s)) right.table.now) c.requires.right in
    let keys : c.as_slice-keys.result.now ≡ q.keys = c.as_slice-keys.ensures in
    let first : c.as_slice.result.now ≡ shown_names (query_of_source q.left) left.table.now = c.as_slice.ensures ∙ left_names in
    let next : c.as_slice-2.result.now ≡ shown_names (query_of_source q.right) right.table.now = c.as_slice-2.ensures ∙ right_names in
    let absent : absent_key q left.table.now right.table.now ≡ None =
    sym (λ i. option_or (first_absent (first i) (keys i)) (first_absent (next i) (keys i))) ∙ sym c.absent_from.ensures ∙ ap option_copied c.in-None.is in
    let third : c.as_slice-3.result.now ≡ shown_names (query_of_source q.left) left.table.now = c.as_slice-3.ensures ∙ left_names in
    let fourth : c.as_slice-4.result.now ≡ shown_names (query_of_source q.right) right.table.now = c.as_slice-4.ensures ∙ right_names in
    let clash : has_clash q left.table.now right.table.now ≡ false =
    sym (λ i. list_any (λ (name : List ℕ). list_any (bytes_eq name) (third i)) (added_names (keys i) (fourth i))) ∙ sym c.any_added.ensures ∙ c.if-any_added.false in
    let some : is_empty q.keys ≡ c.is_empty.result = empty_is q.keys ∙ sym c.is_empty.ensures in
    let left_typed : is_typed_source left.table.now (query_of_source q.left) ≡ left.typed =
    sym (left.judged.typed_is ∙ ap (λ (s : Source). is_typed_source left.table.now (query_of_source (source_of s))) c.requires.left) in
    let right_typed : is_typed_source right.table.now (query_of_source q.right) ≡ right.typed =
    sym (right.judged.typed_is ∙ ap (λ (s : Source). is_typed_source right.table.now (query_of_source (source_of s))) c.requires.right) in
    let kinds : list_all (has_one_kind q left.table.now right.table.now) q.keys ≡ c.have_one_kind-kinds.result =
    sym (c.have_one_kind-kinds.ensures
    ∙ (λ i. list_all (λ (key : List ℕ). is_kind (unwrap_or (beside key (left_names i) (left_kinds i)) None) (unwrap_or (beside key (right_names i) (right_kinds i)) None)) (keys i))) in
    let typed : is_typed_join q left.table.now right.table.now ≡ c.is_typed.result = (λ i. not (some i) && (left_typed i && (right_typed i && kinds i))) ∙ sym c.is_typed.ensures in
    judged_type q left.table.now right.table.now true absent clash (typed ∙ c.if-is_typed.true)

pub returns-clause-refused : goal.returns-clause-refused
returns-clause-refused c =
    let q = aj_of c.args.query.now in
    let left = c.args.left.now in
    let right = c.args.right.now in
    let of_left = c.in_ok-of_left.of_left in
    let of_right = c.in_ok-of_right.of_right in
    let left_names : of_left.names ≡ shown_names (query_of_source q.left) left.table.now =
    c.in_ok-of_left.ensures.names ∙ ap (λ (s : Source). shown_names (query_of_source (source_of s)) left.table.now) c.requires.left in
    let right_names : of_right.names ≡ shown_names (query_of_source q.right) right.table.now =
    c.in_ok-of_right.ensures.names ∙ ap (λ (s : Source). shown_names (query_of_source (source_of s)) right.table.now) c.requires.right in
    let left_kinds : of_left.kinds.items ≡ shown_kinds (query_of_source q.left) left.table.now =
    c.in_ok-of_left.ensures.kinds ∙ ap (λ (s : Source). shown_kinds (query_of_source (source_of s)) left.table.now) c.requires.left in
    let right_kinds : of_right.kinds.items ≡ shown_kinds (query_of_source q.right) right.table.now =
    c.in_ok-of_right.ensures.kinds ∙ ap (λ (s : Source). shown_kinds (query_of_source (source_of s)) right.table.now) c.requires.right in
    let keys : c.as_slice-keys.result.now ≡ q.keys = c.as_slice-keys.ensures in
    let first : c.as_slice.result.now ≡ shown_names (query_of_source q.left) left.table.now = c.as_slice.ensures ∙ left_names in
    let next : c.as_slice-2.result.now ≡ shown_names (query_of_source q.right) right.table.now = c.as_slice-2.ensures ∙ right_names in
    let absent : absent_key q left.table.now right.table.now ≡ None =
    sym (λ i. option_or (first_absent (first i) (keys i)) (first_absent (next i) (keys i))) ∙ sym c.absent_from.ensures ∙ ap option_copied c.in-None.is in
    let third : c.as_slice-3.result.now ≡ shown_names (query_of_source q.left) left.table.now = c.as_slice-3.ensures ∙ left_names in
    let fourth : c.as_slice-4.result.now ≡ shown_names (query_of_source q.right) right.table.now = c.as_slice-4.ensures ∙ right_names in
    let clash : has_clash q left.table.now right.table.now ≡ false =
    sym (λ i. list_any (λ (name : List ℕ). list_any (bytes_eq name) (third i)) (added_names (keys i) (fourth i))) ∙ sym c.any_added.ensures ∙ c.if-any_added.false in
    let some : is_empty q.keys ≡ c.is_empty.result = empty_is q.keys ∙ sym c.is_empty.ensures in
    let left_typed : is_typed_source left.table.now (query_of_source q.left) ≡ left.typed =
    sym (left.judged.typed_is ∙ ap (λ (s : Source). is_typed_source left.table.now (query_of_source (source_of s))) c.requires.left) in
    let right_typed : is_typed_source right.table.now (query_of_source q.right) ≡ right.typed =
    sym (right.judged.typed_is ∙ ap (λ (s : Source). is_typed_source right.table.now (query_of_source (source_of s))) c.requires.right) in
    let kinds : list_all (has_one_kind q left.table.now right.table.now) q.keys ≡ c.have_one_kind-kinds.result =
    sym (c.have_one_kind-kinds.ensures
    ∙ (λ i. list_all (λ (key : List ℕ). is_kind (unwrap_or (beside key (left_names i) (left_kinds i)) None) (unwrap_or (beside key (right_names i) (right_kinds i)) None)) (keys i))) in
    let typed : is_typed_join q left.table.now right.table.now ≡ c.is_typed.result = (λ i. not (some i) && (left_typed i && (right_typed i && kinds i))) ∙ sym c.is_typed.ensures in
    judged_type q left.table.now right.table.now false absent clash (typed ∙ c.if-is_typed.false)
