use Rattle.std.proofs.Common.{◌≡◌, ℕ, List, ◌++◌, ◌∷◌, [], ◌-◌, sym, ap, subst, ◌∙◌, append_assoc, refl, take, arith}
use Rattle.std.proofs.lemmas.List.{append-nil}
use Rattle.std.proofs.lemmas.Result.{err_from_is_err_and}
use Rattle.q_values.specs.Tree.{Tree, tree, trees, items_of, atom, list, dict, keyed, wrong}
use Rattle.q_values.specs.Atom.{kind_of}
use Rattle.ipc_codec.proofs.TreeLemmas.{tree-Atom, tree-List, tree-Dict, tree-Keyed, tree-Wrong}
use Rattle.q_values.specs.Kind.{type_number}
use Rattle.ipc_codec.specs.Reading.{number_of_items}
use Rattle.ipc_codec.specs.Written.{Fits, written, written_items, element_bytes, text_bytes, grid_bytes, head}
use Rattle.ipc_codec.proofs.WritingLemmas.{Begins-then, ok_then}
use Rattle.ipc_codec.proofs.ItemsLemmas.{number_of_items-of, written_items-more, AllFit-at, size-at, append-push}
use Rattle.ipc_codec.proofs.writing.+values.Goals as goal

pub put_items-loop-i-init : goal.put_items-loop-i-init
unfolding written
put_items-loop-i-init t c = sym (append-nil c.args.out.now.items)

pub put_items-put_value-requires : goal.put_items-put_value-requires
put_items-put_value-requires t c =
    let smaller = size-at (trees c.args.items.now) c.loop-i.i (tree c.at.result.now) c.at.ensures in
    (omega arith, AllFit-at (trees c.args.items.now) c.loop-i.i (tree c.at.result.now) c.at.ensures c.requires)

pub put_items-returns-in_err-put_value-clause-err : goal.put_items-returns-in_err-put_value-clause-err
put_items-returns-in_err-put_value-clause-err t c =
    let p = err_from_is_err_and c.from_residual.result c.from_residual.ensures.1 in
    rw p.1 (Begins-then _ _ _ (rw c.loop-i.invariant at c.in_err-put_value.ensures.err))

pub put_items-loop-i-preserved : goal.put_items-loop-i-preserved
put_items-loop-i-preserved t c =
    let more = written_items-more (trees c.args.items.now) c.loop-i.i (tree c.at.result.now) c.at.ensures in
    rw (c.in_ok-put_value.ensures.ok, c.loop-i.invariant, more) (append_assoc c.args.out.now.items (written_items (items_of (take c.loop-i.i (trees c.args.items.now)))) (written (tree c.at.result.now)))

pub put_value-put_head-requires : goal.put_value-put_head-requires
put_value-put_head-requires t c =
    let whole : tree c.args.value.now ≡ list (items_of (trees c.in-List.items)) = ap tree c.in-List.is ∙ tree-List c.in-List.items in
    let fits = subst Fits whole c.requires in
    omega (arith, fits.0, number_of_items-of (trees c.in-List.items), c.len.ensures)

pub put_value-returns-in_ok-push-in-Atom-clause-ok : goal.put_value-returns-in_ok-push-in-Atom-clause-ok
unfolding written
put_value-returns-in_ok-push-in-Atom-clause-ok t c =
    let old = c.args.out.now.items in
    let whole : tree c.args.value.now ≡ atom c.in-Atom.x = ap tree c.in-Atom.is ∙ tree-Atom c.in-Atom.x in
    let mid : c.push.new.self.items ≡ old ++ (256 - type_number (kind_of c.in-Atom.x)) ∷ [] = rw (c.in_ok-push-in-Atom.ensures.items, c.from.ensures, c.type_number.ensures.value, c.kind.ensures) refl in
    ok_then c.put_element.result (λ e. e ∙ rw mid (append-push old (256 - type_number (kind_of c.in-Atom.x)) (element_bytes c.in-Atom.x)) ∙ ap (λ (v : Tree). old ++ written v) (sym whole)) c.put_element.ensures.ok

pub put_value-returns-in_ok-put_head-in-List-clause-ok : goal.put_value-returns-in_ok-put_head-in-List-clause-ok
unfolding written
put_value-returns-in_ok-put_head-in-List-clause-ok t c =
    let old = c.args.out.now.items in
    let ts = trees c.in-List.items in
    let whole : tree c.args.value.now ≡ list (items_of ts) = ap tree c.in-List.is ∙ tree-List c.in-List.items in
    let count : c.len.result ≡ number_of_items (items_of ts) = c.len.ensures ∙ sym (number_of_items-of ts) in
    let mid : c.put_head.new.out.items ≡ old ++ head 0 (number_of_items (items_of ts)) = c.in_ok-put_head-in-List.ensures.ok ∙ ap (λ (n : ℕ). old ++ head 0 n) count in
    ok_then c.put_items.result (λ e. e ∙ ap (λ (xs : List ℕ). xs ++ written_items (items_of ts)) mid ∙ append_assoc old (head 0 (number_of_items (items_of ts))) (written_items (items_of ts)) ∙ ap (λ (v : Tree). old ++ written v) (sym whole)) c.put_items.ensures.ok

pub put_value-returns-in_ok-put_value-in-Dict-clause-ok : goal.put_value-returns-in_ok-put_value-in-Dict-clause-ok
unfolding written
put_value-returns-in_ok-put_value-in-Dict-clause-ok t c =
    let old = c.args.out.now.items in
    let keys = written (tree c.deref.result.now.keys) in
    let values = written (tree c.deref-in-Dict.result.now.values) in
    let whole : tree c.args.value.now ≡ dict (tree c.deref.result.now.keys) (tree c.deref-in-Dict.result.now.values) = ap tree c.in-Dict.is ∙ tree-Dict c.in-Dict.pair ∙ rw (c.deref.ensures, c.deref-in-Dict.ensures) refl in
    let first : c.push-in-Dict.new.self.items ≡ old ++ 99 ∷ [] = c.in_ok-push-in-Dict.ensures.items in
    ok_then c.put_value-in-Dict.result (λ e. e ∙ ap (λ (xs : List ℕ). xs ++ values) (c.in_ok-put_value-in-Dict.ensures.ok ∙ ap (λ (xs : List ℕ). xs ++ keys) first ∙ append-push old 99 keys) ∙ append_assoc old (99 ∷ keys) values ∙ ap (λ (v : Tree). old ++ written v) (sym whole)) c.put_value-in-Dict.ensures.ok

pub put_value-returns-in_ok-put_table-in-Keyed-clause-ok : goal.put_value-returns-in_ok-put_table-in-Keyed-clause-ok
unfolding written
put_value-returns-in_ok-put_table-in-Keyed-clause-ok t c =
    let old = c.args.out.now.items in
    let keys = grid_bytes (record { names = c.deref-in-Keyed.result.now.keys.names; columns = c.deref-in-Keyed.result.now.keys.columns }) in
    let values = grid_bytes (record { names = c.deref-in-Keyed-2.result.now.values.names; columns = c.deref-in-Keyed-2.result.now.values.columns }) in
    let whole : tree c.args.value.now ≡ keyed (record { names = c.deref-in-Keyed.result.now.keys.names; columns = c.deref-in-Keyed.result.now.keys.columns }) (record { names = c.deref-in-Keyed-2.result.now.values.names; columns = c.deref-in-Keyed-2.result.now.values.columns }) = ap tree c.in-Keyed.is ∙ tree-Keyed c.in-Keyed.pair ∙ rw (c.deref-in-Keyed.ensures, c.deref-in-Keyed-2.ensures) refl in
    let first : c.push-in-Keyed.new.self.items ≡ old ++ 99 ∷ [] = c.in_ok-push-in-Keyed.ensures.items in
    ok_then c.put_table-in-Keyed-2.result (λ e. e ∙ ap (λ (xs : List ℕ). xs ++ values) (c.in_ok-put_table-in-Keyed.ensures.ok ∙ ap (λ (xs : List ℕ). xs ++ keys) first ∙ append-push old 99 keys) ∙ append_assoc old (99 ∷ keys) values ∙ ap (λ (v : Tree). old ++ written v) (sym whole)) c.put_table-in-Keyed-2.ensures.ok

pub put_value-returns-in_ok-push-in-Wrong-clause-ok : goal.put_value-returns-in_ok-push-in-Wrong-clause-ok
unfolding written
put_value-returns-in_ok-push-in-Wrong-clause-ok t c =
    let old = c.args.out.now.items in
    let whole : tree c.args.value.now ≡ wrong c.in-Wrong.text = ap tree c.in-Wrong.is ∙ tree-Wrong c.in-Wrong.text in
    ok_then c.put_text.result (λ e. e ∙ rw (c.in_ok-push-in-Wrong.ensures.items, c.as_slice.ensures) (append-push old 128 (text_bytes c.in-Wrong.text)) ∙ ap (λ (v : Tree). old ++ written v) (sym whole)) c.put_text.ensures.ok
