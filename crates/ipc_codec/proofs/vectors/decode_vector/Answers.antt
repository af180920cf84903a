use Rattle.std.proofs.Common.{◌≡◌, ◌-◌, ◌∷◌, List, ℕ, length, take, drop, true, false, sym, ap, ◌∙◌}
use Rattle.std.specs.Prelude.{nat_le}
use Rattle.std.specs.List.{list_all}
use Rattle.std.proofs.lemmas.Result.{err_from_is_err_and}
use Rattle.q_values.specs.Kind.{type_number}
use Rattle.q_values.specs.declared.kind.Kind.{Kind}
use Rattle.q_values.specs.declared.kind.Kind.TheVariants as k
use Rattle.ipc_codec.proofs.CanonicalLemmas.{AreBytes-from_each, begun_reads, begun_bits, found_begins, boolean_kind, not_boolean, stop_refuses, same_rest}
use Rattle.ipc_codec.proofs.vectors.decode_vector.Goals as goal
use Rattle.ipc_codec.proofs.vectors.decode_vector.Goals.{else-is_boolean-via-then-is_boolean+else-not-are_booleans, else-is_boolean-via-else-is_boolean}

pub returns-in_err-vector-clause-refused : goal.returns-in_err-vector-clause-refused
returns-in_err-vector-clause-refused c =
    let p = err_from_is_err_and c.from_residual.result c.from_residual.ensures.1 in
    stop_refuses c.from_residual.result p.0 c.in-Some.kind c.args.bytes.now c.in-Some.body.now c.in_err-vector.field-0.0 p.1 p.2 c.in-Some.ensures.some.0 c.in_err-vector.ensures

pub returns-then-not-are_booleans-clause-refused : goal.returns-then-not-are_booleans-clause-refused
returns-then-not-are_booleans-clause-refused c = λ v rest h.
    let kind = boolean_kind c.in-Some.kind (sym c.if-is_boolean.ensures) in
    let front : c.args.bytes.now ≡ type_number k.Boolean ∷ c.in-Some.body.now = c.in-Some.ensures.some.0 ∙ ap (λ (own : Kind). type_number own ∷ c.in-Some.body.now) kind in
    let read = (begun_reads c.in-Some.kind c.args.bytes.now c.in-Some.body.now v rest c.in-Some.ensures.some.0 h).1 in
    let bits = begun_bits c.args.bytes.now c.in-Some.body.now v rest front h in
    let rests : c.in_ok-vector.rest.now ≡ rest = same_rest _ _ _ _ (sym c.in_ok-vector.ensures ∙ read) in
    let body = c.in-Some.body.now in
    let ends : c.saturating_sub-end.result ≡ length body - length rest = c.saturating_sub-end.ensures ∙ ap (λ (r : List ℕ). length body - length r) rests in
    let both : false ≡ true = c.if-not-are_booleans.ensures ∙ ap (λ (n : ℕ). list_all (λ b. nat_le b 1) (drop 5 (take n body))) ends ∙ bits in
    absurd cc

pub returns-clause-found : goal.returns-clause-found
returns-clause-found c =
    found_begins c.in-Some.kind c.args.bytes.now c.in-Some.body.now c.in_ok-vector.vector c.in_ok-vector.rest.now c.in-Some.ensures.some.0 c.in-Some.ensures.some.1 c.in_ok-vector.ensures
    (AreBytes-from_each c.args.bytes.now c.type_inv.bytes)
    (λ e. elim c.else-is_boolean.branch [
      | else-is_boolean-via-then-is_boolean+else-not-are_booleans w ↦ ap (λ (n : ℕ). list_all (λ b. nat_le b 1) (drop 5 (take n c.in-Some.body.now))) (sym c.saturating_sub-end.ensures) ∙ sym w.if-not-are_booleans.ensures
      | else-is_boolean-via-else-is_boolean w ↦ absurd (not_boolean c.in-Some.kind (sym w.if-is_boolean.ensures) e)
    ])
