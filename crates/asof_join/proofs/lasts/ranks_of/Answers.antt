use Rattle.std.proofs.Common.{◌≡◌, ◌+◌, List, [], ◌∷◌, ◌++◌, length, take, drop, map, pos, sym, ap, ◌∙◌, subst, arith, ℤ}
use Rattle.q_values.specs.Contents.{Contents}
use Rattle.q_values.specs.Table.{rows_of}
use Rattle.q_keys.specs.Keys.{key_rows, codes_in}
use Rattle.asof_join.specs.Lasts.{AreNumbers}
use Rattle.asof_join.proofs.KeyLemmas.{ranks_are, code_count}
use Rattle.asof_join.proofs.lasts.ranks_of.Goals as goal

pub split_at-requires : goal.split_at-requires
split_at-requires c =
    let column = c.in_ok-appended.field-0 in
    let columns_are : c.deref.result.now ≡ column ∷ [] = c.deref.ensures.value ∙ c.in_ok-push.ensures.items ∙ ap (λ (l : List Contents). l ++ column ∷ []) c.new-columns.ensures.items in
    let codes_are : c.codes.result.now ≡ codes_in (key_rows (length column.atoms) (column ∷ [])) =
    c.codes.ensures.codes ∙ c.in_ok-groups.ensures.codes ∙ ap (λ (l : List Contents). codes_in (key_rows (rows_of l) l)) columns_are in
    let count = code_count c.args.left.now.atoms c.args.right.now.atoms column c.codes.result.now c.in_ok-appended.ensures codes_are in
    omega (arith, count, c.len.ensures)

pub returns : goal.returns
returns c =
    let left = c.args.left.now.atoms in
    let right = c.args.right.now.atoms in
    let column = c.in_ok-appended.field-0 in
    let codes = c.codes.result.now in
    let columns_are : c.deref.result.now ≡ column ∷ [] = c.deref.ensures.value ∙ c.in_ok-push.ensures.items ∙ ap (λ (l : List Contents). l ++ column ∷ []) c.new-columns.ensures.items in
    let codes_are : codes ≡ codes_in (key_rows (length column.atoms) (column ∷ [])) =
    c.codes.ensures.codes ∙ c.in_ok-groups.ensures.codes ∙ ap (λ (l : List Contents). codes_in (key_rows (rows_of l) l)) columns_are in
    let first : c.in_ok-of_ranks.field-0.items ≡ map (λ x. pos x) (take (length left) codes) =
    c.in_ok-of_ranks.ensures ∙ ap (map (λ x. pos x)) (c.split_at.ensures.front ∙ ap (λ n. take n codes) c.len.ensures) in
    let next : c.in_ok-of_ranks-2.field-0.items ≡ map (λ x. pos x) (drop (length left) codes) =
    c.in_ok-of_ranks-2.ensures ∙ ap (map (λ x. pos x)) (c.split_at.ensures.back ∙ ap (λ n. drop n codes) c.len.ensures) in
    let are = ranks_are left right column codes c.in_ok-appended.ensures codes_are in
    subst (λ (xs : List ℤ). AreNumbers left right xs c.in_ok-of_ranks-2.field-0.items) (sym first)
    (subst (λ (ys : List ℤ). AreNumbers left right (map (λ x. pos x) (take (length left) codes)) ys) (sym next) are)
