use Rattle.std.proofs.Common.{◌≡◌, ℕ, List, ◌<◌, length, All, sym, ◌∙◌, subst, arith}
use Rattle.std.proofs.lemmas.List.{length-map}
use Rattle.q_values.specs.Contents.{Contents}
use Rattle.qsql_groups.proofs.GroupLemmas.{lent_columns, column_is}
use Rattle.qsql_groups.proofs.grouping.keys_at.Goals as goal

pub gather-requires : goal.gather-requires
gather-requires c =
    let columns = lent_columns c.args.keys.now in
    let firsts = c.args.firsts.now in
    let i = c.loop-key.key-index in
    let column = c.key-item.result.now in
    let low : i < length c.args.keys.now = omega arith in
    let count : length columns ≡ length c.args.keys.now = length-map c.args.keys.now (λ c. c.now) in
    let is = column_is c.args.keys.now i c.key-item.result c.key-item.is low in
    let bound = c.requires i column (omega (arith, count)) in
    let all = subst (λ (v : Contents). All (λ (f : ℕ). f < length v.atoms) firsts) (sym is) bound in
    subst (λ (places : List ℕ). All (λ (f : ℕ). f < length column.atoms) places) (sym (c.deref.ensures.value ∙ c.in_ok-places.ensures)) all
