use Rattle.std.proofs.Common.{ℕ, List, ◌≡◌, ◌<◌, length, map, All, ap, ◌∙◌, subst, arith}
use Rattle.std.proofs.lemmas.List.{length-map}
use Rattle.q_values.specs.Table.{rows_of}
use Rattle.q_keys.specs.Keys.{KeyGrouping}
use Rattle.qsql_values.specs.Places.{column_at}
use Rattle.qsql_groups.proofs.GroupLemmas.{keys_fit, are_groups, lent_columns}
use Rattle.qsql_groups.proofs.grouping.grouped.Goals as goal

pub keys_at-requires : goal.keys_at-requires
keys_at-requires c =
    let keys = lent_columns c.args.keys.now in
    let count : length keys ≡ length c.args.keys.now = length-map c.args.keys.now (λ c. c.now) in
    keys_fit (rows_of c.args.columns.now) keys c.in_ok-groups.groups.codes c.firsts.result.now (omega (arith, count, c.requires.some)) c.requires.even c.in_ok-groups.ensures.codes c.firsts.ensures.within

pub invariant_of-result : goal.invariant_of-result
invariant_of-result c =
    let keys = lent_columns c.args.keys.now in
    let count : length keys ≡ length c.args.keys.now = length-map c.args.keys.now (λ c. c.now) in
    are_groups c.args.names.now c.args.columns.now keys c.in_ok-keys.keys.items c.in_ok-groups.groups.codes c.in_ok-groups.groups.firsts c.requires.columns (omega (arith, count, c.requires.some)) c.requires.even c.in_ok-groups.ensures.codes
    (subst (λ (k : KeyGrouping). All (λ (i : ℕ). i < length k.firsts) k.codes) c.groups.view_is c.groups.invariant.codes)
    (subst (λ (k : KeyGrouping). All (λ (i : ℕ). i < length k.codes) k.firsts) c.groups.view_is c.groups.invariant.firsts)
    (c.in_ok-keys.ensures ∙ ap (λ (fs : List ℕ). map (column_at fs) keys) c.firsts.ensures.firsts)
