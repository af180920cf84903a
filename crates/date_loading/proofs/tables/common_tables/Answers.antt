use Rattle.std.proofs.Common.{◌≡◌, ℕ, suc, ◌+◌, take, subst, arith}
use Rattle.date_loading.specs.Manifests.{tables_of}
use Rattle.date_loading.proofs.DifferenceLemmas.{same-further, none-past}
use Rattle.date_loading.proofs.tables.common_tables.Goals as goal

pub loop-i-preserved : goal.loop-i-preserved
loop-i-preserved c =
    let at = c.has_table_at.ensures.0 c.if-not-has_table_at.false in
    let next : suc c.loop-i.i ≡ c.loop-i.i + 1 = omega arith in
    subst (λ (n : ℕ). take n (tables_of c.args.records.now) ≡ take n c.args.schema.now) next
    (same-further (tables_of c.args.records.now) c.args.schema.now c.loop-i.i c.loop-i.invariant at)

pub returns-clause-next : goal.returns-clause-next
returns-clause-next c = λ _. none-past c.args.schema.now c.len.result (omega (arith, c.len.ensures.value))
