use Rattle.std.proofs.Common.{◌<◌, length, arith, sym}
use Rattle.plant_memory.proofs.JudgeLemmas.{table_found, table_more}
use Rattle.plant_memory.proofs.judge.table_of.Goals as goal

pub returns-then-has_name : goal.returns-then-has_name
returns-then-has_name c =
    let inside : c.loop-i.i < length c.args.schema.now = omega (arith, c.len-i-end.ensures.value) in
    table_found _ _ _ _ inside c.at.ensures.value (sym c.if-has_name.ensures) c.loop-i.invariant

pub loop-i-preserved : goal.loop-i-preserved
loop-i-preserved c =
    let inside : c.loop-i.i < length c.args.schema.now = omega (arith, c.len-i-end.ensures.value) in
    table_more _ _ _ _ inside c.at.ensures.value (sym c.if-has_name.ensures) c.loop-i.invariant
