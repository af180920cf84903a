use Rattle.std.proofs.Common.{◌≤◌, length, arith, sym, ◌∙◌}
use Rattle.gateway.proofs.IndexLemmas.{index_here, index_next, index_past}
use Rattle.gateway.proofs.values.index_of.Goals as goal

pub returns-then-eq : goal.returns-then-eq
returns-then-eq c =
    omega (arith, c.loop-i.invariant, index_here c.args.name.now c.args.schema.now c.loop-i.i c.at.result.now c.at.ensures.value (rw c.bytes.ensures.value at (sym c.eq.ensures ∙ c.if-eq.true)))

pub loop-i-preserved : goal.loop-i-preserved
loop-i-preserved c =
    index_next c.args.name.now c.args.schema.now c.loop-i.i c.at.result.now c.at.ensures.value (rw c.bytes.ensures.value at (sym c.eq.ensures ∙ c.if-eq.false)) ∙ c.loop-i.invariant

pub returns : goal.returns
returns c =
    let past : length c.args.schema.now ≤ c.loop-i.i = omega (arith, c.loop-i-test.false, c.len-i-end.ensures.value) in
    omega (arith, c.loop-i.invariant, index_past c.args.name.now c.args.schema.now c.loop-i.i past, c.len.ensures.value, c.loop-i.auto.i-end, c.len-i-end.ensures.value, past)
