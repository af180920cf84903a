use Rattle.std.proofs.Common.{◌<◌, length, sym, ◌∙◌, arith}
use Rattle.std.proofs.lemmas.List.{length-set}
use Rattle.q_matching.proofs.BlockLemmas.{put_more, put_all}
use Rattle.q_matching.proofs.flags.sixteen.Goals as goal

pub loop-k-preserved : goal.loop-k-preserved
loop-k-preserved g c =
    let items = c.args.items.now in
    let k = c.loop-k.k in
    let inside : k < length c.loop-k.block = omega (arith, c.loop-k.invariant.size) in
    let within : k < length items = omega (arith, c.requires) in
    record {
      size = length-set c.loop-k.block k c.apply.result ∙ c.loop-k.invariant.size;
      done = put_more (g.P.Rule.value c.args.rule.now) items c.loop-k.block k c.index-items-k.result c.apply.result inside within (sym c.index-items-k.is) c.apply.ensures c.loop-k.invariant.done;
    }

pub returns : goal.returns
returns g c = put_all (g.P.Rule.value c.args.rule.now) c.args.items.now c.loop-k.block c.loop-k.k
    (omega (arith, c.loop-k-test.false, c.loop-k.invariant.size)) (omega (arith, c.loop-k-test.false, c.requires)) c.loop-k.invariant.done
