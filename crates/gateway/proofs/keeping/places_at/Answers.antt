use Rattle.std.proofs.Common.{get_or, arith, sym}
use Rattle.std.proofs.lemmas.Grind.{get_or_default_zero}
use Rattle.q_values.proofs.ListLemmas.{gathered_more}
use Rattle.gateway.proofs.keeping.places_at.Goals as goal

pub loop-index-preserved : goal.loop-index-preserved
loop-index-preserved c =
    let n_in = c.loop-index-test.true in
    let at = get_or c.args.inner.now c.loop-index.index-index 0 in
    let x = get_or c.args.places.now at 0 in
    let more = gathered_more c.args.places.now c.args.inner.now c.loop-index.index-index x n_in (c.requires _ 0 n_in) (sym (get_or_default_zero c.args.places.now at x (c.requires _ 0 n_in))) in
    record {
      items = cc;
      count = omega arith;
      room = omega arith;
    }
