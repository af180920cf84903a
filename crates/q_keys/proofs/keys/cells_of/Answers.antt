use Rattle.std.proofs.Common.{◌≡◌, ◌∷◌, [], ◌++◌, get_or, arith, sym, ◌∙◌}
use Rattle.q_keys.specs.Cells.{cell_of}
use Rattle.q_keys.proofs.KeyLemmas.{zip2_more}
use Rattle.q_keys.proofs.keys.cells_of.Goals as goal

pub loop-i-preserved : goal.loop-i-preserved
loop-i-preserved c =
    let firsts = c.args.firsts.items in
    let nexts = c.args.nexts.items in
    let width = c.args.width in
    let i = c.loop-i.i in
    let first = c.index.result.now in
    let next = c.index-in-loop-i.result.now in
    let more = zip2_more (cell_of width) firsts nexts i first next (omega arith) (omega arith) in
    let is : cell_of width first next ≡ cell_of width (get_or firsts i first) (get_or nexts i next) = λ k. cell_of width (c.index.ensures k) (c.index-in-loop-i.ensures k) in
    record {
      items = c.push_reserved.ensures.items ∙ (λ k. c.loop-i.invariant.items k ++ is k ∷ []) ∙ sym more;
      count = omega arith;
      room = omega arith;
    }
