use Rattle.std.proofs.Common.{◌≡◌, ◌∷◌, [], ◌++◌, get_or, arith, rules, sym, ◌∙◌}
use Rattle.std.proofs.lemmas.Int.{to_z-of_z}
use mir.Syntax.{w64}
use mir.Val.{SFits}
use Rattle.q_keys.specs.Pairs.{pair_number}
use Rattle.q_keys.proofs.KeyLemmas.{zip2_more}
use Rattle.q_keys.proofs.keys.pairs_of.Goals as goal

pub loop-i-preserved : goal.loop-i-preserved
loop-i-preserved c =
    let firsts = c.args.firsts.items in
    let nexts = c.args.nexts.items in
    let i = c.loop-i.i in
    let first = c.index.result.now in
    let next = c.index-in-loop-i.result.now in
    let more = zip2_more pair_number firsts nexts i first next (omega arith) (omega arith) in
    let is : c.paired.result ≡ pair_number (get_or firsts i first) (get_or nexts i next) = c.paired.ensures ∙ (λ k. pair_number (c.index.ensures k) (c.index-in-loop-i.ensures k)) in
    let fits : SFits w64 c.paired.result = search rules in
    let pushed = simp to_z-of_z at c.push_reserved.ensures.items in
    record {
      items = pushed ∙ (λ k. c.loop-i.invariant.items k ++ is k ∷ []) ∙ sym more;
      count = omega arith;
      room = omega arith;
    }
