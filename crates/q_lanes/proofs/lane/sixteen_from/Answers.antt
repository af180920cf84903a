use Rattle.std.proofs.Common.{◌≡◌, ◌<◌, ◌+◌, ◌++◌, [], ◌∷◌, length, take, drop, get_or, sym, ap₂, ◌∙◌, arith, subst}
use Rattle.std.proofs.lemmas.List.{take_more_set, take_more, take_all, length-drop, length-set, get_or-drop}
use Rattle.std.proofs.lemmas.Option.{get_or_from_slice_get}
use Rattle.q_lanes.proofs.lane.sixteen_from.Goals as goal

pub loop-k-preserved : goal.loop-k-preserved
loop-k-preserved g c =
    let items = g.I.Items.list c.args.items.now in
    let from = c.args.from in
    let k = c.loop-k.k in
    let x = c.item.result in
    let inside : k < length c.loop-k.block = omega (arith, c.loop-k.invariant.size) in
    let within : k < length (drop from items) = omega (arith, length-drop from items, c.requires.within) in
    let there : get_or (drop from items) k x ≡ x = get_or-drop from items k x ∙ get_or_from_slice_get items (from + k) x x c.item.ensures in
    record {
      size = length-set c.loop-k.block k x ∙ c.loop-k.invariant.size;
      done = take_more_set c.loop-k.block k x inside ∙ ap₂ (λ l y. l ++ y ∷ []) c.loop-k.invariant.done (sym there) ∙ sym (take_more (drop from items) k x within);
    }

pub returns : goal.returns
returns g c =
    let items = drop c.args.from (g.I.Items.list c.args.items.now) in
    let at : c.loop-k.k ≡ 16 = omega (arith, c.loop-k-test.false) in
    let whole : take 16 c.loop-k.block ≡ c.loop-k.block = take_all 16 c.loop-k.block (omega (arith, c.loop-k.invariant.size)) in
    sym whole ∙ subst (λ n. take n c.loop-k.block ≡ take n items) at c.loop-k.invariant.done
