use Rattle.std.proofs.Common.{◌≡◌, ◌<◌, ◌+◌, length, drop, get_or, sym, ap, ◌∙◌, arith}
use Rattle.std.specs.Simd.Lanes.{zip2}
use Rattle.std.proofs.lemmas.List.{take_more, get_or-drop, get_or-take}
use Rattle.std.proofs.lemmas.Option.{get_or_from_slice_get}
use Rattle.q_lanes.proofs.lane.zip_items.Goals as goal

pub loop-k-preserved : goal.loop-k-preserved
loop-k-preserved g c =
    let results = zip2 g.S.Step.value (g.L.Items.list c.args.left.now) (g.R.Items.list c.args.right.now) in
    let done = c.loop-results.done in
    let k = c.loop-k.k in
    let x = c.index-block-k.result in
    let next : done + (k + 1) ≡ done + k + 1 = omega arith in
    let inside : done + k < length results = omega (arith, c.count-count.ensures, c.loop-k.invariant.within) in
    let there : get_or results (done + k) x ≡ x =
    sym (get_or-drop done results k x)
    ∙ sym (get_or-take 16 (drop done results) k x (omega arith))
    ∙ ap (λ l. get_or l k x) (sym c.sixteen_from-block.ensures)
    ∙ sym c.index-block-k.is in
    let more = take_more results (done + k) x inside in
    record { items = cc; count = omega arith; within = omega arith; room = omega arith }

pub loop-i-preserved : goal.loop-i-preserved
loop-i-preserved g c =
    let results = zip2 g.S.Step.value (g.L.Items.list c.args.left.now) (g.R.Items.list c.args.right.now) in
    let i = c.loop-i.i in
    let x = c.item.result in
    let inside : i < length results = omega (arith, c.count-count.ensures) in
    let there : get_or results i x ≡ x = get_or_from_slice_get results i x x c.item.ensures in
    let more = take_more results i x inside in
    record { items = cc; count = omega arith; room = omega arith }
