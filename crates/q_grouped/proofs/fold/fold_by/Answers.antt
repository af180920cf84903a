use Rattle.std.proofs.Common.{◌<◌, IsTrue, get_or, length, arith, refl, sym, ap, ◌∙◌, set}
use Rattle.std.proofs.lemmas.List.{length-set}
use Rattle.std.proofs.lemmas.List.Elements.{All-nil}
use Rattle.q_grouped.proofs.GroupLemmas.{groups_start, groups_step, All_more}
use Rattle.q_grouped.proofs.fold.fold_by.Goals as goal

pub loop-row-init : goal.loop-row-init
loop-row-init g c =
    let states = c.in_ok-states.states.items in
    let told = c.in_ok-states.ensures in
    record {
      size = told.len;
      states = groups_start g.F.Fold.next c.args.start c.args.groups states c.args.codes.now (g.I.Items.list c.args.items.now) told.len (λ k d low. told.each k d (omega (arith, low, told.len)));
      fits = All-nil (λ x. IsTrue (g.F.Fold.fits x));
    }

pub loop-row-preserved : goal.loop-row-preserved
loop-row-preserved g c =
    let row = c.loop-row.row in
    let codes = c.args.codes.now in
    let list = g.I.Items.list c.args.items.now in
    let before = c.loop-row.invariant in
    let code = get_or codes row 0 in
    let in_codes : row < length codes = omega (arith, c.loop-row-test.true) in
    let in_list : row < length list = omega (arith, in_codes, c.requires.len) in
    let below : code < c.args.groups = c.requires.codes row 0 in_codes in
    record {
      size = length-set c.loop-row.states.items code c.step.result ∙ before.size;
      states = ap (set c.loop-row.states.items code) c.step.ensures.value ∙ groups_step g.F.Fold.next c.args.start c.args.groups codes list c.loop-row.states.items row code c.item-item.result c.index.result.now in_codes c.requires.len refl below c.item-item.ensures before.states (sym c.index.ensures);
      fits = All_more (λ x. IsTrue (g.F.Fold.fits x)) list row c.item-item.result in_list c.item-item.ensures c.step.ensures.fits before.fits;
    }
