use Rattle.std.proofs.Common.{refl, ap, ◌≡◌, ◌+◌, ◌∙◌, take, length, arith, sym, ◌++◌, ◌∷◌, [], Some, slice_get}
use Rattle.std.proofs.lemmas.List.{length-take, take_more}
use Rattle.std.proofs.lemmas.Option.{slice_get_read}
use Rattle.day_rows.specs.Blocks.{tables_with}
use Rattle.day_rows.proofs.BlockLemmas.{tables_with-push}
use Rattle.day_rows.proofs.GrowLemmas.{first-columns}
use Rattle.day_rows.proofs.block.Block.first_tables.Goals as goal

pub loop-i-preserved : goal.loop-i-preserved
loop-i-preserved c =
    let kinds = c.args.kinds.now in
    let own = c.index-kinds-i.result in
    let updates = take c.args.n c.args.self.now in
    let place : 0 + length (take c.loop-i.i kinds) ≡ c.loop-i.i = omega (arith, length-take c.loop-i.i kinds, c.loop-i-test.true) in
    let split = take_more kinds c.loop-i.i own c.loop-i-test.true ∙ ap (λ y. take c.loop-i.i kinds ++ y ∷ []) (sym c.index-kinds-i.is) in
    let more = ap (λ l. tables_with 0 l updates) split ∙ tables_with-push 0 (take c.loop-i.i kinds) own updates in
    let known : slice_get kinds c.loop-i.i ≡ Some own = slice_get_read kinds (length kinds) c.loop-i.i own refl c.loop-i-test.true c.index-kinds-i.is in
    let columns = c.in_ok-columns.ensures ∙ first-columns kinds c.loop-i.i own c.args.self.now c.args.n c.first_rows-rows.result c.requires.updates known c.first_rows-rows.ensures in
    c.in_ok-push.ensures.items ∙ rw (more, place, c.loop-i.invariant, c.from_columns.ensures, columns) refl
