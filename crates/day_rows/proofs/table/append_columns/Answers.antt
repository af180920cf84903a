use Rattle.std.proofs.Common.{arith, refl, ap, sym, ◌≡◌, ◌∙◌, ◌<◌, ◌++◌, append-nil, length, Some, slice_get}
use Rattle.std.proofs.lemmas.List.{length-set}
use Rattle.std.proofs.lemmas.Option.{slice_get_read}
use Rattle.q_values.specs.Contents.{Contents}
use Rattle.day_rows.proofs.GrowLemmas.{on_ok-went, column-step}
use Rattle.day_rows.proofs.table.append_columns.Goals as goal

pub loop-i-preserved : goal.loop-i-preserved
loop-i-preserved c =
    let columns = c.loop-i.columns.items in
    let more = c.args.more.now in
    let i = c.loop-i.i in
    let own = c.index_mut.result.now in
    let went = on_ok-went c.append.result (sym c.is_err.ensures.value ∙ c.if-is_err.false) c.append.ensures.ok in
    let i_in : i < length columns = omega (arith, c.loop-i-test.true, c.requires, c.loop-i.invariant.size) in
    let own_is : slice_get columns i ≡ Some own = slice_get_read columns (length columns) i own refl i_in c.index_mut.ensures.value in
    let more_is : slice_get more i ≡ Some c.index-more-i.result = slice_get_read more (length more) i c.index-more-i.result refl c.loop-i-test.true c.index-more-i.is in
    record {
      atoms = column-step (λ a b. a ++ b) append-nil columns c.args.columns.now.items more i c.append.new.self own c.index-more-i.result i_in own_is more_is (ap (λ (v : Contents). v.atoms) went) c.loop-i.invariant.atoms;
      size = length-set columns i c.append.new.self ∙ c.loop-i.invariant.size;
    }
