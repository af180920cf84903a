use Rattle.std.proofs.Common.{◌≡◌, ◌<◌, ◌&&◌, ◌++◌, [], ◌∷◌, Bool, List, false, length, get_or, ap₂, sym, ◌∙◌, arith}
use Rattle.std.proofs.lemmas.List.{take_more_set, get_or-set_other, length-set}
use Rattle.qsql_values.proofs.KeepingLemmas.{zip-more}
use Rattle.qsql_values.proofs.joining.keep_both.Goals as goal

pub loop-i-preserved : goal.loop-i-preserved
loop-i-preserved c =
    let i = c.loop-i.i in
    let flags = c.loop-i.flags in
    let before = c.args.flags.now in
    let others = c.args.others.now in
    let inside : i < length flags = omega (arith, c.loop-i.invariant.len) in
    let there : i < length before = omega (arith, c.requires) in
    let was : get_or flags i false ≡ get_or before i false = c.loop-i.invariant.rest i (omega arith) in
    let item = get_or flags i false && get_or others i false in
    let more = zip-more (λ (x y : Bool). x && y) before others i false false there c.loop-i-test.true in
    record {
      len = length-set flags i item ∙ c.loop-i.invariant.len;
      done = take_more_set flags i item inside ∙ ap₂ (λ (xs : List Bool) (b : Bool). xs ++ (b && get_or others i false) ∷ []) c.loop-i.invariant.done was ∙ sym more;
      rest = λ k above. get_or-set_other flags i k item false (omega arith) ∙ c.loop-i.invariant.rest k (omega (arith, above));
    }
