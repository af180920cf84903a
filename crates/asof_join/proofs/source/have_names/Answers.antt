use Rattle.std.proofs.Common.{◌≡◌, ◌+◌, ◌<◌, ℕ, Bool, List, true, [], ◌∷◌, ◌++◌, length, get_or, take, sym, ap, ◌∙◌, arith, rules}
use Rattle.std.proofs.lemmas.List.{take_more, get_or_default}
use Rattle.std.proofs.lemmas.Slice.Eq.{bytes_eq-Decides}
use Rattle.asof_join.proofs.source.have_names.Goals as goal

pub loop-i-preserved : goal.loop-i-preserved
loop-i-preserved c =
    let names = c.args.names.now in
    let shown = c.args.shown.now in
    let i = c.loop-i.i in
    let size : length names ≡ length shown = search rules in
    let low : i < length names = omega (arith, c.loop-i-test.true) in
    let low' : i < length shown = omega (arith, low, size) in
    let found : c.is_same.result ≡ true = search rules in
    let same : c.bytes.result.now ≡ c.bytes-in-loop-i.result.now = (bytes_eq-Decides c.bytes.result.now c.bytes-in-loop-i.result.now).0 (sym c.is_same.ensures ∙ found) in
    let first : c.bytes.result.now ≡ get_or names i [] = c.bytes.ensures.value ∙ c.index-names-i.is ∙ get_or_default names i c.index-names-i.result [] low in
    let next : c.bytes-in-loop-i.result.now ≡ get_or shown i [] = c.bytes-in-loop-i.ensures.value ∙ c.index-shown-i.is ∙ get_or_default shown i c.index-shown-i.result [] low' in
    let item : get_or names i [] ≡ get_or shown i [] = sym first ∙ same ∙ next in
    take_more names i [] low ∙ (λ k. c.loop-i.invariant k ++ item k ∷ []) ∙ sym (take_more shown i [] low')
