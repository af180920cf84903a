use Rattle.std.proofs.Common.{◌<◌, ◌++◌, ◌∷◌, [], List, ℕ, map, take, arith, length, ap, sym, ◌∙◌}
use Rattle.std.proofs.lemmas.List.{map_push, take_more, append_assoc}
use Rattle.std.proofs.lemmas.Option.{get_or_from_slice_get}
use Rattle.q_groups.proofs.column.add_texts.Goals as goal

pub loop-i-preserved : goal.loop-i-preserved
loop-i-preserved c =
    let symbols = c.args.symbols.now in
    let i = c.loop-i.i in
    let text = c.at.result.now in
    let old = map (λ t. t.now) c.args.texts.now.items in
    let in' : i < length symbols = omega (arith, c.loop-i-test.true, c.len-i-end.ensures) in
    ap (map (λ t. t.now)) c.in_ok-push.ensures.items ∙ map_push (λ t. t.now) c.loop-i.texts.items c.at.result
    ∙ ap (λ (l : List (List ℕ)). l ++ text ∷ []) c.loop-i.invariant
    ∙ append_assoc old (take i symbols) (text ∷ [])
    ∙ ap (λ l. old ++ l) (ap (λ t. take i symbols ++ t ∷ []) (sym (get_or_from_slice_get symbols i text text c.at.ensures.value)) ∙ sym (take_more symbols i text in'))
