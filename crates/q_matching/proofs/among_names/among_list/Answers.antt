use Rattle.std.proofs.Common.{◌≡◌, List, ℕ, Bool, map, ap, ◌∙◌}
use Rattle.std.specs.Ordering.{is_eq, nat_cmp}
use Rattle.std.specs.Cmp.Lexicographic.{slice_cmp}
use Rattle.q_lanes.specs.Lanes.{text_items}
use Rattle.q_matching.proofs.AmongLemmas.{among_lent}
use Rattle.q_matching.proofs.among_names.among_list.Goals as goal

pub returns-then-len-le-FEW : goal.returns-then-len-le-FEW
returns-then-len-le-FEW g c =
    let same : List ℕ → List ℕ → Bool = λ s t. is_eq (slice_cmp nat_cmp s t) in
    let beside : text_items c.beside-others.result.count c.beside-others.result.texts.now ≡ text_items 1 c.args.items.now = (λ i. text_items (c.beside-others.ensures.count i) (c.beside-others.ensures.texts i)) in
    c.in_ok-values.ensures
    ∙ among_lent same (g.L.TextList.texts c.args.left.now) c.deref.result.now (text_items 1 c.args.items.now) (ap (map (λ t. t.now)) c.deref.ensures.value ∙ c.in_ok-texts.ensures ∙ beside)

pub returns : goal.returns
returns g c =
    let same : List ℕ → List ℕ → Bool = λ s t. is_eq (slice_cmp nat_cmp s t) in
    let beside : text_items c.beside-others.result.count c.beside-others.result.texts.now ≡ text_items 1 c.args.items.now = (λ i. text_items (c.beside-others.ensures.count i) (c.beside-others.ensures.texts i)) in
    c.in_ok-values-2.ensures
    ∙ among_lent same (g.L.TextList.texts c.args.left.now) c.deref-else-len-le-FEW.result.now (text_items 1 c.args.items.now) (ap (map (λ t. t.now)) c.deref-else-len-le-FEW.ensures.value ∙ c.in_ok-texts.ensures ∙ beside)
