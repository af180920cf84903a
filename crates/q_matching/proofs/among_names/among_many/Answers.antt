use Rattle.std.proofs.Common.{◌<◌, ◌∙◌, List, ℕ, Bool, arith, length}
use Rattle.std.specs.Prelude.{nat_eq}
use Rattle.std.specs.List.{list_any}
use Rattle.std.specs.Ordering.{is_eq, nat_cmp}
use Rattle.std.specs.Cmp.Lexicographic.{slice_cmp}
use lib.Pointwise.{pointwise}
use Rattle.q_lanes.proofs.MapLemmas.{map_more_read}
use Rattle.q_lanes.proofs.TextLemmas.{text_ties}
use Rattle.q_matching.proofs.AmongLemmas.{any_lent}
use Rattle.q_matching.proofs.among_names.among_many.Goals as goal

pub loop-i-preserved : goal.loop-i-preserved
loop-i-preserved g c =
    let left = g.L.TextList.texts c.args.left.now in
    let text = c.text.result.now in
    let in_left : c.loop-i.i < length left = omega arith in
    let same : List ℕ → List ℕ → Bool = λ s t. is_eq (slice_cmp nat_cmp s t) in
    let more = map_more_read (λ s. list_any (λ t. same s t.now) c.args.items.now) left c.loop-i.i text in_left c.text.ensures in
    let found = c.contains.ensures ∙ c.in_ok-set.ensures c.text.result ∙ any_lent (pointwise nat_eq) same text c.args.items.now text_ties in
    record { items = cc (more, found); count = omega arith; room = omega arith }
