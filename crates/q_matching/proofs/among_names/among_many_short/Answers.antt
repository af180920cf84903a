use Rattle.std.proofs.Common.{List, ℕ, Bool, ◌∙◌}
use Rattle.std.specs.Prelude.{nat_eq}
use Rattle.std.specs.Ordering.{is_eq, nat_cmp}
use Rattle.std.specs.Cmp.Lexicographic.{slice_cmp}
use Rattle.std.specs.HashSet.{contains}
use lib.Pointwise.{pointwise}
use Rattle.std.proofs.lemmas.List.{map-id}
use Rattle.q_lanes.proofs.TextLemmas.{text_ties}
use Rattle.q_matching.proofs.AmongLemmas.{among_read}
use Rattle.q_matching.proofs.among_names.among_many_short.Goals as goal

pub returns : goal.returns
returns c =
    let eq : List ℕ → List ℕ → Bool = pointwise nat_eq in
    let same : List ℕ → List ℕ → Bool = λ s t. is_eq (slice_cmp nat_cmp s t) in
    c.in_ok-values.ensures
    ∙ among_read (contains eq c.in_ok-set.set) eq same (λ s. s) c.args.left.now c.args.items.now c.args.left.now c.args.items.now c.in_ok-set.ensures text_ties (map-id c.args.left.now) (map-id c.args.items.now)
