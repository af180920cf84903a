use Rattle.std.proofs.Common.{◌≡◌, ℕ, ◌*◌, List, length, get_or, ap, sym, ◌∙◌, subst, arith}
use Rattle.std.specs.Ordering.{nat_cmp}
use Rattle.std.specs.Simd.Lanes.{zip2}
use Rattle.std.proofs.lemmas.Simd.{get_or-zip2, length-zip2}
use Rattle.q_keys.specs.Cells.{cell_of}
use Rattle.q_keys.specs.Ranking.{IsRanking}
use Rattle.q_keys.proofs.CellLemmas.{cell_low}
use Rattle.q_keys.proofs.KeyLemmas.{ranking_by_cells}
use Rattle.q_keys.proofs.keys.refined_by_table.Goals as goal

pub ranked_cells-requires-clause-few : goal.ranked_cells-requires-clause-few
ranked_cells-requires-clause-few c =
    let width = length c.args.rest.firsts.items in
    let size = ap length (c.deref.ensures.value ∙ c.in_ok-cells.ensures) ∙ length-zip2 (cell_of c.len-width.result) c.args.first.ranks.items c.args.rest.ranks.items (sym c.requires.even) in
    let few = c.requires.few in
    omega arith

pub ranked_cells-requires-clause-within : goal.ranked_cells-requires-clause-within
ranked_cells-requires-clause-within c = λ k d low.
    let r = c.args.first.ranks.items in
    let r' = c.args.rest.ranks.items in
    let width = c.len-width.result in
    let is = c.deref.ensures.value ∙ c.in_ok-cells.ensures in
    let size = ap length is ∙ length-zip2 (cell_of width) r r' (sym c.requires.even) in
    let even = c.requires.even in
    let at = ap (λ (l : List ℕ). get_or l k d) is ∙ get_or-zip2 (cell_of width) r r' k 0 0 d (omega arith) (omega arith) in
    let cell = cell_low (length c.args.first.firsts.items) width (get_or r k 0) (get_or r' k 0)
    (c.requires.first k (omega arith)) (let h = c.requires.rest k (omega arith) in omega (arith, c.len-width.ensures)) in
    let bound = c.requires.count in
    let of_width : c.len-width.result ≡ length c.args.rest.firsts.items = omega arith in
    let same = ap (λ n. length c.args.first.firsts.items * n) of_width in
    omega arith

pub returns : goal.returns
returns c = λ atoms rows of_first of_rows.
    let of_width : c.len-width.result ≡ length c.args.rest.firsts.items = omega arith in
    ranking_by_cells atoms rows c.args.first.ranks.items c.args.first.firsts.items c.args.rest.ranks.items c.args.rest.firsts.items
    c.in_ok-ranking.ranking.ranks.items c.in_ok-ranking.ranking.firsts.items c.in_ok-cells.cells.items of_first of_rows c.requires.even
    (c.in_ok-cells.ensures ∙ (λ k. zip2 (cell_of (of_width k)) c.args.first.ranks.items c.args.rest.ranks.items))
    (subst (λ (l : List ℕ). IsRanking nat_cmp l c.in_ok-ranking.ranking.ranks.items c.in_ok-ranking.ranking.firsts.items) c.deref.ensures.value c.in_ok-ranking.ensures)
