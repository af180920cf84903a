use Rattle.std.proofs.Common.{◌≡◌, ℕ, ◌+◌, ◌-◌, ◌<◌, length, get_or, map, ap, sym, ◌∙◌, subst, arith, drop, List, ◌∷◌, [], Bor}
use Rattle.std.specs.Simd.Lanes.{zip2}
use Rattle.std.proofs.lemmas.List.{length-map, get_or-map}
use Rattle.std.proofs.lemmas.Simd.{length-zip2}
use Rattle.q_values.specs.Contents.{Contents}
use Rattle.q_values.specs.Table.{rows_of}
use Rattle.q_values.specs.declared.atom.Atom.{Atom}
use Rattle.q_keys.specs.Keys.{key_cmp, key_rows}
use Rattle.q_keys.specs.Ranking.{IsRanking}
use Rattle.q_keys.proofs.KeyLemmas.{key_total, ranking_alone, rows_from, rows_of_last}
use Rattle.q_keys.proofs.RankingLemmas.{ranks_are, firsts_are}
use Rattle.q_keys.proofs.keys.KeyGroups.of_lent.Goals as goal

abbrev now : Bor Contents → Contents
now c = c.now

abbrev lent : List (Bor Contents) → List Contents
lent columns = map now columns

column_is : (columns : List (Bor Contents)) (i : ℕ) (column : Bor Contents) → column ≡ get_or columns i column → i < length columns → column.now ≡ get_or (lent columns) i column.now
column_is columns i column is low = ap now is ∙ sym (get_or-map now columns i column column.now low)

pub loop-left-init : goal.loop-left-init
loop-left-init c =
    let columns = lent c.args.columns.now in
    let count : length columns ≡ length c.args.columns.now = length-map c.args.columns.now now in
    let last = length c.args.columns.now - 1 in
    let column = c.index-columns-left.result.now in
    let low : last + 1 ≡ length columns = omega (arith, c.requires.some, count) in
    let is : column ≡ get_or columns last column = column_is c.args.columns.now last c.index-columns-left.result c.index-columns-left.is (omega (arith, c.requires.some)) in
    let h = c.in_ok-ranking.ensures in
    let ranks = c.in_ok-ranking.ranking.ranks.items in
    let firsts = c.in_ok-ranking.ranking.firsts.items in
    let size : length column.atoms ≡ rows_of columns = ap (λ (c : Contents). length c.atoms) is ∙ c.requires.even last column (omega (arith, low)) in
    record {
      low = omega (arith, c.requires.some);
      size = h.size ∙ size;
      ranked = subst (λ (rows : List (List Atom)). IsRanking key_cmp rows ranks firsts) (rows_of_last columns last column is (rows_of columns) low size) (ranking_alone column.atoms ranks firsts h);
    }

pub refined-requires-clause-even : goal.refined-requires-clause-even
refined-requires-clause-even c =
    let columns = lent c.args.columns.now in
    let count : length columns ≡ length c.args.columns.now = length-map c.args.columns.now now in
    let left = c.loop-left.left - 1 in
    let column = c.index-columns-left-in-loop-left.result.now in
    let is : column ≡ get_or columns left column =
    column_is c.args.columns.now left c.index-columns-left-in-loop-left.result c.index-columns-left-in-loop-left.is (omega (arith, c.loop-left.invariant.low)) in
    c.loop-left.invariant.size ∙ sym (ap (λ (c : Contents). length c.atoms) is ∙ c.requires.even left column (omega (arith, c.loop-left.invariant.low, count)))

pub loop-left-preserved : goal.loop-left-preserved
loop-left-preserved c =
    let columns = lent c.args.columns.now in
    let count : length columns ≡ length c.args.columns.now = length-map c.args.columns.now now in
    let n = rows_of columns in
    let left = c.loop-left.left in
    let column = c.index-columns-left-in-loop-left.result.now in
    let is : column ≡ get_or columns (left - 1) column =
    column_is c.args.columns.now (left - 1) c.index-columns-left-in-loop-left.result c.index-columns-left-in-loop-left.is (omega (arith, c.loop-left.invariant.low)) in
    let rest = c.loop-left.invariant.ranked in
    let h = c.in_ok-ranking-2.ensures (key_rows n (drop left columns)) rest in
    let ranks = c.in_ok-ranking-2.ranking.ranks.items in
    let firsts = c.in_ok-ranking-2.ranking.firsts.items in
    let next : left ≡ (left - 1) + 1 = omega (arith, c.loop-left-test.true) in
    let low : left - 1 < length columns = omega (arith, c.loop-left.invariant.low, count) in
    let size : length column.atoms ≡ n = ap (λ (c : Contents). length c.atoms) is ∙ c.requires.even (left - 1) column low in
    let even : length column.atoms ≡ length (key_rows n (drop left columns)) = size ∙ sym c.loop-left.invariant.size ∙ rest.size in
    record {
      low = omega (arith, c.loop-left.invariant.low);
      size = h.size ∙ length-zip2 (λ (x : Atom) (key : List Atom). x ∷ key) column.atoms (key_rows n (drop left columns)) even ∙ size;
      ranked = subst (λ (rows : List (List Atom)). IsRanking key_cmp rows ranks firsts) (rows_from columns (left - 1) column is n low)
          (subst (λ (k : ℕ). IsRanking key_cmp (zip2 (λ (x : Atom) (key : List Atom). x ∷ key) column.atoms (key_rows n (drop k columns))) ranks firsts) next h);
    }

pub returns : goal.returns
returns c =
    let columns = lent c.args.columns.now in
    let n = rows_of columns in
    let ranks = c.loop-left.ranking.ranks.items in
    let firsts = c.loop-left.ranking.firsts.items in
    let zero : c.loop-left.left ≡ 0 = omega (arith, c.loop-left-test.false) in
    let h = subst (λ (k : ℕ). IsRanking key_cmp (key_rows n (drop k columns)) ranks firsts) zero c.loop-left.invariant.ranked in
    record { codes = ranks_are key_cmp key_total (key_rows n columns) ranks firsts [] h; firsts = firsts_are key_cmp key_total (key_rows n columns) ranks firsts [] h }
