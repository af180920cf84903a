use Rattle.std.proofs.Common.{◌≡◌, ◌<◌, length, drop, map}
use Rattle.q_values.specs.Table.{rows_of}
use Rattle.q_keys.specs.Keys.{key_cmp, key_rows}
use Rattle.q_keys.specs.Ranking.{IsRanking}
use Rattle.q_keys.proofs.keys.KeyGroups.of_lent.Given as goal

abbrev pub invariant-loop-left : goal.invariant-loop-left
invariant-loop-left l = record {
  low : l.left < length l.columns;
  size : length l.ranking.ranks.items ≡ rows_of (map (λ c. c.now) l.columns);
  ranked : IsRanking key_cmp (key_rows (rows_of (map (λ c. c.now) l.columns)) (drop l.left (map (λ c. c.now) l.columns))) l.ranking.ranks.items l.ranking.firsts.items;
}

abbrev pub decreases-loop-left : goal.decreases-loop-left
decreases-loop-left l = l.left
