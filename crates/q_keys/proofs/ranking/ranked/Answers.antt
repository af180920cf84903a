use Rattle.std.proofs.Common.{false}
use Rattle.q_values.specs.Order.{atom_cmp}
use Rattle.q_values.specs.declared.atom.Atom.TheVariants as a
use Rattle.q_groups.proofs.OrderLemmas.{atom_total}
use Rattle.q_keys.proofs.RankingLemmas.{ranks_of_groups}
use Rattle.q_keys.proofs.ranking.ranked.Goals as goal

pub returns : goal.returns
returns c =
    let placed = rw c.sorted.ensures at c.in_ok-places.ensures.ranks in
    let h = ranks_of_groups atom_cmp atom_total c.args.column.now.atoms c.in_ok-groups.groups c.in_ok-places.places.items (a.Boolean false) c.in_ok-groups.ensures placed in
    rw (c.replaced-ranks.ensures, c.in_ok-firsts.ensures, c.deref.ensures.value, c.into_codes.ensures, c.firsts.ensures, c.sorted-2.ensures) h
