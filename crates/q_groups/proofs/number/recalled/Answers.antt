use Rattle.std.proofs.Common.{sym, ◌∙◌}
use Rattle.q_groups.proofs.GroupLemmas.{recalled_is, recalled_seen}
use Rattle.q_groups.proofs.number.recalled.Goals as goal

pub returns-then-eq-clause-number : goal.returns-then-eq-clause-number
returns-then-eq-clause-number g c = recalled_is g.T.PartialEq.eq g.met.T.Eq.laws c.args.values.now.keys _ c.args.item.now c.in_ok-value.value.now c.requires (sym c.in_ok-value.ensures.key) (sym c.eq.ensures ∙ c.if-eq.true)

pub returns-then-eq-clause-seen : goal.returns-then-eq-clause-seen
returns-then-eq-clause-seen g c = recalled_seen g.T.PartialEq.eq g.met.T.Eq.laws c.args.values.now.keys _ c.args.item.now c.in_ok-value.value.now (sym c.in_ok-value.ensures.key) (sym c.eq.ensures ∙ c.if-eq.true)
