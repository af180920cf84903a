use Rattle.std.proofs.Common.{◌≡◌, ◌<◌, map, length, get_or, None, arith, subst, ap, sym, ◌∙◌}
use Rattle.q_values.specs.Kind.{kind_at}
use Rattle.partition_set.proofs.TableLemmas.{known}
use Rattle.partition_set.proofs.tables.kinds_of.Goals as goal

pub returns-in-None-clause-none : goal.returns-in-None-clause-none
returns-in-None-clause-none c = λ kinds same.
    let at = c.loop-item.item-index in
    let none : kind_at (get_or c.args.items.now at 0) ≡ None = ap kind_at (sym c.from.ensures) ∙ sym c.from_type_number.ensures ∙ c.in-None.is in
    known kinds at 0 (subst (λ l. at < length l) same c.loop-item-test.true) (subst (λ l. kind_at (get_or l at 0) ≡ None) same none)
