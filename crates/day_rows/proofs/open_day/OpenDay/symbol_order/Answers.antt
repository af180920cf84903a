use Rattle.std.proofs.Common.{List, arith, ap, ◌∙◌, sym, subst, length, map, take}
use Rattle.std.proofs.lemmas.List.{length-map}
use Rattle.std.proofs.lemmas.Option.{slice_get_within}
use Rattle.q_values.specs.Order.{IsOrder, atom_cmp}
use Rattle.q_values.specs.declared.atom.Atom.{Atom}
use Rattle.q_values.specs.declared.kind.Kind.TheVariants as k
use Rattle.day_rows.specs.Day.{Opened, IsDay, arrived}
use Rattle.day_rows.specs.Joined.{joined}
use Rattle.day_rows.specs.Rows.{symbol_of}
use Rattle.day_rows.proofs.DayLemmas.{has_symbols}
use Rattle.day_rows.proofs.Lists.{part-all}
use Rattle.day_rows.proofs.RowsLemmas.{column-arrived}
use Rattle.day_rows.proofs.open_day.OpenDay.symbol_order.Goals as goal

pub order-requires : goal.order-requires
order-requires c =
    let day = subst (λ (o : Opened). IsDay o.day) c.self.view_is c.self.invariant.0 in
    let kinds = c.args.kinds.now in
    let read = column-arrived c.args.self.now.day c.args.table 1 kinds day.updates c.requires.exists (slice_get_within kinds 1 k.Symbol (has_symbols kinds c.requires.first)) in
    let own = ap (λ (o : Opened). length (joined c.args.table 1 o.day.updates)) c.self.view_is in
    omega (arith, ap length read, length-map (arrived c.args.self.now.day c.args.table) symbol_of, own, c.rows-rows.ensures)

pub returns : goal.returns
returns c =
    let day = subst (λ (o : Opened). IsDay o.day) c.self.view_is c.self.invariant.0 in
    let kinds = c.args.kinds.now in
    let rows = c.rows-rows.result in
    let symbols = map symbol_of (arrived c.args.self.now.day c.args.table) in
    let read = column-arrived c.args.self.now.day c.args.table 1 kinds day.updates c.requires.exists (slice_get_within kinds 1 k.Symbol (has_symbols kinds c.requires.first)) in
    subst (λ (l : List Atom). IsOrder atom_cmp l c.in_ok-order.order.items)
    (ap (λ (o : Opened). take rows (joined c.args.table 1 o.day.updates)) c.self.view_is ∙ ap (take rows) (sym read)
    ∙ part-all rows symbols (c.rows-rows.ensures ∙ sym (length-map (arrived c.args.self.now.day c.args.table) symbol_of)))
    c.in_ok-order.ensures
