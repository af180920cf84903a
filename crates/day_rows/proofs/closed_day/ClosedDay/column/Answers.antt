use Rattle.std.proofs.Common.{arith, ap, ◌∙◌, ◌≡◌, ◌<◌, sym, subst, map, length, take, drop, All, Some, slice_get}
use Rattle.std.proofs.lemmas.List.{length-map}
use Rattle.std.proofs.lemmas.Option.{slice_get_within, get_or_from_slice_get}
use Rattle.q_values.specs.Contents.{Contents}
use Rattle.q_values.specs.Order.{IsOrder, atom_cmp}
use Rattle.q_values.specs.declared.kind.Kind.{Kind}
use Rattle.day_rows.specs.Day.{Day, IsDay, arrived, settled}
use Rattle.day_rows.specs.Joined.{joined}
use Rattle.day_rows.specs.Rows.{Row, field, symbol_of, column_of}
use Rattle.day_rows.proofs.DayLemmas.{All-part, kept-order, arrivals-settled, length-settled, whole-arrived, settled-part}
use Rattle.day_rows.proofs.RowsLemmas.{column-arrived}
use Rattle.day_rows.proofs.closed_day.ClosedDay.column.Goals as goal

pub part-requires : goal.part-requires
part-requires c =
    let order = c.index-2.result.now in
    let K = subst (λ (d : Day). IsOrder atom_cmp (map symbol_of (arrived d c.args.table)) order) c.self.view_is
    (kept-order _ c.self.inside.orders.items c.args.table order c.self.invariant.1 (rw (← c.self.view_is) at (slice_get_within c.args.self.now.kinds c.args.table c.requires.exists.1.0 c.requires.exists.1.1)) c.index-2.ensures) in
    let day : IsDay c.args.self.now = subst IsDay c.self.view_is c.self.invariant.0 in
    let size = ap length (arrivals-settled c.args.self.now c.args.table order day K) ∙ length-map (settled c.args.self.now c.args.table) (λ (row : Row). row.arrival) in
    omega (arith, size, c.requires.within)

pub gather-requires : goal.gather-requires
gather-requires c =
    let order = c.index-2.result.now in
    let K = subst (λ (d : Day). IsOrder atom_cmp (map symbol_of (arrived d c.args.table)) order) c.self.view_is
    (kept-order _ c.self.inside.orders.items c.args.table order c.self.invariant.1 (rw (← c.self.view_is) at (slice_get_within c.args.self.now.kinds c.args.table c.requires.exists.1.0 c.requires.exists.1.1)) c.index-2.ensures) in
    let day : IsDay c.args.self.now = subst IsDay c.self.view_is c.self.invariant.0 in
    let has = c.requires.exists.1 in
    let known : slice_get c.self.inside.kinds.items c.args.table ≡ Some has.0 = rw (ap (λ (d : Day). d.kinds) c.self.view_is) has.1 in
    let kinds : c.index.result.now ≡ has.0 = c.index.ensures ∙ get_or_from_slice_get c.self.inside.kinds.items c.args.table has.0 c.index.result.now known in
    let same : c.at-kind.result.now ≡ c.requires.exists.0 = cc (kinds, c.at-kind.ensures, has.2) in
    let rows = c.args.self.now in
    let whole : c.in_ok-whole.whole ≡ column_of (c.requires.exists.0) c.args.column (arrived c.args.self.now c.args.table) =
    c.in_ok-whole.ensures ∙ ap (λ (d : Day). record { kind = c.at-kind.result.now; atoms = take c.rows-rows.result (drop 0 (joined c.args.table c.args.column d.updates)) }) c.self.view_is
    ∙ ap (λ (x : Kind). record { kind = x; atoms = take c.rows-rows.result (drop 0 (joined c.args.table c.args.column c.args.self.now.updates)) }) same
    ∙ whole-arrived c.args.self.now c.args.table c.args.column c.rows-rows.result has.0 (c.requires.exists.0) day has.1 (slice_get_within has.0 c.args.column (c.requires.exists.0) has.2) c.rows-rows.ensures in
    let size : length (map symbol_of (arrived c.args.self.now c.args.table)) ≡ length c.in_ok-whole.whole.atoms =
    length-map (arrived c.args.self.now c.args.table) symbol_of ∙ sym (ap (λ (v : Contents). length v.atoms) whole ∙ length-map (arrived c.args.self.now c.args.table) (field c.args.column)) in
    rw (c.deref.ensures.value, c.in_ok-order.ensures) (All-part (λ p. p < length c.in_ok-whole.whole.atoms) c.args.n c.args.from order (subst (λ m. All (λ p. p < m) order) size K.within))

pub returns : goal.returns
returns c =
    let order = c.index-2.result.now in
    let K = subst (λ (d : Day). IsOrder atom_cmp (map symbol_of (arrived d c.args.table)) order) c.self.view_is
    (kept-order _ c.self.inside.orders.items c.args.table order c.self.invariant.1 (rw (← c.self.view_is) at (slice_get_within c.args.self.now.kinds c.args.table c.requires.exists.1.0 c.requires.exists.1.1)) c.index-2.ensures) in
    let day : IsDay c.args.self.now = subst IsDay c.self.view_is c.self.invariant.0 in
    λ kind column.
    let has = column in
    let known : slice_get c.self.inside.kinds.items c.args.table ≡ Some has.0 = rw (ap (λ (d : Day). d.kinds) c.self.view_is) has.1 in
    let kinds : c.index.result.now ≡ has.0 = c.index.ensures ∙ get_or_from_slice_get c.self.inside.kinds.items c.args.table has.0 c.index.result.now known in
    let same : c.at-kind.result.now ≡ kind = cc (kinds, c.at-kind.ensures, has.2) in
    let rows = c.args.self.now in
    let whole : c.in_ok-whole.whole ≡ column_of (kind) c.args.column (arrived c.args.self.now c.args.table) =
    c.in_ok-whole.ensures ∙ ap (λ (d : Day). record { kind = c.at-kind.result.now; atoms = take c.rows-rows.result (drop 0 (joined c.args.table c.args.column d.updates)) }) c.self.view_is
    ∙ ap (λ (x : Kind). record { kind = x; atoms = take c.rows-rows.result (drop 0 (joined c.args.table c.args.column c.args.self.now.updates)) }) same
    ∙ whole-arrived c.args.self.now c.args.table c.args.column c.rows-rows.result has.0 (kind) day has.1 (slice_get_within has.0 c.args.column (kind) has.2) c.rows-rows.ensures in
    settled-part c.args.self.now c.args.table c.args.column c.args.n c.args.from kind order c.in_ok-whole.whole c.in_ok-part.part day K whole (rw (c.deref.ensures.value, c.in_ok-order.ensures) at c.in_ok-part.ensures)

pub column-requires : goal.column-requires
column-requires c =
    let day : IsDay c.args.self.now = subst IsDay c.self.view_is c.self.invariant.0 in
    let has = c.requires.exists.1 in
    let read = column-arrived c.args.self.now c.args.table c.args.column has.0 day.updates has.1 (slice_get_within has.0 c.args.column c.requires.exists.0 has.2) in
    let own = ap (λ (d : Day). length (joined c.args.table c.args.column d.updates)) c.self.view_is in
    omega (arith, ap length read, length-map (arrived c.args.self.now c.args.table) (field c.args.column), own, c.rows-rows.ensures, length-settled c.args.self.now c.args.table)

pub index-requires-2 : goal.index-requires-2
index-requires-2 c =
    let has = c.requires.exists.1 in
    let own = ap (λ (d : Day). length d.kinds) c.self.view_is in
    omega (arith, slice_get_within c.args.self.now.kinds c.args.table has.0 has.1, own, c.self.invariant.1.count, c.self.inside.orders.ok)
