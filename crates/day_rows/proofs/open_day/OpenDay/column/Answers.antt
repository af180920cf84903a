use Rattle.std.proofs.Common.{arith, ap, ◌≡◌, ◌∙◌, sym, subst, length, take, drop, Some, slice_get}
use Rattle.std.proofs.lemmas.List.{length-map}
use Rattle.std.proofs.lemmas.Option.{get_or_from_slice_get, slice_get_within}
use Rattle.q_values.specs.declared.kind.Kind.{Kind}
use Rattle.day_rows.specs.Day.{Opened, IsDay, arrived}
use Rattle.day_rows.specs.Rows.{field}
use Rattle.day_rows.specs.Joined.{joined}
use Rattle.day_rows.proofs.RowsLemmas.{column-arrived}
use Rattle.day_rows.proofs.open_day.OpenDay.column.Goals as goal

pub returns : goal.returns
returns c = λ kind has.
    let day = subst (λ (o : Opened). IsDay o.day) c.self.view_is c.self.invariant.0 in
    let own = ap (λ (o : Opened). o.day.kinds) c.self.view_is in
    let known : slice_get c.self.inside.tables.items c.args.table ≡ Some has.0 = rw own has.1 in
    let kinds : c.index.result.now ≡ has.0 = c.index.ensures ∙ get_or_from_slice_get c.self.inside.tables.items c.args.table has.0 c.index.result.now known in
    let same : c.at-kind.result.now ≡ kind = cc (kinds, c.at-kind.ensures, has.2) in
    let read = column-arrived c.args.self.now.day c.args.table c.args.column has.0 day.updates has.1 (slice_get_within has.0 c.args.column kind has.2) in
    c.in_ok-part.ensures
    ∙ ap (λ (o : Opened). record { kind = c.at-kind.result.now; atoms = take c.args.n (drop c.args.from (joined c.args.table c.args.column o.day.updates)) }) c.self.view_is
    ∙ ap (λ (x : Kind). record { kind = x; atoms = take c.args.n (drop c.args.from (joined c.args.table c.args.column c.args.self.now.day.updates)) }) same
    ∙ ap (λ a. record { kind = kind; atoms = take c.args.n (drop c.args.from a) }) (sym read)

pub column-requires : goal.column-requires
column-requires c =
    let day = subst (λ (o : Opened). IsDay o.day) c.self.view_is c.self.invariant.0 in
    let has = c.requires.exists.1 in
    let read = column-arrived c.args.self.now.day c.args.table c.args.column has.0 day.updates has.1 (slice_get_within has.0 c.args.column c.requires.exists.0 has.2) in
    let own = ap (λ (o : Opened). length (joined c.args.table c.args.column o.day.updates)) c.self.view_is in
    omega (arith, ap length read, length-map (arrived c.args.self.now.day c.args.table) (field c.args.column), own, c.requires.within)
