use Rattle.std.proofs.Common.{sym, ap, ◌∙◌}
use Rattle.std.specs.List.{list_any}
use Rattle.std.specs.Str.{bytes_eq}
use Rattle.q_filter.specs.Places.{places_of}
use Rattle.q_values.specs.Contents.{Contents}
use Rattle.pubsub.proofs.RowLemmas.{none_marked, all_marked, some_marked}
use Rattle.pubsub.proofs.rows.rows_in_set.Goals as goal

pub returns-then-not-has_any : goal.returns-then-not-has_any
returns-then-not-has_any c = none_marked (λ name. list_any (bytes_eq name) c.args.set.now) c.args.names.now (sym c.has_any.ensures ∙ c.if-not-has_any.true)

pub returns-then-has_all : goal.returns-then-has_all
returns-then-has_all c =
    all_marked (λ name. list_any (bytes_eq name) c.args.set.now) c.args.names.now (sym c.has_any.ensures ∙ c.if-not-has_any.false) (sym c.has_all.ensures ∙ c.if-has_all.true)

pub returns : goal.returns
returns c =
    some_marked (λ name. list_any (bytes_eq name) c.args.set.now) c.args.names.now c.in_ok-marks_of.field-0.items c.in_ok-places_where.field-0.items (sym c.has_any.ensures ∙ c.if-not-has_any.false) c.in_ok-marks_of.ensures
    (c.in_ok-places_where.ensures.places ∙ ap (λ (v : Contents). places_of v.atoms) c.from_column-marks.ensures)
