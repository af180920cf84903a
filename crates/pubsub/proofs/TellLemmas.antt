-- What is told of one entry after the other.
use Rattle.std.proofs.Common.{inl, inr, Option, option_map, ◌≡◌, ℕ, ℤ, ◌+◌, ◌<◌, ◌≤◌, ◌++◌, Some, None, List, [], ◌∷◌, length, map, drop, get_or, refl, sym, ap, ap₂, ◌∙◌, subst, arith, slice_get}
use Rattle.std.specs.List.{filter}
use Rattle.std.proofs.lemmas.List.{append-nil, append_assoc, map-append, drop_more, drop_all}
use Rattle.std.proofs.lemmas.Option.{get_or_from_slice_get, slice_get-map, slice_get_cases, same_Some}
use Rattle.q_values.specs.Contents.{Contents}
use Rattle.q_values.specs.declared.atom.Atom.{Atom}
use Rattle.q_values.specs.declared.kind.Kind.{Kind}
use Rattle.outside_api.specs.declared.tap.TapMessage.{TapMessage}
use Rattle.day_rows.specs.Day.{AreColumns}
use Rattle.day_rows.specs.declared.entry.Entry.{Entry}
use Rattle.day_rows.specs.declared.entry.Entry.TheVariants as e
use Rattle.day_rows.specs.declared.schema.Shape.{Shape}
use Rattle.pubsub.specs.Filters.{Subscribed}
use Rattle.pubsub.specs.Steps.{AreOfTable, told_one, date_after}
use Rattle.plant_memory.specs.Memory.{IsOfSchema}
use Rattle.pubsub.specs.Told.{Publication, upd, publication, published, passes, grid_of, rows_told, told_each}
use Rattle.pubsub.specs.declared.filter.Filter.{Filter}
use Rattle.pubsub.specs.declared.filter.Filter.TheVariants as f

-- one more message
pub told_push : (messages : List TapMessage) (message : TapMessage) (told : Publication) → publication message ≡ told → map publication (messages ++ message ∷ []) ≡ map publication messages ++ told ∷ []
told_push messages message told e = map-append publication messages (message ∷ []) ∙ ap (λ (p : Publication). map publication messages ++ p ∷ []) e

pub published_some : (shape : Shape) (lines : List (List Atom)) → 0 < length lines → published (Some shape) lines ≡ upd shape.table (grid_of shape lines) ∷ []
published_some shape [] some = absurd (omega (arith, some))
published_some shape (line ∷ lines) some = refl

-- the filter of a table, which a call lent
pub rows_told_by : (subscribed : Subscribed) (schema : List Shape) (table : ℕ) (shape : Shape) (chosen : Filter) (lines : List (List Atom)) → subscribed.schema ≡ schema → slice_get schema table ≡ Some shape → slice_get subscribed.filters table ≡ Some chosen
    → published (Some shape) (filter (passes chosen) lines) ≡ rows_told subscribed table lines
rows_told_by subscribed schema table shape chosen lines own known given =
    ap₂ (λ (o : Option Shape) (c : Filter). published o (filter (passes c) lines)) (sym known ∙ ap (λ (s : List Shape). slice_get s table) (sym own)) (sym (get_or_from_slice_get subscribed.filters table chosen f.Nothing given))

-- an update of a schema's table has the columns of that table
pub of_table : (schema : List Shape) (by table : ℕ) (columns : List Contents) → IsOfSchema schema (e.Upd by table columns) → AreOfTable schema table columns
of_table schema by table columns is =
    let known : slice_get (map (λ (s : Shape). s.kinds) schema) table ≡ Some is.0 = is.1 in
    elim (slice_get_cases schema table).1 [
      | inl w ↦ (w.0, w.2, subst (λ (kinds : List Kind). AreColumns kinds columns) (same_kinds schema table is.0 w.0 known w.2) is.2)
      | inr w ↦ absurd (none_some is.0 (sym (slice_get-map (λ (s : Shape). s.kinds) schema table ∙ ap (option_map (λ (s : Shape). s.kinds)) w.1) ∙ known))
    ]
  where
    none_some : (kinds : List Kind) → None ≡ Some kinds → ⊥
    none_some kinds h = cc

    same_kinds : (schema : List Shape) (table : ℕ) (kinds : List Kind) (shape : Shape) → slice_get (map (λ (s : Shape). s.kinds) schema) table ≡ Some kinds → slice_get schema table ≡ Some shape → kinds ≡ shape.kinds
    same_kinds schema table kinds shape h g = same_Some kinds shape.kinds (sym h ∙ slice_get-map (λ (s : Shape). s.kinds) schema table ∙ ap (option_map (λ (s : Shape). s.kinds)) g)

-- and an update with the columns of a schema's table is of the schema
pub from_table : (schema : List Shape) (by table : ℕ) (columns : List Contents) → AreOfTable schema table columns → IsOfSchema schema (e.Upd by table columns)
from_table schema by table columns of = (of.0.kinds, slice_get-map (λ (s : Shape). s.kinds) schema table ∙ ap (option_map (λ (s : Shape). s.kinds)) of.1, of.2)

-- what is told, entry by entry
told-cons : (subscribed : Subscribed) (date : ℤ) (entry : Entry) (entries : List Entry) → told_each subscribed date (entry ∷ entries) ≡ told_one subscribed date entry ++ told_each subscribed (date_after date entry) entries
told-cons subscribed date (e.Upd by table columns) entries = refl
told-cons subscribed date (e.Roll by next) entries = refl
told-cons subscribed date (e.Fault by) entries = refl

-- one more entry, after what was told before it
pub told_more : (subscribed : Subscribed) (first date next : ℤ) (entries : List Entry) (i : ℕ) (entry : Entry) (before after : List Publication) → i < length entries → entry ≡ get_or entries i entry
    → before ++ told_each subscribed date (drop i entries) ≡ told_each subscribed first entries → after ≡ before ++ told_one subscribed date entry → next ≡ date_after date entry
    → after ++ told_each subscribed next (drop (i + 1) entries) ≡ told_each subscribed first entries
told_more subscribed first date next entries i entry before after i_in is so_far more then =
    let rest = drop (i + 1) entries in
    let here : drop i entries ≡ entry ∷ rest = drop_more entries i entry i_in ∙ ap (λ (x : Entry). x ∷ rest) (sym is) in
    ap₂ (λ (ps : List Publication) (d : ℤ). ps ++ told_each subscribed d rest) more then
    ∙ append_assoc before (told_one subscribed date entry) (told_each subscribed (date_after date entry) rest)
    ∙ ap (λ (ps : List Publication). before ++ ps) (sym (told-cons subscribed date entry rest) ∙ ap (told_each subscribed date) (sym here))
    ∙ so_far

-- the end of the entries
pub told_all : (subscribed : Subscribed) (first date : ℤ) (entries : List Entry) (i : ℕ) (told : List Publication) → length entries ≤ i → told ++ told_each subscribed date (drop i entries) ≡ told_each subscribed first entries → told ≡ told_each subscribed first entries
told_all subscribed first date entries i told past so_far =
    sym (append-nil told) ∙ ap (λ (es : List Entry). told ++ told_each subscribed date es) (sym (drop_all i entries past)) ∙ so_far
