-- The rows that a batch has for a table.
use Rattle.std.proofs.Common.{◌≡◌, ℕ, zero, suc, ◌<◌, ◌==◌, ◌++◌, Bool, true, false, if◌then◌else◌, Option, Some, None, List, [], ◌∷◌, length, map, refl, sym, ap, ◌∙◌, subst, arith, slice_get}
use Rattle.std.specs.List.{filter, flat_map}
use Rattle.std.proofs.lemmas.Bool.{eqb-true}
use Rattle.std.proofs.lemmas.List.{append-nil}
use Rattle.std.proofs.lemmas.List.Elements.{All-from_recursion}
use Rattle.std.proofs.lemmas.Option.{get_or_from_slice_get, slice_get_within, same_Some}
use Rattle.q_values.specs.Contents.{Contents}
use Rattle.q_values.specs.Table.{rows_of}
use Rattle.q_values.specs.declared.atom.Atom.{Atom}
use Rattle.outside_api.specs.declared.tap.TapMessage.{TapMessage}
use Rattle.day_rows.specs.Day.{AreColumns}
use Rattle.day_rows.specs.Rows.{lines_of}
use Rattle.day_rows.specs.Schema.{IsSchema, IsShape}
use Rattle.day_rows.specs.declared.entry.Entry.{Entry}
use Rattle.day_rows.specs.declared.entry.Entry.TheVariants as e
use Rattle.day_rows.specs.declared.schema.Shape.{Shape}
use Rattle.pubsub.specs.Filters.{Subscribed}
use Rattle.pubsub.specs.Parts.{AreBelow, part_lines, IsPassed, HaveSymbols, ArePassed}
use Rattle.pubsub.specs.Steps.{AreOfTable, IsPassedIn, columns_in}
use Rattle.plant_memory.specs.Memory.{IsOfSchema}
use Rattle.pubsub.specs.Told.{Publication, upd, publication, published, passes, grid_of, rows_told, lines_in}
use Rattle.pubsub.specs.declared.filter.Filter.{Filter}
use Rattle.pubsub.specs.declared.filter.Filter.TheVariants as f
use Rattle.pubsub.specs.declared.parts.Part.{Part}
use Rattle.pubsub.proofs.LineLemmas.{have_symbols}
use Rattle.pubsub.proofs.TellLemmas.{of_table, told_push, published_some, rows_told_by}

pub shape_at : (schema : List Shape) (table : ℕ) (shape : Shape) → IsSchema schema → slice_get schema table ≡ Some shape → IsShape shape
shape_at schema table shape is known =
    subst IsShape (get_or_from_slice_get schema table shape shape known) (All-from_recursion IsShape schema is.each table shape (slice_get_within schema table shape known))

pub symbols_of_table : (schema : List Shape) (table : ℕ) (columns : List Contents) → IsSchema schema → AreOfTable schema table columns → HaveSymbols columns
symbols_of_table schema table columns is of = have_symbols of.0 columns (shape_at schema table of.0 is of.1) of.2

-- the columns that an entry has for a table are those of that table
pub in_table : (schema : List Shape) (table : ℕ) (entry : Entry) (columns : List Contents) → Some columns ≡ columns_in table entry → IsOfSchema schema entry → AreOfTable schema table columns × (lines_in table entry ≡ lines_of columns)
in_table schema table (e.Upd by to own) columns found is = by_table (to == table) refl found
  where
    by_table : (b : Bool) → (to == table) ≡ b → Some columns ≡ (if b then Some own else None) → AreOfTable schema table columns × ((if b then lines_of own else []) ≡ lines_of columns)
    by_table true same e =
        let columns_are : columns ≡ own = same_Some columns own e in (
          subst (λ (cs : List Contents). AreOfTable schema table cs) (sym columns_are) (subst (λ n. AreOfTable schema n own) (eqb-true to table same) (of_table schema by to own is)),
          ap lines_of (sym columns_are),
        )
    by_table false same e = cc
in_table schema table (e.Roll by next) columns found is = cc
in_table schema table (e.Fault by) columns found is = cc

pub passed_in : (chosen : Filter) (schema : List Shape) (table : ℕ) (entry : Entry) (columns : List Contents) → AreOfTable schema table columns → lines_in table entry ≡ lines_of columns → (found : Option Part) → IsPassed chosen columns found → IsPassedIn chosen schema table entry found
passed_in chosen schema table entry columns of same None none = ap (filter (passes chosen)) same ∙ none
passed_in chosen schema table entry columns of same (Some part) is = (
  is.1 ∙ ap (filter (passes chosen)) (sym same),
  is.2,
  of.0,
  of.1,
  record {
    columns = subst (λ (cs : List Contents). AreColumns of.0.kinds cs) (sym is.0) of.2;
    below = subst (λ (cs : List Contents). AreBelow (rows_of cs) part.rows) (sym is.0) is.3;
  },
)

-- ---- the message of a table

no_lines : (o : Option Shape) → published o [] ≡ []
no_lines None = refl
no_lines (Some shape) = refl

no_parts : (parts : List Part) → length parts ≡ 0 → flat_map part_lines parts ≡ []
no_parts [] e = refl
no_parts (part ∷ parts) e = absurd (omega arith)

pub table_silent : (s : Subscribed) (schema : List Shape) (table : ℕ) (chosen : Filter) (lines : List (List Atom)) (parts : List Part) (before : List Publication) → slice_get s.filters table ≡ Some chosen
    → ArePassed chosen schema table lines parts → length parts ≡ 0 → before ≡ before ++ rows_told s table lines
table_silent s schema table chosen lines parts before given are none =
    sym (append-nil before)
    ∙ ap (λ (ps : List Publication). before ++ ps)
    (sym (no_lines (slice_get s.schema table))
    ∙ ap (published (slice_get s.schema table)) (sym (no_parts parts none) ∙ are.passed ∙ ap (λ (c : Filter). filter (passes c) lines) (sym (get_or_from_slice_get s.filters table chosen f.Nothing given))))

pub some_of : (n : ℕ) → (n == 0) ≡ false → 0 < n
some_of zero e = cc
some_of (suc n) e = omega arith

pub message_told : (s : Subscribed) (schema : List Shape) (table : ℕ) (shape : Shape) (chosen : Filter) (lines : List (List Atom)) (parts : List Part) (message : TapMessage) (before after : List TapMessage) → s.schema ≡ schema → slice_get schema table ≡ Some shape → slice_get s.filters table ≡ Some chosen
    → ArePassed chosen schema table lines parts → 0 < length parts → publication message ≡ upd shape.table (grid_of shape (flat_map part_lines parts)) → after ≡ before ++ message ∷ []
    → map publication after ≡ map publication before ++ rows_told s table lines
message_told s schema table shape chosen lines parts message before after own known given are some is pushed =
    ap (map publication) pushed
    ∙ told_push before message (upd shape.table (grid_of shape (flat_map part_lines parts))) is
    ∙ ap (λ (ps : List Publication). map publication before ++ ps)
    (sym (published_some shape (flat_map part_lines parts) (are.some some)) ∙ ap (published (Some shape)) are.passed ∙ rows_told_by s schema table shape chosen lines own known given)
