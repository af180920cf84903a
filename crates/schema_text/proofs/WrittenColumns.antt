-- Columns that are written read as those columns.
use Rattle.std.specs.Prelude.{Ok, slice_get, codes}
use Rattle.std.proofs.Common.{◌≡◌, ◌≢◌, ℕ, ◌+◌, ◌<◌, ◌≤◌, true, false, List, [], ◌∷◌, ◌++◌, length, drop, refl, sym, ap, subst, ◌∙◌, arith, append_assoc}
use Rattle.std.specs.List.{AllByRecursion, list_any}
use Rattle.std.specs.Str.{bytes_eq}
use Rattle.std.proofs.lemmas.List.{length-append}
use Rattle.q_values.specs.declared.kind.Kind.{Kind}
use Rattle.q_values.specs.declared.kind.Kind.TheVariants as k
use Rattle.day_rows.specs.Schema.{IsName, AreDistinct}
use Rattle.day_rows.specs.declared.schema.Shape.{Shape}
use Rattle.schema_text.specs.Grammar.{means, both, left_out, stand_at, IsList, IsColumn, with_column, IsColumns, last_column, more_columns}
use Rattle.schema_text.specs.Tokens.{is_sign}
use Rattle.schema_text.specs.Written.{kind_name, column_rest, later_columns}
use Rattle.schema_text.proofs.Words.{slice_get-drop_first}
use Rattle.schema_text.proofs.WrittenParts.{after-front, after-one, get-here, next-here, sign-here, name-here, name-next, kind-here, kind_name-no_g}

-- where a column ends
abbrev pub column_end : List ℕ → Kind → ℕ → ℕ
column_end name kind at = at + length name + 1 + 1 + length (kind_name kind) + 1 + 1 + 1

pub column-here : (shape : Shape) (name : List ℕ) (kind : Kind) (text rest : List ℕ) (at : ℕ) → drop at text ≡ name ++ column_rest kind rest → IsName name → kind ≢ k.Character
    → list_any (bytes_eq name) shape.names ≡ false → length shape.names < 48
    → IsColumn shape text at (Ok (with_column shape name kind, column_end name kind at)) × (drop (column_end name kind at) text ≡ rest)
column-here shape name kind text rest at h lawful plain fresh few =
    let p1 = at + length name in
    let h1 : drop p1 text ≡ column_rest kind rest = after-front text name (column_rest kind rest) at h in
    let h2 : drop (p1 + 1) text ≡ 96 ∷ (kind_name kind ++ (codes "$()" ++ rest)) = after-one text _ 58 p1 h1 in
    let h3 : drop (p1 + 1 + 1) text ≡ kind_name kind ++ (codes "$()" ++ rest) = after-one text _ 96 (p1 + 1) h2 in
    let p4 = p1 + 1 + 1 + length (kind_name kind) in
    let h4 : drop p4 text ≡ codes "$()" ++ rest = after-front text (kind_name kind) (codes "$()" ++ rest) (p1 + 1 + 1) h3 in
    let h5 : drop (p4 + 1) text ≡ 40 ∷ 41 ∷ rest = after-one text _ 36 p4 h4 in
    let h6 : drop (p4 + 1 + 1) text ≡ 41 ∷ rest = after-one text _ 40 (p4 + 1) h5 in
    let h7 : drop (p4 + 1 + 1 + 1) text ≡ rest = after-one text _ 41 (p4 + 1 + 1) h6 in
    let no_g : is_sign 103 (slice_get text (p1 + 1 + 1)) ≡ false =
    ap (λ b. is_sign 103 b) (sym (slice_get-drop_first text (p1 + 1 + 1)) ∙ ap (λ ts. slice_get ts 0) h3) ∙ kind_name-no_g kind (codes "$()" ++ rest) in
    let no_attribute : stand_at (codes "`g#") text (p1 + 1) ≡ false = rw (get-here text _ 96 (p1 + 1) h2, no_g) refl in
    let list : IsList text (p1 + 1) (Ok (kind, p4 + 1 + 1 + 1)) =
    sign-here text _ 96 (p1 + 1) h2 refl
    (both (kind-here kind text (codes "$()" ++ rest) (p1 + 1 + 1) plain h3 refl)
    (sign-here text _ 36 p4 h4 refl (sign-here text _ 40 (p4 + 1) h5 refl (sign-here text _ 41 (p4 + 1 + 1) h6 refl means)))) in (
      both (name-here shape.names 48 text name (column_rest kind rest) at at (name-next text name (column_rest kind rest) at h lawful) h lawful refl fresh few)
          (sign-here text _ 58 p1 h1 refl (left_out (next-here text _ 96 (p1 + 1) h2 refl) no_attribute (both list means))),
      h7,
    )

fresh-of : (xs ys : List (List ℕ)) (y : List ℕ) → AreDistinct (xs ++ y ∷ ys) → list_any (bytes_eq y) xs ≡ false
fresh-of [] ys y h = refl
fresh-of (x ∷ xs) ys y h = rw (at_seam xs h.0, fresh-of xs ys y h.1) refl
  where
    at_seam : (zs : List (List ℕ)) → AllByRecursion (λ z. bytes_eq z x ≡ false) (zs ++ y ∷ ys) → bytes_eq y x ≡ false
    at_seam [] all = all.0
    at_seam (z ∷ zs) all = at_seam zs all.1

same-shape : (some other : Shape) → some.table ≡ other.table → some.names ≡ other.names → some.kinds ≡ other.kinds → some ≡ other
same-shape some other t n s = λ i. record { table = t i; names = n i; kinds = s i }

-- what holds of columns of a table that are still to be read, after those of a shape
pub record AreLeft (all shape : Shape) (names : List (List ℕ)) (kinds : List Kind) : Type 0 where
  pub table : shape.table ≡ all.table
  pub names_are : shape.names ++ names ≡ all.names
  pub kinds_are : shape.kinds ++ kinds ≡ all.kinds
  pub paired : length names ≡ length kinds
  pub lawful : AllByRecursion IsName names
  pub plain : AllByRecursion (λ kind. kind ≢ k.Character) kinds

left-after : (all shape : Shape) (name : List ℕ) (names : List (List ℕ)) (kind : Kind) (kinds : List Kind) → AreLeft all shape (name ∷ names) (kind ∷ kinds)
    → AreLeft all (with_column shape name kind) names kinds
left-after all shape name names kind kinds h = record {
  table = h.table;
  names_are = append_assoc shape.names (name ∷ []) names ∙ h.names_are;
  kinds_are = append_assoc shape.kinds (kind ∷ []) kinds ∙ h.kinds_are;
  paired = omega (arith, h.paired);
  lawful = h.lawful.1;
  plain = h.plain.1;
}

few-left : (all shape : Shape) (name : List ℕ) (names : List (List ℕ)) (kinds : List Kind) → AreLeft all shape (name ∷ names) kinds → length all.names ≤ 48 → length shape.names < 48
few-left all shape name names kinds h few =
    let count : length (shape.names ++ name ∷ names) ≡ length all.names = ap length h.names_are in
    omega (arith, length-append shape.names (name ∷ names), count, few)

pub append-nothing : {X : Type 0} (xs : List X) → xs ++ [] ≡ xs
append-nothing [] = refl
append-nothing (x ∷ xs) = ap (λ ys. x ∷ ys) (append-nothing xs)

-- a table's columns, up to the closing parenthesis
pub columns-here : (all shape : Shape) (name : List ℕ) (names : List (List ℕ)) (kind : Kind) (kinds : List Kind) (text rest : List ℕ) (at : ℕ)
    → drop at text ≡ name ++ column_rest kind (later_columns names kinds rest) → AreLeft all shape (name ∷ names) (kind ∷ kinds) → AreDistinct all.names → length all.names ≤ 48
    → (end : ℕ) × IsColumns shape text at (Ok (all, end)) × (drop end text ≡ 10 ∷ rest)
columns-here all shape name [] kind [] text rest at h left distinct few =
    let fresh = fresh-of shape.names [] name (subst AreDistinct (sym left.names_are) distinct) in
    let column = column-here shape name kind text (41 ∷ 10 ∷ rest) at h left.lawful.0 left.plain.0 fresh (few-left all shape name [] (kind ∷ []) left few) in
    let end = column_end name kind at in
    let more = left-after all shape name [] kind [] left in
    let whole : with_column shape name kind ≡ all = same-shape (with_column shape name kind) all more.table
    (sym (append-nothing (with_column shape name kind).names) ∙ more.names_are) (sym (append-nothing (with_column shape name kind).kinds) ∙ more.kinds_are) in
    let next = next-here text (10 ∷ rest) 41 end column.1 refl in
    let no_semicolon : is_sign 59 (slice_get text end) ≡ false = rw (get-here text (10 ∷ rest) 41 end column.1) refl in (
      end + 1,
      last_column (subst (λ s. IsColumn shape text at (Ok (s, end))) whole column.0) next no_semicolon (sign-here text (10 ∷ rest) 41 end column.1 refl means),
      after-one text (10 ∷ rest) 41 end column.1,
    )
columns-here all shape name [] kind (other ∷ kinds) text rest at h left distinct few = absurd (omega (arith, left.paired))
columns-here all shape name (other ∷ names) kind [] text rest at h left distinct few = absurd (omega (arith, left.paired))
columns-here all shape name (second ∷ names) kind (other ∷ kinds) text rest at h left distinct few =
    let fresh = fresh-of shape.names (second ∷ names) name (subst AreDistinct (sym left.names_are) distinct) in
    let after = 59 ∷ (second ++ column_rest other (later_columns names kinds rest)) in
    let spelled : drop at text ≡ name ++ column_rest kind after = h in
    let column = column-here shape name kind text after at spelled left.lawful.0 left.plain.0 fresh (few-left all shape name (second ∷ names) (kind ∷ other ∷ kinds) left few) in
    let end = column_end name kind at in
    let next = next-here text _ 59 end column.1 refl in
    let semicolon : is_sign 59 (slice_get text end) ≡ true = rw (get-here text _ 59 end column.1) refl in
    let more = columns-here all (with_column shape name kind) second names other kinds text rest (end + 1) (after-one text _ 59 end column.1)
    (left-after all shape name (second ∷ names) kind (other ∷ kinds) left) distinct few in
    (more.0, more_columns column.0 next semicolon more.1, more.2)
