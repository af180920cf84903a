-- Values of publications whose messages fit can be written.
use Rattle.std.proofs.Common.{◌≡◌, ℕ, ◌+◌, ◌*◌, ◌<◌, ◌≤◌, List, [], ◌∷◌, length, map, codes, arith, All}
use Rattle.std.specs.Int.{w32, to_le_bytes}
use Rattle.std.specs.List.{flat_map, AllByRecursion}
use Rattle.std.proofs.lemmas.List.{length-append}
use Rattle.std.proofs.lemmas.List.Elements.{All-nil, All-cons, All-head, All-tail}
use Rattle.ipc_codec.proofs.LengthLemmas.{length-list, length-text, length-table, length-grid, length-vector}
use Rattle.ipc_codec.specs.Written.{element_bytes, vector_bytes, grid_bytes, written, written_items, GridFits, IsPlain}
use Rattle.q_values.specs.Contents.{Contents}
use Rattle.q_values.specs.Table.{IsTable, rows_of}
use Rattle.q_values.specs.Tree.{Tree, Items, Grid, atom, list, table, item, no_items}
use Rattle.q_values.specs.declared.atom.Atom.{Atom}
use Rattle.q_values.specs.declared.atom.Atom.TheVariants as a
use Rattle.pubsub.specs.Told.{Publication, upd, end}
use Rattle.publications.proofs.ToldLemmas.{IsWide}
use Rattle.publications.specs.Notice.{notice, publication_tree, Fits}

element_some : (x : Atom) → 0 < length (element_bytes x)
element_some (a.Boolean x) = omega arith
element_some (a.Byte x) = omega arith
element_some (a.Short x) = omega arith
element_some (a.Integer x) = omega arith
element_some (a.Long x) = omega arith
element_some (a.Character x) = omega arith
element_some (a.Symbol text) = omega (arith, length-text text)
element_some (a.Timestamp x) = omega arith
element_some (a.Month x) = omega arith
element_some (a.Date x) = omega arith
element_some (a.Timespan x) = omega arith
element_some (a.Minute x) = omega arith
element_some (a.Second x) = omega arith
element_some (a.Time x) = omega arith

elements_within : (xs : List Atom) → length xs ≤ length (flat_map element_bytes xs)
elements_within [] = omega arith
elements_within (x ∷ xs) = omega (arith, length-append (element_bytes x) (flat_map element_bytes xs), element_some x, elements_within xs)

atoms_within : (v : Contents) → length v.atoms + 6 ≤ length (vector_bytes v)
atoms_within v = omega (arith, length-vector v, elements_within v.atoms)

columns_within : (columns : List Contents) → length columns ≤ length (flat_map vector_bytes columns)
columns_within [] = omega arith
columns_within (c ∷ columns) = omega (arith, length-append (vector_bytes c) (flat_map vector_bytes columns), atoms_within c, columns_within columns)

-- two columns take two bytes for each row
rows_within : (columns : List Contents) → 2 ≤ length columns → All (λ (c : Contents). length c.atoms ≡ rows_of columns) columns → 2 * rows_of columns ≤ length (flat_map vector_bytes columns)
rows_within [] two even = omega arith
rows_within (c ∷ []) two even = absurd (omega (arith, two))
rows_within (c ∷ d ∷ columns) two even =
    let same : length d.atoms ≡ length c.atoms = All-head (λ (x : Contents). length x.atoms ≡ length c.atoms) d columns (All-tail (λ (x : Contents). length x.atoms ≡ length c.atoms) c (d ∷ columns) even) in
    omega (
      arith,
      same,
      atoms_within c,
      atoms_within d,
      length-append (vector_bytes c) (flat_map vector_bytes (d ∷ columns)),
      length-append (vector_bytes d) (flat_map vector_bytes columns),
    )

grid_fits : (grid : Grid) → IsTable grid.names grid.columns → 2 ≤ length grid.columns → length (grid_bytes grid) ≤ 4294967294 → GridFits grid
grid_fits grid is two short =
    let few : length (flat_map vector_bytes grid.columns) + 15 ≤ length (grid_bytes grid) = omega (arith, length-grid grid) in
    record {
      shape = is;
      columns = omega (arith, short, few, columns_two grid.columns);
      rows = omega (arith, short, few, rows_within grid.columns two is.even);
    }
  where
    columns_two : (columns : List Contents) → 2 * length columns ≤ length (flat_map vector_bytes columns)
    columns_two [] = omega arith
    columns_two (c ∷ columns) = omega (arith, length-append (vector_bytes c) (flat_map vector_bytes columns), atoms_within c, columns_two columns)

length-item : (t : Tree) (items : Items) → length (written_items (item t items)) ≡ length (written t) + length (written_items items)
unfolding written_items
length-item t items = length-append (written t) (written_items items)

length-notice : (t : Tree) → length (notice t) ≡ 8 + length (written t)
length-notice t = length-append (1 ∷ 0 ∷ 0 ∷ 0 ∷ to_le_bytes w32 (8 + length (written t))) (written t)

rows_in_notice : (name : List ℕ) (grid : Grid) → length (grid_bytes grid) < length (notice (publication_tree (upd name grid)))
rows_in_notice name grid =
    let last = item (table grid) no_items in
    let second = item (atom (a.Symbol name)) last in
    let first = item (atom (a.Symbol (codes "upd"))) second in
    omega (
      arith,
      length-notice (list first),
      length-list first,
      length-item (atom (a.Symbol (codes "upd"))) second,
      length-item (atom (a.Symbol name)) last,
      length-item (table grid) no_items,
      length-table grid,
    )

pub publication_plain : (p : Publication) → IsWide p → Fits p → IsPlain (publication_tree p)
publication_plain (upd name grid) wide fits =
    let short : length (grid_bytes grid) ≤ 4294967294 = omega (arith, fits, rows_in_notice name grid) in
    record { nested = omega arith; fits = (omega arith, (tt, (tt, (grid_fits grid wide.0 wide.1 short, tt)))) }
publication_plain (end date) wide fits = record { nested = omega arith; fits = (omega arith, (tt, (tt, tt))) }

pub all_plain : (ps : List Publication) → AllByRecursion IsWide ps → All (λ (t : Tree). length (notice t) ≤ 4294967295) (map publication_tree ps) → All IsPlain (map publication_tree ps)
all_plain [] wide fit = All-nil IsPlain
all_plain (p ∷ ps) wide fit =
    All-cons IsPlain (publication_tree p) (map publication_tree ps) (publication_plain p wide.0 (All-head (λ (t : Tree). length (notice t) ≤ 4294967295) (publication_tree p) (map publication_tree ps) fit))
    (all_plain ps wide.1 (All-tail (λ (t : Tree). length (notice t) ≤ 4294967295) (publication_tree p) (map publication_tree ps) fit))

pub all_fit : (ps : List Publication) → All (λ (t : Tree). length (notice t) ≤ 4294967295) (map publication_tree ps) → All Fits ps
all_fit [] fit = All-nil Fits
all_fit (p ∷ ps) fit =
    All-cons Fits p ps (All-head (λ (t : Tree). length (notice t) ≤ 4294967295) (publication_tree p) (map publication_tree ps) fit)
    (all_fit ps (All-tail (λ (t : Tree). length (notice t) ≤ 4294967295) (publication_tree p) (map publication_tree ps) fit))
