-- The canonical encoding: little-endian, with attributes 0, booleans 0 or 1, and 99 for each dictionary.
use Rattle.std.specs.Prelude.{◌≡◌, ◌≤◌, All, ℕ, zero, suc, ◌-◌, max, List, [], ◌∷◌, ◌++◌, length, if◌then◌else◌}
use Rattle.std.specs.Int.{w16, w32, w64, cast_unsigned}
use Rattle.std.specs.Int.RustNames.{FitsSigned}
use Rattle.std.specs.List.{flat_map}
use Rattle.byteorder.specs.Endian.{little_bytes}
use Rattle.q_values.specs.Atom.{kind_of}
use Rattle.q_values.specs.Bytes.{HasNoNul}
use Rattle.q_values.specs.Contents.{Contents}
use Rattle.q_values.specs.Table.{IsTable, rows_of}
use Rattle.q_values.specs.Tree.{Tree, Items, Grid, atom, vector, list, dict, table, keyed, identity, wrong, no_items, item}
use Rattle.q_values.specs.declared.atom.Atom.{Atom}
use Rattle.q_values.specs.declared.atom.Atom.TheVariants as a
use Rattle.q_values.specs.Kind.{type_number}
use Rattle.ipc_codec.specs.Reading.{extent, number_of_items}
use Rattle.ipc_codec.specs.Types.{symbols_byte}

-- a text and the 0 that ends it
abbrev pub text_bytes : List ℕ → List ℕ
text_bytes text = text ++ 0 ∷ []

-- the bytes of an element
abbrev pub element_bytes : Atom → List ℕ
element_bytes (a.Boolean x) = (if x then 1 else 0) ∷ []
element_bytes (a.Byte x) = x ∷ []
element_bytes (a.Short x) = little_bytes 2 (cast_unsigned w16 x)
element_bytes (a.Integer x) = little_bytes 4 (cast_unsigned w32 x)
element_bytes (a.Long x) = little_bytes 8 (cast_unsigned w64 x)
element_bytes (a.Character x) = x ∷ []
element_bytes (a.Symbol text) = text_bytes text
element_bytes (a.Timestamp x) = little_bytes 8 (cast_unsigned w64 x)
element_bytes (a.Month x) = little_bytes 4 (cast_unsigned w32 x)
element_bytes (a.Date x) = little_bytes 4 (cast_unsigned w32 x)
element_bytes (a.Timespan x) = little_bytes 8 (cast_unsigned w64 x)
element_bytes (a.Minute x) = little_bytes 4 (cast_unsigned w32 x)
element_bytes (a.Second x) = little_bytes 4 (cast_unsigned w32 x)
element_bytes (a.Time x) = little_bytes 4 (cast_unsigned w32 x)

-- a type byte, the attribute byte 0 and a count
abbrev pub head : ℕ → ℕ → List ℕ
head code n = code ∷ 0 ∷ little_bytes 4 n

unfoldable pub vector_bytes : Contents → List ℕ
vector_bytes v = head (type_number v.kind) (length v.atoms) ++ flat_map element_bytes v.atoms

unfoldable pub grid_bytes : Grid → List ℕ
grid_bytes grid =
    98 ∷ 0 ∷ 99 ∷ (head symbols_byte (length grid.names) ++ flat_map text_bytes grid.names)
    ++ (head 0 (length grid.columns) ++ flat_map vector_bytes grid.columns)

-- the bytes of a value
unfoldable mutual
  pub written : Tree → List ℕ
  written (atom x) = (256 - type_number (kind_of x)) ∷ element_bytes x
  written (vector v) = vector_bytes v
  written (list items) = head 0 (number_of_items items) ++ written_items items
  written (dict keys values) = 99 ∷ written keys ++ written values
  written (table grid) = grid_bytes grid
  written (keyed keys values) = 99 ∷ grid_bytes keys ++ grid_bytes values
  written identity = 101 ∷ 0 ∷ []
  written (wrong text) = 128 ∷ text_bytes text

  pub written_items : Items → List ℕ
  written_items no_items = []
  written_items (item t items) = written t ++ written_items items

-- how many objects are open at the deepest point, the value's own included
abbrev mutual
  pub depth : Tree → ℕ
  depth (atom x) = 1
  depth (vector v) = 1
  depth (list items) = suc (deepest items)
  depth (dict keys values) = suc (max (depth keys) (depth values))
  depth (table grid) = 4
  depth (keyed keys values) = 5
  depth identity = 1
  depth (wrong text) = 1

  pub deepest : Items → ℕ
  deepest no_items = zero
  deepest (item t items) = max (depth t) (deepest items)

-- a table whose counts can be written
pub record GridFits (grid : Grid) : Type 0 where
  pub shape : IsTable grid.names grid.columns
  pub columns : length grid.columns ≤ 2147483647
  pub rows : rows_of grid.columns ≤ 2147483647

abbrev pub AreNotBothTables : Tree → Tree → Type 0
AreNotBothTables (table x) (table y) = ⊥
AreNotBothTables _ _ = Unit {0}

-- counts of at most 2147483647, tables in shape, dictionaries of two sides of one length, texts of errors without a 0
abbrev mutual
  pub Fits : Tree → Type 0
  Fits (atom x) = Unit {0}
  Fits (vector v) = length v.atoms ≤ 2147483647
  Fits (list items) = (number_of_items items ≤ 2147483647) × AllFit items
  Fits (dict keys values) = Fits keys × Fits values × (extent keys ≡ extent values) × AreNotBothTables keys values
  Fits (table grid) = GridFits grid
  Fits (keyed keys values) = GridFits keys × GridFits values × (rows_of keys.columns ≡ rows_of values.columns)
  Fits identity = Unit {0}
  Fits (wrong text) = HasNoNul text

  pub AllFit : Items → Type 0
  AllFit no_items = Unit {0}
  AllFit (item t items) = Fits t × AllFit items

-- a value that can be written
pub record IsPlain (t : Tree) : Type 0 where
  pub nested : depth t ≤ 64
  pub fits : Fits t

-- an atom that a value can hold: a signed number within its width, a symbol without a 0
abbrev pub AtomFits : Atom → Type 0
AtomFits (a.Boolean x) = Unit {0}
AtomFits (a.Byte x) = Unit {0}
AtomFits (a.Short x) = FitsSigned w16 x
AtomFits (a.Integer x) = FitsSigned w32 x
AtomFits (a.Long x) = FitsSigned w64 x
AtomFits (a.Character x) = Unit {0}
AtomFits (a.Symbol text) = HasNoNul text
AtomFits (a.Timestamp x) = FitsSigned w64 x
AtomFits (a.Month x) = FitsSigned w32 x
AtomFits (a.Date x) = FitsSigned w32 x
AtomFits (a.Timespan x) = FitsSigned w64 x
AtomFits (a.Minute x) = FitsSigned w32 x
AtomFits (a.Second x) = FitsSigned w32 x
AtomFits (a.Time x) = FitsSigned w32 x

-- a vector that holds such atoms, of its own kind
abbrev pub VectorFits : Contents → Type 0
VectorFits v = All (λ x. (kind_of x ≡ v.kind) × AtomFits x) v.atoms

pub record GridAtomsFit (grid : Grid) : Type 0 where
  pub names : All HasNoNul grid.names
  pub columns : All VectorFits grid.columns

-- a tree whose atoms a value can hold
abbrev mutual
  pub AtomsFit : Tree → Type 0
  AtomsFit (atom x) = AtomFits x
  AtomsFit (vector v) = VectorFits v
  AtomsFit (list items) = AllAtomsFit items
  AtomsFit (dict keys values) = AtomsFit keys × AtomsFit values
  AtomsFit (table grid) = GridAtomsFit grid
  AtomsFit (keyed keys values) = GridAtomsFit keys × GridAtomsFit values
  AtomsFit identity = Unit {0}
  AtomsFit (wrong text) = Unit {0}

  pub AllAtomsFit : Items → Type 0
  AllAtomsFit no_items = Unit {0}
  AllAtomsFit (item t items) = AtomsFit t × AllAtomsFit items
