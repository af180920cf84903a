-- Which bytes are an encoding of a value: exactly one object (KX, IPC reference). Attribute bytes may be any, any byte but
-- 0 is true, and a dictionary's type is 99 or 127.
use Rattle.std.specs.Prelude.{◌≡◌, ◌≤◌, ℕ, ◌-◌, ◌⊎◌, List, [], ◌∷◌, ◌++◌, length}
use Rattle.q_values.specs.Atom.{kind_of}
use Rattle.q_values.specs.Bytes.{HasNoNul}
use Rattle.q_values.specs.Contents.{Contents}
use Rattle.q_values.specs.Table.{IsTable, rows_of}
use Rattle.q_values.specs.Tree.{Tree, Items, Grid, atom, vector, list, dict, table, keyed, identity, wrong, no_items, item}
use Rattle.q_values.specs.declared.atom.Atom.{Atom}
use Rattle.q_values.specs.declared.atom.Atom.TheVariants as a
use Rattle.q_values.specs.declared.kind.Kind.{Kind}
use Rattle.ipc_codec.specs.declared.order.Order.{Order}
use Rattle.q_values.specs.Kind.{type_number, width}
use Rattle.ipc_codec.specs.Numbers.{number, element}
use Rattle.ipc_codec.specs.Reading.{extent, number_of_items}
use Rattle.ipc_codec.specs.Types.{symbols_byte}
use Rattle.ipc_codec.specs.Written.{depth, AreNotBothTables}

-- the bytes are those of each item, in order
abbrev pub InTurn : {X : Type 0} → (List ℕ → X → Type 0) → List ℕ → List X → Type 0
InTurn Part bytes [] = bytes ≡ []
InTurn Part bytes (x ∷ xs) = (first : List ℕ) × (rest : List ℕ) × (bytes ≡ first ++ rest) × Part first x × InTurn Part rest xs

-- four bytes that hold this count
pub record SpellsCount (order : Order) (bytes : List ℕ) (n : ℕ) : Type 0 where
  pub four : length bytes ≡ 4
  pub value : number order 4 bytes ≡ n
  pub within : n ≤ 2147483647

-- a text and a 0, which ends it
pub record SpellsText (bytes text : List ℕ) : Type 0 where
  pub ended : bytes ≡ text ++ 0 ∷ []
  pub no_nul : HasNoNul text

-- an element
abbrev pub SpellsElement : Order → List ℕ → Atom → Type 0
SpellsElement order bytes (a.Symbol text) = SpellsText bytes text
SpellsElement order bytes x = (length bytes ≡ width (kind_of x)) × (element order (kind_of x) bytes ≡ x)

-- an element of this kind
pub record SpellsElementOf (order : Order) (kind : Kind) (bytes : List ℕ) (x : Atom) : Type 0 where
  pub of_kind : kind_of x ≡ kind
  pub spelled : SpellsElement order bytes x

-- a vector: its type, an attribute, a count and the elements
pub record SpellsVector (order : Order) (bytes : List ℕ) (v : Contents) : Type 0 where
  pub attribute : ℕ
  pub count : List ℕ
  pub body : List ℕ
  pub parts : bytes ≡ type_number v.kind ∷ attribute ∷ count ++ body
  pub counted : SpellsCount order count (length v.atoms)
  pub elements : InTurn (SpellsElementOf order v.kind) body v.atoms

abbrev pub IsDictionaryType : ℕ → Type 0
IsDictionaryType type = (type ≡ 99) ⊎ (type ≡ 127)

-- a table's names: a symbol vector
pub record SpellsNames (order : Order) (bytes : List ℕ) (names : List (List ℕ)) : Type 0 where
  pub attribute : ℕ
  pub count : List ℕ
  pub body : List ℕ
  pub parts : bytes ≡ symbols_byte ∷ attribute ∷ count ++ body
  pub counted : SpellsCount order count (length names)
  pub texts : InTurn SpellsText body names

-- its columns: a general list of vectors
pub record SpellsColumns (order : Order) (bytes : List ℕ) (columns : List Contents) : Type 0 where
  pub attribute : ℕ
  pub count : List ℕ
  pub body : List ℕ
  pub parts : bytes ≡ 0 ∷ attribute ∷ count ++ body
  pub counted : SpellsCount order count (length columns)
  pub vectors : InTurn (SpellsVector order) body columns

-- a table: 98, an attribute and a dictionary from its names to its columns
pub record SpellsGrid (order : Order) (bytes : List ℕ) (grid : Grid) : Type 0 where
  pub attribute : ℕ
  pub type : ℕ
  pub names : List ℕ
  pub columns : List ℕ
  pub parts : bytes ≡ 98 ∷ attribute ∷ type ∷ names ++ columns
  pub dictionary : IsDictionaryType type
  pub named : SpellsNames order names grid.names
  pub listed : SpellsColumns order columns grid.columns
  pub shape : IsTable grid.names grid.columns

-- an object, however deep it nests
abbrev mutual
  pub SpellsTree : Order → List ℕ → Tree → Type 0
  SpellsTree order bytes (atom x) = (body : List ℕ) × (bytes ≡ (256 - type_number (kind_of x)) ∷ body) × SpellsElement order body x
  SpellsTree order bytes (vector v) = SpellsVector order bytes v
  SpellsTree order bytes (list items) =
      (attribute : ℕ) × (count : List ℕ) × (body : List ℕ) × (bytes ≡ 0 ∷ attribute ∷ count ++ body)
      × SpellsCount order count (number_of_items items) × SpellsItems order body items
  SpellsTree order bytes (dict keys values) =
      (type : ℕ) × (first : List ℕ) × (second : List ℕ) × (bytes ≡ type ∷ first ++ second) × IsDictionaryType type
      × SpellsTree order first keys × SpellsTree order second values × (extent keys ≡ extent values) × AreNotBothTables keys values
  SpellsTree order bytes (table grid) = SpellsGrid order bytes grid
  SpellsTree order bytes (keyed keys values) =
      (type : ℕ) × (first : List ℕ) × (second : List ℕ) × (bytes ≡ type ∷ first ++ second) × IsDictionaryType type
      × SpellsGrid order first keys × SpellsGrid order second values × (rows_of keys.columns ≡ rows_of values.columns)
  SpellsTree order bytes identity = bytes ≡ 101 ∷ 0 ∷ []
  SpellsTree order bytes (wrong text) = (body : List ℕ) × (bytes ≡ 128 ∷ body) × SpellsText body text

  pub SpellsItems : Order → List ℕ → Items → Type 0
  SpellsItems order bytes no_items = bytes ≡ []
  SpellsItems order bytes (item t items) =
      (first : List ℕ) × (rest : List ℕ) × (bytes ≡ first ++ rest) × SpellsTree order first t × SpellsItems order rest items

-- these bytes are exactly one object, of this value, at most 64 levels deep
pub record Spells (order : Order) (bytes : List ℕ) (t : Tree) : Type 0 where
  pub object : SpellsTree order bytes t
  pub nested : depth t ≤ 64
