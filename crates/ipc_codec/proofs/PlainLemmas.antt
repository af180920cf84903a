-- A value that has an encoding can be written.
use Rattle.std.proofs.Common.{◌≡◌, ℕ, ℤ, ◌≤◌, List, [], ◌∷◌, subst, arith, All}
use Rattle.std.specs.Int.{w16, w32, w64, cast_signed}
use Rattle.std.specs.Int.RustNames.{FitsSigned}
use Rattle.std.proofs.lemmas.Int.{ints}
use Rattle.std.proofs.lemmas.List.Elements.{All-nil, All-cons}
use Rattle.q_values.specs.Atom.{kind_of}
use Rattle.q_values.specs.Bytes.{HasNoNul}
use Rattle.q_values.specs.Contents.{Contents}
use Rattle.q_values.specs.Table.{rows_of}
use Rattle.q_values.specs.Tree.{Tree, Items, Grid, atom, vector, list, dict, table, keyed, identity, wrong, no_items, item}
use Rattle.q_values.specs.declared.atom.Atom.{Atom}
use Rattle.q_values.specs.declared.atom.Atom.TheVariants as a
use Rattle.ipc_codec.specs.declared.order.Order.{Order}
use Rattle.ipc_codec.specs.Numbers.{number, short_of, integer_of, long_of}
use Rattle.ipc_codec.specs.Written.{GridFits, Fits, AllFit, IsPlain, AtomFits, VectorFits, GridAtomsFit, AtomsFit, AllAtomsFit}
use Rattle.ipc_codec.specs.Spells.{InTurn, SpellsText, SpellsElement, SpellsElementOf, SpellsVector, SpellsGrid, SpellsTree, SpellsItems, Spells}

rows-within : (order : Order) (columns : List Contents) (bytes : List ℕ) → InTurn (SpellsVector order) bytes columns → rows_of columns ≤ 2147483647
rows-within order [] bytes h = omega arith
rows-within order (c ∷ cs) bytes h = h.3.counted.within

grid-plain : (order : Order) (bytes : List ℕ) (grid : Grid) → SpellsGrid order bytes grid → GridFits grid
grid-plain order bytes grid h = record { shape = h.shape; columns = h.listed.counted.within; rows = rows-within order grid.columns h.listed.body h.listed.vectors }

mutual
  tree-plain : (t : Tree) (order : Order) (bytes : List ℕ) → SpellsTree order bytes t → Fits t
  tree-plain (atom x) order bytes h = tt
  tree-plain (vector v) order bytes h = h.counted.within
  tree-plain (list items) order bytes h = (h.4.within, items-plain items order h.2 h.5)
  tree-plain (dict keys values) order bytes h = (tree-plain keys order h.1 h.5, tree-plain values order h.2 h.6, h.7, h.8)
  tree-plain (table grid) order bytes h = grid-plain order bytes grid h
  tree-plain (keyed keys values) order bytes h = (grid-plain order h.1 keys h.5, grid-plain order h.2 values h.6, h.7)
  tree-plain identity order bytes h = tt
  tree-plain (wrong text) order bytes h = h.2.no_nul

  items-plain : (items : Items) (order : Order) (bytes : List ℕ) → SpellsItems order bytes items → AllFit items
  items-plain no_items order bytes h = tt
  items-plain (item t items) order bytes h = (tree-plain t order h.0 h.3, items-plain items order h.1 h.4)

pub spelled-plain : {order : Order} {bytes : List ℕ} {t : Tree} → Spells order bytes t → IsPlain t
spelled-plain {order = order} {bytes = bytes} {t = t} h = record { nested = h.nested; fits = tree-plain t order bytes h.object }

fits-16 : (n : ℕ) → FitsSigned w16 (cast_signed w16 n)
fits-16 n = omega (arith, ints)

fits-32 : (n : ℕ) → FitsSigned w32 (cast_signed w32 n)
fits-32 n = omega (arith, ints)

fits-64 : (n : ℕ) → FitsSigned w64 (cast_signed w64 n)
fits-64 n = omega (arith, ints)

same-short : (x y : ℤ) → a.Short x ≡ a.Short y → x ≡ y
same-short x y e = cc

same-integer : (x y : ℤ) → a.Integer x ≡ a.Integer y → x ≡ y
same-integer x y e = cc

same-long : (x y : ℤ) → a.Long x ≡ a.Long y → x ≡ y
same-long x y e = cc

same-timestamp : (x y : ℤ) → a.Timestamp x ≡ a.Timestamp y → x ≡ y
same-timestamp x y e = cc

same-month : (x y : ℤ) → a.Month x ≡ a.Month y → x ≡ y
same-month x y e = cc

same-date : (x y : ℤ) → a.Date x ≡ a.Date y → x ≡ y
same-date x y e = cc

same-timespan : (x y : ℤ) → a.Timespan x ≡ a.Timespan y → x ≡ y
same-timespan x y e = cc

same-minute : (x y : ℤ) → a.Minute x ≡ a.Minute y → x ≡ y
same-minute x y e = cc

same-second : (x y : ℤ) → a.Second x ≡ a.Second y → x ≡ y
same-second x y e = cc

same-time : (x y : ℤ) → a.Time x ≡ a.Time y → x ≡ y
same-time x y e = cc

short-fits : (order : Order) (bytes : List ℕ) (x : ℤ) → short_of (number order) bytes ≡ x → FitsSigned w16 x
short-fits order bytes x e = subst (FitsSigned w16) e (fits-16 (number order 2 bytes))

integer-fits : (order : Order) (bytes : List ℕ) (x : ℤ) → integer_of (number order) bytes ≡ x → FitsSigned w32 x
integer-fits order bytes x e = subst (FitsSigned w32) e (fits-32 (number order 4 bytes))

long-fits : (order : Order) (bytes : List ℕ) (x : ℤ) → long_of (number order) bytes ≡ x → FitsSigned w64 x
long-fits order bytes x e = subst (FitsSigned w64) e (fits-64 (number order 8 bytes))

element-fits : (order : Order) (bytes : List ℕ) (x : Atom) → SpellsElement order bytes x → AtomFits x
element-fits order bytes (a.Boolean x) h = tt
element-fits order bytes (a.Byte x) h = tt
element-fits order bytes (a.Short x) h = short-fits order bytes x (same-short _ x h.1)
element-fits order bytes (a.Integer x) h = integer-fits order bytes x (same-integer _ x h.1)
element-fits order bytes (a.Long x) h = long-fits order bytes x (same-long _ x h.1)
element-fits order bytes (a.Character x) h = tt
element-fits order bytes (a.Symbol text) h = h.no_nul
element-fits order bytes (a.Timestamp x) h = long-fits order bytes x (same-timestamp _ x h.1)
element-fits order bytes (a.Month x) h = integer-fits order bytes x (same-month _ x h.1)
element-fits order bytes (a.Date x) h = integer-fits order bytes x (same-date _ x h.1)
element-fits order bytes (a.Timespan x) h = long-fits order bytes x (same-timespan _ x h.1)
element-fits order bytes (a.Minute x) h = integer-fits order bytes x (same-minute _ x h.1)
element-fits order bytes (a.Second x) h = integer-fits order bytes x (same-second _ x h.1)
element-fits order bytes (a.Time x) h = integer-fits order bytes x (same-time _ x h.1)

turn-all : {X : Type 0} (P : List ℕ → X → Type 0) (Q : X → Type 0) → ((bytes : List ℕ) (x : X) → P bytes x → Q x) → (xs : List X) (bytes : List ℕ) → InTurn P bytes xs → All Q xs
turn-all P Q each [] bytes h = All-nil Q
turn-all P Q each (x ∷ xs) bytes h = All-cons Q x xs (each h.0 x h.3) (turn-all P Q each xs h.1 h.4)

vector-fits : (order : Order) (bytes : List ℕ) (v : Contents) → SpellsVector order bytes v → VectorFits v
vector-fits order bytes v h = turn-all (SpellsElementOf order v.kind) (λ x. (kind_of x ≡ v.kind) × AtomFits x) (λ b x q. (q.of_kind, element-fits order b x q.spelled)) v.atoms h.body h.elements

grid-fits : (order : Order) (bytes : List ℕ) (grid : Grid) → SpellsGrid order bytes grid → GridAtomsFit grid
grid-fits order bytes grid h = record {
  names = turn-all SpellsText HasNoNul (λ b t q. q.no_nul) grid.names h.named.body h.named.texts;
  columns = turn-all (SpellsVector order) VectorFits (vector-fits order) grid.columns h.listed.body h.listed.vectors;
}

mutual
  tree-fits : (t : Tree) (order : Order) (bytes : List ℕ) → SpellsTree order bytes t → AtomsFit t
  tree-fits (atom x) order bytes h = element-fits order h.0 x h.2
  tree-fits (vector v) order bytes h = vector-fits order bytes v h
  tree-fits (list items) order bytes h = items-fits items order h.2 h.5
  tree-fits (dict keys values) order bytes h = (tree-fits keys order h.1 h.5, tree-fits values order h.2 h.6)
  tree-fits (table grid) order bytes h = grid-fits order bytes grid h
  tree-fits (keyed keys values) order bytes h = (grid-fits order h.1 keys h.5, grid-fits order h.2 values h.6)
  tree-fits identity order bytes h = tt
  tree-fits (wrong text) order bytes h = tt

  items-fits : (items : Items) (order : Order) (bytes : List ℕ) → SpellsItems order bytes items → AllAtomsFit items
  items-fits no_items order bytes h = tt
  items-fits (item t items) order bytes h = (tree-fits t order h.0 h.3, items-fits items order h.1 h.4)

pub spelled-fit : {order : Order} {bytes : List ℕ} {t : Tree} → Spells order bytes t → AtomsFit t
spelled-fit {order = order} {bytes = bytes} {t = t} h = tree-fits t order bytes h.object
