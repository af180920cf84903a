-- What is written is an encoding of the value.
use Rattle.std.proofs.Common.{◌≡◌, ℕ, ℤ, ◌<◌, ◌≤◌, ◌^◌, true, false, List, [], ◌∷◌, ◌++◌, length, drop, refl, sym, ap, subst, ◌∙◌, arith, inl, All}
use Rattle.std.specs.List.{flat_map}
use Rattle.std.specs.Int.{w16, w32, w64, cast_unsigned, cast_signed}
use Rattle.std.specs.Int.RustNames.{FitsSigned}
use Rattle.std.proofs.lemmas.Int.{to_z-of_z, ints}
use Rattle.std.proofs.lemmas.List.{append-nil, drop_at}
use Rattle.std.proofs.lemmas.List.Elements.{All-head, All-tail}
use Rattle.byteorder.specs.Endian.{little_bytes, little_number}
use Rattle.byteorder.specs.Numbers.{little_number-reads_back, length-bytes_low_first}
use Rattle.q_values.specs.Atom.{kind_of}
use Rattle.q_values.specs.Bytes.{HasNoNul}
use Rattle.q_values.specs.Contents.{Contents}
use Rattle.q_values.specs.Tree.{Tree, Items, Grid, atom, vector, list, dict, table, keyed, identity, wrong, no_items, item}
use Rattle.q_values.specs.declared.atom.Atom.{Atom}
use Rattle.q_values.specs.declared.atom.Atom.TheVariants as a
use Rattle.ipc_codec.specs.declared.order.Order.TheVariants as o
use Rattle.ipc_codec.specs.Reading.{number_of_items}
use Rattle.ipc_codec.specs.Written.{text_bytes, element_bytes, head, vector_bytes, grid_bytes, written, written_items, GridFits, Fits, AllFit, AtomFits, VectorFits, GridAtomsFit, AtomsFit, AllAtomsFit, IsPlain}
use Rattle.ipc_codec.specs.Spells.{InTurn, SpellsCount, SpellsText, SpellsElement, SpellsElementOf, SpellsVector, SpellsGrid, SpellsTree, SpellsItems, Spells}
use Rattle.ipc_codec.specs.Laws.{WrittenSpells}
use Rattle.ipc_codec.proofs.LawLemmas.{spelling_reads}

-- ---- numbers

number-written : (n x : ℕ) → x < 256 ^ n → little_number n (little_bytes n x) ≡ x
number-written n x h = ap (little_number n) (sym (append-nil (little_bytes n x))) ∙ little_number-reads_back n x [] h

short-written : (x : ℤ) → FitsSigned w16 x → cast_signed w16 (little_number 2 (little_bytes 2 (cast_unsigned w16 x))) ≡ x
short-written x h =
    let low : cast_unsigned w16 x < 256 ^ 2 = omega (arith, ints) in
    rw (number-written 2 (cast_unsigned w16 x) low) (to_z-of_z w16 x h)

integer-written : (x : ℤ) → FitsSigned w32 x → cast_signed w32 (little_number 4 (little_bytes 4 (cast_unsigned w32 x))) ≡ x
integer-written x h =
    let low : cast_unsigned w32 x < 256 ^ 4 = omega (arith, ints) in
    rw (number-written 4 (cast_unsigned w32 x) low) (to_z-of_z w32 x h)

long-written : (x : ℤ) → FitsSigned w64 x → cast_signed w64 (little_number 8 (little_bytes 8 (cast_unsigned w64 x))) ≡ x
long-written x h =
    let low : cast_unsigned w64 x < 256 ^ 8 = omega (arith, ints) in
    rw (number-written 8 (cast_unsigned w64 x) low) (to_z-of_z w64 x h)

count-written : (n : ℕ) → n ≤ 2147483647 → SpellsCount o.Little (little_bytes 4 n) n
count-written n h = record { four = length-bytes_low_first 0 4 n; value = number-written 4 n (omega arith); within = h }

element-written : (x : Atom) → AtomFits x → SpellsElement o.Little (element_bytes x) x
element-written (a.Boolean true) h = (refl, refl)
element-written (a.Boolean false) h = (refl, refl)
element-written (a.Byte x) h = (refl, refl)
element-written (a.Short x) h = (refl, ap (λ z. a.Short z) (short-written x h))
element-written (a.Integer x) h = (refl, ap (λ z. a.Integer z) (integer-written x h))
element-written (a.Long x) h = (refl, ap (λ z. a.Long z) (long-written x h))
element-written (a.Character x) h = (refl, refl)
element-written (a.Symbol text) h = record { ended = refl; no_nul = h }
element-written (a.Timestamp x) h = (refl, ap (λ z. a.Timestamp z) (long-written x h))
element-written (a.Month x) h = (refl, ap (λ z. a.Month z) (integer-written x h))
element-written (a.Date x) h = (refl, ap (λ z. a.Date z) (integer-written x h))
element-written (a.Timespan x) h = (refl, ap (λ z. a.Timespan z) (long-written x h))
element-written (a.Minute x) h = (refl, ap (λ z. a.Minute z) (integer-written x h))
element-written (a.Second x) h = (refl, ap (λ z. a.Second z) (integer-written x h))
element-written (a.Time x) h = (refl, ap (λ z. a.Time z) (integer-written x h))

-- ---- lists

turn-written : {X : Type 0} (P : List ℕ → X → Type 0) (g : X → List ℕ) (Q : X → Type 0) → ((x : X) → Q x → P (g x) x) → (xs : List X) → All Q xs → InTurn P (flat_map g xs) xs
turn-written P g Q each [] h = refl
turn-written P g Q each (x ∷ xs) h = (g x, flat_map g xs, refl, each x (All-head Q x xs h), turn-written P g Q each xs (All-tail Q x xs h))

vector-written : (v : Contents) → length v.atoms ≤ 2147483647 → VectorFits v → SpellsVector o.Little (vector_bytes v) v
unfolding vector_bytes
vector-written v h fits = record {
  attribute = 0;
  count = little_bytes 4 (length v.atoms);
  body = flat_map element_bytes v.atoms;
  parts = refl;
  counted = count-written (length v.atoms) h;
  elements = turn-written (SpellsElementOf o.Little v.kind) element_bytes (λ x. (kind_of x ≡ v.kind) × AtomFits x) (λ x q. record { of_kind = q.0; spelled = element-written x q.1 }) v.atoms fits;
}

-- two facts of each
both-facts : {X : Type 0} (P Q : X → Type 0) (xs : List X) → All P xs → All Q xs → All (λ x. P x × Q x) xs
both-facts P Q xs p q = λ i d within. (p i d within, q i d within)

grid-written : (grid : Grid) → GridFits grid → GridAtomsFit grid → SpellsGrid o.Little (grid_bytes grid) grid
unfolding grid_bytes
grid-written grid h fits =
    let short : All (λ (column : Contents). length column.atoms ≤ 2147483647) grid.columns = λ i d within. omega (arith, h.shape.even i d within, h.rows) in
    record {
      attribute = 0;
      type = 99;
      names = head 11 (length grid.names) ++ flat_map text_bytes grid.names;
      columns = head 0 (length grid.columns) ++ flat_map vector_bytes grid.columns;
      parts = refl;
      dictionary = inl refl;
      named = record {
        attribute = 0;
        count = little_bytes 4 (length grid.names);
        body = flat_map text_bytes grid.names;
        parts = refl;
        counted = count-written (length grid.names) (omega (arith, h.shape.named, h.columns));
        texts = turn-written SpellsText text_bytes HasNoNul (λ t q. record { ended = refl; no_nul = q }) grid.names fits.names;
      };
      listed = record {
        attribute = 0;
        count = little_bytes 4 (length grid.columns);
        body = flat_map vector_bytes grid.columns;
        parts = refl;
        counted = count-written (length grid.columns) h.columns;
        vectors = turn-written (SpellsVector o.Little) vector_bytes (λ (v : Contents). (length v.atoms ≤ 2147483647) × VectorFits v) (λ v q. vector-written v q.0 q.1) grid.columns (both-facts (λ (v : Contents). length v.atoms ≤ 2147483647) VectorFits grid.columns short fits.columns);
      };
      shape = h.shape;
    }

mutual
  unfolding written

  tree-written : (t : Tree) → Fits t → AtomsFit t → SpellsTree o.Little (written t) t
  tree-written (atom x) h fits = (element_bytes x, refl, element-written x fits)
  tree-written (vector v) h fits = vector-written v h fits
  tree-written (list items) h fits = (0, little_bytes 4 (number_of_items items), written_items items, refl, count-written (number_of_items items) h.0, items-written items h.1 fits)
  tree-written (dict keys values) h fits = (99, written keys, written values, refl, inl refl, tree-written keys h.0 fits.0, tree-written values h.1 fits.1, h.2, h.3)
  tree-written (table grid) h fits = grid-written grid h fits
  tree-written (keyed keys values) h fits = (99, grid_bytes keys, grid_bytes values, refl, inl refl, grid-written keys h.0 fits.0, grid-written values h.1 fits.1, h.2)
  tree-written identity h fits = refl
  tree-written (wrong text) h fits = (text_bytes text, refl, record { ended = refl; no_nul = h })

  items-written : (items : Items) → AllFit items → AllAtomsFit items → SpellsItems o.Little (written_items items) items
  items-written no_items h fits = refl
  items-written (item t items) h fits = (written t, written_items items, refl, tree-written t h.0 fits.0, items-written items h.1 fits.1)

pub written_spelled : WrittenSpells
written_spelled t plain fits =
    let spelled : Spells o.Little (written t) t = record { object = tree-written t plain.fits fits; nested = plain.nested } in
    (spelled, λ rest. spelling_reads o.Little (written t) t rest spelled)

-- what was appended to a list is an encoding
pub spelled-appended : (old new : List ℕ) (t : Tree) → new ≡ old ++ written t → IsPlain t → AtomsFit t → Spells o.Little (drop (length old) new) t
spelled-appended old new t e plain fits =
    let appended : drop (length old) new ≡ written t = ap (drop (length old)) e ∙ drop_at old (written t) (length old) refl in
    subst (λ (bytes : List ℕ). Spells o.Little bytes t) (sym appended) (written_spelled t plain fits).0
