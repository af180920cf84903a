-- How many bytes encodings have.
use Rattle.std.proofs.Common.{◌≡◌, ℕ, ℤ, ◌+◌, ◌*◌, ◌<◌, Bool, get_or, List, [], ◌∷◌, ◌++◌, length, take, map, refl, sym, ap, ◌∙◌, arith}
use Rattle.std.specs.List.{flat_map, sum_by}
use Rattle.std.specs.Prelude.{slice_get, Some}
use Rattle.std.proofs.lemmas.List.{length-append}
use Rattle.std.proofs.lemmas.Option.{slice_get-get_or}
use Rattle.std.proofs.lemmas.List.Sums.{sum_by-cons}
use Rattle.q_values.specs.Column.{byte_atom, integer_atom, long_atom}
use Rattle.q_values.specs.Contents.{Contents}
use Rattle.q_values.specs.Kind.{type_number}
use Rattle.q_values.specs.Tree.{Tree, Items, Grid, items_of, atom, vector, list, dict, table, keyed, identity, wrong}
use Rattle.q_values.specs.declared.atom.Atom.{Atom}
use Rattle.q_values.specs.declared.atom.Atom.TheVariants as a
use Rattle.q_values.specs.declared.kind.ByteKind.{ByteKind}
use Rattle.q_values.specs.declared.kind.ByteKind.TheVariants as b
use Rattle.q_values.specs.declared.kind.IntegerKind.{IntegerKind}
use Rattle.q_values.specs.declared.kind.IntegerKind.TheVariants as i
use Rattle.q_values.specs.declared.kind.LongKind.{LongKind}
use Rattle.q_values.specs.declared.kind.LongKind.TheVariants as l
use Rattle.ipc_codec.specs.Lengths.{saturated}
use Rattle.ipc_codec.specs.Reading.{number_of_items}
use Rattle.ipc_codec.specs.Written.{element_bytes, text_bytes, head, vector_bytes, grid_bytes, written, written_items}
use Rattle.ipc_codec.proofs.WritingLemmas.{flat_map-more}
use Rattle.ipc_codec.proofs.ItemsLemmas.{written_items-more}

-- ---- sums that saturate

pub saturated-sum : (a b : ℕ) → saturated (saturated a + saturated b) ≡ saturated (a + b)
saturated-sum a b = omega arith

pub saturated-more : (n a : ℕ) → saturated (saturated a + n) ≡ saturated (a + n)
saturated-more n a = omega arith

-- ---- elements

pub length-text : (text : List ℕ) → length (text_bytes text) ≡ length text + 1
length-text text = length-append text (0 ∷ [])

pub length-texts : (texts : List (List ℕ)) → length (flat_map text_bytes texts) ≡ sum_by length texts + length texts
length-texts [] = refl
length-texts (t ∷ ts) = omega (arith, length-append (text_bytes t) (flat_map text_bytes ts), length-text t, length-texts ts, sum_by-cons length t ts)

-- elements that are all as long
same_length : {X : Type 0} (g : X → Atom) (w : ℕ) → ((x : X) → length (element_bytes (g x)) ≡ w) → (xs : List X) → length (flat_map element_bytes (map g xs)) ≡ length xs * w
same_length g w each [] = omega arith
same_length g w each (x ∷ xs) = omega (arith, length-append (element_bytes (g x)) (flat_map element_bytes (map g xs)), each x, same_length g w each xs)

pub length-booleans : (xs : List Bool) → length (flat_map element_bytes (map (λ x. a.Boolean x) xs)) ≡ length xs * 1
length-booleans = same_length (λ x. a.Boolean x) 1 (λ x. refl)

pub length-bytes : (kind : ByteKind) (xs : List ℕ) → length (flat_map element_bytes (map (byte_atom kind) xs)) ≡ length xs * 1
length-bytes b.Byte = same_length (byte_atom b.Byte) 1 (λ x. refl)
length-bytes b.Character = same_length (byte_atom b.Character) 1 (λ x. refl)

pub length-shorts : (xs : List ℤ) → length (flat_map element_bytes (map (λ x. a.Short x) xs)) ≡ length xs * 2
length-shorts = same_length (λ x. a.Short x) 2 (λ x. refl)

pub length-integer : (kind : IntegerKind) (x : ℤ) → length (element_bytes (integer_atom kind x)) ≡ 4
length-integer i.Integer x = refl
length-integer i.Month x = refl
length-integer i.Date x = refl
length-integer i.Minute x = refl
length-integer i.Second x = refl
length-integer i.Time x = refl

pub length-integers : (kind : IntegerKind) (xs : List ℤ) → length (flat_map element_bytes (map (integer_atom kind) xs)) ≡ length xs * 4
length-integers kind = same_length (integer_atom kind) 4 (length-integer kind)

pub length-long : (kind : LongKind) (x : ℤ) → length (element_bytes (long_atom kind x)) ≡ 8
length-long l.Long x = refl
length-long l.Timestamp x = refl
length-long l.Timespan x = refl

pub length-longs : (kind : LongKind) (xs : List ℤ) → length (flat_map element_bytes (map (long_atom kind) xs)) ≡ length xs * 8
length-longs kind = same_length (long_atom kind) 8 (length-long kind)

pub map-symbols : (xs : List (List ℕ)) → flat_map element_bytes (map (λ x. a.Symbol x) xs) ≡ flat_map text_bytes xs
map-symbols [] = refl
map-symbols (x ∷ xs) = ap (λ r. text_bytes x ++ r) (map-symbols xs)

-- ---- vectors and tables

pub length-head : (code n : ℕ) (rest : List ℕ) → length (head code n ++ rest) ≡ length rest + 6
length-head code n rest = omega (arith, length-append (head code n) rest)

pub length-vector : (v : Contents) → length (vector_bytes v) ≡ length (flat_map element_bytes v.atoms) + 6
unfolding vector_bytes
length-vector v = length-head (type_number v.kind) (length v.atoms) (flat_map element_bytes v.atoms)

pub length-grid : (grid : Grid) → length (grid_bytes grid) ≡ length (flat_map text_bytes grid.names) + length (flat_map vector_bytes grid.columns) + 15
unfolding grid_bytes
length-grid grid =
    let names = head 11 (length grid.names) ++ flat_map text_bytes grid.names in
    let columns = head 0 (length grid.columns) ++ flat_map vector_bytes grid.columns in
    omega (arith, length-append names columns, length-head 11 (length grid.names) (flat_map text_bytes grid.names), length-head 0 (length grid.columns) (flat_map vector_bytes grid.columns))

-- ---- each form of value

pub length-atom : (x : Atom) → length (written (atom x)) ≡ length (element_bytes x) + 1
unfolding written
length-atom x = omega arith

pub length-list : (items : Items) → length (written (list items)) ≡ length (written_items items) + 6
unfolding written
length-list items = length-head 0 (number_of_items items) (written_items items)

pub length-dict : (keys values : Tree) → length (written (dict keys values)) ≡ length (written keys) + length (written values) + 1
unfolding written
length-dict keys values = omega (arith, length-append (written keys) (written values))

pub length-keyed : (keys values : Grid) → length (written (keyed keys values)) ≡ length (grid_bytes keys) + length (grid_bytes values) + 1
unfolding written
length-keyed keys values = omega (arith, length-append (grid_bytes keys) (grid_bytes values))

pub length-plain : (v : Contents) → length (written (vector v)) ≡ length (vector_bytes v)
unfolding written
length-plain v = refl

pub length-table : (grid : Grid) → length (written (table grid)) ≡ length (grid_bytes grid)
unfolding written
length-table grid = refl

pub length-identity : length (written identity) ≡ 2
unfolding written
length-identity = refl

pub length-wrong : (text : List ℕ) → length (written (wrong text)) ≡ length (text_bytes text) + 1
unfolding written
length-wrong text = omega arith

-- one more of a list
pub length-more : {X : Type 0} (f : X → List ℕ) (xs : List X) (i : ℕ) (x : X) (total part : ℕ) → i < length xs → x ≡ get_or xs i x
    → total ≡ saturated (length (flat_map f (take i xs))) → part ≡ saturated (length (f x)) → saturated (total + part) ≡ saturated (length (flat_map f (take (i + 1) xs)))
length-more f xs i x total part within e t p =
    let found : slice_get xs i ≡ Some x = slice_get-get_or xs i x within ∙ ap (λ y. Some y) (sym e) in
    rw (t, p, flat_map-more f xs i x found, length-append (flat_map f (take i xs)) (f x)) (saturated-sum (length (flat_map f (take i xs))) (length (f x)))

pub length_items-more : (ts : List Tree) (i : ℕ) (t : Tree) (total part : ℕ) → slice_get ts i ≡ Some t
    → total ≡ saturated (length (written_items (items_of (take i ts)))) → part ≡ saturated (length (written t))
    → saturated (total + part) ≡ saturated (length (written_items (items_of (take (i + 1) ts))))
length_items-more ts i t total part e h p =
    rw (h, p, written_items-more ts i t e, length-append (written_items (items_of (take i ts))) (written t)) (saturated-sum (length (written_items (items_of (take i ts)))) (length (written t)))

pub ruleset lengths = (length-text, length-texts, length-booleans, length-bytes, length-shorts, length-integers, length-longs, map-symbols, length-vector, length-grid, saturated-sum, saturated-more)
