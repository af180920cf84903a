-- Consecutive cells of one width.
use Rattle.std.proofs.Common.{◌≡◌, ℕ, zero, suc, ◌+◌, ◌≤◌, ◌*◌, List, [], ◌∷◌, ◌++◌, length, get_or, take, drop, map, refl, sym, ap, ◌∙◌, arith}
use Rattle.std.specs.Prelude.{slice_index, not, ◌==◌}
use Rattle.std.proofs.lemmas.List.{drop-drop, get_or-drop}
use Rattle.q_values.specs.Column.{byte_kind, byte_atom, integer_kind, integer_atom, long_kind, long_atom}
use Rattle.q_values.specs.declared.atom.Atom.TheVariants as a
use Rattle.q_values.specs.declared.kind.Kind.TheVariants as k
use Rattle.q_values.specs.declared.kind.ByteKind.{ByteKind}
use Rattle.q_values.specs.declared.kind.ByteKind.TheVariants as b
use Rattle.q_values.specs.declared.kind.IntegerKind.{IntegerKind}
use Rattle.q_values.specs.declared.kind.IntegerKind.TheVariants as i
use Rattle.q_values.specs.declared.kind.LongKind.{LongKind}
use Rattle.q_values.specs.declared.kind.LongKind.TheVariants as l
use Rattle.q_values.specs.Kind.{width}
use Rattle.ipc_codec.specs.Numbers.{short_of, integer_of, long_of, boolean_of, element_by, cells}

-- one more cell
pub cells-more : {X : Type 0} (f : List ℕ → X) (w n : ℕ) (bytes : List ℕ) → cells f w (n + 1) bytes ≡ cells f w n bytes ++ f (drop (w * n) bytes) ∷ []
unfolding cells
cells-more f w zero bytes = let none : w * 0 ≡ 0 = omega arith in rw none refl
cells-more {X = X} f w (suc n) bytes =
    let e : suc n + 1 ≡ suc (n + 1) = omega arith in
    let at : w + w * n ≡ w * suc n = omega arith in
    let here : drop (w * n) (drop w bytes) ≡ drop (w * suc n) bytes = drop-drop (w * n) w bytes ∙ ap (λ m. drop m bytes) at in
    rw e (ap (λ (r : List X). f bytes ∷ r) (cells-more f w n (drop w bytes) ∙ ap (λ (r : List ℕ). cells f w n (drop w bytes) ++ f r ∷ []) here))

map-cells : {X Y : Type 0} (g : X → Y) (f : List ℕ → X) (w n : ℕ) (bytes : List ℕ) → map g (cells f w n bytes) ≡ cells (λ r. g (f r)) w n bytes
unfolding cells
map-cells g f w zero bytes = refl
map-cells g f w (suc n) bytes = ap (λ r. g (f bytes) ∷ r) (map-cells g f w n (drop w bytes))

-- cells of one byte
cells-bytes : (n : ℕ) (bytes : List ℕ) → n ≤ length bytes → cells (λ r. slice_index r 0) 1 n bytes ≡ take n bytes
unfolding cells
cells-bytes zero bytes h = refl
cells-bytes (suc n) [] h = absurd (omega (arith, h))
cells-bytes (suc n) (x ∷ bytes) h = ap (λ r. x ∷ r) (cells-bytes n bytes (omega (arith, h)))

pub column_of_booleans : (number : ℕ → List ℕ → ℕ) (n : ℕ) (bytes : List ℕ) → map (λ x. a.Boolean x) (cells boolean_of 1 n bytes) ≡ cells (element_by number k.Boolean) 1 n bytes
column_of_booleans number n bytes = map-cells (λ x. a.Boolean x) boolean_of 1 n bytes

pub column_of_bytes : (number : ℕ → List ℕ → ℕ) (kind : ByteKind) (n : ℕ) (bytes : List ℕ) → n ≤ length bytes → map (byte_atom kind) (take n bytes) ≡ cells (element_by number (byte_kind kind)) (width (byte_kind kind)) n bytes
column_of_bytes number b.Byte n bytes h = ap (map (byte_atom b.Byte)) (sym (cells-bytes n bytes h)) ∙ map-cells (byte_atom b.Byte) (λ r. slice_index r 0) 1 n bytes
column_of_bytes number b.Character n bytes h = ap (map (byte_atom b.Character)) (sym (cells-bytes n bytes h)) ∙ map-cells (byte_atom b.Character) (λ r. slice_index r 0) 1 n bytes

pub column_of_shorts : (number : ℕ → List ℕ → ℕ) (n : ℕ) (bytes : List ℕ) → map (λ x. a.Short x) (cells (short_of number) 2 n bytes) ≡ cells (element_by number k.Short) 2 n bytes
column_of_shorts number n bytes = map-cells (λ x. a.Short x) (short_of number) 2 n bytes

pub column_of_integers : (number : ℕ → List ℕ → ℕ) (kind : IntegerKind) (n : ℕ) (bytes : List ℕ) → map (integer_atom kind) (cells (integer_of number) 4 n bytes) ≡ cells (element_by number (integer_kind kind)) (width (integer_kind kind)) n bytes
column_of_integers number i.Integer n bytes = map-cells (integer_atom i.Integer) (integer_of number) 4 n bytes
column_of_integers number i.Month n bytes = map-cells (integer_atom i.Month) (integer_of number) 4 n bytes
column_of_integers number i.Date n bytes = map-cells (integer_atom i.Date) (integer_of number) 4 n bytes
column_of_integers number i.Minute n bytes = map-cells (integer_atom i.Minute) (integer_of number) 4 n bytes
column_of_integers number i.Second n bytes = map-cells (integer_atom i.Second) (integer_of number) 4 n bytes
column_of_integers number i.Time n bytes = map-cells (integer_atom i.Time) (integer_of number) 4 n bytes

pub column_of_longs : (number : ℕ → List ℕ → ℕ) (kind : LongKind) (n : ℕ) (bytes : List ℕ) → map (long_atom kind) (cells (long_of number) 8 n bytes) ≡ cells (element_by number (long_kind kind)) (width (long_kind kind)) n bytes
column_of_longs number l.Long n bytes = map-cells (long_atom l.Long) (long_of number) 8 n bytes
column_of_longs number l.Timestamp n bytes = map-cells (long_atom l.Timestamp) (long_of number) 8 n bytes
column_of_longs number l.Timespan n bytes = map-cells (long_atom l.Timespan) (long_of number) 8 n bytes

pub ruleset columns = (column_of_booleans, column_of_bytes, column_of_shorts, column_of_integers, column_of_longs)

-- the truth value in a cell of one byte
pub boolean_at : (i : ℕ) (bytes : List ℕ) → boolean_of (drop (1 * i) bytes) ≡ not (get_or bytes i 0 == 0)
boolean_at i bytes =
    let one : 1 * i ≡ i = omega arith in
    let start : i + 0 ≡ i = omega arith in
    rw (one, get_or-drop i bytes 0 0, start) refl
