-- Numbers and the other elements of a fixed width, in either byte order.
use Rattle.std.specs.Prelude.{ℕ, ℤ, zero, suc, List, [], ◌∷◌, slice_index, drop, Bool, not, ◌==◌}
use Rattle.std.specs.Int.{w16, w32, w64, cast_signed}
use Rattle.byteorder.specs.Endian.{little_number, big_number}
use Rattle.q_values.specs.declared.atom.Atom.{Atom}
use Rattle.q_values.specs.declared.atom.Atom.TheVariants as a
use Rattle.q_values.specs.declared.kind.Kind.{Kind}
use Rattle.q_values.specs.declared.kind.Storage.{Storage}
use Rattle.q_values.specs.declared.kind.Storage.TheVariants as st
use Rattle.q_values.specs.Column.{byte_atom, integer_atom, long_atom}
use Rattle.q_values.specs.Kind.{storage_of}
use Rattle.ipc_codec.specs.declared.order.Order.{Order}
use Rattle.ipc_codec.specs.declared.order.Order.TheVariants as o

-- the number in the first n bytes
abbrev pub number : Order → ℕ → List ℕ → ℕ
number o.Little n bytes = little_number n bytes
number o.Big n bytes = big_number n bytes

-- signed numbers, in two's complement
abbrev pub short_of : (ℕ → List ℕ → ℕ) → List ℕ → ℤ
short_of number bytes = cast_signed w16 (number 2 bytes)

abbrev pub integer_of : (ℕ → List ℕ → ℕ) → List ℕ → ℤ
integer_of number bytes = cast_signed w32 (number 4 bytes)

abbrev pub long_of : (ℕ → List ℕ → ℕ) → List ℕ → ℤ
long_of number bytes = cast_signed w64 (number 8 bytes)

-- a byte other than 0 is true
abbrev pub boolean_of : List ℕ → Bool
boolean_of bytes = not (slice_index bytes 0 == 0)

-- the element at the front, of what is stored so, where `number` reads the number in the first n bytes
abbrev pub stored_element : (ℕ → List ℕ → ℕ) → Storage → List ℕ → Atom
stored_element number st.Boolean bytes = a.Boolean (boolean_of bytes)
stored_element number (st.Byte kind) bytes = byte_atom kind (slice_index bytes 0)
stored_element number st.Short bytes = a.Short (short_of number bytes)
stored_element number (st.Integer kind) bytes = integer_atom kind (integer_of number bytes)
stored_element number (st.Long kind) bytes = long_atom kind (long_of number bytes)
stored_element number st.Symbol bytes = a.Symbol []

-- the element at the front, of a kind of fixed width
abbrev pub element_by : (ℕ → List ℕ → ℕ) → Kind → List ℕ → Atom
element_by number kind = stored_element number (storage_of kind)

-- the same in a byte order
abbrev pub element : Order → Kind → List ℕ → Atom
element order = element_by (number order)

-- what f reads from each of n consecutive cells of w bytes
unfoldable pub cells : {X : Type 0} → (List ℕ → X) → ℕ → ℕ → List ℕ → List X
cells f w zero bytes = []
cells f w (suc n) bytes = f bytes ∷ cells f w n (drop w bytes)
