-- Vectors in their canonical encoding: what is read is what was written, byte for byte.
use Rattle.std.proofs.Common.{◌≡◌, ℕ, ℤ, zero, suc, ◌-◌, ◌<◌, ◌≤◌, ◌^◌, Bool, true, false, List, [], ◌∷◌, ◌++◌, length, get_or, take, drop, Result, Ok, Err, Some, None, refl, sym, ap, subst, ◌∙◌, arith, All, Fits, w8}
use Rattle.std.specs.Prelude.{nat_le, slice_get, slice_index, if◌then◌else◌}
use Rattle.std.specs.List.{AllByRecursion, flat_map, list_all}
use Rattle.std.specs.Int.{w16, w32, w64, cast_unsigned}
use Rattle.std.proofs.lemmas.Bool.{leb-true}
use Rattle.std.proofs.lemmas.Int.{of_z-to_z}
use Rattle.std.proofs.lemmas.Nat.{le_bytes_2, le_bytes_4, le_bytes_8}
use Rattle.std.proofs.lemmas.List.{take_at, drop_at, length-append, append_cancel_left}
use Rattle.std.proofs.lemmas.List.Elements.{All-head, All-tail}
use Rattle.byteorder.specs.Endian.{little_bytes, little_number}
use Rattle.q_values.specs.Atom.{kind_of}
use Rattle.q_values.specs.Contents.{Contents}
use Rattle.q_values.specs.Kind.{kind_at, type_number}
use Rattle.q_values.specs.Tree.{vector}
use Rattle.q_values.specs.declared.atom.Atom.{Atom}
use Rattle.q_values.specs.declared.atom.Atom.TheVariants as a
use Rattle.q_values.specs.declared.kind.Kind.{Kind}
use Rattle.q_values.specs.declared.kind.Kind.TheVariants as k
use Rattle.ipc_codec.specs.declared.fault.Fault.{Fault}
use Rattle.ipc_codec.specs.declared.fault.Stop.{Stop}
use Rattle.ipc_codec.specs.declared.fault.Stop.TheVariants as s
use Rattle.ipc_codec.specs.declared.vectors.VectorFault.{VectorFault}
use Rattle.ipc_codec.specs.declared.vectors.VectorFault.TheVariants.{NotCanonical, NoMemory}
use Rattle.ipc_codec.specs.declared.order.Order.TheVariants as o
use Rattle.ipc_codec.specs.Canonical.{IsWritable, BeginsWith, BeginsWithNone, IfNotCanonical, is_boolean, fault_of}
use Rattle.ipc_codec.specs.Numbers.{boolean_of, short_of, integer_of, long_of, number}
use Rattle.ipc_codec.specs.Reading.{Stops, vector_at}
use Rattle.ipc_codec.specs.Written.{element_bytes, vector_bytes, written, AtomFits}
use Rattle.ipc_codec.specs.Spells.{InTurn, SpellsElement, SpellsElementOf, SpellsVector, Spells}
use Rattle.ipc_codec.proofs.ElementLemmas.{vector_took}
use Rattle.ipc_codec.proofs.LawLemmas.{no_spelling_begins}
use Rattle.ipc_codec.proofs.PlainLemmas.{spelled-fit}
use Rattle.ipc_codec.proofs.SpelledLemmas.{kind_at-number, vector_again}
use Rattle.ipc_codec.proofs.SpellsLemmas.{and_both}
use Rattle.ipc_codec.proofs.TypeLemmas.{KindCase, kind_is}
use Rattle.ipc_codec.proofs.WrittenLemmas.{written_spelled}

-- ---- bytes

abbrev pub AreBytes : List ℕ → Type 0
AreBytes bytes = AllByRecursion (λ (b : ℕ). b < 256) bytes

abbrev pub AreBits : List ℕ → Type 0
AreBits bytes = AllByRecursion (λ (b : ℕ). b ≤ 1) bytes

pub AreBytes-from_each : (bytes : List ℕ) → ((i : ℕ) → Fits w8 (get_or bytes i 0)) → AreBytes bytes
AreBytes-from_each [] fits = tt
AreBytes-from_each (b ∷ bytes) fits = (omega (arith, fits 0), AreBytes-from_each bytes (λ i. fits (suc i)))

each_byte : (bytes : List ℕ) → AreBytes bytes → (i : ℕ) → get_or bytes i 0 < 256
each_byte [] h i = omega arith
each_byte (b ∷ bytes) h zero = h.0
each_byte (b ∷ bytes) h (suc i) = each_byte bytes h.1 i

front_all : {X : Type 0} (P : X → Type 0) (xs ys : List X) → AllByRecursion P (xs ++ ys) → AllByRecursion P xs
front_all P [] ys h = tt
front_all P (x ∷ xs) ys h = (h.0, front_all P xs ys h.1)

back_all : {X : Type 0} (P : X → Type 0) (xs ys : List X) → AllByRecursion P (xs ++ ys) → AllByRecursion P ys
back_all P [] ys h = h
back_all P (x ∷ xs) ys h = back_all P xs ys h.1

AreBits-from_test : (bytes : List ℕ) → list_all (λ b. nat_le b 1) bytes ≡ true → AreBits bytes
AreBits-from_test [] h = tt
AreBits-from_test (b ∷ bytes) h =
    let both = and_both (nat_le b 1) (list_all (λ b. nat_le b 1) bytes) h in
    (leb-true b 1 both.0, AreBits-from_test bytes both.1)

-- ---- elements

boolean_bytes : (x : Bool) (bytes : List ℕ) → length bytes ≡ 1 → boolean_of bytes ≡ x → AreBits bytes → (if x then 1 else 0) ∷ [] ≡ bytes
boolean_bytes x [] len e h = absurd (omega (arith, len))
boolean_bytes true (zero ∷ []) len e h = absurd cc
boolean_bytes false (zero ∷ []) len e h = refl
boolean_bytes true (suc zero ∷ []) len e h = refl
boolean_bytes false (suc zero ∷ []) len e h = absurd cc
boolean_bytes x (suc (suc b) ∷ []) len e h = absurd (omega (arith, h.0))
boolean_bytes x (b ∷ c ∷ bytes) len e h = absurd (omega (arith, len))

byte_bytes : (x : ℕ) (bytes : List ℕ) → length bytes ≡ 1 → slice_index bytes 0 ≡ x → x ∷ [] ≡ bytes
byte_bytes x [] len e = absurd (omega (arith, len))
byte_bytes x (b ∷ []) len e = ap (λ (n : ℕ). n ∷ []) (sym e)
byte_bytes x (b ∷ c ∷ bytes) len e = absurd (omega (arith, len))

short_bytes : (x : ℤ) (bytes : List ℕ) → length bytes ≡ 2 → short_of (number o.Little) bytes ≡ x → AreBytes bytes → little_bytes 2 (cast_unsigned w16 x) ≡ bytes
short_bytes x bytes len e h =
    let low : little_number 2 bytes < 2 ^ 16 = omega (arith, each_byte bytes h 0, each_byte bytes h 1) in
    let same : cast_unsigned w16 x ≡ little_number 2 bytes = ap (cast_unsigned w16) (sym e) ∙ of_z-to_z w16 (little_number 2 bytes) low in
    le_bytes_2 bytes (cast_unsigned w16 x) len (each_byte bytes h) (omega (arith, same))

four_bytes : (n : ℕ) (bytes : List ℕ) → length bytes ≡ 4 → little_number 4 bytes ≡ n → AreBytes bytes → little_bytes 4 n ≡ bytes
four_bytes n bytes len e h = le_bytes_4 bytes n len (each_byte bytes h) (omega (arith, e))

integer_bytes : (x : ℤ) (bytes : List ℕ) → length bytes ≡ 4 → integer_of (number o.Little) bytes ≡ x → AreBytes bytes → little_bytes 4 (cast_unsigned w32 x) ≡ bytes
integer_bytes x bytes len e h =
    let low : little_number 4 bytes < 2 ^ 32 = omega (arith, each_byte bytes h 0, each_byte bytes h 1, each_byte bytes h 2, each_byte bytes h 3) in
    let same : cast_unsigned w32 x ≡ little_number 4 bytes = ap (cast_unsigned w32) (sym e) ∙ of_z-to_z w32 (little_number 4 bytes) low in
    four_bytes (cast_unsigned w32 x) bytes len (sym same) h

pub eight_bytes : (n : ℕ) (bytes : List ℕ) → length bytes ≡ 8 → little_number 8 bytes ≡ n → AreBytes bytes → little_bytes 8 n ≡ bytes
eight_bytes n bytes len e h = le_bytes_8 bytes n len (each_byte bytes h) (omega (arith, e))

long_bytes : (x : ℤ) (bytes : List ℕ) → length bytes ≡ 8 → long_of (number o.Little) bytes ≡ x → AreBytes bytes → little_bytes 8 (cast_unsigned w64 x) ≡ bytes
long_bytes x bytes len e h =
    let low : little_number 8 bytes < 2 ^ 64 =
    omega (arith, each_byte bytes h 0, each_byte bytes h 1, each_byte bytes h 2, each_byte bytes h 3, each_byte bytes h 4, each_byte bytes h 5, each_byte bytes h 6, each_byte bytes h 7) in
    let same : cast_unsigned w64 x ≡ little_number 8 bytes = ap (cast_unsigned w64) (sym e) ∙ of_z-to_z w64 (little_number 8 bytes) low in
    eight_bytes (cast_unsigned w64 x) bytes len (sym same) h

atom_bytes : (x : Atom) (bytes : List ℕ) → SpellsElement o.Little bytes x → AreBytes bytes → (kind_of x ≡ k.Boolean → AreBits bytes) → element_bytes x ≡ bytes
atom_bytes (a.Boolean x) bytes s h bits = let e : boolean_of bytes ≡ x = cc s.1 in boolean_bytes x bytes s.0 e (bits refl)
atom_bytes (a.Byte x) bytes s h bits = let e : slice_index bytes 0 ≡ x = cc s.1 in byte_bytes x bytes s.0 e
atom_bytes (a.Short x) bytes s h bits = let e : short_of (number o.Little) bytes ≡ x = cc s.1 in short_bytes x bytes s.0 e h
atom_bytes (a.Integer x) bytes s h bits = let e : integer_of (number o.Little) bytes ≡ x = cc s.1 in integer_bytes x bytes s.0 e h
atom_bytes (a.Long x) bytes s h bits = let e : long_of (number o.Little) bytes ≡ x = cc s.1 in long_bytes x bytes s.0 e h
atom_bytes (a.Character x) bytes s h bits = let e : slice_index bytes 0 ≡ x = cc s.1 in byte_bytes x bytes s.0 e
atom_bytes (a.Symbol text) bytes s h bits = sym s.ended
atom_bytes (a.Timestamp x) bytes s h bits = let e : long_of (number o.Little) bytes ≡ x = cc s.1 in long_bytes x bytes s.0 e h
atom_bytes (a.Month x) bytes s h bits = let e : integer_of (number o.Little) bytes ≡ x = cc s.1 in integer_bytes x bytes s.0 e h
atom_bytes (a.Date x) bytes s h bits = let e : integer_of (number o.Little) bytes ≡ x = cc s.1 in integer_bytes x bytes s.0 e h
atom_bytes (a.Timespan x) bytes s h bits = let e : long_of (number o.Little) bytes ≡ x = cc s.1 in long_bytes x bytes s.0 e h
atom_bytes (a.Minute x) bytes s h bits = let e : integer_of (number o.Little) bytes ≡ x = cc s.1 in integer_bytes x bytes s.0 e h
atom_bytes (a.Second x) bytes s h bits = let e : integer_of (number o.Little) bytes ≡ x = cc s.1 in integer_bytes x bytes s.0 e h
atom_bytes (a.Time x) bytes s h bits = let e : integer_of (number o.Little) bytes ≡ x = cc s.1 in integer_bytes x bytes s.0 e h

-- ---- vectors

atoms_bytes : (kind : Kind) (xs : List Atom) (bytes : List ℕ) → InTurn (SpellsElementOf o.Little kind) bytes xs → AreBytes bytes → (kind ≡ k.Boolean → AreBits bytes) → flat_map element_bytes xs ≡ bytes
atoms_bytes kind [] bytes s h bits = sym s
atoms_bytes kind (x ∷ xs) bytes s h bits =
    let all = subst AreBytes s.2 h in
    let own : element_bytes x ≡ s.0 =
    atom_bytes x s.0 s.3.spelled (front_all (λ (b : ℕ). b < 256) s.0 s.1 all)
    (λ e. front_all (λ (b : ℕ). b ≤ 1) s.0 s.1 (subst AreBits s.2 (bits (sym s.3.of_kind ∙ e)))) in
    let others : flat_map element_bytes xs ≡ s.1 =
    atoms_bytes kind xs s.1 s.4 (back_all (λ (b : ℕ). b < 256) s.0 s.1 all)
    (λ e. back_all (λ (b : ℕ). b ≤ 1) s.0 s.1 (subst AreBits s.2 (bits e))) in
    ap (λ (r : List ℕ). r ++ flat_map element_bytes xs) own ∙ ap (λ (r : List ℕ). s.0 ++ r) others ∙ sym s.2

module _ (v : Contents) (bytes : List ℕ) (s : SpellsVector o.Little bytes v) where
  canonical : s.attribute ≡ 0 → AreBytes bytes → (v.kind ≡ k.Boolean → AreBits s.body) → bytes ≡ written (vector v)
  unfolding written vector_bytes
  canonical none h bits =
      let all : AreBytes (s.count ++ s.body) = (subst AreBytes s.parts h).1.1 in
      let count : s.count ≡ little_bytes 4 (length v.atoms) =
      sym (four_bytes (length v.atoms) s.count s.counted.four s.counted.value (front_all (λ (b : ℕ). b < 256) s.count s.body all)) in
      let body : s.body ≡ flat_map element_bytes v.atoms =
      sym (atoms_bytes v.kind v.atoms s.body s.elements (back_all (λ (b : ℕ). b < 256) s.count s.body all) bits) in
      s.parts ∙ ap (λ (n : ℕ). type_number v.kind ∷ n ∷ s.count ++ s.body) none ∙ ap (λ (r : List ℕ). type_number v.kind ∷ 0 ∷ r ++ s.body) count
      ∙ ap (λ (r : List ℕ). type_number v.kind ∷ 0 ∷ little_bytes 4 (length v.atoms) ++ r) body

same_kind : (x y : Kind) → type_number x ≡ type_number y → x ≡ y
same_kind x y e = let s : Some x ≡ Some y = sym (kind_at-number x) ∙ ap kind_at e ∙ kind_at-number y in cc

same_vector : (v w : Contents) → vector v ≡ vector w → v ≡ w
same_vector v w e = cc

spelled_of : (v : Contents) → IsWritable v → Spells o.Little (written (vector v)) (vector v)
spelled_of v h = (written_spelled (vector v) (record { nested = omega arith; fits = h.few }) h.fits).0

-- the bytes begin with one vector at most
pub begins_once : (bytes : List ℕ) (v w : Contents) (r s : List ℕ) → BeginsWith bytes v r → BeginsWith bytes w s → (v ≡ w) × (r ≡ s)
begins_once bytes v w r s h i =
    let both : written (vector v) ++ r ≡ written (vector w) ++ s = sym h.split ∙ i.split in
    let one = no_spelling_begins o.Little (written (vector v)) (written (vector w)) r s (vector v) (vector w) (spelled_of v h.writable) (spelled_of w i.writable) both in
    (same_vector v w one.1, append_cancel_left (written (vector v)) r s (both ∙ ap (λ (b : List ℕ). b ++ s) (sym one.0)))

-- where a vector begins the bytes, it is read
pub begun_reads : (kind : Kind) (bytes body : List ℕ) (v : Contents) (rest : List ℕ) → bytes ≡ type_number kind ∷ body → BeginsWith bytes v rest
    → (kind ≡ v.kind) × (vector_at o.Little kind body ≡ Ok (v, rest))
begun_reads kind bytes body v rest front h =
    let s : SpellsVector o.Little (written (vector v)) v = (spelled_of v h.writable).object in
    let both : type_number kind ∷ body ≡ type_number v.kind ∷ s.attribute ∷ (s.count ++ s.body) ++ rest = sym front ∙ h.split ∙ ap (λ (b : List ℕ). b ++ rest) s.parts in
    let numbers : type_number kind ≡ type_number v.kind = cc in
    let bodies : body ≡ s.attribute ∷ (s.count ++ s.body) ++ rest = cc in
    let kinds = same_kind kind v.kind numbers in
    (kinds, ap (λ (own : Kind). vector_at o.Little own body) kinds ∙ ap (vector_at o.Little v.kind) bodies ∙ vector_again o.Little s.attribute s.count s.body rest v s.counted s.elements)

-- the bytes of the elements lie between the count and the rest
middle : (attribute : ℕ) (count elements rest body : List ℕ) → length count ≡ 4 → body ≡ attribute ∷ (count ++ elements) ++ rest
    → drop 5 (take (length body - length rest) body) ≡ elements
middle attribute count elements rest body four e =
    let whole : body ≡ (attribute ∷ count ++ elements) ++ rest = e in
    let len : length body - length rest ≡ length (attribute ∷ count ++ elements) = omega (arith, ap length whole, length-append (attribute ∷ count ++ elements) rest) in
    ap (λ (b : List ℕ). drop 5 (take (length body - length rest) b)) whole ∙ ap (drop 5) (take_at (attribute ∷ count ++ elements) rest (length body - length rest) (sym len))
    ∙ drop_at (attribute ∷ count) elements 5 (omega (arith, four))

-- what was read begins the bytes
pub found_begins : (kind : Kind) (bytes body : List ℕ) (v : Contents) (rest : List ℕ) → bytes ≡ type_number kind ∷ body → slice_get body 0 ≡ Some 0
    → vector_at o.Little kind body ≡ Ok (v, rest) → AreBytes bytes
    → (kind ≡ k.Boolean → list_all (λ b. nat_le b 1) (drop 5 (take (length body - length rest) body)) ≡ true) → BeginsWith bytes v rest
found_begins kind bytes body v rest front zero_first read range bits =
    let took = vector_took o.Little kind body (v, rest) read in
    let s = took.spelled in
    let both : type_number kind ∷ body ≡ type_number v.kind ∷ s.attribute ∷ (s.count ++ s.body) ++ rest = took.parts ∙ ap (λ (b : List ℕ). b ++ rest) s.parts in
    let numbers : type_number kind ≡ type_number v.kind = cc in
    let bodies : body ≡ s.attribute ∷ (s.count ++ s.body) ++ rest = cc in
    let kinds = same_kind kind v.kind numbers in
    let attribute : Some s.attribute ≡ Some 0 = ap (λ (b : List ℕ). slice_get b 0) (sym bodies) ∙ zero_first in
    let none : s.attribute ≡ 0 = cc in
    let all : AreBytes (took.front ++ rest) = subst AreBytes (front ∙ took.parts) range in
    let spelled : Spells o.Little took.front (vector v) = record { object = s; nested = omega arith } in
    record {
      split = front ∙ took.parts ∙ ap (λ (b : List ℕ). b ++ rest) (
          canonical v took.front s none (front_all (λ (b : ℕ). b < 256) took.front rest all)
          (λ e. AreBits-from_test s.body (ap (list_all (λ b. nat_le b 1)) (sym (middle s.attribute s.count s.body rest body s.counted.four bodies)) ∙ bits (kinds ∙ e)))
          );
      writable = record { few = s.counted.within; fits = spelled-fit spelled };
    }

boolean_atoms : (xs : List Atom) → All (λ x. (kind_of x ≡ k.Boolean) × AtomFits x) xs → list_all (λ b. nat_le b 1) (flat_map element_bytes xs) ≡ true
boolean_atoms [] h = refl
boolean_atoms (x ∷ xs) h =
    by_atom x (All-head (λ (y : Atom). (kind_of y ≡ k.Boolean) × AtomFits y) x xs h).0 (boolean_atoms xs (All-tail (λ (y : Atom). (kind_of y ≡ k.Boolean) × AtomFits y) x xs h))
  where
    by_atom : (x : Atom) → kind_of x ≡ k.Boolean → list_all (λ b. nat_le b 1) (flat_map element_bytes xs) ≡ true
        → list_all (λ b. nat_le b 1) (element_bytes x ++ flat_map element_bytes xs) ≡ true
    by_atom (a.Boolean true) e others = others
    by_atom (a.Boolean false) e others = others
    by_atom _ e others = absurd cc

-- of a boolean vector that begins the bytes each byte is 0 or 1
pub begun_bits : (bytes body : List ℕ) (v : Contents) (rest : List ℕ) → bytes ≡ type_number k.Boolean ∷ body → BeginsWith bytes v rest
    → list_all (λ b. nat_le b 1) (drop 5 (take (length body - length rest) body)) ≡ true
unfolding written vector_bytes
begun_bits bytes body v rest front h =
    let kinds = (begun_reads k.Boolean bytes body v rest front h).0 in
    let both : type_number k.Boolean ∷ body ≡ type_number v.kind ∷ 0 ∷ (little_bytes 4 (length v.atoms) ++ flat_map element_bytes v.atoms) ++ rest = sym front ∙ h.split in
    let bodies : body ≡ 0 ∷ (little_bytes 4 (length v.atoms) ++ flat_map element_bytes v.atoms) ++ rest = cc in
    ap (list_all (λ b. nat_le b 1)) (middle 0 (little_bytes 4 (length v.atoms)) (flat_map element_bytes v.atoms) rest body refl bodies)
    ∙ boolean_atoms v.atoms (subst (λ (own : Kind). All (λ (x : Atom). (kind_of x ≡ own) × AtomFits x) v.atoms) (sym kinds) h.writable.fits)

-- ---- the first bytes

pub no_kind : (bytes : List ℕ) → kind_at (get_or bytes 0 0) ≡ None → BeginsWithNone bytes
unfolding written vector_bytes
no_kind bytes none v rest h =
    let kinds : None ≡ Some v.kind = sym none ∙ ap (λ (b : List ℕ). kind_at (get_or b 0 0)) h.split ∙ kind_at-number v.kind in
    absurd cc

-- a vector that begins bytes has a second byte, a 0
pub too_short : (bytes : List ℕ) → length bytes < 2 → BeginsWithNone bytes
unfolding written vector_bytes
too_short bytes short v rest h = omega (arith, short, ap length h.split)

pub with_attribute : (bytes : List ℕ) → (get_or bytes 1 0 ≡ 0 → ⊥) → BeginsWithNone bytes
unfolding written vector_bytes
with_attribute bytes some v rest h = some (ap (λ (b : List ℕ). get_or b 1 0) h.split)

-- the type byte and the bytes after it
pub front_of : (bytes : List ℕ) (kind : Kind) → 2 ≤ length bytes → get_or bytes 1 0 ≡ 0 → kind_at (get_or bytes 0 0) ≡ Some kind
    → (bytes ≡ type_number kind ∷ drop 1 bytes) × (slice_get (drop 1 bytes) 0 ≡ Some 0)
front_of [] kind long none e = absurd (omega (arith, long))
front_of (b ∷ []) kind long none e = absurd (omega (arith, long))
front_of (b ∷ c ∷ bytes) kind long none e =
    (ap (λ (n : ℕ). n ∷ c ∷ bytes) (subst (KindCase b) e (kind_is b)), ap (λ (n : ℕ). Some n) none)

pub boolean_kind : (kind : Kind) → is_boolean kind ≡ true → kind ≡ k.Boolean
boolean_kind k.Boolean e = refl
boolean_kind _ e = absurd cc

pub not_boolean : (kind : Kind) → is_boolean kind ≡ false → kind ≡ k.Boolean → ⊥
not_boolean kind e same = let other : is_boolean kind ≡ true = ap is_boolean same in absurd cc

abbrev ended : Fault → Result (Contents × List ℕ) Fault
ended e = Err e

abbrev pub done_with : Contents → List ℕ → Result (Contents × List ℕ) Fault
done_with v rest = Ok (v, rest)

-- bytes that no vector is read from begin with none
pub stop_refuses : {T : Type 0} (r : Result T VectorFault) (x : VectorFault) (kind : Kind) (bytes body : List ℕ) (stop : Stop) → r ≡ Err x → x ≡ fault_of stop
    → bytes ≡ type_number kind ∷ body → Stops stop (vector_at o.Little kind body) → IfNotCanonical r (BeginsWithNone bytes)
stop_refuses {T} r x kind bytes body s.Memory e f front stops =
    let all : r ≡ Err NoMemory = cc in
    rw all tt
stop_refuses {T} r x kind bytes body (s.At fault) e f front stops =
    let all : r ≡ Err NotCanonical = cc in
    rw all (λ v rest h. let read : ended fault ≡ done_with v rest = sym stops ∙ (begun_reads kind bytes body v rest front h).1 in absurd cc)

pub same_rest : (v w : Contents) (r s : List ℕ) → done_with v r ≡ done_with w s → r ≡ s
same_rest v w r s e = ap (λ (p : Contents × List ℕ). p.1) (same_pair (v, r) (w, s) e)
  where
    same_pair : (p q : Contents × List ℕ) → done_with p.0 p.1 ≡ done_with q.0 q.1 → p ≡ q
    same_pair p q e = cc
