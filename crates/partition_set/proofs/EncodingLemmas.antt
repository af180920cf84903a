-- The payloads of records.
use Rattle.std.proofs.Common.{◌≡◌, ◌≢◌, ℕ, zero, suc, ◌+◌, ◌*◌, ◌<◌, ◌≤◌, ◌≤ℤ◌, pos, negsuc, ◌^◌, ◌++◌, List, [], ◌∷◌, ℤ, take, drop, length, get_or, map, Result, Ok, Err, refl, sym, ap, ap₂, ◌∙◌, subst, arith, rules, true, All}
use Rattle.std.specs.List.{AllByRecursion, flat_map}
use Rattle.std.specs.Int.{w32, w64, to_le_bytes, from_le_bytes, cast_unsigned, cast_signed}
use Rattle.std.proofs.Math.Seq.{drop-append_seam, take-append_seam}
use Rattle.std.proofs.lemmas.Nat.{from_le_bytes-to_le_bytes_4, from_le_bytes-to_le_bytes_8, le_bytes_4, le_bytes_8}
use Rattle.std.proofs.lemmas.Int.{to_z-of_z, of_z-to_z}
use Rattle.std.proofs.lemmas.List.{length-append, length-map, take_all, length-take, length-drop, get_or-drop, take-append-drop}
use Rattle.std.proofs.lemmas.List.Elements.{All-nil, All-cons}
use mir.Val.{SFits}
use Rattle.std.proofs.Math.Facts.{Fits-of_z}
use Rattle.q_values.specs.Bytes.{HasNoNul}
use Rattle.q_values.specs.Contents.{Contents}
use Rattle.q_values.specs.Kind.{type_number}
use Rattle.q_values.specs.Atom.{kind_of}
use Rattle.q_values.specs.declared.atom.Atom.{Atom}
use Rattle.q_values.specs.declared.atom.Atom.TheVariants as a
use Rattle.q_values.specs.declared.kind.Kind.{Kind}
use Rattle.q_values.specs.declared.kind.Kind.TheVariants as k
use Rattle.ipc_codec.specs.Written.{written, vector_bytes, element_bytes, IsPlain, AtomsFit, AtomFits, VectorFits}
use Rattle.q_values.specs.Tree.{Tree, identity}
use Rattle.q_values.specs.declared.value.Value.{Value}
use Rattle.ipc_codec.specs.Laws.{WrittenSpells}
use Rattle.ipc_codec.specs.Spells.{Spells}
use Rattle.ipc_codec.specs.Decoded.{Reads}
use Rattle.ipc_codec.specs.Reading.{object_of}
use Rattle.ipc_codec.specs.declared.order.Order.TheVariants as o
use Rattle.ipc_codec.specs.declared.refusal.DecodeRefusal.{DecodeRefusal}
use Rattle.day_rows.specs.Schema.{IsShape, IsName, IsWord, is_word, is_letter}
use Rattle.day_rows.specs.declared.schema.Shape.{Shape}
use Rattle.partition_set.specs.Records.{symbols, types, shape_parts, shape_tree, payload_of, IsRecord}
use Rattle.partition_set.specs.declared.record.ManifestRecord.{ManifestRecord}
use Rattle.partition_set.specs.declared.record.ManifestRecord.TheVariants as m
use Rattle.partition_set.proofs.TableLemmas.{names-same, kinds-same, items-same, shapes-same}

-- ---- what an opened date's payload gives back

pub fits : (date : ℤ) → negsuc 106751 ≤ℤ date → date ≤ℤ pos 106751 → SFits w32 date
fits date low high = search rules

pub opened-by : (bytes : List ℕ) (by : ℕ) (date : ℤ) → IsRecord (m.Opened by date) → bytes ≡ to_le_bytes w64 by ++ to_le_bytes w32 (cast_unsigned w32 date) → by ≡ from_le_bytes w64 (take 8 bytes)
opened-by bytes by date is same =
    sym (ap (λ b. from_le_bytes w64 (take 8 b)) same ∙ ap (from_le_bytes w64) (take-append_seam (to_le_bytes w64 by) (to_le_bytes w32 (cast_unsigned w32 date))) ∙ from_le_bytes-to_le_bytes_8 by (omega (arith, is.0)))

pub opened-date : (bytes : List ℕ) (by : ℕ) (date : ℤ) → IsRecord (m.Opened by date) → bytes ≡ to_le_bytes w64 by ++ to_le_bytes w32 (cast_unsigned w32 date) → date ≡ cast_signed w32 (from_le_bytes w32 (drop 8 bytes))
opened-date bytes by date is same =
    let own : SFits w32 date = fits date is.1 is.2 in
    sym
    (ap (λ b. cast_signed w32 (from_le_bytes w32 (drop 8 b))) same
    ∙ ap (λ b. cast_signed w32 (from_le_bytes w32 b)) (drop-append_seam (to_le_bytes w64 by) (to_le_bytes w32 (cast_unsigned w32 date)))
    ∙ ap (cast_signed w32) (from_le_bytes-to_le_bytes_4 (cast_unsigned w32 date) (omega (arith, Fits-of_z own)))
    ∙ to_z-of_z w32 date own)

-- no date that may be opened has this payload
pub opened-none : (bytes : List ℕ) (b : ℕ) (d : ℤ) → b ≡ from_le_bytes w64 (take 8 bytes) → d ≡ cast_signed w32 (from_le_bytes w32 (drop 8 bytes)) → (IsRecord (m.Opened b d) → ⊥)
    → (by : ℕ) (date : ℤ) → IsRecord (m.Opened by date) → 2 ∷ bytes ≡ payload_of (m.Opened by date) → ⊥
opened-none bytes b d b-is d-is bad by date is same =
    let rest : bytes ≡ to_le_bytes w64 by ++ to_le_bytes w32 (cast_unsigned w32 date) = ap (drop 1) same in
    let one : by ≡ b = opened-by bytes by date is rest ∙ sym b-is in
    let two : date ≡ d = opened-date bytes by date is rest ∙ sym d-is in
    bad (subst (λ x. IsRecord (m.Opened x d)) one (subst (λ y. IsRecord (m.Opened by y)) two is))

word-small : (bytes : List ℕ) → ((i : ℕ) → get_or bytes i 0 < 256) → from_le_bytes w32 bytes < 2 ^ 32
word-small bytes small = omega (arith, small 0, small 1, small 2, small 3)

take-small : (n : ℕ) (bytes : List ℕ) → ((i : ℕ) → get_or bytes i 0 < 256) → (i : ℕ) → get_or (take n bytes) i 0 < 256
take-small zero [] small i = omega arith
take-small zero (x ∷ xs) small i = omega arith
take-small (suc n) [] small i = omega arith
take-small (suc n) (x ∷ xs) small zero = small 0
take-small (suc n) (x ∷ xs) small (suc i) = take-small n xs (λ j. small (suc j)) i

-- the payload of the date that was read
pub opened-read : (bytes : List ℕ) (b : ℕ) (d : ℤ) → length bytes ≡ 12 → ((i : ℕ) → get_or bytes i 0 < 256) → b ≡ from_le_bytes w64 (take 8 bytes) → d ≡ cast_signed w32 (from_le_bytes w32 (drop 8 bytes)) → 2 ∷ bytes ≡ payload_of (m.Opened b d)
opened-read bytes b d long small b-is d-is =
    let later : (i : ℕ) → get_or (drop 8 bytes) i 0 < 256 = λ i. subst (λ x. x < 256) (sym (get_or-drop 8 bytes i 0)) (small (8 + i)) in
    let front : to_le_bytes w64 b ≡ take 8 bytes = le_bytes_8 (take 8 bytes) b (omega (arith, length-take 8 bytes, long)) (take-small 8 bytes small) b-is in
    let back : to_le_bytes w32 (cast_unsigned w32 d) ≡ drop 8 bytes =
    ap (λ n. to_le_bytes w32 (cast_unsigned w32 n)) d-is ∙ ap (to_le_bytes w32) (of_z-to_z w32 (from_le_bytes w32 (drop 8 bytes)) (word-small (drop 8 bytes) later))
    ∙ le_bytes_4 (drop 8 bytes) (from_le_bytes w32 (drop 8 bytes)) (omega (arith, length-drop 8 bytes, long)) later refl in
    ap (λ l. 2 ∷ l) (sym (ap₂ (λ a b. a ++ b) front back ∙ take-append-drop 8 bytes))

-- a date that was read is within its width
pub date-kept : (bytes : List ℕ) (d : ℤ) → ((i : ℕ) → get_or bytes i 0 < 256) → d ≡ cast_signed w32 (from_le_bytes w32 (drop 8 bytes)) → cast_signed w32 (cast_unsigned w32 d) ≡ d
date-kept bytes d small d-is =
    let later : (i : ℕ) → get_or (drop 8 bytes) i 0 < 256 = λ i. subst (λ x. x < 256) (sym (get_or-drop 8 bytes i 0)) (small (8 + i)) in
    ap (λ z. cast_signed w32 (cast_unsigned w32 z)) d-is ∙ ap (cast_signed w32) (of_z-to_z w32 (from_le_bytes w32 (drop 8 bytes)) (word-small (drop 8 bytes) later)) ∙ sym d-is

-- ---- a table's value can be written

all_of : {X : Type 0} (P : X → Type 0) (xs : List X) → AllByRecursion P xs → All P xs
all_of P [] h = All-nil P
all_of P (x ∷ xs) h = All-cons P x xs h.0 (all_of P xs h.1)

all_mapped : {X Y : Type 0} (P : Y → Type 0) (f : X → Y) (xs : List X) → AllByRecursion (λ x. P (f x)) xs → AllByRecursion P (map f xs)
all_mapped P f [] h = tt
all_mapped P f (x ∷ xs) h = (h.0, all_mapped P f xs h.1)

all_turned : {X : Type 0} (P Q : X → Type 0) (xs : List X) → ((x : X) → P x → Q x) → AllByRecursion P xs → AllByRecursion Q xs
all_turned P Q [] turn h = tt
all_turned P Q (x ∷ xs) turn h = (turn x h.0, all_turned P Q xs turn h.1)

-- a word has no 0
not_nul : (b : ℕ) → is_word b ≡ true → 0 < b
not_nul zero h = cc
not_nul (suc b) h = omega arith

letter_word : (b : ℕ) → is_letter b ≡ true → is_word b ≡ true
letter_word b h = rw h refl

word-clean : (name : List ℕ) → IsWord name → HasNoNul name
word-clean [] h = absurd h
word-clean (b ∷ bs) h = all_of (λ c. 0 < c) (b ∷ bs) (not_nul b (letter_word b h.0), all_turned (λ c. is_word c ≡ true) (λ c. 0 < c) bs not_nul h.1)

symbols-fit : (names : List (List ℕ)) → AllByRecursion IsName names → VectorFits (symbols names)
symbols-fit names h = all_of (λ x. (kind_of x ≡ k.Symbol) × AtomFits x) (map a.Symbol names) (all_mapped (λ x. (kind_of x ≡ k.Symbol) × AtomFits x) a.Symbol names (all_turned IsName (λ n. (kind_of (a.Symbol n) ≡ k.Symbol) × AtomFits (a.Symbol n)) names (λ n is. (refl, word-clean n is.word)) h))

all_same : {X : Type 0} (P : X → Type 0) (xs : List X) → ((x : X) → P x) → AllByRecursion P xs
all_same P [] h = tt
all_same P (x ∷ xs) h = (h x, all_same P xs h)

types-fit : (kinds : List Kind) → VectorFits (types kinds)
types-fit kinds = all_of (λ x. (kind_of x ≡ k.Byte) × AtomFits x) (map a.Byte (map type_number kinds)) (all_mapped (λ x. (kind_of x ≡ k.Byte) × AtomFits x) a.Byte (map type_number kinds) (all_same (λ n. (kind_of (a.Byte n) ≡ k.Byte) × AtomFits (a.Byte n)) (map type_number kinds) (λ n. (refl, tt))))

pub shape-plain : (shape : Shape) → IsShape shape → IsPlain (shape_tree shape)
shape-plain shape is =
    let names = length-map shape.names a.Symbol in
    let kinds = length-map (map type_number shape.kinds) a.Byte in
    let kinds' = length-map shape.kinds type_number in
    record { nested = omega arith; fits = (omega arith, (tt, (omega (arith, names, is.few), (omega (arith, kinds, kinds', is.few, is.named), tt)))) }

pub shape-fits : (shape : Shape) → IsShape shape → AtomsFit (shape_tree shape)
shape-fits shape is = (word-clean shape.table is.table.word, (symbols-fit shape.names is.names, (types-fit shape.kinds, tt)))

-- ---- what a decoder says of a table's encoding

pub read-written : (bytes : List ℕ) (result : Result (Value × ℕ) DecodeRefusal) → WrittenSpells → ((t : Tree) (n : ℕ) → n ≤ length bytes → Spells o.Little (take n bytes) t → Reads t n result)
    → (shape : Shape) → IsShape shape → bytes ≡ written (shape_tree shape) → Reads (shape_tree shape) (length bytes) result
read-written bytes result law reads shape is same =
    let spelled = (law (shape_tree shape) (shape-plain shape is) (shape-fits shape is)).0 in
    let all : take (length bytes) bytes ≡ written (shape_tree shape) = take_all (length bytes) bytes (omega arith) ∙ same in
    reads (shape_tree shape) (length bytes) (omega arith) (subst (λ b. Spells o.Little b (shape_tree shape)) (sym all) spelled)

-- ---- how long a table's payload is

symbols-short : (names : List (List ℕ)) → AllByRecursion IsName names → length (flat_map element_bytes (map a.Symbol names)) ≤ 65 * length names
symbols-short [] h = omega arith
symbols-short (n ∷ names) h =
    let rest = symbols-short names h.1 in
    let one : length (n ++ 0 ∷ []) ≡ length n + 1 = length-append n (0 ∷ []) in
    omega (arith, rest, one, h.0.short, length-append (n ++ 0 ∷ []) (flat_map element_bytes (map a.Symbol names)))

bytes-short : (xs : List ℕ) → length (flat_map element_bytes (map a.Byte xs)) ≡ length xs
bytes-short [] = refl
bytes-short (x ∷ xs) = ap suc (bytes-short xs)

pub payload-short : (shape : Shape) → IsShape shape → length (payload_of (m.Shape shape)) ≤ 2147483647
unfolding written vector_bytes
payload-short shape is =
    let names = symbols-short shape.names is.names in
    let kinds = bytes-short (map type_number shape.kinds) in
    let kinds' = length-map shape.kinds type_number in
    let tail = vector_bytes (types shape.kinds) in
    omega (arith, names, kinds, kinds', is.few, is.named, is.table.short, length-append shape.table (0 ∷ []), length-append (vector_bytes (symbols shape.names)) (tail ++ []), length-append tail [], length-append (shape.table ++ 0 ∷ []) (vector_bytes (symbols shape.names) ++ (tail ++ [])))

-- ---- a payload is that of one record

abbrev tree_in : Result (Tree × ℕ) DecodeRefusal → Tree
tree_in (Ok x) = x.0
tree_in (Err e) = identity

tables-same : WrittenSpells → (s t : Shape) → IsShape s → IsShape t → written (shape_tree s) ≡ written (shape_tree t) → s ≡ t
tables-same law s t s-is t-is same =
    let one = (law (shape_tree s) (shape-plain s s-is) (shape-fits s s-is)).1 [] in
    let two = (law (shape_tree t) (shape-plain t t-is) (shape-fits t t-is)).1 [] in
    shapes-same s t (ap tree_in (sym one ∙ ap (λ b. object_of o.Little (b ++ [])) same ∙ two))

dates-same : (a b : ℕ) (d e : ℤ) → IsRecord (m.Opened a d) → IsRecord (m.Opened b e) → payload_of (m.Opened a d) ≡ payload_of (m.Opened b e) → m.Opened a d ≡ m.Opened b e
dates-same a b d e a-is b-is same =
    let bytes : List ℕ = to_le_bytes w64 a ++ to_le_bytes w32 (cast_unsigned w32 d) in
    let rest : bytes ≡ to_le_bytes w64 b ++ to_le_bytes w32 (cast_unsigned w32 e) = ap (drop 1) same in
    ap₂ (λ x y. m.Opened x y) (opened-by bytes a d a-is refl ∙ sym (opened-by bytes b e b-is rest)) (opened-date bytes a d a-is refl ∙ sym (opened-date bytes b e b-is rest))

abbrev head : List ℕ → ℕ
head [] = 0
head (x ∷ xs) = x

pub payload-same : WrittenSpells → (x y : ManifestRecord) → IsRecord x → IsRecord y → payload_of x ≡ payload_of y → x ≡ y
payload-same law (m.Shape s) (m.Shape t) x-is y-is same = ap (λ z. m.Shape z) (tables-same law s t x-is y-is (ap (drop 1) same))
payload-same law (m.Opened a d) (m.Opened b e) x-is y-is same = dates-same a b d e x-is y-is same
payload-same law (m.Shape s) (m.Opened b e) x-is y-is same = absurd (let h : 1 ≡ 2 = ap head same in omega (arith, h))
payload-same law (m.Opened a d) (m.Shape t) x-is y-is same = absurd (let h : 2 ≡ 1 = ap head same in omega (arith, h))
