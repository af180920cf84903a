use Rattle.std.proofs.Common.{◌≡◌, ℕ, ℤ, zero, suc, ◌+◌, ◌-◌, ◌<◌, ◌≤◌, Bool, true, false, List, [], ◌∷◌, ◌++◌, length, get_or, take, drop, map, Result, Ok, Err, refl, sym, ap, ◌∙◌, append_assoc, arith}
use Rattle.std.specs.List.{flat_map}
use Rattle.std.specs.Int.{w16, w32, w64, cast_unsigned}
use Rattle.std.proofs.lemmas.List.{take_all, take-append-le, length-append, take-take}
use Rattle.std.specs.Prelude.{if◌then◌else◌, slice_get, Some, OnOk}
use Rattle.std.proofs.lemmas.List.{append-nil}
use Rattle.byteorder.specs.Endian.{little_bytes}
use Rattle.std.proofs.Common.{set}
use Rattle.std.proofs.Math.Seq.{take-append-add, take-add}
use Rattle.std.proofs.lemmas.Grind.{take-set_at, flat_map-append}
use Rattle.std.proofs.lemmas.List.{length-take, length-drop}
use borrow.Rule.Slice.PartMut.{put_mid}
use Rattle.q_values.specs.Short.{filled}
use Rattle.q_values.proofs.ShortLemmas.{length-filled}
use Rattle.q_values.specs.Column.{byte_atom, integer_atom, long_atom}
use Rattle.q_values.specs.declared.atom.Atom.{Atom}
use Rattle.q_values.specs.declared.atom.Atom.TheVariants as a
use Rattle.q_values.specs.declared.kind.ByteKind.{ByteKind}
use Rattle.q_values.specs.declared.kind.ByteKind.TheVariants as b
use Rattle.q_values.specs.declared.kind.IntegerKind.{IntegerKind}
use Rattle.q_values.specs.declared.kind.IntegerKind.TheVariants as i
use Rattle.q_values.specs.declared.kind.LongKind.{LongKind}
use Rattle.q_values.specs.declared.kind.LongKind.TheVariants as l
use Rattle.ipc_codec.specs.Appends.{Begins}
use Rattle.ipc_codec.specs.Written.{element_bytes, text_bytes}

pub Begins-same : (old new : List ℕ) → new ≡ old → Begins old new
Begins-same old new e = record { kept = rw e (take_all (length old) old (omega arith)) }

pub Begins-append : (old more new : List ℕ) → new ≡ old ++ more → Begins old new
Begins-append old more new e = record { kept = rw e (take-append-le (length old) old more (omega arith) ∙ take_all (length old) old (omega arith)) }

pub Begins-then : (old more new : List ℕ) → Begins (old ++ more) new → Begins old new
Begins-then old more new h =
    let short : length old ≤ length (old ++ more) = omega (arith, length-append old more) in
    let one : take (length old) (take (length (old ++ more)) new) ≡ take (length old) new = take-take (length old) (length (old ++ more)) new short in
    record { kept = sym one ∙ ap (take (length old)) h.kept ∙ take-append-le (length old) old more (omega arith) ∙ take_all (length old) old (omega arith) }

pub ruleset begins = (Begins-same, Begins-append, Begins-then, append_assoc)

-- ---- elements

pub element_bytes-byte : (kind : ByteKind) (x : ℕ) → element_bytes (byte_atom kind x) ≡ x ∷ []
element_bytes-byte b.Byte x = refl
element_bytes-byte b.Character x = refl

pub element_bytes-integer : (kind : IntegerKind) (x : ℤ) → element_bytes (integer_atom kind x) ≡ little_bytes 4 (cast_unsigned w32 x)
element_bytes-integer i.Integer x = refl
element_bytes-integer i.Month x = refl
element_bytes-integer i.Date x = refl
element_bytes-integer i.Minute x = refl
element_bytes-integer i.Second x = refl
element_bytes-integer i.Time x = refl

pub element_bytes-long : (kind : LongKind) (x : ℤ) → element_bytes (long_atom kind x) ≡ little_bytes 8 (cast_unsigned w64 x)
element_bytes-long l.Long x = refl
element_bytes-long l.Timestamp x = refl
element_bytes-long l.Timespan x = refl

-- what an element is written as, by how it is stored
pub ruleset stored = (begins, element_bytes-byte, element_bytes-integer, element_bytes-long)

flat_map-map : {X : Type 0} (f : X → Atom) (xs : List X) → flat_map element_bytes (map f xs) ≡ flat_map (λ x. element_bytes (f x)) xs
flat_map-map f [] = refl
flat_map-map f (x ∷ xs) = ap (λ r. element_bytes (f x) ++ r) (flat_map-map f xs)

pub bytes_of_booleans : (xs : List Bool) → flat_map element_bytes (map (λ x. a.Boolean x) xs) ≡ map (λ x. if x then 1 else 0) xs
bytes_of_booleans [] = refl
bytes_of_booleans (x ∷ xs) = ap (λ r. (if x then 1 else 0) ∷ r) (bytes_of_booleans xs)

pub bytes_of_bytes : (kind : ByteKind) (xs : List ℕ) → flat_map element_bytes (map (byte_atom kind) xs) ≡ xs
bytes_of_bytes b.Byte [] = refl
bytes_of_bytes b.Byte (x ∷ xs) = ap (λ r. x ∷ r) (bytes_of_bytes b.Byte xs)
bytes_of_bytes b.Character [] = refl
bytes_of_bytes b.Character (x ∷ xs) = ap (λ r. x ∷ r) (bytes_of_bytes b.Character xs)

pub bytes_of_shorts : (xs : List ℤ) → flat_map element_bytes (map (λ x. a.Short x) xs) ≡ flat_map (λ x. little_bytes 2 (cast_unsigned w16 x)) xs
bytes_of_shorts xs = flat_map-map (λ x. a.Short x) xs

pub bytes_of_integers : (kind : IntegerKind) (xs : List ℤ) → flat_map element_bytes (map (integer_atom kind) xs) ≡ flat_map (λ x. little_bytes 4 (cast_unsigned w32 x)) xs
bytes_of_integers i.Integer xs = flat_map-map (integer_atom i.Integer) xs
bytes_of_integers i.Month xs = flat_map-map (integer_atom i.Month) xs
bytes_of_integers i.Date xs = flat_map-map (integer_atom i.Date) xs
bytes_of_integers i.Minute xs = flat_map-map (integer_atom i.Minute) xs
bytes_of_integers i.Second xs = flat_map-map (integer_atom i.Second) xs
bytes_of_integers i.Time xs = flat_map-map (integer_atom i.Time) xs

pub bytes_of_longs : (kind : LongKind) (xs : List ℤ) → flat_map element_bytes (map (long_atom kind) xs) ≡ flat_map (λ x. little_bytes 8 (cast_unsigned w64 x)) xs
bytes_of_longs l.Long xs = flat_map-map (long_atom l.Long) xs
bytes_of_longs l.Timestamp xs = flat_map-map (long_atom l.Timestamp) xs
bytes_of_longs l.Timespan xs = flat_map-map (long_atom l.Timespan) xs

pub bytes_of_symbols : (xs : List (List ℕ)) → flat_map element_bytes (map (λ x. a.Symbol x) xs) ≡ flat_map text_bytes xs
bytes_of_symbols xs = flat_map-map (λ x. a.Symbol x) xs

pub ruleset elements = (begins, bytes_of_booleans, bytes_of_bytes, bytes_of_shorts, bytes_of_integers, bytes_of_longs, bytes_of_symbols)

-- one more item of a list that is written in order
pub flat_map-more : {X : Type 0} (f : X → List ℕ) (xs : List X) (i : ℕ) (x : X) → slice_get xs i ≡ Some x → flat_map f (take (i + 1) xs) ≡ flat_map f (take i xs) ++ f x
flat_map-more f [] zero x e = absurd cc
flat_map-more f [] (suc i) x e = absurd cc
flat_map-more f (y ∷ xs) zero x e =
    let same : y ≡ x = cc in
    rw same (append-nil (f x))
flat_map-more f (y ∷ xs) (suc i) x e =
    let n : suc i + 1 ≡ suc (i + 1) = omega arith in
    let rest = flat_map-more f xs i x e in
    rw (n, rest) (sym (append_assoc (f y) (flat_map f (take i xs)) (f x)))

-- a fact that holds on Ok, from one that held on Ok
pub ok_then : {A E P Q : Type 0} (r : Result A E) → (P → Q) → OnOk r P → OnOk r Q
ok_then (Ok x) step h = step h
ok_then (Err e) step h = tt

take-filled : (k : ℕ) (text : List ℕ) → length text ≤ k → take (length text) (filled k text) ≡ text
take-filled zero [] short = refl
take-filled zero (b ∷ text) short = absurd (omega (arith, short))
take-filled (suc k) [] short = refl
take-filled (suc k) (b ∷ text) short = ap (λ l. b ∷ l) (take-filled k text (omega (arith, short)))

-- bytes that begin with a text are written, and then a 0 after its own
pub text-more : (block wide text : List ℕ) (end k n : ℕ) → n ≡ length text → n ≤ k → end + n < length block → end + k ≤ length block → length wide ≡ k → take n wide ≡ text
    → take (end + n + 1) (set (put_mid end k block wide) (end + n) 0) ≡ take end block ++ text_bytes text
text-more block wide text end k n n_is short room inside wide_is text_is =
    let whole = put_mid end k block wide in
    let back = drop k (drop end block) in
    let front_size : length (take end block) ≡ end = omega (arith, length-take end block, inside) in
    let zero_in : end + n < length whole =
    omega (arith, length-append (take end block) (wide ++ back), length-append wide back, length-drop k (drop end block), length-drop end block, front_size, wide_is, inside, room) in
    let kept : take (end + n) whole ≡ take end block ++ text =
    ap (λ i. take (i + n) whole) (sym front_size) ∙ take-append-add (take end block) (wide ++ back) n ∙ ap (λ l. take end block ++ l) (take-append-le n wide back (omega (arith, short, wide_is)) ∙ text_is) in
    take-set_at whole (end + n) (end + n + 1) 0 (omega arith) zero_in ∙ ap (λ l. l ++ 0 ∷ []) kept ∙ append_assoc (take end block) text (0 ∷ [])

-- a text is written as eight bytes, and then a 0 after its own
pub block-more : (block eight text : List ℕ) (end k n : ℕ) → end + 9 ≤ length block → k ≡ 8 → eight ≡ filled 8 text → length text ≤ 8 → n ≡ length text
    → take (end + n + 1) (set (put_mid end k block eight) (end + n) 0) ≡ take end block ++ text_bytes text
block-more block eight text end k n room k_is eight_is short n_is =
    text-more block eight text end k n n_is (omega (arith, k_is, short, n_is)) (omega (arith, room, short, n_is)) (omega (arith, room, k_is)) (ap length eight_is ∙ length-filled 8 text ∙ sym k_is)
    (ap (take n) eight_is ∙ rw n_is (take-filled 8 text short))

-- as many more items as a part has
pub flat_map-part : {X : Type 0} (f : X → List ℕ) (xs : List X) (at count k : ℕ) (initial old new : List ℕ) → k ≡ count → new ≡ old ++ flat_map f (take k (drop at xs)) → old ≡ initial ++ flat_map f (take at xs) → new ≡ initial ++ flat_map f (take (at + count) xs)
flat_map-part f xs at count k initial old new k_is new_is old_is =
    let part = take k (drop at xs) in
    let items : take (at + count) xs ≡ take at xs ++ part = take-add at count xs ∙ ap (λ i. take at xs ++ take i (drop at xs)) (sym k_is) in
    let bytes : flat_map f (take (at + count) xs) ≡ flat_map f (take at xs) ++ flat_map f part = ap (flat_map f) items ∙ flat_map-append f (take at xs) part in
    new_is ∙ ap (λ l. l ++ flat_map f part) old_is ∙ append_assoc initial (flat_map f (take at xs)) (flat_map f part) ∙ ap (λ l. initial ++ l) (sym bytes)
