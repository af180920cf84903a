use Rattle.std.proofs.Common.{nat_eq, ◌≡◌, ℕ, zero, suc, ◌+◌, ◌-◌, ◌<◌, ◌≤◌, Bool, true, false, List, [], ◌∷◌, length, get_or, take, drop, Result, Ok, Err, refl, sym, ap, ◌∙◌, arith}
use Rattle.std.specs.Prelude.{◌&&◌}
use Rattle.std.proofs.lemmas.List.Elements.{All-head, All-tail}
use Rattle.q_values.specs.Bytes.{HasNoNul}
use Rattle.q_values.specs.Short.{text_of}
use Rattle.ipc_codec.specs.declared.fault.Fault.{Fault}
use Rattle.ipc_codec.specs.declared.fault.Fault.TheVariants.{Truncated, BadType, BadShape, NotBuilt, TooDeep}
use Rattle.q_values.specs.Tree.{Tree}
use Rattle.ipc_codec.specs.Reading.{◌>>=◌, text_at, object_at, object_of, placed, RefusesObject}
use Rattle.ipc_codec.specs.Extent.{after_texts, after_column, after_columns, after_items, after_object, after_form}
use Rattle.ipc_codec.specs.Types.{form_of}
use Rattle.ipc_codec.specs.declared.order.Order.{Order}
use Rattle.ipc_codec.specs.declared.reach.Outline.{Outline}

-- bytes without a 0 end no text
pub text_at-none : (bytes : List ℕ) → HasNoNul bytes → text_at bytes ≡ Err Truncated
unfolding text_at
text_at-none [] h = refl
text_at-none (zero ∷ bytes) h = absurd (omega (arith, All-head (λ b. 0 < b) 0 bytes h))
text_at-none (suc b ∷ bytes) h = rw (text_at-none bytes (All-tail (λ b. 0 < b) (suc b) bytes h)) refl

-- the first 0 ends the text
pub text_at-some : (bytes : List ℕ) (i : ℕ) → i < length bytes → get_or bytes i 0 ≡ 0 → ((k : ℕ) → k < i → 0 < get_or bytes k 0) → text_at bytes ≡ Ok (take i bytes, drop (i + 1) bytes)
unfolding text_at
text_at-some [] i within here before = absurd (omega arith)
text_at-some (zero ∷ bytes) zero within here before = refl
text_at-some (zero ∷ bytes) (suc i) within here before = absurd (omega (arith, before 0 (omega arith)))
text_at-some (suc b ∷ bytes) zero within here before = absurd (omega (arith, here))
text_at-some (suc b ∷ bytes) (suc i) within here before =
    let rest = text_at-some bytes i (omega (arith, within)) here (λ k below. before (suc k) (omega arith)) in
    let e : suc i + 1 ≡ suc (i + 1) = omega arith in
    rw (rest, e) refl

-- what is tested not to be 0
pub positive : (n : ℕ) → nat_eq n 0 ≡ false → 0 < n
positive zero h = absurd cc
positive (suc n) h = omega arith

-- ---- loops over texts

-- one more text is skipped
pub after_texts-more : (count i : ℕ) (bytes rest text after : List ℕ) → i < count → text_at rest ≡ Ok (text, after) → after_texts (count - i) rest ≡ after_texts count bytes → after_texts (count - (i + 1)) after ≡ after_texts count bytes
unfolding after_texts
after_texts-more count i bytes rest text after lt h so_far =
    let k : count - i ≡ suc (count - (i + 1)) = omega arith in
    let one : after_texts (count - i) rest ≡ after_texts (count - (i + 1)) after = rw (k, h) refl in
    sym one ∙ so_far

pub after_texts-ends : (count i : ℕ) (bytes rest : List ℕ) (e : Fault) → i < count → text_at rest ≡ Err e → after_texts (count - i) rest ≡ after_texts count bytes → after_texts count bytes ≡ Err e
unfolding after_texts
after_texts-ends count i bytes rest e lt h so_far =
    let k : count - i ≡ suc (count - (i + 1)) = omega arith in
    let one : after_texts (count - i) rest ≡ Err e = rw (k, h) refl in
    sym so_far ∙ one

pub after_texts-done : (count i : ℕ) (bytes rest : List ℕ) → count ≤ i → after_texts (count - i) rest ≡ after_texts count bytes → after_texts count bytes ≡ Ok rest
unfolding after_texts
after_texts-done count i bytes rest le so_far =
    let k : count - i ≡ 0 = omega arith in
    let one : after_texts (count - i) rest ≡ Ok rest = rw k refl in
    sym so_far ∙ one

-- ---- loops over columns

-- what is read after columns of which it is known whether they all have this number of rows
abbrev pub with_equal_lengths : Bool → Result (Bool × List ℕ) Fault → Result (Bool × List ℕ) Fault
with_equal_lengths b (Ok x) = Ok (b && x.0, x.1)
with_equal_lengths b (Err e) = Err e

with_equal_lengths-more : (b t : Bool) (r : Result (Bool × List ℕ) Fault) → with_equal_lengths b (r >>= λ x. Ok (t && x.0, x.1)) ≡ with_equal_lengths (b && t) r
with_equal_lengths-more true t (Ok x) = refl
with_equal_lengths-more false t (Ok x) = refl
with_equal_lengths-more b t (Err e) = refl

pub after_columns-more : (room : ℕ) (order : Order) (rows count i : ℕ) (bytes rest : List ℕ) (b : Bool) (here : ℕ) (after : List ℕ) → i < count → after_column room order rest ≡ Ok (here, after)
    → with_equal_lengths b (after_columns room order rows (count - i) rest) ≡ after_columns room order rows count bytes
    → with_equal_lengths (b && nat_eq here rows) (after_columns room order rows (count - (i + 1)) after) ≡ after_columns room order rows count bytes
unfolding after_columns
after_columns-more room order rows count i bytes rest b here after lt h so_far =
    let k : count - i ≡ suc (count - (i + 1)) = omega arith in
    let one : with_equal_lengths b (after_columns room order rows (count - i) rest) ≡ with_equal_lengths (b && nat_eq here rows) (after_columns room order rows (count - (i + 1)) after) =
    rw (k, h) (with_equal_lengths-more b (nat_eq here rows) (after_columns room order rows (count - (i + 1)) after)) in
    sym one ∙ so_far

pub after_columns-ends : (room : ℕ) (order : Order) (rows count i : ℕ) (bytes rest : List ℕ) (b : Bool) (e : Fault) → i < count → after_column room order rest ≡ Err e
    → with_equal_lengths b (after_columns room order rows (count - i) rest) ≡ after_columns room order rows count bytes → after_columns room order rows count bytes ≡ Err e
unfolding after_columns
after_columns-ends room order rows count i bytes rest b e lt h so_far =
    let k : count - i ≡ suc (count - (i + 1)) = omega arith in
    let one : with_equal_lengths b (after_columns room order rows (count - i) rest) ≡ Err e = rw (k, h) refl in
    sym so_far ∙ one

and-true : (b : Bool) → (b && true) ≡ b
and-true true = refl
and-true false = refl

pub after_columns-done : (room : ℕ) (order : Order) (rows count i : ℕ) (bytes rest : List ℕ) (b : Bool) → count ≤ i
    → with_equal_lengths b (after_columns room order rows (count - i) rest) ≡ after_columns room order rows count bytes → after_columns room order rows count bytes ≡ Ok (b, rest)
unfolding after_columns
after_columns-done room order rows count i bytes rest b le so_far =
    let k : count - i ≡ 0 = omega arith in
    let one : with_equal_lengths b (after_columns room order rows (count - i) rest) ≡ Ok (b, rest) = rw (k, and-true b) refl in
    sym so_far ∙ one

-- ---- loops over objects

pub after_items-more : (object : List ℕ → Result (Outline × List ℕ) Fault) (count i : ℕ) (bytes rest : List ℕ) (x : Outline) (after : List ℕ) → i < count → object rest ≡ Ok (x, after) → after_items object (count - i) rest ≡ after_items object count bytes → after_items object (count - (i + 1)) after ≡ after_items object count bytes
unfolding after_items
after_items-more object count i bytes rest x after lt h so_far =
    let k : count - i ≡ suc (count - (i + 1)) = omega arith in
    let one : after_items object (count - i) rest ≡ after_items object (count - (i + 1)) after = rw (k, h) refl in
    sym one ∙ so_far

pub after_items-ends : (object : List ℕ → Result (Outline × List ℕ) Fault) (count i : ℕ) (bytes rest : List ℕ) (e : Fault) → i < count → object rest ≡ Err e → after_items object (count - i) rest ≡ after_items object count bytes → after_items object count bytes ≡ Err e
unfolding after_items
after_items-ends object count i bytes rest e lt h so_far =
    let k : count - i ≡ suc (count - (i + 1)) = omega arith in
    let one : after_items object (count - i) rest ≡ Err e = rw (k, h) refl in
    sym so_far ∙ one

pub after_items-done : (object : List ℕ → Result (Outline × List ℕ) Fault) (count i : ℕ) (bytes rest : List ℕ) → count ≤ i → after_items object (count - i) rest ≡ after_items object count bytes → after_items object count bytes ≡ Ok rest
unfolding after_items
after_items-done object count i bytes rest le so_far =
    let k : count - i ≡ 0 = omega arith in
    let one : after_items object (count - i) rest ≡ Ok rest = rw k refl in
    sym so_far ∙ one

-- one level of an object, where one may be open
pub after_object-level : (room : ℕ) (order : Order) (b : ℕ) (bytes : List ℕ) → (room ≡ 0 → ⊥) → after_object room order (b ∷ bytes) ≡ after_form (after_object (room - 1) order) (room - 1) order (form_of b) (length (b ∷ bytes)) bytes
unfolding after_object
after_object-level zero order b bytes h = absurd (h refl)
after_object-level (suc room) order b bytes h = let e : suc room - 1 ≡ room = omega arith in rw e refl

-- ---- the whole

pub found-counted : (order : Order) (bytes : List ℕ) (t : Tree) (rest : List ℕ) → object_at 64 order bytes ≡ Ok (t, rest) → object_of order bytes ≡ Ok (t, length bytes - length rest)
unfolding object_of
found-counted order bytes t rest h = rw h refl

pub refused-placed : (order : Order) (bytes : List ℕ) (f : Fault) → object_at 64 order bytes ≡ Err f → RefusesObject (object_of order bytes) (placed (length bytes) f)
unfolding object_of
refused-placed order bytes Truncated h = rw h refl
refused-placed order bytes (BadType left) h = rw h refl
refused-placed order bytes (BadShape left) h = rw h refl
refused-placed order bytes (NotBuilt left) h = rw h refl
refused-placed order bytes (TooDeep left) h = rw h refl

-- the text before the first 0 of the first bytes, where a 0 stands after it
text_at-first : (n : ℕ) (bytes : List ℕ) → get_or bytes (length (text_of (take n bytes))) 0 ≡ 0 → length (text_of (take n bytes)) < length bytes
    → text_at bytes ≡ Ok (text_of (take n bytes), drop (length (text_of (take n bytes)) + 1) bytes)
unfolding text_at
text_at-first n [] here within = absurd (omega (arith, within))
text_at-first zero (zero ∷ bytes) here within = refl
text_at-first zero (suc b ∷ bytes) here within = absurd (omega (arith, here))
text_at-first (suc n) (zero ∷ bytes) here within = refl
text_at-first (suc n) (suc b ∷ bytes) here within =
    let rest = text_at-first n bytes here (omega (arith, within)) in
    let e : suc (length (text_of (take n bytes))) + 1 ≡ suc (length (text_of (take n bytes)) + 1) = omega arith in
    rw (rest, e) refl

pub text_at-short : (bytes eight text : List ℕ) (n : ℕ) → eight ≡ take 8 bytes → text ≡ text_of eight → n ≡ length text → n < length bytes → get_or bytes n 0 ≡ 0 → text_at bytes ≡ Ok (text, drop (n + 1) bytes)
text_at-short bytes eight text n eight_is text_is n_is within here =
    let is : text ≡ text_of (take 8 bytes) = text_is ∙ ap text_of eight_is in
    let at : n ≡ length (text_of (take 8 bytes)) = n_is ∙ ap length is in
    rw (at, is) (text_at-first 8 bytes (rw at at here) (rw at at within))
