-- Names and kinds, each with the function that reads it.
use Rattle.std.specs.Prelude.{◌||◌, nat_le, nat_lt, Option, Some, None, Result, Ok, Err, slice_get}
use Rattle.std.proofs.Common.{◌≡◌, ℕ, suc, ◌+◌, Bool, true, false, cond, List, [], ◌∷◌, ◌++◌, length, take, drop, refl, sym, ap, subst}
use Rattle.std.specs.List.{AllByRecursion, list_any}
use Rattle.std.specs.Str.{bytes_eq}
use Rattle.std.proofs.Math.Seq.{take-append_seam}
use Rattle.std.proofs.lemmas.List.{take-append-drop}
use Rattle.q_values.specs.declared.kind.Kind.{Kind}
use Rattle.q_words.specs.Words.{is_reserved}
use Rattle.day_rows.specs.Schema.{is_word, IsWord}
use Rattle.schema_text.specs.Grammar.{goes_on, IsWordAt, IsNoWord, IsNewName, no_name, twice, reserved, too_much, new_name, IsKind, no_kind, bad_kind, of_kind}
use Rattle.schema_text.specs.Kinds.{kind_named}
use Rattle.schema_text.specs.Reading.{◌>>=◌, judged, name_at, kind_at, kind_or}
use Rattle.schema_text.specs.Tokens.{part, begins_word, word_length, word_at}
use Rattle.schema_text.specs.declared.refusal.SchemaRefusal.{SchemaRefusal}
use Rattle.schema_text.specs.declared.refusal.SchemaRefusal.TheVariants as r
use Rattle.schema_text.proofs.Decides.{Decides}
use Rattle.schema_text.proofs.Gaps.{next-reads, next-only}
use Rattle.schema_text.proofs.Words.{word-taken, slice_get-drop_first}

whole-after : (bs : List ℕ) → goes_on (drop (word_length bs) bs) ≡ false
whole-after [] = refl
whole-after (b ∷ bs) = go (is_word b) refl (whole-after bs)
  where
    go : (t : Bool) → is_word b ≡ t → goes_on (drop (word_length bs) bs) ≡ false → goes_on (drop (cond t (suc (word_length bs)) 0) (b ∷ bs)) ≡ false
    go true h more = more
    go false h more = h

taken-length : (bs : List ℕ) → length (take (word_length bs) bs) ≡ word_length bs
taken-length [] = refl
taken-length (b ∷ bs) = go (is_word b) (taken-length bs)
  where
    go : (t : Bool) → length (take (word_length bs) bs) ≡ word_length bs → length (take (cond t (suc (word_length bs)) 0) (b ∷ bs)) ≡ cond t (suc (word_length bs)) 0
    go true more = ap suc more
    go false more = refl

word-reads : (text : List ℕ) (at : ℕ) → begins_word (slice_get text (part text at)) ≡ true
    → IsWordAt text at (part text at) (take (word_length (drop (part text at) text)) (drop (part text at) text)) (part text at + word_length (drop (part text at) text))
word-reads text at h =
    let left = drop (part text at) text in
    let begins : begins_word (slice_get left 0) ≡ true = rw (slice_get-drop_first text (part text at)) h in
    record {
      next = next-reads text at;
      rest = drop (word_length left) left;
      spelled = sym (take-append-drop (word_length left) left);
      lawful = word-taken left begins;
      whole = whole-after left;
      offset = ap (λ n. part text at + n) (sym (taken-length left));
    }

bytes-length : (word rest : List ℕ) → AllByRecursion (λ c. is_word c ≡ true) word → goes_on rest ≡ false → word_length (word ++ rest) ≡ length word
bytes-length [] [] all ends = refl
bytes-length [] (b ∷ bs) all ends = rw ends refl
bytes-length (c ∷ word) rest all ends = rw all.0 (ap suc (bytes-length word rest all.1 ends))

word-bytes : (word : List ℕ) → IsWord word → AllByRecursion (λ c. is_word c ≡ true) word
word-bytes [] h = absurd h
word-bytes (b ∷ bs) h = (rw h.0 refl, h.1)

word-begins : (word rest : List ℕ) → IsWord word → begins_word (slice_get (word ++ rest) 0) ≡ true
word-begins [] rest h = absurd h
word-begins (b ∷ bs) rest h = h.0

word-only : {text word : List ℕ} {at start end : ℕ} → IsWordAt text at start word end → word_at text at ≡ Ok (word, start, end)
word-only {text} {word} {at} {start} {end} w =
    let same : start ≡ part text at = next-only w.next in
    let spelled : drop (part text at) text ≡ word ++ w.rest = subst (λ n. drop n text ≡ word ++ w.rest) same w.spelled in
    let begins : begins_word (slice_get text (part text at)) ≡ true =
    rw (← slice_get-drop_first text (part text at), spelled) (word-begins word w.rest w.lawful) in
    let long : word_length (drop (part text at) text) ≡ length word = rw spelled (bytes-length word w.rest (word-bytes word w.lawful) w.whole) in
    let taken : take (word_length (drop (part text at) text)) (drop (part text at) text) ≡ word = rw (long, spelled) (take-append_seam word w.rest) in
    rw (begins, taken, long, w.offset, same) refl

no_word-only : {text : List ℕ} {at start : ℕ} → IsNoWord text at start → word_at text at ≡ Err (r.Parse start)
no_word-only {text} {at} {start} w =
    let same : start ≡ part text at = next-only w.next in
    let none : begins_word (slice_get text (part text at)) ≡ false = subst (λ n. begins_word (slice_get text n) ≡ false) same w.none in
    rw (none, same) refl

judged-reads : (earlier : List (List ℕ)) (most : ℕ) (text word : List ℕ) (at start end : ℕ) → IsWordAt text at start word end
    → IsNewName earlier most text at (judged earlier most word >>= (λ name. Ok (name, end)))
judged-reads earlier most text word at start end w =
    go (list_any (bytes_eq word) earlier) (is_reserved word) (nat_le most (length earlier) || nat_lt 64 (length word)) refl refl refl
  where
    go : (a b c : Bool) → list_any (bytes_eq word) earlier ≡ a → is_reserved word ≡ b → (nat_le most (length earlier) || nat_lt 64 (length word)) ≡ c
        → IsNewName earlier most text at (cond a (Err (r.Twice word)) (cond b (Err (r.Reserved word)) (cond c (Err r.Limit) (Ok word))) >>= (λ name. Ok (name, end)))
    go true b c h i j = twice w h
    go false true c h i j = reserved w h i
    go false false true h i j = too_much w h i j
    go false false false h i j = new_name w h i j

-- what is read where a word begins, or doesn't
abbrev word-if : List ℕ → ℕ → Bool → Result (List ℕ × ℕ × ℕ) SchemaRefusal
word-if text at t =
    cond t (Ok (take (word_length (drop (part text at) text)) (drop (part text at) text), part text at, part text at + word_length (drop (part text at) text))) (Err (r.Parse (part text at)))

pub name-decides : (earlier : List (List ℕ)) (most : ℕ) → Decides (IsNewName earlier most) (name_at earlier most)
unfolding name_at
name-decides earlier most = record { reads = λ text at. go text at (begins_word (slice_get text (part text at))) refl; only = only }
  where
    go : (text : List ℕ) (at : ℕ) (t : Bool) → begins_word (slice_get text (part text at)) ≡ t
        → IsNewName earlier most text at (word-if text at t >>= (λ word. judged earlier most word.0 >>= (λ name. Ok (name, word.2))))
    go text at true h = judged-reads earlier most text _ at _ _ (word-reads text at h)
    go text at false h = no_name (record { next = next-reads text at; none = h })

    only : (text : List ℕ) (at : ℕ) (outcome : Result (List ℕ × ℕ) SchemaRefusal) → IsNewName earlier most text at outcome
        → outcome ≡ (word_at text at >>= (λ word. judged earlier most word.0 >>= (λ name. Ok (name, word.2))))
    only text at outcome (no_name w) = rw (no_word-only w) refl
    only text at outcome (twice w h) = rw (word-only w, h) refl
    only text at outcome (reserved w h i) = rw (word-only w, h, i) refl
    only text at outcome (too_much w h i j) = rw (word-only w, h, i, j) refl
    only text at outcome (new_name w h i j) = rw (word-only w, h, i, j) refl

kind-reads : (text word : List ℕ) (at start end : ℕ) → IsWordAt text at start word end → IsKind text at (kind_or (kind_named word) start end)
kind-reads text word at start end w = go (kind_named word) refl
  where
    go : (found : Option Kind) → kind_named word ≡ found → IsKind text at (kind_or found start end)
    go None h = bad_kind w h
    go (Some kind) h = of_kind w h

pub kind-decides : Decides IsKind kind_at
unfolding kind_at
kind-decides = record { reads = λ text at. go text at (begins_word (slice_get text (part text at))) refl; only = only }
  where
    go : (text : List ℕ) (at : ℕ) (t : Bool) → begins_word (slice_get text (part text at)) ≡ t
        → IsKind text at (word-if text at t >>= (λ word. kind_or (kind_named word.0) word.1 word.2))
    go text at true h = kind-reads text _ at _ _ (word-reads text at h)
    go text at false h = no_kind (record { next = next-reads text at; none = h })

    only : (text : List ℕ) (at : ℕ) (outcome : Result (Kind × ℕ) SchemaRefusal) → IsKind text at outcome → outcome ≡ (word_at text at >>= (λ word. kind_or (kind_named word.0) word.1 word.2))
    only text at outcome (no_kind w) = rw (no_word-only w) refl
    only text at outcome (bad_kind w h) = rw (word-only w, h) refl
    only text at outcome (of_kind w h) = rw (word-only w, h) refl
