-- What is written reads as what was meant: signs, names and kinds.
use Rattle.std.specs.Prelude.{◌==◌, ◌&&◌, Some, Result, Ok, slice_get}
use Rattle.std.proofs.Common.{◌≡◌, ◌≢◌, ℕ, ◌+◌, ◌<◌, Bool, true, false, List, [], ◌∷◌, ◌++◌, length, drop, refl, sym, ap, subst, ◌∙◌, arith}
use Rattle.std.specs.List.{AllByRecursion, list_any}
use Rattle.std.specs.Str.{bytes_eq}
use Rattle.std.proofs.Math.Seq.{drop-append_seam}
use Rattle.std.proofs.lemmas.Bool.{eqb-true, eq-eqb, lt-leb, le-ltb}
use Rattle.std.proofs.lemmas.List.{drop-drop}
use Rattle.q_values.specs.declared.kind.Kind.{Kind}
use Rattle.q_values.specs.declared.kind.Kind.TheVariants as k
use Rattle.day_rows.specs.Schema.{is_letter, is_word, IsWord, IsName}
use Rattle.schema_text.specs.Grammar.{is_blank, IsGap, at_token, IsNext, Part, Sign, signed, goes_on, IsWordAt, IsNewName, new_name, IsKind, of_kind}
use Rattle.schema_text.specs.Kinds.{kind_named}
use Rattle.schema_text.specs.Tokens.{is_sign}
use Rattle.schema_text.specs.Written.{kind_name}
use Rattle.schema_text.specs.declared.refusal.SchemaRefusal.{SchemaRefusal}
use Rattle.schema_text.proofs.Words.{slice_get-drop_first}

-- the text after a front
pub after-front : (text front rest : List ℕ) (at : ℕ) → drop at text ≡ front ++ rest → drop (at + length front) text ≡ rest
after-front text front rest at h = sym (drop-drop (length front) at text) ∙ ap (λ ts. drop (length front) ts) h ∙ drop-append_seam front rest

pub after-one : (text rest : List ℕ) (b at : ℕ) → drop at text ≡ b ∷ rest → drop (at + 1) text ≡ rest
after-one text rest b at h = after-front text (b ∷ []) rest at h

pub get-here : (text rest : List ℕ) (b at : ℕ) → drop at text ≡ b ∷ rest → slice_get text at ≡ Some b
get-here text rest b at h = sym (slice_get-drop_first text at) ∙ ap (λ ts. slice_get ts 0) h

pub next-here : (text rest : List ℕ) (b at : ℕ) → drop at text ≡ b ∷ rest → is_blank b ≡ false → IsNext text at at
next-here text rest b at h plain =
    record { gap = 0; is_gap = subst (λ ts. IsGap false ts 0) (sym h) (at_token plain refl); offset = omega arith }

-- a part that follows a sign
pub sign-here : {B : Type 0} {Q : Part B} {outcome : Result (B × ℕ) SchemaRefusal} (text rest : List ℕ) (b at : ℕ) → drop at text ≡ b ∷ rest → is_blank b ≡ false
    → Q text (at + 1) outcome → Sign b Q text at outcome
sign-here text rest b at h plain q = signed (next-here text rest b at h plain) (rw (get-here text rest b at h) (eq-eqb b b refl)) q

not-letter : (b n : ℕ) → is_letter n ≡ false → is_letter b ≡ true → (b == n) ≡ false
not-letter b n none h = go (b == n) refl
  where
    go : (t : Bool) → (b == n) ≡ t → t ≡ false
    go false e = refl
    go true e = let both : is_letter n ≡ true = subst (λ m. is_letter m ≡ true) (eqb-true b n e) h in cc

pub letter-plain : (b : ℕ) → is_letter b ≡ true → is_blank b ≡ false
letter-plain b h = rw (not-letter b 10 refl h, not-letter b 32 refl h, not-letter b 9 refl h, not-letter b 13 refl h) refl

pub letter-no_sign : (b n : ℕ) → is_letter n ≡ false → is_letter b ≡ true → is_sign n (Some b) ≡ false
letter-no_sign b n none h = not-letter b n none h

-- a word that begins at `start`
pub word-here : (text word rest : List ℕ) (at start : ℕ) → IsNext text at start → drop start text ≡ word ++ rest → IsWord word → goes_on rest ≡ false
    → IsWordAt text at start word (start + length word)
word-here text word rest at start next h lawful whole = record { next = next; rest = rest; spelled = h; lawful = lawful; whole = whole; offset = refl }

pub name-here : (earlier : List (List ℕ)) (most : ℕ) (text word rest : List ℕ) (at start : ℕ) → IsNext text at start → drop start text ≡ word ++ rest → IsName word → goes_on rest ≡ false
    → list_any (bytes_eq word) earlier ≡ false → length earlier < most → IsNewName earlier most text at (Ok (word, start + length word))
name-here earlier most text word rest at start next h name whole fresh few =
    new_name (word-here text word rest at start next h name.word whole) fresh name.free (rw (lt-leb most (length earlier) few, le-ltb 64 (length word) name.short) refl)

all_words : List ℕ → Bool
all_words [] = true
all_words (b ∷ bs) = is_word b && all_words bs

is_whole_word : List ℕ → Bool
is_whole_word [] = false
is_whole_word (b ∷ bs) = is_letter b && all_words bs

both : (a b : Bool) → (a && b) ≡ true → (a ≡ true) × (b ≡ true)
both true true h = (refl, refl)
both true false h = cc
both false b h = cc

all-words : (bs : List ℕ) → all_words bs ≡ true → AllByRecursion (λ c. is_word c ≡ true) bs
unfolding all_words
all-words [] h = tt
all-words (b ∷ bs) h = let parts = both (is_word b) (all_words bs) h in (parts.0, all-words bs parts.1)

whole-word : (bs : List ℕ) → is_whole_word bs ≡ true → IsWord bs
unfolding is_whole_word
whole-word [] h = cc
whole-word (b ∷ bs) h = let parts = both (is_letter b) (all_words bs) h in (parts.0, all-words bs parts.1)

kind_name-word : (kind : Kind) → is_whole_word (kind_name kind) ≡ true
unfolding is_whole_word all_words
kind_name-word k.Boolean = refl
kind_name-word k.Byte = refl
kind_name-word k.Short = refl
kind_name-word k.Integer = refl
kind_name-word k.Long = refl
kind_name-word k.Character = refl
kind_name-word k.Symbol = refl
kind_name-word k.Timestamp = refl
kind_name-word k.Month = refl
kind_name-word k.Date = refl
kind_name-word k.Timespan = refl
kind_name-word k.Minute = refl
kind_name-word k.Second = refl
kind_name-word k.Time = refl

kind_name-named : (kind : Kind) → kind ≢ k.Character → kind_named (kind_name kind) ≡ Some kind
unfolding kind_named
kind_name-named k.Boolean h = refl
kind_name-named k.Byte h = refl
kind_name-named k.Short h = refl
kind_name-named k.Integer h = refl
kind_name-named k.Long h = refl
kind_name-named k.Character h = absurd (h refl)
kind_name-named k.Symbol h = refl
kind_name-named k.Timestamp h = refl
kind_name-named k.Month h = refl
kind_name-named k.Date h = refl
kind_name-named k.Timespan h = refl
kind_name-named k.Minute h = refl
kind_name-named k.Second h = refl
kind_name-named k.Time h = refl

-- no kind's name begins with a "g"
pub kind_name-no_g : (kind : Kind) (rest : List ℕ) → is_sign 103 (slice_get (kind_name kind ++ rest) 0) ≡ false
kind_name-no_g k.Boolean rest = refl
kind_name-no_g k.Byte rest = refl
kind_name-no_g k.Short rest = refl
kind_name-no_g k.Integer rest = refl
kind_name-no_g k.Long rest = refl
kind_name-no_g k.Character rest = refl
kind_name-no_g k.Symbol rest = refl
kind_name-no_g k.Timestamp rest = refl
kind_name-no_g k.Month rest = refl
kind_name-no_g k.Date rest = refl
kind_name-no_g k.Timespan rest = refl
kind_name-no_g k.Minute rest = refl
kind_name-no_g k.Second rest = refl
kind_name-no_g k.Time rest = refl

word-next : (text word rest : List ℕ) (at : ℕ) → drop at text ≡ word ++ rest → IsWord word → IsNext text at at
word-next text [] rest at h lawful = absurd lawful
word-next text (b ∷ bs) rest at h lawful = next-here text (bs ++ rest) b at h (letter-plain b lawful.0)

pub name-next : (text word rest : List ℕ) (at : ℕ) → drop at text ≡ word ++ rest → IsName word → IsNext text at at
name-next text word rest at h name = word-next text word rest at h name.word

pub kind-here : (kind : Kind) (text rest : List ℕ) (at : ℕ) → kind ≢ k.Character → drop at text ≡ kind_name kind ++ rest → goes_on rest ≡ false
    → IsKind text at (Ok (kind, at + length (kind_name kind)))
kind-here kind text rest at plain h whole =
    let lawful = whole-word (kind_name kind) (kind_name-word kind) in
    of_kind (word-here text (kind_name kind) rest at at (word-next text (kind_name kind) rest at h lawful) h lawful whole) (kind_name-named kind plain)
