-- What is read at an offset is what the forms have there.
use Rattle.std.proofs.Common.{◌≡◌, ℕ, ◌+◌, ◌<◌, ◌≤◌, ◌||◌, ◌&&◌, Bool, true, false, not, cond, List, length, get_or, eqb, Option, Some, None, refl, sym, ap₂, arith, subst, inl, inr, ⊎_elim, ℤ, Result, Ok, Err}
use Rattle.std.proofs.lemmas.Bool.{eqb-true, eq-eqb, or_cases, and_parts, cases_lt}
use Rattle.std.proofs.lemmas.Bool.Decides.{nat_tests}
use Rattle.std.proofs.lemmas.List.{get_or_past}
use Rattle.q_values.specs.Tree.{Tree, tree}
use Rattle.q_values.specs.declared.value.Value.{Value}
use Rattle.q_text.specs.Words.{is_digit, follows_operand, begins_word, word_at, word_end}
use Rattle.q_text.specs.Forms.{form_of}
use Rattle.q_text.specs.Runs.{run_of}
use Rattle.q_text.specs.Numbers.{numbers_from, vector_of, valued}
use Rattle.q_text.specs.Literal.{Literal, starts_literal, begins_negative, literal_at, numbers_at, symbols_at, characters_at, with_form, with_run, ended, run_tree, ReadsLiteral}
use Rattle.q_text.specs.Grammar.{HasForm, IsRun, IsNumbers, IsSymbols, IsQuotation, IsLiteral, ReadsForms}
use Rattle.q_text.specs.Laws.{LiteralsAreForms}
use Rattle.q_text.specs.declared.forms.Form.{Form}
use Rattle.q_text.specs.declared.runs.Run.{Run}
use Rattle.q_text.specs.declared.refusal.LiteralRefusal.{LiteralRefusal}
use Rattle.q_text.specs.declared.refusal.LiteralRefusal.TheVariants as r
use Rattle.q_text.proofs.Openings.{starts-word}
use Rattle.q_text.proofs.OneForm.{form-sound, form-complete}
use Rattle.q_text.proofs.RunForms.{run-sound, run-complete, begins-within, word-within}
use Rattle.q_text.proofs.SymbolForms.{symbols-sound, symbols-complete}
use Rattle.q_text.proofs.QuotationForms.{quotation-sound, quotation-complete}

-- an offset whose byte differs from 0 is within the text
there : (text : List ℕ) (at b : ℕ) → get_or text at 0 ≡ b → 0 < b → at < length text
there text at b is some = ⊎_elim
    (λ less. less)
    (λ past. absurd (let none : get_or text at 0 ≡ 0 = get_or_past text at 0 past in omega (arith, none, is, some)))
    (cases_lt at (length text))

begins-number : (digit tick quote negative : Bool) → (digit || (tick || (quote || negative))) ≡ true → tick ≡ false → quote ≡ false → (digit || negative) ≡ true
begins-number true tick quote negative h t q = refl
begins-number false true quote negative h t q = absurd (cc)
begins-number false false true negative h t q = absurd (cc)
begins-number false false false negative h t q = h

numbers-read : (text : List ℕ) (at : ℕ) (found : Literal) (form : Form) (run : Run) → (is_digit (get_or text at 0) || begins_negative text at) ≡ true → HasForm form (word_at text at) → IsRun form text (word_end text at) run
    → (ns : Option (List ℤ)) → numbers_from run.count form run.kind text at ≡ ns → ended run.end (run_tree run.kind ns) ≡ Some found → IsNumbers text at found
numbers-read text at found form run begins has is None spelled h = absurd (cc)
numbers-read text at found form run begins has is (Some ns) spelled h =
    let value : found.value ≡ valued (vector_of run.kind ns) = cc in
    let end : found.end ≡ run.end = cc in
    record { form = form; run = run; numbers = ns; begins = begins; has_form = has; is_run = is; spelled = spelled; value = value; ends = end }

run-read : (text : List ℕ) (at : ℕ) (found : Literal) (form : Form) → word_end text at ≤ length text → (is_digit (get_or text at 0) || begins_negative text at) ≡ true → HasForm form (word_at text at)
    → (r : Option Run) → run_of form text (word_end text at) ≡ r → with_run form r text at ≡ Some found → IsNumbers text at found
run-read text at found form within begins has None is h = absurd (cc)
run-read text at found form within begins has (Some run) is h =
    numbers-read text at found form run begins has (run-sound form text (word_end text at) run within is) (numbers_from run.count form run.kind text at) refl h

form-read : (text : List ℕ) (at : ℕ) (found : Literal) → word_end text at ≤ length text → (is_digit (get_or text at 0) || begins_negative text at) ≡ true
    → (o : Option Form) → form_of (word_at text at) ≡ o → with_form o text at ≡ Some found → IsNumbers text at found
form-read text at found within begins None is h = absurd (cc)
form-read text at found within begins (Some form) is h = run-read text at found form within begins (form-sound form (word_at text at) is) (run_of form text (word_end text at)) refl h

numbers-sound : (text : List ℕ) (at : ℕ) (found : Literal) → begins_word text at ≡ true → (is_digit (get_or text at 0) || begins_negative text at) ≡ true → numbers_at text at ≡ Some found → IsNumbers text at found
unfolding numbers_at
numbers-sound text at found word begins h = form-read text at found (word-within text at (begins-within text at word)) begins (form_of (word_at text at)) refl h

number-begins : (text : List ℕ) (at : ℕ) → starts_literal text at ≡ true → eqb (get_or text at 0) 96 ≡ false → eqb (get_or text at 0) 34 ≡ false → (is_digit (get_or text at 0) || begins_negative text at) ≡ true
unfolding starts_literal
number-begins text at s t q = begins-number (is_digit (get_or text at 0)) (eqb (get_or text at 0) 96) (eqb (get_or text at 0) 34) (begins_negative text at) s t q

literal-sound : (text : List ℕ) (at : ℕ) (found : Literal) → literal_at text at ≡ Some found → IsLiteral text at found
unfolding literal_at
literal-sound text at found h = go (starts_literal text at) refl (eqb (get_or text at 0) 96) refl (eqb (get_or text at 0) 34) refl h
  where
    go : (s : Bool) → starts_literal text at ≡ s → (t : Bool) → eqb (get_or text at 0) 96 ≡ t → (q : Bool) → eqb (get_or text at 0) 34 ≡ q
        → cond s (cond t (Some (symbols_at text at)) (cond q (characters_at text at) (numbers_at text at))) None ≡ Some found → IsLiteral text at found
    go false s t tick q quote h = absurd (cc)
    go true s true tick q quote h =
        let P : Literal → Type 0 = λ l. IsSymbols text at l in
        let same : symbols_at text at ≡ found = cc in
        let b : get_or text at 0 ≡ 96 = eqb-true (get_or text at 0) 96 tick in
        inr (inl (subst P same (symbols-sound text at (there text at 96 b (omega arith)) b)))
    go true s false tick true quote h =
        let b : get_or text at 0 ≡ 34 = eqb-true (get_or text at 0) 34 quote in
        inr (inr (quotation-sound text at found (there text at 34 b (omega arith)) b h))
    go true s false tick false quote h = inl (numbers-sound text at found (starts-word text at s tick quote) (number-begins text at s tick quote) h)

widen : (digit tick quote negative : Bool) → (digit || negative) ≡ true → (digit || (tick || (quote || negative))) ≡ true
widen true tick quote negative h = refl
widen false true quote negative h = refl
widen false false true negative h = refl
widen false false false negative h = h

other-byte : (digit tick quote negative : Bool) → tick ≡ true → (digit || (tick || (quote || negative))) ≡ true
other-byte true tick quote negative h = refl
other-byte false true quote negative h = refl
other-byte false false quote negative h = absurd (cc)

last-byte : (digit tick quote negative : Bool) → quote ≡ true → (digit || (tick || (quote || negative))) ≡ true
last-byte true tick quote negative h = refl
last-byte false true quote negative h = refl
last-byte false false true negative h = refl
last-byte false false false negative h = absurd (cc)

digit-tick : (b : ℕ) → is_digit b ≡ true → eqb b 96 ≡ false
digit-tick b h = grind (arith, nat_tests)

digit-quote : (b : ℕ) → is_digit b ≡ true → eqb b 34 ≡ false
digit-quote b h = grind (arith, nat_tests)

number-byte : (b : ℕ) (more : Bool) → (is_digit b || (eqb b 45 && more)) ≡ true → (eqb b 96 ≡ false) × (eqb b 34 ≡ false)
number-byte b more h = ⊎_elim
    (λ digit. (digit-tick b digit, digit-quote b digit))
    (λ sign. let is : b ≡ 45 = eqb-true b 45 (and_parts (eqb b 45) more sign).0 in (rw is refl, rw is refl))
    (or_cases (is_digit b) (eqb b 45 && more) h)

numbers-complete : (text : List ℕ) (at : ℕ) (found : Literal) → IsNumbers text at found → literal_at text at ≡ Some found
unfolding literal_at starts_literal numbers_at
numbers-complete text at found is =
    let bytes : (eqb (get_or text at 0) 96 ≡ false) × (eqb (get_or text at 0) 34 ≡ false) = number-byte (get_or text at 0) (is_digit (get_or text (at + 1) 0) && not (follows_operand text at)) is.begins in
    let starts : (is_digit (get_or text at 0) || (eqb (get_or text at 0) 96 || (eqb (get_or text at 0) 34 || begins_negative text at))) ≡ true = widen (is_digit (get_or text at 0)) (eqb (get_or text at 0) 96) (eqb (get_or text at 0) 34) (begins_negative text at) is.begins in
    let s : starts_literal text at ≡ true = starts in
    let word : begins_word text at ≡ true = starts-word text at s bytes.0 bytes.1 in
    let within : word_end text at ≤ length text = word-within text at (begins-within text at word) in
    let form : form_of (word_at text at) ≡ Some is.form = form-complete is.form (word_at text at) is.has_form in
    let run : run_of is.form text (word_end text at) ≡ Some is.run = run-complete is.form text (word_end text at) is.run within is.is_run in
    rw (starts, bytes.0, bytes.1, form, run, is.spelled) (literal-is found _ _ (sym is.value) (sym is.ends))
  where
    literal-is : (found : Literal) (v : Tree) (e : ℕ) → v ≡ found.value → e ≡ found.end → (let x : Literal = record { value = v; end = e } in Some x) ≡ Some found
    literal-is found v e p q = ap₂ (λ x y. let l : Literal = record { value = x; end = y } in Some l) p q

symbols-read : (text : List ℕ) (at : ℕ) (found : Literal) → IsSymbols text at found → literal_at text at ≡ Some found
unfolding literal_at starts_literal
symbols-read text at found is =
    let tick : eqb (get_or text at 0) 96 ≡ true = eq-eqb (get_or text at 0) 96 is.begins in
    let starts : (is_digit (get_or text at 0) || (eqb (get_or text at 0) 96 || (eqb (get_or text at 0) 34 || begins_negative text at))) ≡ true = other-byte (is_digit (get_or text at 0)) (eqb (get_or text at 0) 96) (eqb (get_or text at 0) 34) (begins_negative text at) tick in
    let same : symbols_at text at ≡ found = symbols-complete text at found (there text at 96 is.begins (omega arith)) is in
    rw (starts, tick, same) refl

quotation-read : (text : List ℕ) (at : ℕ) (found : Literal) → IsQuotation text at found → literal_at text at ≡ Some found
unfolding literal_at starts_literal
quotation-read text at found is =
    let quote : eqb (get_or text at 0) 34 ≡ true = eq-eqb (get_or text at 0) 34 is.begins in
    let tick : eqb (get_or text at 0) 96 ≡ false = rw is.begins refl in
    let starts : (is_digit (get_or text at 0) || (eqb (get_or text at 0) 96 || (eqb (get_or text at 0) 34 || begins_negative text at))) ≡ true = last-byte (is_digit (get_or text at 0)) (eqb (get_or text at 0) 96) (eqb (get_or text at 0) 34) (begins_negative text at) quote in
    rw (starts, tick, quote) (quotation-complete text at found (there text at 34 is.begins (omega arith)) is)

pub literals-forms : LiteralsAreForms
literals-forms text at found = (literal-sound text at found, back)
  where
    back : IsLiteral text at found → literal_at text at ≡ Some found
    back (inl is) = numbers-complete text at found is
    back (inr (inl is)) = symbols-read text at found is
    back (inr (inr is)) = quotation-read text at found is

-- so what is read are the forms
pub reads-forms : (text : List ℕ) (at : ℕ) (result : Result (Value × ℕ) LiteralRefusal) → ReadsLiteral (literal_at text at) at result → ReadsForms text at result
reads-forms text at (Ok read) h = literal-sound text at (record { value = tree read.0; end = read.1 }) h
reads-forms text at (Err (r.BadLiteral offset)) h = (h.0, λ found is. absurd (let some : literal_at text at ≡ Some found = (literals-forms text at found).1 is in let none : literal_at text at ≡ None = h.1 in cc))
reads-forms text at (Err r.NoMemory) h = tt

pub none-there : (text : List ℕ) (at : ℕ) → starts_literal text at ≡ false → ReadsForms text at (Err (r.BadLiteral at))
unfolding literal_at
none-there text at h = reads-forms text at (Err (r.BadLiteral at)) (refl, rw h refl)
