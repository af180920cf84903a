-- Runs are as many words of one form as follow.
use Rattle.std.proofs.Common.{◌≡◌, ℕ, zero, suc, ◌+◌, ◌*◌, ◌<◌, ◌≤◌, ◌||◌, ◌&&◌, Bool, true, false, cond, List, length, get_or, eqb, nat_lt, Option, Some, None, refl, sym, ap, ◌∙◌, arith, inl, inr, ⊎_elim, ◌⊎◌}
use Rattle.std.proofs.Math.Numerals.{add-one}
use Rattle.std.proofs.lemmas.Bool.{and_parts, ltb-true, cases_order, cases_lt}
use Rattle.std.proofs.lemmas.List.{get_or_past}
use Rattle.q_values.specs.declared.kind.LongKind.TheVariants as lk
use Rattle.q_text.specs.Words.{is_digit, span_end, begins_word, word_end, word_at}
use Rattle.q_text.specs.Forms.{form_of}
use Rattle.q_text.specs.Runs.{followers, goes_on_with, next_form, next_start, next_end, is_whole, suffixed_run, whole_run, plain_run, run_of}
use Rattle.q_text.specs.Grammar.{end_after, following, IsLongest, IsLast, IsUniform, IsWholeRun, IsRun}
use Rattle.q_text.specs.declared.kinds.NumberKind.{NumberKind}
use Rattle.q_text.specs.declared.kinds.NumberKind.TheVariants as nk
use Rattle.q_text.specs.declared.words.Class.TheVariants as c
use Rattle.q_text.specs.declared.forms.Form.{Form}
use Rattle.q_text.specs.declared.forms.Form.TheVariants as f
use Rattle.q_text.specs.declared.runs.Extent.{Extent}
use Rattle.q_text.specs.declared.runs.Run.{Run}
use Rattle.q_text.proofs.Openings.{span-digit}
use Rattle.q_text.proofs.Spans.{span_end-le}

nothing : (b : ℕ) (more : Bool) → b ≡ 0 → (is_digit b || (eqb b 45 && more)) ≡ false
nothing b more h = rw h refl

-- a word begins within the text
pub begins-within : (text : List ℕ) (offset : ℕ) → begins_word text offset ≡ true → offset < length text
begins-within text offset h = ⊎_elim
    (λ less. less)
    (λ past. absurd (let no : begins_word text offset ≡ false = nothing (get_or text offset 0) (is_digit (get_or text (offset + 1) 0)) (get_or_past text offset 0 past) in cc))
    (cases_lt offset (length text))

digit-there : (digit sign more : Bool) → (digit || (sign && more)) ≡ true → sign ≡ false → digit ≡ true
digit-there true sign more h s = refl
digit-there false true more h s = absurd (cc)
digit-there false false more h s = absurd (cc)

-- and has a byte at least
pub word-more : (text : List ℕ) (offset : ℕ) → begins_word text offset ≡ true → offset < word_end text offset
word-more text offset h = go (eqb (get_or text offset 0) 45) refl
  where
    go : (t : Bool) → eqb (get_or text offset 0) 45 ≡ t → offset < cond t (span_end c.Word text (offset + 1)) (span_end c.Word text offset)
    go true e = omega arith
    go false e = let digit : is_digit (get_or text offset 0) ≡ true = digit-there (is_digit (get_or text offset 0)) (eqb (get_or text offset 0) 45) (is_digit (get_or text (offset + 1) 0)) h e in
        omega (arith, span-digit text offset (begins-within text offset h) digit)

pub word-within : (text : List ℕ) (offset : ℕ) → offset < length text → word_end text offset ≤ length text
word-within text offset less = go (eqb (get_or text offset 0) 45)
  where
    go : (t : Bool) → cond t (span_end c.Word text (offset + 1)) (span_end c.Word text offset) ≤ length text
    go true = span_end-le c.Word text (offset + 1) (omega arith)
    go false = span_end-le c.Word text offset (omega arith)

-- where a run goes on, a word follows blanks
next-found : (form : Form) (text : List ℕ) (end : ℕ) → goes_on_with form (next_form text end) ≡ true → (end < next_start text end) × (begins_word text (next_start text end) ≡ true)
unfolding next_form
next-found form text end h = go (nat_lt end (next_start text end) && begins_word text (next_start text end)) refl h
  where
    go : (t : Bool) → (nat_lt end (next_start text end) && begins_word text (next_start text end)) ≡ t → goes_on_with form (cond t (form_of (word_at text (next_start text end))) None) ≡ true
        → (end < next_start text end) × (begins_word text (next_start text end) ≡ true)
    go true e h = let parts : (nat_lt end (next_start text end) ≡ true) × (begins_word text (next_start text end) ≡ true) = and_parts (nat_lt end (next_start text end)) (begins_word text (next_start text end)) e in
        (ltb-true end (next_start text end) parts.0, parts.1)
    go false e h = absurd (cc)

next-more : (form : Form) (text : List ℕ) (end : ℕ) → goes_on_with form (next_form text end) ≡ true → (end + 2 ≤ next_end text end) × (next_end text end ≤ length text)
next-more form text end h =
    let (after_blank, begins) = next-found form text end h in
    let less : next_start text end < length text = begins-within text (next_start text end) begins in
    (omega (arith, word-more text (next_start text end) begins, after_blank), word-within text (next_start text end) less)

-- n words, counted with a bound
record Counted (left : ℕ) (form : Form) (text : List ℕ) (end : ℕ) : Type 0 where
  n : ℕ
  is : followers left form text end ≡ record { count = n; end = end_after text end n }
  each : (m : ℕ) → m < n → goes_on_with form (following text end m) ≡ true
  stops : n < left → goes_on_with form (following text end n) ≡ false
  few : n ≤ left

extent-is : (count n end : ℕ) → count ≡ n → (let x : Extent = record { count = count; end = end } in x) ≡ record { count = n; end = end }
extent-is count n end h = ap (λ k. let x : Extent = record { count = k; end = end } in x) h

counted : (left : ℕ) (form : Form) (text : List ℕ) (end : ℕ) → Counted left form text end
unfolding followers
counted zero form text end = record { n = 0; is = refl; each = λ m less. absurd (omega arith); stops = λ less. absurd (omega arith); few = omega arith }
counted (suc left) form text end = go (goes_on_with form (next_form text end)) refl (counted left form text (next_end text end))
  where
    go : (t : Bool) → goes_on_with form (next_form text end) ≡ t → Counted left form text (next_end text end) → Counted (suc left) form text end
    go true goes more = record {
      n = suc more.n;
      is = rw (goes, more.is) (extent-is (more.n + 1) (suc more.n) (end_after text (next_end text end) more.n) (add-one more.n));
      each = below goes more.n more.each;
      stops = λ less. more.stops (omega (arith, less));
      few = omega (arith, more.few);
    }
      where
        below : goes_on_with form (next_form text end) ≡ true → (n : ℕ) → ((m : ℕ) → m < n → goes_on_with form (following text (next_end text end) m) ≡ true) → (m : ℕ) → m < suc n → goes_on_with form (following text end m) ≡ true
        below goes n each zero less = goes
        below goes n each (suc m) less = each m (omega (arith, less))
    go false goes more = record { n = 0; is = rw goes refl; each = λ m less. absurd (omega arith); stops = λ less. goes; few = omega arith }

-- each word has a byte, and a blank before it
grows : (n : ℕ) (form : Form) (text : List ℕ) (end : ℕ) → end ≤ length text → ((m : ℕ) → m < n → goes_on_with form (following text end m) ≡ true) → (end + 2 * n ≤ end_after text end n) × (end_after text end n ≤ length text)
grows zero form text end within each = (omega arith, within)
grows (suc n) form text end within each =
    let (more, there) = next-more form text end (each 0 (omega arith)) in
    let (far, inside) = grows n form text (next_end text end) there (λ m less. each (suc m) (omega (arith, less))) in
    (omega (arith, more, far), inside)

-- the words that follow, where each is looked at
pub record Followed (form : Form) (text : List ℕ) (end : ℕ) : Type 0 where
  pub n : ℕ
  pub is : followers (length text) form text end ≡ record { count = n; end = end_after text end n }
  pub longest : IsLongest form text end n

up-to : (form : Form) (text : List ℕ) (end n : ℕ) → ((m : ℕ) → m < n → goes_on_with form (following text end m) ≡ true) → goes_on_with form (following text end n) ≡ true → (m : ℕ) → m < suc n → goes_on_with form (following text end m) ≡ true
up-to form text end n each last m less = ⊎_elim
    (λ same. rw same last)
    (λ other. ⊎_elim (λ below. each m below) (λ above. absurd (omega (arith, above, less))) other)
    (cases_order m n)

pub followed : (form : Form) (text : List ℕ) (end : ℕ) → end ≤ length text → Followed form text end
followed form text end within =
    let r : Counted (length text) form text end = counted (length text) form text end in
    record { n = r.n; is = r.is; longest = record { each = r.each; stops = stop r.n r.each r.stops r.few (goes_on_with form (following text end r.n)) refl } }
  where
    stop : (n : ℕ) → ((m : ℕ) → m < n → goes_on_with form (following text end m) ≡ true) → (n < length text → goes_on_with form (following text end n) ≡ false) → n ≤ length text → (t : Bool) → goes_on_with form (following text end n) ≡ t → goes_on_with form (following text end n) ≡ false
    stop n each stops few false h = h
    stop n each stops few true h =
        let (far, inside) = grows (suc n) form text end within (up-to form text end n each h) in
        absurd (let no : goes_on_with form (following text end n) ≡ false = stops (omega (arith, far, inside)) in cc)

longest-unique : (form : Form) (text : List ℕ) (end n m : ℕ) → IsLongest form text end n → IsLongest form text end m → n ≡ m
longest-unique form text end n m a b = ⊎_elim
    (λ same. same)
    (λ other. ⊎_elim
    (λ below. absurd (let yes : goes_on_with form (following text end n) ≡ true = b.each n below in let no : goes_on_with form (following text end n) ≡ false = a.stops in cc))
    (λ above. absurd (let yes : goes_on_with form (following text end m) ≡ true = a.each m above in let no : goes_on_with form (following text end m) ≡ false = b.stops in cc))
    other)
    (cases_order n m)

-- the word after n others
end_after-next : (text : List ℕ) (end n : ℕ) → end_after text end (suc n) ≡ next_end text (end_after text end n)
end_after-next text end zero = refl
end_after-next text end (suc n) = end_after-next text (next_end text end) n

run-is : (kind : NumberKind) (count n end : ℕ) → count ≡ n → (let x : Run = record { kind = kind; count = count; end = end } in x) ≡ record { kind = kind; count = n; end = end }
run-is kind count n end h = ap (λ k. let x : Run = record { kind = kind; count = k; end = end } in x) h

unsome : (a b : Run) → Some a ≡ Some b → b ≡ a
unsome a b h = cc

-- runs of whole numbers
whole-sound : (text : List ℕ) (end n : ℕ) (run : Run) → IsLongest f.Whole text end n → (next : Option Form) → following text end n ≡ next → (more : Bool) → is_whole (following text end (suc n)) ≡ more
    → run ≡ suffixed_run next more (record { count = n; end = end_after text end n }) (end_after text end (suc n)) → IsWholeRun text end run
whole-sound text end n run longest (Some (f.Suffixed kind)) next-is false more-is is = (n, longest, inr (kind, (next-is, more-is), is))
whole-sound text end n run longest (Some (f.Suffixed kind)) next-is true more-is is = (n, longest, inl ((λ k last. absurd (let no : is_whole (following text end (suc n)) ≡ false = last.1 in cc)), is))
whole-sound text end n run longest None next-is more more-is is = (n, longest, inl ((λ k last. absurd (let no : None ≡ Some (f.Suffixed k) = sym next-is ∙ last.0 in cc)), is))
whole-sound text end n run longest (Some f.Whole) next-is more more-is is = (n, longest, inl ((λ k last. absurd (let no : Some f.Whole ≡ Some (f.Suffixed k) = sym next-is ∙ last.0 in cc)), is))
whole-sound text end n run longest (Some (f.Special kind)) next-is more more-is is = (n, longest, inl ((λ k last. absurd (let no : Some (f.Special kind) ≡ Some (f.Suffixed k) = sym next-is ∙ last.0 in cc)), is))
whole-sound text end n run longest (Some (f.Item kind)) next-is more more-is is = (n, longest, inl ((λ k last. absurd (let no : Some (f.Item kind) ≡ Some (f.Suffixed k) = sym next-is ∙ last.0 in cc)), is))
whole-sound text end n run longest (Some (f.Row kind)) next-is more more-is is = (n, longest, inl ((λ k last. absurd (let no : Some (f.Row kind) ≡ Some (f.Suffixed k) = sym next-is ∙ last.0 in cc)), is))

-- the run of whole numbers, by the words that follow
whole-followed : (text : List ℕ) (end : ℕ) (r : Followed f.Whole text end)
    → whole_run text (followers (length text) f.Whole text end) ≡ suffixed_run (following text end r.n) (is_whole (following text end (suc r.n))) (record { count = r.n; end = end_after text end r.n }) (end_after text end (suc r.n))
whole-followed text end r = rw (r.is, ← (end_after-next text end r.n)) refl

plain-run : (text : List ℕ) (end n : ℕ) (next : Option Form) (more : Bool) → following text end n ≡ next → is_whole (following text end (suc n)) ≡ more → ((kind : NumberKind) → IsLast kind text end n → ⊥)
    → suffixed_run next more (record { count = n; end = end_after text end n }) (end_after text end (suc n)) ≡ record { kind = nk.Longs lk.Long; count = n + 1; end = end_after text end n }
plain-run text end n (Some (f.Suffixed kind)) false next-is more-is never = absurd (never kind (next-is, more-is))
plain-run text end n (Some (f.Suffixed kind)) true next-is more-is never = refl
plain-run text end n None more next-is more-is never = refl
plain-run text end n (Some f.Whole) more next-is more-is never = refl
plain-run text end n (Some (f.Special kind)) more next-is more-is never = refl
plain-run text end n (Some (f.Item kind)) more next-is more-is never = refl
plain-run text end n (Some (f.Row kind)) more next-is more-is never = refl

whole-complete : (text : List ℕ) (end : ℕ) (run : Run) → end ≤ length text → IsWholeRun text end run → whole_run text (followers (length text) f.Whole text end) ≡ run
whole-complete text end run within (n, longest, how) =
    let r : Followed f.Whole text end = followed f.Whole text end within in
    let same : r.n ≡ n = longest-unique f.Whole text end r.n n r.longest longest in
    whole-followed text end r ∙ rw same (by how)
  where
    by : ((((kind : NumberKind) → IsLast kind text end n → ⊥) × (run ≡ record { kind = nk.Longs lk.Long; count = n + 1; end = end_after text end n })) ⊎ ((kind : NumberKind) × IsLast kind text end n × (run ≡ record { kind = kind; count = n + 2; end = end_after text end (suc n) })))
        → suffixed_run (following text end n) (is_whole (following text end (suc n))) (record { count = n; end = end_after text end n }) (end_after text end (suc n)) ≡ run
    by (inl (never, is)) = plain-run text end n (following text end n) (is_whole (following text end (suc n))) refl refl never ∙ sym is
    by (inr (kind, last, is)) = rw (last.0, last.1) (sym is)

-- runs of other forms
uniform-sound : (form : Form) (kind : NumberKind) (text : List ℕ) (end : ℕ) (run : Run) → end ≤ length text → run ≡ plain_run kind (followers (length text) form text end) → IsUniform form kind text end run
uniform-sound form kind text end run within is =
    let r : Followed form text end = followed form text end within in
    (r.n, r.longest, is ∙ rw (r.is) refl)

uniform-complete : (form : Form) (kind : NumberKind) (text : List ℕ) (end : ℕ) (run : Run) → end ≤ length text → IsUniform form kind text end run → plain_run kind (followers (length text) form text end) ≡ run
uniform-complete form kind text end run within (n, longest, is) =
    let r : Followed form text end = followed form text end within in
    let same : r.n ≡ n = longest-unique form text end r.n n r.longest longest in
    rw (r.is, same) (sym is)

-- a number with a suffix alone
single : (kind : NumberKind) (text : List ℕ) (end : ℕ) (run : Run) (more : Bool) → is_whole (next_form text end) ≡ more → cond more None (Some (record { kind = kind; count = 1; end = end })) ≡ Some run
    → (is_whole (next_form text end) ≡ false) × (run ≡ record { kind = kind; count = 1; end = end })
single kind text end run true e h = absurd (cc)
single kind text end run false e h = (e, unsome (record { kind = kind; count = 1; end = end }) run h)

pub run-sound : (form : Form) (text : List ℕ) (end : ℕ) (run : Run) → end ≤ length text → run_of form text end ≡ Some run → IsRun form text end run
unfolding run_of
run-sound f.Whole text end run within h =
    let r : Followed f.Whole text end = followed f.Whole text end within in
    whole-sound text end r.n run r.longest (following text end r.n) refl (is_whole (following text end (suc r.n))) refl (unsome (whole_run text (followers (length text) f.Whole text end)) run h ∙ whole-followed text end r)
run-sound (f.Suffixed kind) text end run within h = single kind text end run (is_whole (next_form text end)) refl h
run-sound (f.Special kind) text end run within h = uniform-sound (f.Special kind) kind text end run within (unsome (plain_run kind (followers (length text) (f.Special kind) text end)) run h)
run-sound (f.Item kind) text end run within h = uniform-sound (f.Item kind) kind text end run within (unsome (plain_run kind (followers (length text) (f.Item kind) text end)) run h)
run-sound (f.Row kind) text end run within h = unsome (record { kind = kind; count = 1; end = end }) run h

pub run-complete : (form : Form) (text : List ℕ) (end : ℕ) (run : Run) → end ≤ length text → IsRun form text end run → run_of form text end ≡ Some run
unfolding run_of
run-complete f.Whole text end run within is = ap (λ x. Some x) (whole-complete text end run within is)
run-complete (f.Suffixed kind) text end run within is = rw (is.0, is.1) refl
run-complete (f.Special kind) text end run within is = ap (λ x. Some x) (uniform-complete (f.Special kind) kind text end run within is)
run-complete (f.Item kind) text end run within is = ap (λ x. Some x) (uniform-complete (f.Item kind) kind text end run within is)
run-complete (f.Row kind) text end run within is = ap (λ x. Some x) (sym is)
