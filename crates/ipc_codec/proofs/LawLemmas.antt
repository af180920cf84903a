-- The laws of reading and encodings.
use Rattle.std.proofs.Common.{◌≡◌, ℕ, ◌+◌, ◌-◌, ◌≤◌, List, ◌++◌, length, take, drop, Result, Ok, Err, refl, sym, ap, subst, ◌∙◌, arith}
use Rattle.std.proofs.lemmas.List.{take_at, take-append-drop, length-take, length-append}
use Rattle.q_values.specs.Tree.{Tree}
use Rattle.ipc_codec.specs.declared.fault.Fault.{Fault}
use Rattle.ipc_codec.specs.declared.order.Order.{Order}
use Rattle.ipc_codec.specs.declared.refusal.DecodeRefusal.{DecodeRefusal}
use Rattle.ipc_codec.specs.declared.refusal.DecodeRefusal.TheVariants as r
use Rattle.ipc_codec.specs.Reading.{object_at, object_of, counted, RefusesObject}
use Rattle.ipc_codec.specs.Spells.{Spells}
use Rattle.ipc_codec.specs.Laws.{ReadingIsSpelling, SpellingIsRead, NoSpellingBeginsAnother}
use Rattle.ipc_codec.proofs.SpellsLemmas.{object_took}
use Rattle.ipc_codec.proofs.SpelledLemmas.{object_again}

abbrev pub found : Tree → ℕ → Result (Tree × ℕ) DecodeRefusal
found t n = Ok (t, n)

same_found : (p q : Tree × ℕ) → found p.0 p.1 ≡ found q.0 q.1 → p ≡ q
same_found p q e = cc

same_tree : (t u : Tree) (m n : ℕ) → found t m ≡ found u n → t ≡ u
same_tree t u m n e = ap (λ (p : Tree × ℕ). p.0) (same_found (t, m) (u, n) e)

same_count : (t u : Tree) (m n : ℕ) → found t m ≡ found u n → m ≡ n
same_count t u m n e = ap (λ (p : Tree × ℕ). p.1) (same_found (t, m) (u, n) e)

pub reading_spells : ReadingIsSpelling
unfolding object_of
reading_spells order bytes t n e = by_cases (object_at 64 order bytes) refl e
  where
    by_cases : (r : Result (Tree × List ℕ) Fault) → object_at 64 order bytes ≡ r → counted (length bytes) r ≡ found t n → (n ≤ length bytes) × Spells order (take n bytes) t
    by_cases (Ok x) h d =
        let took = object_took 64 order bytes x h in
        let tree_is = same_tree x.0 t (length bytes - length x.1) n d in
        let count_is = same_count x.0 t (length bytes - length x.1) n d in
        let len : length bytes ≡ length took.front + length x.1 = ap length took.parts ∙ length-append took.front x.1 in
        let front_is : take n bytes ≡ took.front = ap (take n) took.parts ∙ take_at took.front x.1 n (omega (arith, len, count_is)) in
        (omega (arith, len, count_is), subst (λ (u : Tree). Spells order (take n bytes) u) tree_is (subst (λ (b : List ℕ). Spells order b x.0) (sym front_is) (record { object = took.spelled.0; nested = took.spelled.1 })))
    by_cases (Err f) h d = absurd cc

pub spelling_reads : SpellingIsRead
unfolding object_of
spelling_reads order bytes t rest h =
    let len : length (bytes ++ rest) - length rest ≡ length bytes = omega (arith, length-append bytes rest) in
    rw (object_again t 64 order bytes rest h.nested h.object) (ap (found t) len)

pub no_spelling_begins : NoSpellingBeginsAnother
no_spelling_begins order a b x y t u p q e =
    let one : found t (length a) ≡ found u (length b) = sym (spelling_reads order a t x p) ∙ ap (object_of order) e ∙ spelling_reads order b u y q in
    let len = same_count t u (length a) (length b) one in
    (sym (take_at a x (length a) refl) ∙ ap (take (length a)) e ∙ take_at b y (length a) (sym len), same_tree t u (length a) (length b) one)

-- ---- decode

pub only_ok : (order : Order) (bytes : List ℕ) (t u : Tree) (m n : ℕ) → object_of order bytes ≡ Ok (u, m) → n ≤ length bytes → Spells order (take n bytes) t → (u ≡ t) × (m ≡ n)
only_ok order bytes t u m n h within spelled =
    let again : object_of order bytes ≡ found t (length (take n bytes)) = ap (object_of order) (sym (take-append-drop n bytes)) ∙ spelling_reads order (take n bytes) t (drop n bytes) spelled in
    let one : found u m ≡ found t (length (take n bytes)) = sym h ∙ again in
    (same_tree u t m (length (take n bytes)) one, omega (arith, same_count u t m (length (take n bytes)) one, length-take n bytes))

pub only_err : (order : Order) (bytes : List ℕ) (t : Tree) (n : ℕ) (e : DecodeRefusal) → RefusesObject (object_of order bytes) e → n ≤ length bytes → Spells order (take n bytes) t → e ≡ r.NoMemory
only_err order bytes t n e h within spelled =
    let again : object_of order bytes ≡ found t (length (take n bytes)) = ap (object_of order) (sym (take-append-drop n bytes)) ∙ spelling_reads order (take n bytes) t (drop n bytes) spelled in
    by_refusal e (subst (λ (x : Result (Tree × ℕ) DecodeRefusal). RefusesObject x e) again h)
  where
    by_refusal : (e : DecodeRefusal) → RefusesObject (found t (length (take n bytes))) e → e ≡ r.NoMemory
    by_refusal r.NoMemory h = refl
    by_refusal (r.Truncated at) h = absurd cc
    by_refusal (r.BadType at) h = absurd cc
    by_refusal (r.BadShape at) h = absurd cc
    by_refusal (r.NotBuilt at) h = absurd cc
    by_refusal (r.TooDeep at) h = absurd cc
