-- Symbol literals are names with backticks.
use Rattle.std.proofs.Common.{◌≡◌, ℕ, suc, ◌+◌, ◌<◌, ◌||◌, Bool, true, false, cond, List, [], ◌∷◌, ◌++◌, length, take, drop, get_or, eqb, refl, sym, ap, ap₂, ◌∙◌, arith, append_assoc, map}
use Rattle.std.specs.List.{AllByRecursion}
use Rattle.std.proofs.lemmas.Bool.{eqb-true, or_parts}
use Rattle.std.proofs.lemmas.List.{take-append-drop}
use Rattle.std.proofs.Math.Seq.{drop-cons, take-append_seam}
use Rattle.q_values.specs.Tree.{Tree}
use Rattle.q_values.specs.declared.atom.Atom.TheVariants as a
use Rattle.q_values.specs.declared.kind.Kind.TheVariants as k
use Rattle.q_text.specs.Words.{span, is_symbol, is_of, span_end}
use Rattle.q_text.specs.Symbols.{names}
use Rattle.q_text.specs.Numbers.{valued}
use Rattle.q_text.specs.Literal.{Literal, symbols_at}
use Rattle.q_text.specs.Grammar.{AllOf, ticked, IsSymbols}
use Rattle.q_text.specs.declared.words.Class.TheVariants as c
use Rattle.q_text.proofs.Names.{not-tick}
use Rattle.q_text.proofs.Spans.{all-taken, span-stops, span-all, all-append}

-- symbols are the rest of a name, and names with backticks
ticked-names : (bs : List ℕ) → take (span c.Symbols bs) bs ≡ take (span c.Symbol bs) bs ++ ticked (names bs)
ticked-names [] = refl
ticked-names (b ∷ bs) = go (eqb b 96) refl (is_symbol b) refl (ticked-names bs)
  where
    go : (t : Bool) → eqb b 96 ≡ t → (s : Bool) → is_symbol b ≡ s → take (span c.Symbols bs) bs ≡ take (span c.Symbol bs) bs ++ ticked (names bs)
        → take (cond (t || s) (suc (span c.Symbols bs)) 0) (b ∷ bs) ≡ take (cond s (suc (span c.Symbol bs)) 0) (b ∷ bs) ++ ticked (cond t (take (span c.Symbol bs) bs ∷ names bs) (cond s (names bs) []))
    go true h true k more = absurd (let no : eqb b 96 ≡ false = not-tick b k in cc)
    go true h false k more = ap₂ (λ x l. x ∷ l) (eqb-true b 96 h) more
    go false h true k more = ap (λ l. b ∷ l) more
    go false h false k more = refl

each-name : (bs : List ℕ) → AllByRecursion (AllOf c.Symbol) (names bs)
each-name [] = tt
each-name (b ∷ bs) = go (eqb b 96) (is_symbol b) (each-name bs)
  where
    go : (t s : Bool) → AllByRecursion (AllOf c.Symbol) (names bs) → AllByRecursion (AllOf c.Symbol) (cond t (take (span c.Symbol bs) bs ∷ names bs) (cond s (names bs) []))
    go true s more = (all-taken c.Symbol bs, more)
    go false true more = more
    go false false more = tt

-- a name is passed over
names-append : (name rest : List ℕ) → AllOf c.Symbol name → names (name ++ rest) ≡ names rest
names-append [] rest h = refl
names-append (b ∷ bs) rest h = rw (not-tick b h.0, h.0) (names-append bs rest h.1)

names-none : (rest : List ℕ) → is_of c.Symbols (get_or rest 0 0) ≡ false → names rest ≡ []
names-none [] h = refl
names-none (b ∷ bs) h = let parts : (eqb b 96 ≡ false) × (is_symbol b ≡ false) = or_parts (eqb b 96) (is_symbol b) h in rw (parts.0, parts.1) refl

-- no name goes on where a backtick or the rest stands
stops-name : (ns : List (List ℕ)) (rest : List ℕ) → is_of c.Symbols (get_or rest 0 0) ≡ false → is_of c.Symbol (get_or (ticked ns ++ rest) 0 0) ≡ false
stops-name [] rest h = (or_parts (eqb (get_or rest 0 0) 96) (is_symbol (get_or rest 0 0)) h).1
stops-name (n ∷ ns) rest h = refl

names-ticked : (ns : List (List ℕ)) (rest : List ℕ) → AllByRecursion (AllOf c.Symbol) ns → is_of c.Symbols (get_or rest 0 0) ≡ false → names (ticked ns ++ rest) ≡ ns
names-ticked [] rest h k = names-none rest k
names-ticked (n ∷ ns) rest h k =
    let flat : (n ++ ticked ns) ++ rest ≡ n ++ (ticked ns ++ rest) = append_assoc n (ticked ns) rest in
    let len : span c.Symbol (n ++ (ticked ns ++ rest)) ≡ length n = span-all c.Symbol n (ticked ns ++ rest) h.0 (stops-name ns rest k) in
    rw (flat, len, take-append_seam n (ticked ns ++ rest), names-append n (ticked ns ++ rest) h.0, names-ticked ns rest h.1 k) refl

as_symbols : (bs : List ℕ) → AllOf c.Symbol bs → AllOf c.Symbols bs
as_symbols [] h = tt
as_symbols (b ∷ bs) h = (rw h.0 (or-true (eqb b 96)), as_symbols bs h.1)
  where
    or-true : (t : Bool) → (t || true) ≡ true
    or-true true = refl
    or-true false = refl

all-ticked : (ns : List (List ℕ)) → AllByRecursion (AllOf c.Symbol) ns → AllOf c.Symbols (ticked ns)
all-ticked [] h = tt
all-ticked (n ∷ ns) h = (refl, all-append c.Symbols n (ticked ns) (as_symbols n h.0) (all-ticked ns h.1))

-- the length of the symbols after the first backtick
tick-length : (text : List ℕ) (at : ℕ) → at < length text → get_or text at 0 ≡ 96 → span c.Symbols (drop at text) ≡ suc (span c.Symbols (drop (suc at) text))
tick-length text at less tick = rw (drop-cons text at 0 less, tick) refl

no-name : (text : List ℕ) (at : ℕ) → at < length text → get_or text at 0 ≡ 96 → span c.Symbol (drop at text) ≡ 0
no-name text at less tick = rw (drop-cons text at 0 less, tick) refl

pub symbols-sound : (text : List ℕ) (at : ℕ) → at < length text → get_or text at 0 ≡ 96 → IsSymbols text at (symbols_at text at)
unfolding symbols_at
symbols-sound text at less tick =
    let bs : List ℕ = drop at text in
    let n : ℕ = span c.Symbols (drop at text) in
    let front : take n bs ≡ ticked (names bs) = rw (no-name text at less tick) at (ticked-names (drop at text)) in
    let source : bs ≡ ticked (names bs) ++ drop n bs = sym (take-append-drop n bs) ∙ ap (λ l. l ++ drop n bs) front in
    let stops : is_of c.Symbols (get_or (drop n bs) 0 0) ≡ false = span-stops c.Symbols bs refl in
    let len : span c.Symbols bs ≡ length (ticked (names bs)) = ap (λ l. span c.Symbols l) source ∙ span-all c.Symbols (ticked (names bs)) (drop n bs) (all-ticked (names bs) (each-name bs)) stops in
    let one : at + 1 ≡ suc at = omega arith in
    record {
      names = names bs;
      rest = drop n bs;
      begins = tick;
      source = source;
      each = each-name bs;
      stops = stops;
      value = refl;
      ends = rw one (omega (arith, len, tick-length text at less tick));
    }

pub symbols-complete : (text : List ℕ) (at : ℕ) (found : Literal) → at < length text → IsSymbols text at found → symbols_at text at ≡ found
unfolding symbols_at
symbols-complete text at found less is =
    let same : names (drop at text) ≡ is.names = ap (λ l. names l) is.source ∙ names-ticked is.names is.rest is.each is.stops in
    let len : span c.Symbols (drop at text) ≡ length (ticked is.names) = ap (λ l. span c.Symbols l) is.source ∙ span-all c.Symbols (ticked is.names) is.rest (all-ticked is.names is.each) is.stops in
    let one : at + 1 ≡ suc at = omega arith in
    let ends : span_end c.Symbols text (at + 1) ≡ found.end = rw one (omega (arith, len, tick-length text at less is.begins, is.ends)) in
    let value : valued (record { kind = k.Symbol; atoms = map (λ name. a.Symbol name) (names (drop at text)) }) ≡ found.value = rw same (sym is.value) in
    literal-is found _ _ value ends
  where
    literal-is : (found : Literal) (v : Tree) (e : ℕ) → v ≡ found.value → e ≡ found.end → (let x : Literal = record { value = v; end = e } in x) ≡ found
    literal-is found v e p q = ap₂ (λ x y. let l : Literal = record { value = x; end = y } in l) p q
