-- Text in quotes is characters with escapes.
use Rattle.std.proofs.Common.{◌≡◌, ℕ, ◌+◌, ◌<◌, Bool, true, false, cond, List, [], ◌∷◌, length, drop, get_or, eqb, Option, Some, None, refl, sym, ap, ap₂, arith, map, inl, inr, subst}
use Rattle.std.proofs.lemmas.Bool.{eqb-true}
use Rattle.std.proofs.lemmas.List.{length-drop}
use Rattle.q_values.specs.Tree.{Tree}
use Rattle.q_values.specs.declared.atom.Atom.TheVariants as a
use Rattle.q_values.specs.declared.kind.Kind.TheVariants as k
use Rattle.q_text.specs.Strings.{quoted, before, escape, escaped}
use Rattle.q_text.specs.Numbers.{valued}
use Rattle.q_text.specs.Literal.{Literal, characters, characters_at}
use Rattle.q_text.specs.Grammar.{IsCharacter, AreCharacters, IsQuotation}

-- characters up to the closing quote, of n bytes with it
pub record Closed (bs characters : List ℕ) (n : ℕ) : Type 0 where
  pub rest : List ℕ
  pub spelled : AreCharacters characters bs rest
  pub len : n + length rest ≡ length bs

-- the same, after a backslash
pub record Escaped (bs characters : List ℕ) (n : ℕ) : Type 0 where
  pub letter : ℕ
  pub character : ℕ
  pub more : List ℕ
  pub others : List ℕ
  pub rest : List ℕ
  pub source : bs ≡ letter ∷ more
  pub is : characters ≡ character ∷ others
  pub stands : escape letter ≡ Some character
  pub spelled : AreCharacters others more rest
  pub len : n + length rest ≡ length bs

abbrev Read : Bool → List ℕ → Option (List ℕ × ℕ) → Type 0
Read true bs None = Unit {0}
Read true bs (Some found) = Escaped bs found.0 found.1
Read false bs None = Unit {0}
Read false bs (Some found) = Closed bs found.0 found.1

read-escape : (b : ℕ) (bs : List ℕ) (e : Option ℕ) → escape b ≡ e → (q : Option (List ℕ × ℕ)) → Read false bs q → Read true (b ∷ bs) (escaped e q)
read-escape b bs None h q r = tt
read-escape b bs (Some c) h None r = tt
read-escape b bs (Some c) h (Some found) r = record {
  letter = b;
  character = c;
  more = bs;
  others = found.0;
  rest = r.rest;
  source = refl;
  is = refl;
  stands = h;
  spelled = r.spelled;
  len = omega (arith, r.len);
}

read-plain : (b : ℕ) (bs : List ℕ) → eqb b 34 ≡ false → eqb b 92 ≡ false → (q : Option (List ℕ × ℕ)) → Read false bs q → Read false (b ∷ bs) (before (b ∷ []) 1 q)
read-plain b bs quote slash None r = tt
read-plain b bs quote slash (Some found) r = record {
  rest = r.rest;
  spelled = (bs, inl (refl, quote, slash), r.spelled);
  len = omega (arith, r.len);
}

read-slash : (b : ℕ) (bs : List ℕ) → eqb b 92 ≡ true → (q : Option (List ℕ × ℕ)) → Read true bs q → Read false (b ∷ bs) (before [] 1 q)
read-slash b bs slash None r = tt
read-slash b bs slash (Some found) r =
    let source : b ∷ bs ≡ 92 ∷ r.letter ∷ r.more = ap₂ (λ x l. x ∷ l) (eqb-true b 92 slash) r.source in
    let spelled : AreCharacters (r.character ∷ r.others) (b ∷ bs) r.rest = (r.more, inr (r.letter, source, r.stands), r.spelled) in
    let P : List ℕ → Type 0 = λ l. AreCharacters l (b ∷ bs) r.rest in
    record {
      rest = r.rest;
      spelled = subst P (sym r.is) spelled;
      len = omega (arith, r.len);
    }

read-byte : (b : ℕ) (bs : List ℕ) → Read true bs (quoted true bs) → Read false bs (quoted false bs) → Read false (b ∷ bs) (quoted false (b ∷ bs))
read-byte b bs after_slash plain = go (eqb b 34) refl (eqb b 92) refl
  where
    closed : eqb b 34 ≡ true → Closed (b ∷ bs) [] 1
    closed h = record { rest = bs; spelled = ap (λ x. x ∷ bs) (eqb-true b 34 h); len = omega arith }

    go : (t : Bool) → eqb b 34 ≡ t → (s : Bool) → eqb b 92 ≡ s → Read false (b ∷ bs) (cond t (Some ([], 1)) (cond s (before [] 1 (quoted true bs)) (before (b ∷ []) 1 (quoted false bs))))
    go true h s e = closed h
    go false h true e = read-slash b bs e (quoted true bs) after_slash
    go false h false e = read-plain b bs h e (quoted false bs) plain

read-quoted : (t : Bool) (bs : List ℕ) → Read t bs (quoted t bs)
read-quoted true [] = tt
read-quoted false [] = tt
read-quoted true (b ∷ bs) = read-escape b bs (escape b) refl (quoted false bs) (read-quoted false bs)
read-quoted false (b ∷ bs) = read-byte b bs (read-quoted true bs) (read-quoted false bs)

-- characters are read as themselves, up to the closing quote
quoted-characters : (cs source rest : List ℕ) → AreCharacters cs source rest → (n : ℕ) × (quoted false source ≡ Some (cs, n)) × (n + length rest ≡ length source)
quoted-characters [] source rest h = (1, rw h refl, rw h (omega arith))
quoted-characters (character ∷ cs) source rest (more, is, tail) =
    let (n, found, len) = quoted-characters cs more rest tail in
    one is n found len
  where
    one : IsCharacter character source more → (n : ℕ) → quoted false more ≡ Some (cs, n) → n + length rest ≡ length more → (m : ℕ) × (quoted false source ≡ Some (character ∷ cs, m)) × (m + length rest ≡ length source)
    one (inl (source-is, quote, slash)) n found len = (1 + n, rw (source-is, quote, slash, found) refl, rw source-is (omega (arith, len)))
    one (inr (letter, source-is, stands)) n found len = (1 + (1 + n), rw (source-is, stands, found) refl, rw source-is (omega (arith, len)))

quotation-read : (text : List ℕ) (at : ℕ) (found : Literal) → at < length text → get_or text at 0 ≡ 34 → (q : Option (List ℕ × ℕ)) → Read false (drop (at + 1) text) q → characters at q ≡ Some found → IsQuotation text at found
quotation-read text at found less quote None r h = absurd (cc)
quotation-read text at found less quote (Some q) r h =
    let value : found.value ≡ valued (record { kind = k.Character; atoms = map (λ b. a.Character b) q.0 }) = cc in
    let end : found.end ≡ at + 1 + q.1 = cc in
    record {
      characters = q.0;
      rest = r.rest;
      begins = quote;
      spelled = r.spelled;
      value = value;
      ends = omega (arith, end, r.len, length-drop (at + 1) text);
    }

pub quotation-sound : (text : List ℕ) (at : ℕ) (found : Literal) → at < length text → get_or text at 0 ≡ 34 → characters_at text at ≡ Some found → IsQuotation text at found
unfolding characters_at
quotation-sound text at found less quote h = quotation-read text at found less quote (quoted false (drop (at + 1) text)) (read-quoted false (drop (at + 1) text)) h

literal-is : (found : Literal) (v : Tree) (e : ℕ) → v ≡ found.value → e ≡ found.end → (let x : Literal = record { value = v; end = e } in Some x) ≡ Some found
literal-is found v e p q = ap₂ (λ x y. let l : Literal = record { value = x; end = y } in Some l) p q

pub quotation-complete : (text : List ℕ) (at : ℕ) (found : Literal) → at < length text → IsQuotation text at found → characters_at text at ≡ Some found
unfolding characters_at
quotation-complete text at found less is =
    let (n, read, len) = quoted-characters is.characters (drop (at + 1) text) is.rest is.spelled in
    let end : at + 1 + n ≡ found.end = omega (arith, len, is.ends, length-drop (at + 1) text) in
    rw read (literal-is found (valued (record { kind = k.Character; atoms = map (λ b. a.Character b) is.characters })) (at + 1 + n) (sym is.value) end)
