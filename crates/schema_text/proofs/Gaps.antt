-- Gaps are what the reader passes.
use Rattle.std.specs.Prelude.{◌==◌, ◌||◌, ◌&&◌, Some, None}
use Rattle.std.proofs.Common.{◌≡◌, ℕ, suc, ◌+◌, Bool, true, false, cond, List, [], ◌∷◌, ◌++◌, length, drop, refl, sym, ap, subst, ◌∙◌, arith}
use Rattle.std.specs.List.{AllByRecursion}
use Rattle.std.proofs.lemmas.Bool.{eqb-true}
use Rattle.schema_text.specs.Grammar.{is_blank, ends_line, IsGap, at_end, at_token, blank, remark, IsNext}
use Rattle.schema_text.specs.Tokens.{after_byte, passed, part}
use Rattle.schema_text.specs.declared.tokens.Mode.{Mode}
use Rattle.schema_text.specs.declared.tokens.Mode.TheVariants.{LineStart, Inside, Remark}

abbrev pub mode_of : Bool → Mode
mode_of true = LineStart
mode_of false = Inside

after-plain : (p q : Bool) → (p || q) ≡ false → cond p (Some LineStart) (cond q (Some Inside) None) ≡ None
after-plain false false h = refl
after-plain true q h = cc
after-plain false true h = cc

after-blank : (p q : Bool) → (p || q) ≡ true → cond p (Some LineStart) (cond q (Some Inside) None) ≡ Some (mode_of p)
after-blank true q h = refl
after-blank false true h = refl
after-blank false false h = cc

no_slash : (b : ℕ) → is_blank b ≡ true → (b == 47) ≡ false
no_slash b h = go (b == 47) refl
  where
    go : (t : Bool) → (b == 47) ≡ t → t ≡ false
    go false e = refl
    go true e = let no : is_blank 47 ≡ true = subst (λ n. is_blank n ≡ true) (eqb-true b 47 e) h in cc

passes : (start : Bool) (b : ℕ) → is_blank b ≡ true → after_byte (mode_of start) b ≡ Some (mode_of (b == 10))
passes true b h = rw (no_slash b h) (after-blank (b == 10) ((b == 32) || ((b == 9) || (b == 13))) h)
passes false b h = after-blank (b == 10) ((b == 32) || ((b == 9) || (b == 13))) h

stays : (start : Bool) (b : ℕ) → is_blank b ≡ false → (start && (b == 47)) ≡ false → after_byte (mode_of start) b ≡ None
stays true b h slash = rw slash (after-plain (b == 10) ((b == 32) || ((b == 9) || (b == 13))) h)
stays false b h slash = after-plain (b == 10) ((b == 32) || ((b == 9) || (b == 13))) h

passed-remark : (line rest : List ℕ) (n : ℕ) → AllByRecursion (λ b. (b == 10) ≡ false) line → ends_line rest ≡ true → n ≡ passed LineStart rest
    → passed Remark (line ++ rest) ≡ length line + n
passed-remark [] [] n plain ends h = omega (arith, h)
passed-remark [] (b ∷ bs) n plain ends h =
    let ten : b ≡ 10 = eqb-true b 10 ends in
    let same : passed Remark (b ∷ bs) ≡ passed LineStart (b ∷ bs) = rw ten refl in
    omega (arith, same, h)
passed-remark (c ∷ line) rest n plain ends h =
    let step : passed Remark (c ∷ line ++ rest) ≡ suc (passed Remark (line ++ rest)) = rw plain.0 refl in
    omega (arith, step, passed-remark line rest n plain.1 ends h)

pub gap-only : {start : Bool} {bs : List ℕ} {n : ℕ} → IsGap start bs n → n ≡ passed (mode_of start) bs
gap-only at_end = refl
gap-only (at_token {start = start} {b = b} {bs = bs} h slash) = rw (stays start b h slash) refl
gap-only (blank {start = start} {b = b} {n = n} {bs = bs} h gap) = rw (passes start b h) (ap suc (gap-only gap))
gap-only (remark {n = n} line rest plain ends gap) = ap suc (sym (passed-remark line rest n plain ends (gap-only gap)))

record Remarks (bs : List ℕ) : Type 0 where
  line : List ℕ
  rest : List ℕ
  is : bs ≡ line ++ rest
  plain : AllByRecursion (λ b. (b == 10) ≡ false) line
  ends : ends_line rest ≡ true
  count : passed Remark bs ≡ length line + passed LineStart rest
  gap : IsGap true rest (passed LineStart rest)

from-remark : (bs : List ℕ) → Remarks bs → IsGap true (47 ∷ bs) (suc (passed Remark bs))
from-remark bs l =
    rw l.count (subst (λ cs. IsGap true (47 ∷ cs) (suc (length l.line + passed LineStart l.rest))) (sym l.is) (remark l.line l.rest l.plain l.ends l.gap))

gap-here : (start : Bool) (b : ℕ) (bs : List ℕ) → ((before : Bool) → IsGap before bs (passed (mode_of before) bs)) → Remarks bs
    → IsGap start (b ∷ bs) (passed (mode_of start) (b ∷ bs))
gap-here start b bs more line = go (is_blank b) refl
  where
    in_remark : (first : Bool) → (first && (b == 47)) ≡ true → IsGap first (b ∷ bs) (passed (mode_of first) (b ∷ bs))
    in_remark false e = cc
    in_remark true e = subst (λ c. IsGap true (c ∷ bs) (passed LineStart (c ∷ bs))) (sym (eqb-true b 47 e)) (from-remark bs line)

    other : (t : Bool) → (start && (b == 47)) ≡ t → is_blank b ≡ false → IsGap start (b ∷ bs) (passed (mode_of start) (b ∷ bs))
    other false slash h = rw (stays start b h slash) (at_token h slash)
    other true slash h = in_remark start slash

    go : (t : Bool) → is_blank b ≡ t → IsGap start (b ∷ bs) (passed (mode_of start) (b ∷ bs))
    go true h = rw (passes start b h) (blank h (more (b == 10)))
    go false h = other (start && (b == 47)) refl h

remark-here : (b : ℕ) (bs : List ℕ) → ((before : Bool) → IsGap before bs (passed (mode_of before) bs)) → Remarks bs → Remarks (b ∷ bs)
remark-here b bs more line = go (b == 10) refl
  where
    go : (t : Bool) → (b == 10) ≡ t → Remarks (b ∷ bs)
    go true h =
        let ten : b ≡ 10 = eqb-true b 10 h in
        let same : passed Remark (b ∷ bs) ≡ passed LineStart (b ∷ bs) = rw ten refl in
        record { line = []; rest = b ∷ bs; is = refl; plain = tt; ends = h; count = omega (arith, same); gap = gap-here true b bs more line }
    go false h =
        let step : passed Remark (b ∷ bs) ≡ suc (passed Remark bs) = rw h refl in
        record {
          line = b ∷ line.line;
          rest = line.rest;
          is = ap (λ cs. b ∷ cs) line.is;
          plain = (h, line.plain);
          ends = line.ends;
          count = omega (arith, step, line.count);
          gap = line.gap;
        }

gaps : (bs : List ℕ) → ((start : Bool) → IsGap start bs (passed (mode_of start) bs)) × Remarks bs
gaps [] = (λ start. at_end, record { line = []; rest = []; is = refl; plain = tt; ends = refl; count = refl; gap = at_end })
gaps (b ∷ bs) = let more = gaps bs in (λ start. gap-here start b bs more.0 more.1, remark-here b bs more.0 more.1)

pub gap-reads : (start : Bool) (bs : List ℕ) → IsGap start bs (passed (mode_of start) bs)
gap-reads start bs = (gaps bs).0 start

pub next-reads : (text : List ℕ) (at : ℕ) → IsNext text at (part text at)
next-reads text at = record { gap = passed Inside (drop at text); is_gap = gap-reads false (drop at text); offset = refl }

pub next-only : {text : List ℕ} {at next : ℕ} → IsNext text at next → next ≡ part text at
next-only {text} {at} {next} n = n.offset ∙ ap (λ g. at + g) (gap-only n.is_gap)
