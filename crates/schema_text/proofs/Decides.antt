-- Parts of a text, each with the function that reads it.
use Rattle.std.specs.Prelude.{Result, Ok, Err, slice_get}
use Rattle.std.proofs.Common.{◌≡◌, ℕ, ◌+◌, Bool, true, false, cond, List, length, refl, ap, subst, ◌∙◌}
use Rattle.schema_text.specs.Grammar.{Part, Means, means, Then, first_fails, both, Sign, unsigned, signed, stand_at, Optionally, left_out, present}
use Rattle.schema_text.specs.Reading.{◌>>=◌}
use Rattle.schema_text.specs.Tokens.{part, is_sign, sign_at}
use Rattle.schema_text.specs.declared.refusal.SchemaRefusal.{SchemaRefusal}
use Rattle.schema_text.specs.declared.refusal.SchemaRefusal.TheVariants as r
use Rattle.schema_text.proofs.Gaps.{next-reads, next-only}

-- what a function gives of a text from an offset on
abbrev pub Reader : Type 0 → Type 0
Reader A = List ℕ → ℕ → Result (A × ℕ) SchemaRefusal

-- the part reads as the function gives, and as nothing else
pub record Decides {A : Type 0} (P : Part A) (f : Reader A) : Type 0 where
  pub reads : (text : List ℕ) (at : ℕ) → P text at (f text at)
  pub only : (text : List ℕ) (at : ℕ) (outcome : Result (A × ℕ) SchemaRefusal) → P text at outcome → outcome ≡ f text at

pub decides-as : {A : Type 0} {P : Part A} {f g : Reader A} → ((text : List ℕ) (at : ℕ) → f text at ≡ g text at) → Decides P f → Decides P g
decides-as {A} {P} {f} {g} same d = record {
  reads = λ text at. subst (P text at) (same text at) (d.reads text at);
  only = λ text at outcome p. d.only text at outcome p ∙ same text at;
}

pub means-decides : {A : Type 0} (x : A) → Decides (Means x) (λ text at. Ok (x, at))
means-decides {A} x = record { reads = λ text at. means; only = only }
  where
    only : (text : List ℕ) (at : ℕ) (outcome : Result (A × ℕ) SchemaRefusal) → Means x text at outcome → outcome ≡ Ok (x, at)
    only text at outcome means = refl

pub then-decides : {A B : Type 0} {P : Part A} {Q : A → Part B} {f : Reader A} {g : A → Reader B} → Decides P f → ((x : A) → Decides (Q x) (g x))
    → Decides (Then P Q) (λ text at. f text at >>= (λ x. g x.0 text x.1))
then-decides {A} {B} {P} {Q} {f} {g} d e = record { reads = λ text at. go text at (f text at) (d.reads text at); only = only }
  where
    go : (text : List ℕ) (at : ℕ) (found : Result (A × ℕ) SchemaRefusal) → P text at found → Then P Q text at (found >>= (λ x. g x.0 text x.1))
    go text at (Ok x) p = both p ((e x.0).reads text x.1)
    go text at (Err why) p = first_fails p

    only : (text : List ℕ) (at : ℕ) (outcome : Result (B × ℕ) SchemaRefusal) → Then P Q text at outcome → outcome ≡ (f text at >>= (λ x. g x.0 text x.1))
    only text at outcome (first_fails {why = why} p) = subst (λ found. Err why ≡ (found >>= (λ x. g x.0 text x.1))) (d.only text at (Err why) p) refl
    only text at outcome (both {x = x} {end = end} p q) =
        subst (λ found. outcome ≡ (found >>= (λ y. g y.0 text y.1))) (d.only text at (Ok (x, end)) p) ((e x).only text end outcome q)

pub sign-decides : {B : Type 0} {Q : Part B} {g : Reader B} (sign : ℕ) → Decides Q g → Decides (Sign sign Q) (λ text at. sign_at sign text at >>= (λ end. g text end))
sign-decides {B} {Q} {g} sign e = record { reads = λ text at. go text at (is_sign sign (slice_get text (part text at))) refl; only = only }
  where
    go : (text : List ℕ) (at : ℕ) (t : Bool) → is_sign sign (slice_get text (part text at)) ≡ t
        → Sign sign Q text at (cond t (Ok (part text at + 1)) (Err (r.Parse (part text at))) >>= (λ end. g text end))
    go text at true h = signed (next-reads text at) h (e.reads text (part text at + 1))
    go text at false h = unsigned (next-reads text at) h

    only : (text : List ℕ) (at : ℕ) (outcome : Result (B × ℕ) SchemaRefusal) → Sign sign Q text at outcome → outcome ≡ (sign_at sign text at >>= (λ end. g text end))
    only text at outcome (unsigned {next = next} n h) =
        let here : is_sign sign (slice_get text (part text at)) ≡ false = subst (λ m. is_sign sign (slice_get text m) ≡ false) (next-only n) h in
        rw here (ap (λ m. Err (r.Parse m)) (next-only n))
    only text at outcome (signed {next = next} n h q) =
        let here : is_sign sign (slice_get text (part text at)) ≡ true = subst (λ m. is_sign sign (slice_get text m) ≡ true) (next-only n) h in
        rw here (e.only text (next + 1) outcome q ∙ ap (λ m. g text (m + 1)) (next-only n))

-- the offset after the bytes, where they come next; else the offset itself
abbrev pub past : List ℕ → List ℕ → ℕ → ℕ
past bytes text at = cond (stand_at bytes text (part text at)) (part text at + length bytes) at

pub optionally-decides : {B : Type 0} {Q : Part B} {g : Reader B} (bytes : List ℕ) → Decides Q g → Decides (Optionally bytes Q) (λ text at. g text (past bytes text at))
optionally-decides {B} {Q} {g} bytes e = record { reads = λ text at. go text at (stand_at bytes text (part text at)) refl; only = only }
  where
    go : (text : List ℕ) (at : ℕ) (t : Bool) → stand_at bytes text (part text at) ≡ t → Optionally bytes Q text at (g text (cond t (part text at + length bytes) at))
    go text at true h = present (next-reads text at) h (e.reads text (part text at + length bytes))
    go text at false h = left_out (next-reads text at) h (e.reads text at)

    only : (text : List ℕ) (at : ℕ) (outcome : Result (B × ℕ) SchemaRefusal) → Optionally bytes Q text at outcome → outcome ≡ g text (past bytes text at)
    only text at outcome (left_out {next = next} n h q) =
        let here : stand_at bytes text (part text at) ≡ false = subst (λ m. stand_at bytes text m ≡ false) (next-only n) h in
        rw here (e.only text at outcome q)
    only text at outcome (present {next = next} n h q) =
        let here : stand_at bytes text (part text at) ≡ true = subst (λ m. stand_at bytes text m ≡ true) (next-only n) h in
        rw here (e.only text (next + length bytes) outcome q ∙ ap (λ m. g text (m + length bytes)) (next-only n))
