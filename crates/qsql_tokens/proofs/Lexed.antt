-- Tokens that are read in order.
use Rattle.std.proofs.Common.{◌≡◌, ◌<◌, ◌≤◌, ℕ, List, [], ◌∷◌, ◌++◌, length, Option, Some, None, refl, sym, ap, subst, append_assoc}
use Rattle.qsql_tokens.specs.Tokens.{Token, Placed, placed_at, Read, past_blanks, token_at, IsNext, AreTokens, no_more, one_more, IsTokenFault, none_begins, after_one}

pub next : (text : List ℕ) (at offset : ℕ) (found : Option Read) → offset ≡ past_blanks text at → offset < length text → token_at text offset ≡ found → IsNext text at found
next text at offset found here within h = subst (λ (p : ℕ). (p < length text) × (token_at text p ≡ found)) here (within, h)

pub one-token : (text : List ℕ) (at offset end : ℕ) (token : Token) (front : List Placed) → offset ≡ past_blanks text at → offset < length text → token_at text offset ≡ Some (record { token = token; end = end })
    → ((rest : List Placed) → AreTokens text at rest → AreTokens text 0 (front ++ rest))
    → (rest : List Placed) → AreTokens text end rest → AreTokens text 0 ((front ++ placed_at token offset ∷ []) ++ rest)
one-token text at offset end token front here within h so_far rest more =
    subst (λ (ps : List Placed). AreTokens text 0 ps) (sym (append_assoc front (placed_at token offset ∷ []) rest))
    (so_far (placed_at token offset ∷ rest)
    (subst (λ (p : ℕ). AreTokens text at (placed_at token p ∷ rest)) (sym here)
    (one_more {read = record { token = token; end = end }} (next text at offset (Some (record { token = token; end = end })) here within h) more)))

pub after-token : (text : List ℕ) (at offset end : ℕ) (token : Token) → offset ≡ past_blanks text at → offset < length text → token_at text offset ≡ Some (record { token = token; end = end })
    → (fault : ℕ) → IsTokenFault text end fault → IsTokenFault text at fault
after-token text at offset end token here within h fault more = after_one {read = record { token = token; end = end }} (next text at offset (Some (record { token = token; end = end })) here within h) more

pub no-token : (text : List ℕ) (at offset : ℕ) → offset ≡ past_blanks text at → offset < length text → token_at text offset ≡ None → IsTokenFault text at offset
no-token text at offset here within h = subst (λ (p : ℕ). IsTokenFault text at p) (sym here) (none_begins (next text at offset None here within h))

append-nil : {X : Type 0} (xs : List X) → xs ++ [] ≡ xs
append-nil [] = refl
append-nil (x ∷ xs) = ap (λ ys. x ∷ ys) (append-nil xs)

pub all-tokens : (text : List ℕ) (at offset : ℕ) (front : List Placed) → offset ≡ past_blanks text at → length text ≤ offset
    → ((rest : List Placed) → AreTokens text at rest → AreTokens text 0 (front ++ rest)) → AreTokens text 0 front
all-tokens text at offset front here end so_far = subst (λ (ps : List Placed). AreTokens text 0 ps) (append-nil front) (so_far [] (no_more (subst (λ (p : ℕ). length text ≤ p) here end)))
