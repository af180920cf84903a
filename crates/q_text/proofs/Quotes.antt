-- Text in quotes, one byte more.
use Rattle.std.proofs.Common.{◌≡◌, ℕ, ◌+◌, List, [], ◌∷◌, ◌++◌, Option, Some, None, refl, sym, ap, ap₂, arith, append_assoc, zero-add}
use Rattle.std.proofs.lemmas.List.{append-nil}
use Rattle.q_text.specs.Strings.{before}

pub before-nothing : (found : Option (List ℕ × ℕ)) → before [] 0 found ≡ found
before-nothing None = refl
before-nothing (Some more) = ap (λ k. Some (more.0, k)) (zero-add more.1)

pub before-more : (bytes : List ℕ) (n : ℕ) (b : ℕ) (found : Option (List ℕ × ℕ)) → before bytes n (before (b ∷ []) 1 found) ≡ before (bytes ++ b ∷ []) (n + 1) found
before-more bytes n b None = refl
before-more bytes n b (Some more) =
    let e : n + (1 + more.1) ≡ n + 1 + more.1 = omega arith in
    ap₂ (λ l k. Some (l, k)) (sym (append_assoc bytes (b ∷ []) more.0)) e

pub before-skip : (bytes : List ℕ) (n : ℕ) (found : Option (List ℕ × ℕ)) → before bytes n (before [] 1 found) ≡ before bytes (n + 1) found
before-skip bytes n None = refl
before-skip bytes n (Some more) =
    let e : n + (1 + more.1) ≡ n + 1 + more.1 = omega arith in
    ap (λ k. Some (bytes ++ more.0, k)) e

pub before-end : (bytes : List ℕ) (n : ℕ) → before bytes n (Some ([], 1)) ≡ Some (bytes, n + 1)
before-end bytes n = ap (λ l. Some (l, n + 1)) (append-nil bytes)
