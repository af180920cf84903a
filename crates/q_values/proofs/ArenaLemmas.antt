use Rattle.std.proofs.Common.{◌≡◌, ℕ, ◌+◌, ◌-◌, ◌<◌, ◌≤◌, ◌++◌, List, [], ◌∷◌, length, get_or, take, drop, refl, sym, ap, ◌∙◌, arith, zero, suc, All}
use Rattle.std.proofs.lemmas.List.{drop-drop, drop_at, take_all, take-append-le, drop-append-le, length-drop, length-append}
use Rattle.std.proofs.lemmas.List.Elements.{All-nil, All-cons, All-take, All-drop}
use Rattle.std.specs.List.{sum_by}
use Rattle.std.proofs.lemmas.List.{length-take}
use Rattle.std.proofs.lemmas.List.Sums.{sum_by-cons}
use Rattle.q_values.specs.Bytes.{HasNoNul}
use Rattle.q_values.specs.Arena.{cut, EndsAscend, start_of, IsPiece, moved}

pub ascends-le : (from : ℕ) (bytes ends : List ℕ) → EndsAscend from bytes ends → from ≤ length bytes
ascends-le from bytes [] h = omega (arith, h)
ascends-le from bytes (e ∷ es) h = omega (arith, h.0, ascends-le e bytes es h.1)

-- no end is past the bytes
pub All-within : (from : ℕ) (bytes ends : List ℕ) → EndsAscend from bytes ends → All (λ e. e ≤ length bytes) ends
All-within from bytes [] h = All-nil (λ e. e ≤ length bytes)
All-within from bytes (e ∷ es) h = All-cons (λ e. e ≤ length bytes) e es (ascends-le e bytes es h.1) (All-within e bytes es h.1)

pub length-cut : (from : ℕ) (bytes ends : List ℕ) → length (cut from bytes ends) ≡ length ends
length-cut from bytes [] = refl
length-cut from bytes (e ∷ es) = ap suc (length-cut e bytes es)

cut-moved : (k : ℕ) (a b fs : List ℕ) → cut (length a + k) (a ++ b) (moved (length a) fs) ≡ cut k b fs
cut-moved k a b [] = refl
cut-moved k a b (f ∷ fs) =
    let rest = cut-moved f a b fs in
    let dropped : drop (length a + k) (a ++ b) ≡ drop k b = sym (drop-drop k (length a) (a ++ b)) ∙ ap (drop k) (drop_at a b (length a) refl) in
    let size : (length a + f) - (length a + k) ≡ f - k = omega arith in
    rw (rest, dropped, size) refl

ascends-moved : (k : ℕ) (a b fs : List ℕ) → EndsAscend k b fs → EndsAscend (length a + k) (a ++ b) (moved (length a) fs)
ascends-moved k a b [] h = omega (arith, h, length-append a b)
ascends-moved k a b (f ∷ fs) h = (omega (arith, h.0), ascends-moved f a b fs h.1)

pub cut-append : (from : ℕ) (a b es fs : List ℕ) → EndsAscend from a es → cut from (a ++ b) (es ++ moved (length a) fs) ≡ cut from a es ++ cut 0 b fs
cut-append from a b [] fs h =
    let at_end : from ≡ length a + 0 = omega (arith, h) in
    rw at_end (cut-moved 0 a b fs)
cut-append from a b (e ∷ es) fs h =
    let rest = cut-append e a b es fs h.1 in
    let within = ascends-le e a es h.1 in
    let inside : e - from ≤ length (drop from a) = omega (arith, within, length-drop from a) in
    rw (rest, drop-append-le from a b (omega (arith, h.0, within)), take-append-le (e - from) (drop from a) b inside) refl

pub ascends-append : (from : ℕ) (a b es fs : List ℕ) → EndsAscend from a es → EndsAscend 0 b fs → EndsAscend from (a ++ b) (es ++ moved (length a) fs)
ascends-append from a b [] fs h k =
    let at_end : from ≡ length a + 0 = omega (arith, h) in
    rw at_end (ascends-moved 0 a b fs k)
ascends-append from a b (e ∷ es) fs h k = (h.0, ascends-append e a b es fs h.1 k)

-- one more symbol
pub cut-push : (bytes ends symbol : List ℕ) → EndsAscend 0 bytes ends → cut 0 (bytes ++ symbol) (ends ++ (length bytes + length symbol) ∷ []) ≡ cut 0 bytes ends ++ symbol ∷ []
cut-push bytes ends symbol h =
    let whole : take (length symbol - 0) symbol ≡ symbol = take_all (length symbol - 0) symbol (omega arith) in
    cut-append 0 bytes symbol ends (length symbol ∷ []) h ∙ ap (λ s. cut 0 bytes ends ++ s ∷ []) whole

pub ascends-push : (bytes ends symbol : List ℕ) → EndsAscend 0 bytes ends → EndsAscend 0 (bytes ++ symbol) (ends ++ (length bytes + length symbol) ∷ [])
ascends-push bytes ends symbol h = ascends-append 0 bytes symbol ends (length symbol ∷ []) h (omega arith, refl)

pub start_of-first : (from i : ℕ) (ends : List ℕ) → i ≡ 0 → start_of from ends i ≡ from
start_of-first from zero ends h = refl
start_of-first from (suc i) ends h = absurd (omega (arith, h))

pub start_of-before : (from i : ℕ) (ends : List ℕ) → (i ≡ 0 → ⊥) → start_of from ends i ≡ get_or ends (i - 1) 0
start_of-before from zero ends h = absurd (h refl)
start_of-before from (suc i) ends h = let e : suc i - 1 ≡ i = omega arith in rw e refl

pub piece_at : (from : ℕ) (bytes ends : List ℕ) (i start end : ℕ) → EndsAscend from bytes ends → i < length ends → start ≡ start_of from ends i → end ≡ get_or ends i 0 → IsPiece from bytes ends i start end
piece_at from bytes [] i start end h l s t = absurd (omega arith)
piece_at from bytes (e ∷ es) zero start end h l s t = record {
  rises = omega (arith, h.0, s, t);
  within = omega (arith, t, ascends-le e bytes es h.1);
  value = rw (s, t) refl;
}
piece_at from bytes (e ∷ es) (suc zero) start end h l s t =
    let p = piece_at e bytes es zero start end h.1 (omega (arith, l)) s t in
    record { rises = p.rises; within = p.within; value = p.value }
piece_at from bytes (e ∷ es) (suc (suc i)) start end h l s t =
    let p = piece_at e bytes es (suc i) start end h.1 (omega (arith, l)) s t in
    record { rises = p.rises; within = p.within; value = p.value }

-- the symbols from a place on are as long as the bytes from there on
pub sum-cut : (from : ℕ) (bytes ends : List ℕ) → EndsAscend from bytes ends → from + sum_by length (cut from bytes ends) ≡ length bytes
sum-cut from bytes [] h = omega (arith, h)
sum-cut from bytes (e ∷ es) h =
    let within = ascends-le e bytes es h.1 in
    let rest = sum-cut e bytes es h.1 in
    let sum = sum_by-cons length (take (e - from) (drop from bytes)) (cut e bytes es) in
    omega (arith, h.0, within, rest, sum, length-take (e - from) (drop from bytes), length-drop from bytes)

-- bytes without a 0 are cut into symbols without a 0
pub no_nul-cut : (from : ℕ) (bytes ends : List ℕ) → HasNoNul bytes → All HasNoNul (cut from bytes ends)
no_nul-cut from bytes [] h = All-nil HasNoNul
no_nul-cut from bytes (e ∷ es) h = All-cons HasNoNul (take (e - from) (drop from bytes)) (cut e bytes es) (All-take (λ b. 0 < b) (e - from) (drop from bytes) (All-drop (λ b. 0 < b) from bytes h)) (no_nul-cut e bytes es h)

-- where bytes end, less their number
pub base_before : (last count more : ℕ) → last ≡ count + more → last - more ≡ count
base_before last count more is = omega (arith, is)
