-- A part of an arena, as an arena of its own.
use Rattle.std.proofs.Common.{◌≡◌, ℕ, ◌+◌, ◌-◌, ◌≤◌, List, [], ◌∷◌, length, take, drop, refl, sym, ap, ◌∙◌, arith, zero, suc, All}
use Rattle.std.proofs.lemmas.List.{drop-drop, drop-take, take-take, length-take, length-drop}
use Rattle.std.proofs.lemmas.List.Elements.{All-nil, All-cons}
use Rattle.q_values.specs.Arena.{cut, EndsAscend, IsPart, start_of, lowered}
use Rattle.q_values.proofs.ArenaLemmas.{ascends-le}

pub start_of-suc : (k e i : ℕ) (es : List ℕ) → start_of k (e ∷ es) (suc i) ≡ start_of e es i
start_of-suc k e zero es = refl
start_of-suc k e (suc i) es = refl

-- the first symbols aside, the others are cut from where they start
pub drop-cut : (from k : ℕ) (bytes ends : List ℕ) → drop from (cut k bytes ends) ≡ cut (start_of k ends from) bytes (drop from ends)
drop-cut zero k bytes ends = refl
drop-cut (suc i) k bytes [] = refl
drop-cut (suc i) k bytes (e ∷ es) = rw (start_of-suc k e i es) (drop-cut i e bytes es)

pub ascends-drop : (from k : ℕ) (bytes ends : List ℕ) → from ≤ length ends → EndsAscend k bytes ends → EndsAscend (start_of k ends from) bytes (drop from ends)
ascends-drop zero k bytes ends l h = h
ascends-drop (suc i) k bytes [] l h = absurd (omega (arith, l))
ascends-drop (suc i) k bytes (e ∷ es) l h = rw (start_of-suc k e i es) (ascends-drop i e bytes es (omega (arith, l)) h.1)

pub start_of-drop : (from n k : ℕ) (ends : List ℕ) → from ≤ length ends → start_of k ends (from + n) ≡ start_of (start_of k ends from) (drop from ends) n
start_of-drop zero n k ends l = let e : 0 + n ≡ n = omega arith in rw e refl
start_of-drop (suc i) n k [] l = absurd (omega (arith, l))
start_of-drop (suc i) n k (e ∷ es) l =
    let next : suc i + n ≡ suc (i + n) = omega arith in
    rw (next, start_of-suc k e (i + n) es, start_of-suc k e i es) (start_of-drop i n e es (omega (arith, l)))

-- a start is neither before the first nor after the bytes
pub start_of-above : (n k : ℕ) (bytes ends : List ℕ) → n ≤ length ends → EndsAscend k bytes ends → k ≤ start_of k ends n
start_of-above zero k bytes ends l h = omega arith
start_of-above (suc n) k bytes [] l h = absurd (omega (arith, l))
start_of-above (suc n) k bytes (e ∷ es) l h = rw (start_of-suc k e n es) (omega (arith, h.0, start_of-above n e bytes es (omega (arith, l)) h.1))

pub start_of-within : (n k : ℕ) (bytes ends : List ℕ) → n ≤ length ends → EndsAscend k bytes ends → start_of k ends n ≤ length bytes
start_of-within zero k bytes ends l h = ascends-le k bytes ends h
start_of-within (suc n) k bytes [] l h = absurd (omega (arith, l))
start_of-within (suc n) k bytes (e ∷ es) l h = rw (start_of-suc k e n es) (start_of-within n e bytes es (omega (arith, l)) h.1)

-- a piece of a part is that piece of the whole
piece_in : (s t k e : ℕ) (bytes : List ℕ) → s ≤ k → k ≤ e → e ≤ t → take ((e - s) - (k - s)) (drop (k - s) (take (t - s) (drop s bytes))) ≡ take (e - k) (drop k bytes)
piece_in s t k e bytes sk ke et =
    let size : (e - s) - (k - s) ≡ e - k = omega (arith, sk, ke) in
    let room : t - s ≡ (k - s) + (t - k) = omega (arith, sk, ke, et) in
    let at : s + (k - s) ≡ k = omega (arith, sk) in
    let part : drop (k - s) (take (t - s) (drop s bytes)) ≡ take (t - k) (drop k bytes) =
    rw room (drop-take (k - s) (t - k) (drop s bytes)) ∙ ap (take (t - k)) (drop-drop (k - s) s bytes ∙ ap (λ i. drop i bytes) at) in
    rw (size, part) (take-take (e - k) (t - k) (drop k bytes) (omega (arith, et)))

pub cut-part : (s t k n : ℕ) (bytes ends : List ℕ) → s ≤ k → n ≤ length ends → start_of k ends n ≤ t → EndsAscend k bytes ends
    → cut (k - s) (take (t - s) (drop s bytes)) (lowered s (take n ends)) ≡ take n (cut k bytes ends)
cut-part s t k zero bytes ends sk l within h = refl
cut-part s t k (suc n) bytes [] sk l within h = absurd (omega (arith, l))
cut-part s t k (suc n) bytes (e ∷ es) sk l within h =
    let last : start_of e es n ≤ t = rw (start_of-suc k e n es) at within in
    let et : e ≤ t = omega (arith, last, start_of-above n e bytes es (omega (arith, l)) h.1) in
    let rest = cut-part s t e n bytes es (omega (arith, sk, h.0)) (omega (arith, l)) last h.1 in
    rw (piece_in s t k e bytes sk h.0 et, rest) refl

pub ascends-part : (s k n : ℕ) (bytes part ends : List ℕ) → s ≤ k → n ≤ length ends → length part ≡ start_of k ends n - s → EndsAscend k bytes ends
    → EndsAscend (k - s) part (lowered s (take n ends))
ascends-part s k zero bytes part ends sk l size h = sym size
ascends-part s k (suc n) bytes part [] sk l size h = absurd (omega (arith, l))
ascends-part s k (suc n) bytes part (e ∷ es) sk l size h =
    let size' : length part ≡ start_of e es n - s = size ∙ ap (λ i. i - s) (start_of-suc k e n es) in
    (omega (arith, h.0), ascends-part s e n bytes part es (omega (arith, sk, h.0)) (omega (arith, l)) size' h.1)

-- no end of the part is before its start
pub All-after : (s k n : ℕ) (bytes ends : List ℕ) → s ≤ k → n ≤ length ends → EndsAscend k bytes ends → All (λ e. s ≤ e) (take n ends)
All-after s k zero bytes ends sk l h = All-nil (λ e. s ≤ e)
All-after s k (suc n) bytes [] sk l h = absurd (omega (arith, l))
All-after s k (suc n) bytes (e ∷ es) sk l h =
    All-cons (λ e. s ≤ e) e (take n es) (omega (arith, sk, h.0)) (All-after s e n bytes es (omega (arith, sk, h.0)) (omega (arith, l)) h.1)

-- no end of the part is after its last
pub All-below : (k n : ℕ) (bytes ends : List ℕ) → n ≤ length ends → EndsAscend k bytes ends → All (λ e. e ≤ start_of k ends n) (take n ends)
All-below k zero bytes ends l h = All-nil (λ e. e ≤ k)
All-below k (suc n) bytes [] l h = absurd (omega (arith, l))
All-below k (suc n) bytes (e ∷ es) l h =
    rw (start_of-suc k e n es) (All-cons (λ i. i ≤ start_of e es n) e (take n es) (start_of-above n e bytes es (omega (arith, l)) h.1) (All-below e n bytes es (omega (arith, l)) h.1))

pub part_at : (bytes ends : List ℕ) (from n : ℕ) → from + n ≤ length ends → EndsAscend 0 bytes ends → IsPart bytes ends from n (start_of 0 ends from) (start_of 0 ends (from + n))
part_at bytes ends from n l h =
    let s = start_of 0 ends from in
    let others = drop from ends in
    let l' : from ≤ length ends = omega (arith, l) in
    let rest : n ≤ length others = omega (arith, l, length-drop from ends) in
    let end_is : start_of 0 ends (from + n) ≡ start_of s others n = start_of-drop from n 0 ends l' in
    let h' : EndsAscend s bytes others = ascends-drop from 0 bytes ends l' h in
    let rises : s ≤ start_of s others n = start_of-above n s bytes others rest h' in
    let within : start_of s others n ≤ length bytes = start_of-within n s bytes others rest h' in
    let size : length (take (start_of s others n - s) (drop s bytes)) ≡ start_of s others n - s =
    omega (arith, rises, within, length-take (start_of s others n - s) (drop s bytes), length-drop s bytes) in
    let none : s - s ≡ 0 = omega arith in
    rw end_is (record {
      some = l;
      rises = rises;
      within = within;
      after = All-after s s n bytes others (omega arith) rest h';
      below = All-below s n bytes others rest h';
      ascends = rw none at (ascends-part s s n bytes (take (start_of s others n - s) (drop s bytes)) others (omega arith) rest size h');
      value = (rw none at (cut-part s (start_of s others n) s n bytes others (omega arith) rest (omega arith) h')) ∙ ap (take n) (sym (drop-cut from 0 bytes ends));
    })

lowered-none : (xs : List ℕ) → lowered 0 xs ≡ xs
lowered-none [] = refl
lowered-none (x ∷ xs) = let same : x - 0 ≡ x = omega arith in rw same (ap (λ l. x ∷ l) (lowered-none xs))

-- the first n symbols are an arena of their own
pub truncated : (bytes ends : List ℕ) (n e : ℕ) → n ≤ length ends → e ≡ start_of 0 ends n → EndsAscend 0 bytes ends → cut 0 (take e bytes) (take n ends) ≡ take n (cut 0 bytes ends)
truncated bytes ends n e l is h =
    let same : e - 0 ≡ e = omega arith in
    let none : 0 - 0 ≡ 0 = omega arith in
    rw (none, same, lowered-none (take n ends)) at (cut-part 0 e 0 n bytes ends (omega arith) l (omega (arith, is)) h)

pub ascends-truncated : (bytes ends : List ℕ) (n e : ℕ) → n ≤ length ends → e ≡ start_of 0 ends n → EndsAscend 0 bytes ends → EndsAscend 0 (take e bytes) (take n ends)
ascends-truncated bytes ends n e l is h =
    let none : 0 - 0 ≡ 0 = omega arith in
    let size : length (take e bytes) ≡ start_of 0 ends n - 0 = omega (arith, is, length-take e bytes, start_of-within n 0 bytes ends l h) in
    rw (none, lowered-none (take n ends)) at (ascends-part 0 0 n bytes (take e bytes) ends (omega arith) l size h)
