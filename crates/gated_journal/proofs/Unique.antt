-- Two readings of one file are one.
use Rattle.std.proofs.Common.{◌≡◌, ◌⊎◌, inl, inr, ⊎_elim, ℕ, ◌+◌, ◌≤◌, ◌<◌, List, [], ◌∷◌, ◌++◌, length, take, drop, refl, sym, ◌∙◌, ap, subst, arith, append_assoc, length-append}
use Rattle.std.proofs.lemmas.List.{append_cancel_left, take_at, drop_at}
use Rattle.std.proofs.lemmas.Nat.{from_le_bytes-to_le_bytes_4}
use Rattle.std.specs.Int.{w32, to_le_bytes, from_le_bytes}
use Rattle.std.specs.List.{AllByRecursion}
use Rattle.gated_journal.specs.Format.{open_gate, magic, measured, spelled, before_gate, longest_payload, IsPayload, IsEnd, IsBroken, Reads, IsCorrupt, IsStrange}

-- the number that stands before a payload
size_of : (payload rest : List ℕ) → IsPayload payload → from_le_bytes w32 (take 4 (measured payload ++ rest)) ≡ length payload
size_of payload rest is =
    let front : take 4 (measured payload ++ rest) ≡ to_le_bytes w32 (length payload) = refl in
    ap (from_le_bytes w32) front ∙ from_le_bytes-to_le_bytes_4 (length payload) (omega (arith, is.1))

-- a rest that ends the records, or breaks off
abbrev Stops : List ℕ → Type 0
Stops rest = IsEnd rest ⊎ IsBroken rest

stops_some : (rest : List ℕ) → Stops rest → 0 < length rest
stops_some [] (inl e) = absurd e
stops_some [] (inr b) = absurd b
stops_some (gate ∷ rest) s = omega arith

-- no record begins such a rest
no_record : (rest payload more : List ℕ) → IsPayload payload → 0 < length more → rest ≡ open_gate ∷ (measured payload ++ more) → Stops rest → ⊥
no_record [] payload more is some same s = cc
no_record (gate ∷ rest) payload more is some same (inl shut) = shut (cc)
no_record (gate ∷ rest) payload more is some same (inr (opens, bad)) =
    let tail : rest ≡ measured payload ++ more = cc in
    let size : from_le_bytes w32 (take 4 rest) ≡ length payload = ap (λ (l : List ℕ). from_le_bytes w32 (take 4 l)) tail ∙ size_of payload more is in
    let long : length rest ≡ 4 + length payload + length more = omega (arith, ap length tail, length-append (measured payload) more) in
    ⊎_elim (λ (short : length rest < 4). omega (arith, short, long))
    (λ (other : _). ⊎_elim (λ (cut : length rest ≤ 4 + from_le_bytes w32 (take 4 rest)). omega (arith, cut, size, long, some))
    (λ (off : _). ⊎_elim (λ (none : from_le_bytes w32 (take 4 rest) ≡ 0). omega (arith, none, size, is.0)) (λ (large : longest_payload < from_le_bytes w32 (take 4 rest)). omega (arith, large, size, is.1)) off) other) bad

same_payload : (a b more other : List ℕ) → IsPayload a → IsPayload b → measured a ++ more ≡ measured b ++ other → (a ≡ b) × (more ≡ other)
same_payload a b more other is is' same =
    let sizes : length a ≡ length b = sym (size_of a more is) ∙ ap (λ (l : List ℕ). from_le_bytes w32 (take 4 l)) same ∙ size_of b other is' in
    let following : a ++ more ≡ b ++ other = ap (drop 4) same in
    let first : a ≡ b = sym (take_at a more (length a) refl) ∙ ap (take (length a)) following ∙ take_at b other (length a) (sym sizes) in
    let second : more ≡ other = sym (drop_at a more (length a) refl) ∙ ap (drop (length a)) following ∙ drop_at b other (length a) (sym sizes) in
    (first, second)

longer : (xs ys : List ℕ) → 0 < length ys → 0 < length (xs ++ ys)
longer xs ys some = omega (arith, length-append xs ys, some)

-- the records before such a rest, and the rest, are determined
pub same_stop : (payloads others : List (List ℕ)) (r s : List ℕ) → AllByRecursion IsPayload payloads → AllByRecursion IsPayload others → Stops r → Stops s → spelled payloads ++ r ≡ spelled others ++ s → (payloads ≡ others) × (r ≡ s)
unfolding spelled
same_stop [] [] r s sa sb er es same = (refl, same)
same_stop [] (b ∷ others) r s sa sb er es same =
    absurd (no_record r b (spelled others ++ s) sb.0 (longer (spelled others) s (stops_some s es)) (same ∙ ap (λ (l : List ℕ). open_gate ∷ l) (append_assoc (measured b) (spelled others) s)) er)
same_stop (a ∷ payloads) [] r s sa sb er es same =
    absurd (no_record s a (spelled payloads ++ r) sa.0 (longer (spelled payloads) r (stops_some r er)) (sym same ∙ ap (λ (l : List ℕ). open_gate ∷ l) (append_assoc (measured a) (spelled payloads) r)) es)
same_stop (a ∷ payloads) (b ∷ others) r s sa sb er es same =
    let tails : (measured a ++ spelled payloads) ++ r ≡ (measured b ++ spelled others) ++ s = ap (drop 1) same in
    let heads = same_payload a b (spelled payloads ++ r) (spelled others ++ s) sa.0 sb.0 (sym (append_assoc (measured a) (spelled payloads) r) ∙ tails ∙ append_assoc (measured b) (spelled others) s) in
    let rest = same_stop payloads others r s sa.1 sb.1 er es heads.1 in
    ((λ i. heads.0 i ∷ rest.0 i), rest.1)

same_file : (file : List ℕ) (payloads others : List (List ℕ)) (r s : List ℕ) → AllByRecursion IsPayload payloads → AllByRecursion IsPayload others → Stops r → Stops s → file ≡ before_gate payloads ++ r → file ≡ before_gate others ++ s → (payloads ≡ others) × (r ≡ s)
unfolding before_gate
same_file file payloads others r s sa sb er es one two =
    same_stop payloads others r s sa sb er es
    (append_cancel_left magic (spelled payloads ++ r) (spelled others ++ s) (sym (append_assoc magic (spelled payloads) r) ∙ sym one ∙ two ∙ append_assoc magic (spelled others) s))

-- a file with a gate is not strange
no_stranger : (file : List ℕ) (payloads : List (List ℕ)) (r : List ℕ) → Stops r → file ≡ before_gate payloads ++ r → IsStrange file → ⊥
unfolding before_gate
no_stranger file payloads r er split (inl other) = other (ap (take 8) split)
no_stranger file payloads r er split (inr short) =
    omega (arith, short, ap length split, length-append (magic ++ spelled payloads) r, length-append magic (spelled payloads), stops_some r er)

ended_not_broken : (r : List ℕ) → IsEnd r → IsBroken r → ⊥
ended_not_broken [] e b = e
ended_not_broken (gate ∷ rest) e b = e b.0

pub once : (file : List ℕ) (payloads others : List (List ℕ)) → Reads file payloads → Reads file others → payloads ≡ others
once file payloads others x y = (same_file file payloads others x.rest y.rest x.sized y.sized (inl x.ends) (inl y.ends) x.split y.split).0

pub not_both : (file : List ℕ) (payloads : List (List ℕ)) (count at : ℕ) → Reads file payloads → IsCorrupt file count at → ⊥
not_both file payloads count at x (inl strange) = no_stranger file payloads x.rest (inl x.ends) x.split strange.0
not_both file payloads count at x (inr broken) =
    let same = same_file file payloads broken.payloads x.rest broken.rest x.sized broken.sized (inl x.ends) (inr broken.broken) x.split broken.split in
    ended_not_broken x.rest x.ends (subst IsBroken (sym same.1) broken.broken)

pub corrupt_once : (file : List ℕ) (count at count' at' : ℕ) → IsCorrupt file count at → IsCorrupt file count' at' → (count ≡ count') × (at ≡ at')
corrupt_once file count at count' at' (inl x) (inl y) = (x.1 ∙ sym y.1, x.2 ∙ sym y.2)
corrupt_once file count at count' at' (inl x) (inr y) = absurd (no_stranger file y.payloads y.rest (inr y.broken) y.split x.0)
corrupt_once file count at count' at' (inr x) (inl y) = absurd (no_stranger file x.payloads x.rest (inr x.broken) x.split y.0)
corrupt_once file count at count' at' (inr x) (inr y) =
    let same = same_file file x.payloads y.payloads x.rest y.rest x.sized y.sized (inr x.broken) (inr y.broken) x.split y.split in
    (x.counted ∙ ap length same.0 ∙ sym y.counted, x.place ∙ ap (λ (l : List (List ℕ)). length (before_gate l)) same.0 ∙ sym y.place)
