-- The bytes of a record as it is laid out in a buffer.
use Rattle.std.proofs.Common.{◌≡◌, ℕ, ◌+◌, List, [], ◌++◌, length, drop, refl, sym, ◌∙◌, ap, arith, length-append}
use Rattle.std.proofs.lemmas.List.{take_at, drop_at, drop-drop}
use Rattle.outside_api.specs.Disk.{put}

-- a put at the end of a front part
pub put_behind : (front rest bytes : List ℕ) (at : ℕ) → length front ≡ at → put (front ++ rest) at bytes ≡ (front ++ bytes) ++ drop (length bytes) rest
put_behind front rest bytes at is =
    ap (λ (l : List ℕ). l ++ bytes ++ drop (at + length bytes) (front ++ rest)) (take_at front rest at is)
    ∙ ap (λ (l : List ℕ). (front ++ bytes) ++ l) (drop_past front rest at (length bytes) is)
  where
    drop_past : (front rest : List ℕ) (at n : ℕ) → length front ≡ at → drop (at + n) (front ++ rest) ≡ drop n rest
    drop_past front rest at n is = sym (drop-drop n at (front ++ rest)) ∙ ap (drop n) (drop_at front rest at is)

-- three puts, one after the other
pub puts : (buffer size bytes gate : List ℕ) → put (put (put buffer 0 size) (length size) bytes) (length bytes + length size) gate ≡ ((size ++ bytes) ++ gate) ++ drop (length bytes + length size + length gate) buffer
puts buffer size bytes gate =
    let first : put buffer 0 size ≡ size ++ drop (length size) buffer = put_behind [] buffer size 0 refl in
    let second = put_behind size (drop (length size) buffer) bytes (length size) refl in
    let reach : length (size ++ bytes) ≡ length bytes + length size = omega (arith, length-append size bytes) in
    let third = put_behind (size ++ bytes) (drop (length bytes) (drop (length size) buffer)) gate (length bytes + length size) reach in
    let rest : drop (length gate) (drop (length bytes) (drop (length size) buffer)) ≡ drop (length bytes + length size + length gate) buffer =
    ap (drop (length gate)) (drop-drop (length bytes) (length size) buffer) ∙ drop-drop (length gate) (length size + length bytes) buffer
    ∙ (let same : length size + length bytes + length gate ≡ length bytes + length size + length gate = omega arith in ap (λ (k : ℕ). drop k buffer) same) in
    ap (λ (l : List ℕ). put (put l (length size) bytes) (length bytes + length size) gate) first
    ∙ ap (λ (l : List ℕ). put l (length bytes + length size) gate) second
    ∙ third
    ∙ ap (λ (l : List ℕ). ((size ++ bytes) ++ gate) ++ l) rest
