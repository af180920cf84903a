use Rattle.std.proofs.Common.{◌≡◌, ℕ, ◌+◌, ◌-◌, ◌<◌, ◌≤◌, suc, true, false, List, [], ◌∷◌, ◌++◌, length, take, drop, min, Some, slice_get, refl, sym, ap, subst, ◌∙◌, arith, append_assoc, length-take, length-drop, length-append, take_at}
use Rattle.std.proofs.lemmas.Option.{slice_get_within, get_or_from_slice_get}
use Rattle.std.proofs.Math.Seq.{drop-cons}
use Rattle.std.proofs.lemmas.List.{drop-drop, take-append-drop}
use Rattle.std.proofs.lemmas.Bool.Decides.{nat_tests}
use lib.Dec.{leb}
use Rattle.outside_api.specs.declared.link.Got.{Got}
use Rattle.outside_api.specs.declared.link.Got.TheVariants as got
use Rattle.outside_mem.specs.Pieces.{from_within, IsWithin, is_spent, unspent, bytes_of, Plays, Gives}
use Rattle.outside_mem.specs.declared.input.Piece.{Piece}
use Rattle.outside_mem.specs.declared.input.Piece.TheVariants.{Bytes, Idle, Fault}

pub drop_next : {X : Type 0} (xs : List X) (i : ℕ) (x : X) → slice_get xs i ≡ Some x → drop i xs ≡ x ∷ drop (i + 1) xs
drop_next xs i x h =
    let within = slice_get_within xs i x h in
    let item = get_or_from_slice_get xs i x x h in
    let next : suc i ≡ i + 1 = omega arith in
    drop-cons xs i x within ∙ rw (item, next) refl

pub from_within-zero : (pieces : List Piece) → from_within 0 pieces ≡ pieces
from_within-zero [] = refl
from_within-zero (Bytes bytes ∷ pieces) = refl
from_within-zero (Idle ∷ pieces) = refl
from_within-zero (Fault ∷ pieces) = refl

pub length-from_within : (at : ℕ) (pieces : List Piece) → length (from_within at pieces) ≡ length pieces
length-from_within at [] = refl
length-from_within at (Bytes bytes ∷ pieces) = refl
length-from_within at (Idle ∷ pieces) = refl
length-from_within at (Fault ∷ pieces) = refl

pub drop_one-from_within : (at : ℕ) (pieces : List Piece) → drop 1 (from_within at pieces) ≡ drop 1 pieces
drop_one-from_within at [] = refl
drop_one-from_within at (Bytes bytes ∷ pieces) = refl
drop_one-from_within at (Idle ∷ pieces) = refl
drop_one-from_within at (Fault ∷ pieces) = refl

pub IsWithin-zero : (pieces : List Piece) → IsWithin 0 pieces
IsWithin-zero [] = tt
IsWithin-zero (Bytes bytes ∷ pieces) = omega arith
IsWithin-zero (Idle ∷ pieces) = tt
IsWithin-zero (Fault ∷ pieces) = tt

spent_by : (at : ℕ) (bs ys : List ℕ) (pieces : List Piece) → length ys ≡ length bs - at → leb (length bs) at ≡ is_spent (Bytes ys ∷ pieces)
spent_by at bs [] pieces h = grind (arith, nat_tests)
spent_by at bs (y ∷ ys) pieces h = grind (arith, nat_tests)

-- a piece is spent where its place is its end
pub spent-bytes : (at : ℕ) (bs : List ℕ) (pieces : List Piece) → leb (length bs) at ≡ is_spent (Bytes (drop at bs) ∷ pieces)
spent-bytes at bs pieces = spent_by at bs (drop at bs) pieces (length-drop at bs)

pub unspent-here : (pieces : List Piece) → is_spent pieces ≡ false → unspent pieces ≡ pieces
unspent-here [] h = refl
unspent-here (Bytes [] ∷ pieces) h = absurd (cc)
unspent-here (Bytes (b ∷ bs) ∷ pieces) h = refl
unspent-here (Idle ∷ pieces) h = refl
unspent-here (Fault ∷ pieces) h = refl

pub unspent-step : (pieces : List Piece) → is_spent pieces ≡ true → unspent (drop 1 pieces) ≡ unspent pieces
unspent-step [] h = absurd (cc)
unspent-step (Bytes [] ∷ pieces) h = refl
unspent-step (Bytes (b ∷ bs) ∷ pieces) h = absurd (cc)
unspent-step (Idle ∷ pieces) h = absurd (cc)
unspent-step (Fault ∷ pieces) h = absurd (cc)

pub length-spent : (pieces : List Piece) → is_spent pieces ≡ true → 0 < length pieces
length-spent [] h = absurd (cc)
length-spent (piece ∷ pieces) h = omega arith

pub is_spent-unspent : (pieces : List Piece) → is_spent (unspent pieces) ≡ false
is_spent-unspent [] = refl
is_spent-unspent (Bytes [] ∷ pieces) = is_spent-unspent pieces
is_spent-unspent (Bytes (b ∷ bs) ∷ pieces) = refl
is_spent-unspent (Idle ∷ pieces) = refl
is_spent-unspent (Fault ∷ pieces) = refl

pub Plays-unspent : (pieces new : List Piece) (before after : List ℕ) (got : Got) → Plays (unspent pieces) new before after got → Plays pieces new before after got
Plays-unspent [] new before after got h = h
Plays-unspent (Bytes [] ∷ pieces) new before after got h = Plays-unspent pieces new before after got h
Plays-unspent (Bytes (b ∷ bs) ∷ pieces) new before after got h = h
Plays-unspent (Idle ∷ pieces) new before after got h = h
Plays-unspent (Fault ∷ pieces) new before after got h = h

-- the pieces from a place on begin with the rest of this one
pub front-bytes : (pieces : List Piece) (next at : ℕ) (now : List Piece) (piece : Piece) (bs : List ℕ) → from_within at (drop next pieces) ≡ now → slice_get pieces next ≡ Some piece → piece ≡ Bytes bs → now ≡ Bytes (drop at bs) ∷ drop (next + 1) pieces
front-bytes pieces next at now piece bs view here is =
    let front : drop next pieces ≡ Bytes bs ∷ drop (next + 1) pieces = drop_next pieces next piece here ∙ ap (λ p. p ∷ drop (next + 1) pieces) is in
    sym view ∙ ap (from_within at) front

pub front-idle : (pieces : List Piece) (next at : ℕ) (now : List Piece) (piece : Piece) → from_within at (drop next pieces) ≡ now → slice_get pieces next ≡ Some piece → piece ≡ Idle → now ≡ Idle ∷ drop (next + 1) pieces
front-idle pieces next at now piece view here is =
    let front : drop next pieces ≡ Idle ∷ drop (next + 1) pieces = drop_next pieces next piece here ∙ ap (λ p. p ∷ drop (next + 1) pieces) is in
    sym view ∙ ap (from_within at) front

pub front-fault : (pieces : List Piece) (next at : ℕ) (now : List Piece) (piece : Piece) → from_within at (drop next pieces) ≡ now → slice_get pieces next ≡ Some piece → piece ≡ Fault → now ≡ Fault ∷ drop (next + 1) pieces
front-fault pieces next at now piece view here is =
    let front : drop next pieces ≡ Fault ∷ drop (next + 1) pieces = drop_next pieces next piece here ∙ ap (λ p. p ∷ drop (next + 1) pieces) is in
    sym view ∙ ap (from_within at) front

-- a read after spent pieces
pub Plays_after : (old now new : List Piece) (before after : List ℕ) (result : Got) → now ≡ unspent old → Plays now new before after result → Plays old new before after result
Plays_after old now new before after result e h = Plays-unspent old new before after result (rw (← e) h)

pub Plays-bytes : (ys : List ℕ) (pieces new : List Piece) (before after : List ℕ) (n : ℕ) → is_spent (Bytes ys ∷ pieces) ≡ false → n ≡ min (length ys) (length before) → new ≡ Bytes (drop n ys) ∷ pieces → after ≡ take n ys ++ drop n before → Plays (Bytes ys ∷ pieces) new before after (got.Bytes n)
Plays-bytes [] pieces new before after n spent count left copied = absurd (cc)
Plays-bytes (y ∷ ys) pieces new before after n spent count left copied =
    (ap (λ k. got.Bytes k) count, left ∙ ap (λ k. Bytes (drop k (y ∷ ys)) ∷ pieces) count, copied ∙ ap (λ k. take k (y ∷ ys) ++ drop k before) count)

-- the place of a piece lies in it
pub within-bytes : (pieces : List Piece) (next at : ℕ) (piece : Piece) (bs : List ℕ) → IsWithin at (drop next pieces) → slice_get pieces next ≡ Some piece → piece ≡ Bytes bs → at ≤ length bs
within-bytes pieces next at piece bs inside here is =
    let front : drop next pieces ≡ Bytes bs ∷ drop (next + 1) pieces = drop_next pieces next piece here ∙ ap (λ p. p ∷ drop (next + 1) pieces) is in
    subst (IsWithin at) front inside

pub IsWithin-bytes : (pieces : List Piece) (next at : ℕ) (piece : Piece) (bs : List ℕ) → at ≤ length bs → slice_get pieces next ≡ Some piece → piece ≡ Bytes bs → IsWithin at (drop next pieces)
IsWithin-bytes pieces next at piece bs inside here is =
    let front : drop next pieces ≡ Bytes bs ∷ drop (next + 1) pieces = drop_next pieces next piece here ∙ ap (λ p. p ∷ drop (next + 1) pieces) is in
    rw front inside

-- the pieces after a read of n bytes
pub from_within-bytes : (pieces : List Piece) (next at n : ℕ) (piece : Piece) (bs : List ℕ) → slice_get pieces next ≡ Some piece → piece ≡ Bytes bs → from_within (at + n) (drop next pieces) ≡ Bytes (drop n (drop at bs)) ∷ drop (next + 1) pieces
from_within-bytes pieces next at n piece bs here is =
    let front : drop next pieces ≡ Bytes bs ∷ drop (next + 1) pieces = drop_next pieces next piece here ∙ ap (λ p. p ∷ drop (next + 1) pieces) is in
    ap (from_within (at + n)) front ∙ ap (λ b. Bytes b ∷ drop (next + 1) pieces) (sym (drop-drop n at bs))

pub ruleset steps = (drop_next, from_within-zero, IsWithin-zero)

gives-bytes : (xs : List ℕ) (pieces : List Piece) (before : List ℕ) → 0 < length xs → let n = min (length xs) (length before) in Gives (Bytes xs ∷ pieces) (Bytes (drop n xs) ∷ pieces) (take n xs ++ drop n before) (got.Bytes n)
gives-bytes xs pieces before some =
    let n = min (length xs) (length before) in
    let front : length (take n xs) ≡ n = omega (arith, length-take n xs) in
    let size : length (take n xs ++ drop n before) ≡ length before = omega (arith, front, length-append (take n xs) (drop n before), length-drop n before) in
    let whole : xs ++ bytes_of pieces ≡ take n xs ++ (drop n xs ++ bytes_of pieces) =
    ap (λ l. l ++ bytes_of pieces) (sym (take-append-drop n xs)) ∙ append_assoc (take n xs) (drop n xs) (bytes_of pieces) in
    (omega arith, (λ room. omega (arith, room, some)), whole ∙ ap (λ l. l ++ (drop n xs ++ bytes_of pieces)) (sym (take_at (take n xs) (drop n before) n front)))

Gives_after : (pieces new : List Piece) (buf : List ℕ) (result : Got) → Gives pieces new buf result → Gives (Bytes [] ∷ pieces) new buf result
Gives_after pieces new buf (got.Bytes n) h = h
Gives_after pieces new buf got.End h = h
Gives_after pieces new buf got.Idle h = h
Gives_after pieces new buf got.Failed h = h

pub gives : (old new : List Piece) (before after : List ℕ) (result : Got) → Plays old new before after result → Gives old new after result
gives [] new before after result h = rw (h.0, h.1) (refl, refl)
gives (Idle ∷ pieces) new before after result h = rw (h.0, h.1) refl
gives (Fault ∷ pieces) new before after result h = rw (h.0, h.1) refl
gives (Bytes [] ∷ pieces) new before after result h = Gives_after pieces new after result (gives pieces new before after result h)
gives (Bytes (b ∷ bs) ∷ pieces) new before after result h = rw (h.0, h.1, h.2) (gives-bytes (b ∷ bs) pieces before (omega arith))
