-- Pieces of blocks: the first blocks in them, and the block with an index.
use Rattle.std.proofs.Common.{◌≡◌, ℕ, zero, suc, ◌+◌, ◌*◌, ◌<◌, ◌≤◌, ◌++◌, List, [], ◌∷◌, length, map, take, get_or, refl, sym, ap, ap₂, ◌∙◌, arith, append_assoc, append-nil, None, slice_get}
use Rattle.std.specs.List.{AllByRecursion, flat_map}
use Rattle.std.proofs.Math.Seq.{take-append-add}
use Rattle.std.proofs.lemmas.Grind.{flat_map-append}
use Rattle.std.proofs.lemmas.List.{length-append, take-append-le, take-map}
use Rattle.std.proofs.lemmas.List.Folds.{flat_map-map}
use Rattle.day_rows.specs.Blocks.{IsPiece}
use Rattle.day_rows.specs.declared.entry.Entry.{Entry}

pub length-pieces : (pieces : List (List (List Entry))) → AllByRecursion IsPiece pieces → length (flat_map (λ p. p) pieces) ≡ 128 * length pieces
length-pieces [] all = omega arith
length-pieces (piece ∷ pieces) all = omega (arith, length-append piece (flat_map (λ (p : List (List Entry)). p) pieces), all.0, length-pieces pieces all.1)

-- the first blocks, where they end in a piece
pub take-pieces : (pieces : List (List (List Entry))) (rest : List (List Entry)) (q r : ℕ) (d : List (List Entry)) → AllByRecursion IsPiece pieces → q < length pieces → r ≤ 128
    → take (128 * q + r) (flat_map (λ p. p) pieces ++ rest) ≡ flat_map (λ p. p) (take q pieces) ++ take r (get_or pieces q d)
take-pieces [] rest q r d all q_in few = absurd (omega (arith, q_in))
take-pieces (piece ∷ pieces) rest zero r d all q_in few =
    let n : 128 * 0 + r ≡ r = omega arith in
    rw n (ap (take r) (append_assoc piece (flat_map (λ (p : List (List Entry)). p) pieces) rest) ∙ take-append-le r piece (flat_map (λ (p : List (List Entry)). p) pieces ++ rest) (omega (arith, few, all.0)))
take-pieces (piece ∷ pieces) rest (suc q) r d all q_in few =
    let n : 128 * suc q + r ≡ length piece + (128 * q + r) = omega (arith, all.0) in
    ap₂ take n (append_assoc piece (flat_map (λ (p : List (List Entry)). p) pieces) rest)
    ∙ take-append-add piece (flat_map (λ (p : List (List Entry)). p) pieces ++ rest) (128 * q + r)
    ∙ ap (λ l. piece ++ l) (take-pieces pieces rest q r d all.1 (omega (arith, q_in)) few)
    ∙ sym (append_assoc piece (flat_map (λ (p : List (List Entry)). p) (take q pieces)) (take r (get_or pieces q d)))

-- the first blocks, where they end past the pieces
pub take-rest : (pieces : List (List (List Entry))) (rest : List (List Entry)) (n i : ℕ) → AllByRecursion IsPiece pieces → n ≡ 128 * length pieces + i → take n (flat_map (λ p. p) pieces ++ rest) ≡ flat_map (λ p. p) pieces ++ take i rest
take-rest pieces rest n i all is =
    let size : n ≡ length (flat_map (λ p. p) pieces) + i = omega (arith, is, length-pieces pieces all) in
    ap (λ k. take k (flat_map (λ p. p) pieces ++ rest)) size ∙ take-append-add (flat_map (λ (p : List (List Entry)). p) pieces) rest i

got-left : {X : Type 0} (xs ys : List X) (i : ℕ) → i < length xs → slice_get (xs ++ ys) i ≡ slice_get xs i
got-left [] ys i i_in = absurd (omega (arith, i_in))
got-left (x ∷ xs) ys zero i_in = refl
got-left (x ∷ xs) ys (suc i) i_in = got-left xs ys i (omega (arith, i_in))

got-right : {X : Type 0} (xs ys : List X) (i : ℕ) → slice_get (xs ++ ys) (length xs + i) ≡ slice_get ys i
got-right [] ys i = let n : 0 + i ≡ i = omega arith in rw n refl
got-right (x ∷ xs) ys i = let n : suc (length xs) + i ≡ suc (length xs + i) = omega arith in rw n (got-right xs ys i)

-- the block with an index in a piece
pub got-piece : (pieces : List (List (List Entry))) (rest : List (List Entry)) (q r : ℕ) (d : List (List Entry)) → AllByRecursion IsPiece pieces → q < length pieces → r < 128
    → slice_get (flat_map (λ p. p) pieces ++ rest) (128 * q + r) ≡ slice_get (get_or pieces q d) r
got-piece [] rest q r d all q_in few = absurd (omega (arith, q_in))
got-piece (piece ∷ pieces) rest zero r d all q_in few =
    let n : 128 * 0 + r ≡ r = omega arith in
    rw n (ap (λ l. slice_get l r) (append_assoc piece (flat_map (λ (p : List (List Entry)). p) pieces) rest) ∙ got-left piece (flat_map (λ (p : List (List Entry)). p) pieces ++ rest) r (omega (arith, few, all.0)))
got-piece (piece ∷ pieces) rest (suc q) r d all q_in few =
    let n : 128 * suc q + r ≡ length piece + (128 * q + r) = omega (arith, all.0) in
    ap₂ slice_get (append_assoc piece (flat_map (λ (p : List (List Entry)). p) pieces) rest) n
    ∙ got-right piece (flat_map (λ (p : List (List Entry)). p) pieces ++ rest) (128 * q + r)
    ∙ got-piece pieces rest q r d all.1 (omega (arith, q_in)) few

-- the block with an index past the pieces
pub got-rest : (pieces : List (List (List Entry))) (rest : List (List Entry)) (n i : ℕ) → AllByRecursion IsPiece pieces → n ≡ 128 * length pieces + i → slice_get (flat_map (λ p. p) pieces ++ rest) n ≡ slice_get rest i
got-rest pieces rest n i all is =
    let size : n ≡ length (flat_map (λ p. p) pieces) + i = omega (arith, is, length-pieces pieces all) in
    ap (slice_get (flat_map (λ p. p) pieces ++ rest)) size ∙ got-right (flat_map (λ (p : List (List Entry)). p) pieces) rest i

-- the blocks past the pieces, made a piece
pub pieces-closed : (pieces : List (List (List Entry))) (rest : List (List Entry)) → flat_map (λ p. p) (pieces ++ rest ∷ []) ++ [] ≡ flat_map (λ p. p) pieces ++ rest
pieces-closed pieces rest =
    append-nil (flat_map (λ (p : List (List Entry)). p) (pieces ++ rest ∷ [])) ∙ flat_map-append (λ (p : List (List Entry)). p) pieces (rest ∷ []) ∙ ap (λ l. flat_map (λ (p : List (List Entry)). p) pieces ++ l) (append-nil rest)

pub piece-got : (pieces : List (List (List Entry))) (i : ℕ) (d : List (List Entry)) → i < length pieces → AllByRecursion IsPiece pieces → length (get_or pieces i d) ≡ 128
piece-got [] i d i_in all = absurd (omega (arith, i_in))
piece-got (piece ∷ pieces) zero d i_in all = all.0
piece-got (piece ∷ pieces) (suc i) d i_in all = piece-got pieces i d (omega (arith, i_in)) all.1

-- the updates of blocks that are lent
pub lent-flat : {B : Type 0} (f : B → List Entry) (lent : List B) (blocks : List (List Entry)) → map f lent ≡ blocks → flat_map f lent ≡ flat_map (λ b. b) blocks
lent-flat f lent blocks is = sym (flat_map-map (λ (b : List Entry). b) f lent) ∙ ap (flat_map (λ (b : List Entry). b)) is

pub lent-push : {B : Type 0} (f : B → List Entry) (lent : List B) (blocks : List (List Entry)) (x : B) → map f lent ≡ blocks → flat_map f (lent ++ x ∷ []) ≡ flat_map (λ b. b) blocks ++ f x
lent-push f lent blocks x is = flat_map-append f lent (x ∷ []) ∙ ap₂ (λ a b. a ++ b) (lent-flat f lent blocks is) (append-nil (f x))

pub lent-take : {B : Type 0} (f : B → List Entry) (lent : List B) (blocks : List (List Entry)) (n : ℕ) → map f lent ≡ blocks → flat_map f (take n lent) ≡ flat_map (λ b. b) (take n blocks)
lent-take f lent blocks n is = lent-flat f (take n lent) (take n blocks) (sym (take-map f n lent) ∙ ap (take n) is)

-- what is read past the end
pub got-none : {X : Type 0} (xs : List X) (i : ℕ) (d : X) → slice_get xs i ≡ None → get_or xs i d ≡ d
got-none [] i d is = refl
got-none (x ∷ xs) zero d is = cc
got-none (x ∷ xs) (suc i) d is = got-none xs i d is
