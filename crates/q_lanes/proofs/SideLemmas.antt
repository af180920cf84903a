-- The items of two sides, and the loops over them.
use Rattle.std.proofs.Common.{◌≡◌, ℕ, List, [], ◌∷◌, length, map, refl, sym, ap, suc, zero}
use Rattle.std.specs.Prelude.{replicate}
use Rattle.std.specs.Simd.Lanes.{zip2}
use Rattle.std.proofs.lemmas.List.{length-replicate}
use Rattle.q_values.specs.declared.atom.Atom.{Atom}
use Rattle.q_verbs.specs.declared.side.Side.{Side}
use Rattle.q_verbs.specs.declared.side.Side.TheVariants as s
use Rattle.q_verbs.specs.Numbers.{Worth, worth}
use Rattle.q_verbs.specs.Sides.{AreBeside, rows, spread}
use Rattle.q_lanes.proofs.ZipLemmas.{zip2_through}

-- the sides have as many items as they have together
pub rows-left : (left right : Side) → AreBeside left right → length (spread (rows left right) left) ≡ rows left right
rows-left (s.Column items) right e = refl
rows-left (s.Atom x) (s.Column items) e = length-replicate (length items.now.atoms) x.now
rows-left (s.Atom x) (s.Atom y) e = refl

pub rows-right : (left right : Side) → AreBeside left right → length (spread (rows left right) right) ≡ rows left right
rows-right (s.Column items) (s.Column others) e = sym e
rows-right (s.Column items) (s.Atom y) e = length-replicate (length items.now.atoms) y.now
rows-right (s.Atom x) (s.Column items) e = refl
rows-right (s.Atom x) (s.Atom y) e = refl

pub map-replicate : {X Y : Type 0} (f : X → Y) (n : ℕ) (x : X) → map f (replicate n x) ≡ replicate n (f x)
map-replicate f zero x = refl
map-replicate f (suc n) x = ap (λ l. f x ∷ l) (map-replicate f n x)

-- what items are worth, as atoms
pub worth-mapped : {X : Type 0} (own : X → Worth) (atom : X → Atom) (xs : List X) → ((x : X) → worth (atom x) ≡ own x) → map own xs ≡ map worth (map atom xs)
worth-mapped own atom [] e = refl
worth-mapped own atom (x ∷ xs) e = λ i. sym (e x) i ∷ worth-mapped own atom xs e i

-- the results for items are those for their atoms
pub worth-zip : {X V : Type 0} (f : Worth → Worth → V) (own : X → Worth) (atom other : X → Atom) (xs ys : List X) → ((x : X) → worth (atom x) ≡ own x) → ((x : X) → worth (other x) ≡ own x) → zip2 (λ x y. f (own x) (own y)) xs ys ≡ zip2 (λ x y. f (worth x) (worth y)) (map atom xs) (map other ys)
worth-zip f own atom other xs ys d e =
    zip2_through f own worth xs ys (map atom xs) (map other ys) (worth-mapped own atom xs d) (worth-mapped own other ys e)

-- results for items that depend on what they are worth are those for their atoms
pub map-worths : {X Y : Type 0} (f : Worth → Y) (own : X → Worth) (atom : X → Atom) (xs : List X) → ((x : X) → worth (atom x) ≡ own x) → map (λ x. f (own x)) xs ≡ map (λ u. f (worth u)) (map atom xs)
map-worths f own atom [] e = refl
map-worths f own atom (x ∷ xs) e = λ i. f (sym (e x) i) ∷ map-worths f own atom xs e i
