-- One of two values.
use Rattle.std.proofs.Common.{◌≡◌, ℤ, Bool, true, false, if◌then◌else◌, List, map, Option, refl, sym, ◌∙◌}
use Rattle.std.specs.declared.cmp.Ordering.{Ordering}
use Rattle.std.specs.Simd.Lanes.{zip2}
use Rattle.q_values.specs.declared.atom.Atom.{Atom}
use Rattle.q_verbs.specs.Numbers.{numeric, worth, worth_cmp}
use Rattle.q_lanes.proofs.ZipLemmas.{map-zip2, zip2_same, zip2-mapped}

chosen_through : {X Y : Type 0} (f : X → Y) (b : Bool) (x y : X) → f (if b then x else y) ≡ (if b then f x else f y)
chosen_through f true x y = refl
chosen_through f false x y = refl

pub chosen_atoms : {X : Type 0} (picks : Ordering → Bool) (number : X → Option ℤ) (atom : X → Atom) (xs ys : List X) → ((x : X) → worth (atom x) ≡ numeric (number x)) → map atom (zip2 (λ x y. if picks (worth_cmp (numeric (number x)) (numeric (number y))) then x else y) xs ys) ≡ zip2 (λ x y. if picks (worth_cmp (worth x) (worth y)) then x else y) (map atom xs) (map atom ys)
chosen_atoms picks number atom xs ys e =
    map-zip2 atom (λ x y. if picks (worth_cmp (numeric (number x)) (numeric (number y))) then x else y) xs ys
    ∙ zip2_same (λ x y. atom (if picks (worth_cmp (numeric (number x)) (numeric (number y))) then x else y)) (λ x y. if picks (worth_cmp (worth (atom x)) (worth (atom y))) then atom x else atom y) xs ys
    (λ x y. chosen_through atom (picks (worth_cmp (numeric (number x)) (numeric (number y)))) x y
    ∙ (λ i. if picks (worth_cmp (sym (e x) i) (sym (e y) i)) then atom x else atom y))
    ∙ sym (zip2-mapped (λ x y. if picks (worth_cmp (worth x) (worth y)) then x else y) atom xs ys)
