-- Whether an item lies between two others.
use Rattle.std.proofs.Common.{◌≡◌, List, map, ap, ◌∙◌}
use Rattle.q_values.specs.declared.atom.Atom.{Atom}
use Rattle.q_lanes.proofs.SideLemmas.{map-worths}
use Rattle.q_verbs.specs.Numbers.{Worth, worth}
use Rattle.q_verbs.specs.Tests.{lies_within}

-- items between two values, as atoms
pub atoms_within : {X : Type 0} (own : X → Worth) (atom : X → Atom) (low high low' high' : Worth) (xs ps : List X) (us : List Atom) → ((x : X) → worth (atom x) ≡ own x) → low ≡ low' → high ≡ high' → xs ≡ ps → map atom ps ≡ us → map (λ x. lies_within low high (own x)) xs ≡ map (λ u. lies_within low' high' (worth u)) us
atoms_within own atom low high low' high' xs ps us e p q d r =
    (λ i. map (λ x. lies_within (p i) (q i) (own x)) (d i))
    ∙ map-worths (lies_within low' high') own atom ps e
    ∙ ap (map (λ u. lies_within low' high' (worth u))) r
