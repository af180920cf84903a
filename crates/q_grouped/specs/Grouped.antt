-- Aggregates by group. Each item has a code, the number of its group.
use Rattle.std.specs.Prelude.{ℕ, nat_eq, List, [], ◌∷◌, map, if◌then◌else◌}
use Rattle.std.specs.List.{range_with_len}
use Rattle.q_values.specs.declared.atom.Atom.{Atom}
use Rattle.q_values.specs.declared.kind.Kind.{Kind}
use Rattle.q_verbs.specs.declared.verb.Verb1.{Verb1}
use Rattle.q_verbs.specs.Aggregates.{aggregate_of}

-- the items whose code is g, in order
abbrev pub group_of : {X : Type 0} → ℕ → List ℕ → List X → List X
group_of g [] xs = []
group_of g (code ∷ codes) [] = []
group_of g (code ∷ codes) (x ∷ xs) = if nat_eq code g then x ∷ group_of g codes xs else group_of g codes xs

-- for each of this many groups, from 0, what f makes of its items
abbrev pub by_group : {X Y : Type 0} → (List X → Y) → ℕ → List ℕ → List X → List Y
by_group f groups codes xs = map (λ g. f (group_of g codes xs)) (range_with_len 0 groups)

-- for each group the verb's result for its items, of this kind
abbrev pub aggregates : Verb1 → Kind → ℕ → List ℕ → List Atom → List Atom
aggregates verb kind groups codes xs = by_group (aggregate_of verb kind) groups codes xs
