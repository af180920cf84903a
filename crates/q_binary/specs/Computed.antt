-- The results of the verbs that compute a number, as the loops give them.
use Rattle.std.specs.Prelude.{ℕ, ℤ, List, Option, option_map}
use Rattle.std.specs.Int.{w32, w64, int_wrap}
use Rattle.q_values.specs.declared.atom.Atom.{Atom}
use Rattle.q_values.specs.declared.kind.Kind.{Kind}
use Rattle.q_verbs.specs.Numbers.{Worth, numeric, number_in, reduced, worth, written}
use Rattle.q_verbs.specs.Places.{Operation, operation, of_both, multiple_of}
use Rattle.q_verbs.specs.Sides.{side_kind, spread}
use Rattle.q_verbs.specs.declared.side.Side.{Side}
use Rattle.q_verbs.specs.declared.verb.Verb.{Verb}
use Rattle.std.specs.Simd.Lanes.{zip2}

-- an operation's result in 64 bits, for two numbers or nulls
abbrev pub computed : Operation → Option ℤ → Option ℤ → Option ℤ
computed f x y = option_map (int_wrap w64) (of_both f x y)

-- xbar of two ints or nulls, in 32 bits
abbrev pub int_multiple : ℤ → ℤ → ℤ
int_multiple x y = reduced w32 (computed multiple_of (number_in w32 x) (number_in w32 y))

-- the operation's result for two values, in this kind
abbrev pub given : Kind → Operation → Worth → Worth → Atom
given kind f x y = written kind (of_both f x.number y.number)

-- the operation's results for each two items, whose numbers these are, in this kind
abbrev pub given_items : {X : Type 0} → Kind → Operation → (X → Option ℤ) → List X → List X → List Atom
given_items kind f number xs ys = zip2 (λ x y. given kind f (numeric (number x)) (numeric (number y))) xs ys

-- the verb's results for n items of two sides, in this kind
abbrev pub computed_sides : Verb → Kind → ℕ → Side → Side → List Atom
computed_sides verb kind n left right =
    zip2
    (λ x y. given kind (operation verb (side_kind left) (side_kind right)) (worth x) (worth y))
    (spread n left) (spread n right)
