-- Values as the loops over columns of 64 bits see them.
use Rattle.std.specs.Prelude.{ℕ, ℤ, List, replicate}
use Rattle.std.specs.Int.{w64}
use Rattle.q_lanes.specs.declared.wide.Wide.{Wide}
use Rattle.q_lanes.specs.declared.wide.Wide.TheVariants.{Lent, Made}
use Rattle.q_lanes.specs.declared.wide.WideSide.{WideSide}
use Rattle.q_lanes.specs.declared.wide.WideSide.TheVariants as s
use Rattle.q_verbs.specs.Numbers.{Worth, numeric, number_in}

-- what a number of 64 bits, or its null, is worth
abbrev pub worth_in_64 : ℤ → Worth
worth_in_64 x = numeric (number_in w64 x)

-- a column of 64 bits, as it was lent or made
abbrev pub wide_items : Wide → List ℤ
wide_items (Lent xs) = xs.now
wide_items (Made xs) = xs.items

-- the numbers of a side beside n items
abbrev pub side_items : ℕ → WideSide → List ℤ
side_items n (s.Column xs) = wide_items xs
side_items n (s.Atom x) = replicate n x
