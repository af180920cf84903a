-- Verbs that test each value: within, in.
use Rattle.std.specs.Prelude.{Bool, ◌&&◌, List}
use Rattle.std.specs.List.{list_any}
use Rattle.std.specs.Ordering.{is_eq, is_le}
use Rattle.q_values.specs.declared.atom.Atom.{Atom}
use Rattle.q_verbs.specs.Numbers.{Worth, worth, worth_cmp}

-- not below the one and not above the other
abbrev pub lies_within : Worth → Worth → Worth → Bool
lies_within low high x = is_le (worth_cmp low x) && is_le (worth_cmp x high)

-- equal to one of these
abbrev pub is_among : List Atom → Atom → Bool
is_among items x = list_any (λ y. is_eq (worth_cmp (worth x) (worth y))) items
