-- The least and the greatest of items, of which nulls are passed over.
use Rattle.std.specs.Prelude.{◌≡◌, ℤ, pos, ◌+ℤ◌, Bool, true, false, if◌then◌else◌, List, Option, unwrap_or}
use Rattle.std.specs.declared.cmp.Ordering.{Ordering}
use Rattle.std.specs.Int.{int_min}
use Rattle.std.specs.Ordering.{int_cmp}
use Rattle.q_verbs.specs.Numbers.{numeric, worth_cmp}
use Rattle.q_verbs.specs.Aggregates.{choose_present, chosen_of}

-- of two items the first, where the order of what they are worth is as wanted, and else the second
abbrev pub picked : {X : Type 0} → (Ordering → Bool) → (X → Option ℤ) → X → X → X
picked picks number x y = if picks (worth_cmp (numeric (number x)) (numeric (number y))) then x else y

-- the item that is picked of all but the nulls, or else the end
abbrev pub extreme : {X : Type 0} → (Ordering → Bool) → (X → Option ℤ) → X → List X → X
extreme picks number end xs = unwrap_or (chosen_of number (picked picks number) xs) end

-- what is picked of one more item, where what was picked so far, or else the end, was this one
abbrev pub Picks : {X : Type 0} → (Ordering → Bool) → (X → Option ℤ) → X → X → X → X → Type 0
Picks {X} picks number end best x result =
    (chosen : Option X) → best ≡ unwrap_or chosen end → result ≡ unwrap_or (choose_present number (picked picks number) chosen x) end

-- picks by an order of numbers, so that of three it doesn't matter which two are compared first
abbrev pub Ranks : (Ordering → Bool) → Type 0
Ranks picks =
    (m n p : ℤ)
    → (picks (int_cmp m n) ≡ true → picks (int_cmp n p) ≡ true → picks (int_cmp m p) ≡ true)
    × (picks (int_cmp m n) ≡ false → picks (int_cmp n p) ≡ false → picks (int_cmp m p) ≡ false)

-- one more, but no more than the top
abbrev pub raised : ℤ → ℤ → ℤ
raised top state = int_min (state +ℤ pos 1) top
