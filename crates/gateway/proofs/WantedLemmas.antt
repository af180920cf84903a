-- Whether a column is read.
use Rattle.std.proofs.Common.{◌≡◌, ◌==◌, ℕ, Bool, true, false, ◌||◌, List, [], ◌∷◌, length, refl, arith}
use Rattle.std.specs.Prelude.{codes}
use Rattle.std.specs.List.{list_any}
use Rattle.std.specs.Str.{bytes_eq}
use Rattle.gateway.specs.Needs.{is_wanted}

or_false : (b : Bool) → (b || false) ≡ b
or_false true = refl
or_false false = refl

-- where no column is needed
pub wanted_none : (names : List (List ℕ)) (name : List ℕ) → (length names == 0) ≡ true → is_wanted names name ≡ bytes_eq name (codes "date")
wanted_none [] name none = or_false (bytes_eq name (codes "date"))
wanted_none (other ∷ names) name none = absurd (grind arith)

-- where some are
pub wanted_some : (names : List (List ℕ)) (name : List ℕ) → (length names == 0) ≡ false → is_wanted names name ≡ list_any (bytes_eq name) names
wanted_some [] name some = absurd (grind arith)
wanted_some (other ∷ names) name some = refl
