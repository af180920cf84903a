use Rattle.std.proofs.Common.{◌≡◌, ◌↔◌, ℕ, List, Bor, Option, Some, option_map, sym, subst}
use Rattle.plant_words.specs.Asked.{HasNumber}
use Rattle.plant_words.proofs.values.number_in.Goals as goal

pub returns-in-Some-clause-number : goal.returns-in-Some-clause-number
returns-in-Some-clause-number c n =
    subst (λ (t : Option (Bor (List ℕ))). (c.from_one.result ≡ Some n) ↔ HasNumber c.args.most (option_map (λ s. s.now) t) n) (sym c.in-Some.is) (c.from_one.ensures.number n)
