use Rattle.std.proofs.Common.{◌≡◌, ◌↔◌, ℕ, List, Bor, Option, Some, option_map, sym, subst}
use Rattle.plant_words.specs.Asked.{IsStep}
use Rattle.plant_words.proofs.values.step_of.Goals as goal

pub returns-in-Some-clause-step : goal.returns-in-Some-clause-step
returns-in-Some-clause-step c n =
    subst (λ (t : Option (Bor (List ℕ))). (c.number_of.result ≡ Some n) ↔ IsStep (option_map (λ s. s.now) t) n) (sym c.in-Some.is) (c.number_of.ensures.number n)
