use Rattle.std.proofs.Common.{◌≡◌, ◌<◌, ◌∷◌, length, rules, sym, subst}
use Rattle.std.specs.Prelude.{IsPermutation}
use Rattle.std.proofs.lemmas.List.Sorted.{IsPermutation-swap_remove}
use Rattle.plant_serving.proofs.WorkLemmas.{permuted}
use Rattle.plant_serving.proofs.sessions.Sessions.join_at.Goals as goal

pub settle-requires-after_bounds : goal.settle-requires-after_bounds
settle-requires-after_bounds g c κs within =
    let xs = c.args.self.running.items in
    let x = c.swap_remove-running.result in
    let here : c.args.at < length xs = search rules in
    let moved : IsPermutation xs (x ∷ c.swap_remove-running.new.self.items) =
    subst (λ ys. IsPermutation xs (x ∷ ys)) (sym c.swap_remove-running.ensures.items)
    (IsPermutation-swap_remove xs c.args.at x here c.swap_remove-running.ensures.value) in
    (x, permuted _ _ _ _ _ _ _ _ _ moved c.requires.works, c.join-finished.ensures)
