use Rattle.std.proofs.Common.{◌≡◌, ◌∷◌, ◌++◌, [], rules, sym, subst}
use Rattle.std.specs.Prelude.{IsPermutation}
use Rattle.std.proofs.lemmas.List.Sorted.{IsPermutation-to_front}
use Rattle.plant_serving.proofs.WorkLemmas.{permuted}
use Rattle.plant_serving.proofs.sessions.Sessions.wait_for.Goals as goal

pub settle-requires-after_bounds : goal.settle-requires-after_bounds
settle-requires-after_bounds g c κs within =
    let xs = c.args.self.running.items in
    let x = c.args.running in
    let back : c.in-Err.refused.value ≡ x = c.in-Err.ensures.value_returned in
    let kept : c.push.new.self.items ≡ xs = c.in-Err.ensures.items in
    let moved : IsPermutation (xs ++ x ∷ []) (c.in-Err.refused.value ∷ c.push.new.self.items) = rw (back, kept) (IsPermutation-to_front xs x) in
    (c.in-Err.refused.value, permuted _ _ _ _ _ _ _ _ _ moved c.requires, c.join-finished.ensures)
