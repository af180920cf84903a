use Rattle.std.proofs.Common.{List, ℕ, Bor, refl}
use Rattle.std.specs.Ordering.{nat_cmp, ordering_then}
use Rattle.std.specs.Cmp.Lexicographic.{slice_cmp}
use Rattle.q_values.proofs.OrderLemmas.{IsOrder-map, order_by_heads}
use Rattle.q_values.proofs.arena.Arena.order.Goals as goal

pub returns : goal.returns
returns c =
    let of_pairs = IsOrder-map {Y = List ℕ × List ℕ} (λ (pair : List ℕ × Bor (List ℕ)). (pair.0, pair.1.now)) (λ p q. ordering_then (slice_cmp nat_cmp p.0 q.0) (slice_cmp nat_cmp p.1.now q.1.now))
    (λ p q. ordering_then (slice_cmp nat_cmp p.0 q.0) (slice_cmp nat_cmp p.1 q.1)) (λ _ _. refl) _ _ (rw c.deref.ensures.value at c.in_ok-places.ensures) in
    order_by_heads c.args.self.now _ (rw c.in_ok-texts.ensures at of_pairs)
