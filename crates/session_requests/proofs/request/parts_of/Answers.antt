use Rattle.std.proofs.Common.{arith, ◌≡◌, length, ap, map}
use Rattle.std.proofs.lemmas.List.{length-map}
use Rattle.q_values.specs.Tree.{tree, trees}
use Rattle.session_requests.proofs.RequestLemmas.{no_parts}
use Rattle.session_requests.proofs.request.parts_of.Goals as goal

pub returns-then-len-ne3 : goal.returns-then-len-ne3
returns-then-len-ne3 c = let count : length (map tree c.into_vec-parts.result.items) ≡ length (trees c.args.items) = ap length c.into_vec-parts.ensures in
    let same : length (map tree c.into_vec-parts.result.items) ≡ length c.into_vec-parts.result.items = length-map _ _ in
    no_parts (trees c.args.items) (λ (e : length (trees c.args.items) ≡ 3). c.if-len-ne3.true (omega (arith, e, count, same, c.len.ensures, c.into_vec-parts.result.ok)))
