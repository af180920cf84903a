use Rattle.std.proofs.Common.{◌≡◌, ◌<◌, ◌++◌, ◌∷◌, [], length, All, sym, ap, ◌∙◌, subst}
use Rattle.std.proofs.lemmas.List.Elements.{All-push}
use Rattle.std.specs.HashSet.{contains}
use Rattle.q_values.specs.Lists.{gathered}
use Rattle.q_unary.proofs.DistinctLemmas.{place_pushed, place_passed, seen_more}
use Rattle.q_unary.proofs.distinct.first_places.Goals as goal
use Rattle.q_unary.proofs.distinct.first_places.Goals.{then-branch+in_ok-push, else-branch}

pub loop-i-preserved : goal.loop-i-preserved
loop-i-preserved g c =
    let same = g.T.PartialEq.eq in
    let x = c.index-items-i.result in
    let xs = c.args.items.now in
    let i = c.loop-i.i in
    let before = c.loop-i.places.items in
    record {
      items = elim c.if-branch.branch [
        | then-branch+in_ok-push w ↦
            let more : c.if-branch.places.items ≡ before ++ i ∷ [] = ap (λ v. v.items) w.places-is ∙ w.in_ok-push.ensures.items in
            ap (gathered xs) more ∙ place_pushed same xs before i x c.in_ok-insert.field-0 (contains same c.loop-i.seen x) c.loop-i-test.true c.index-items-i.is c.loop-i.invariant.items (c.loop-i.invariant.seen x) c.in_ok-insert.ensures.added w.if-branch.true
        | else-branch w ↦
            let same_places : c.if-branch.places.items ≡ before = ap (λ v. v.items) w.places-is in
            ap (gathered xs) same_places ∙ place_passed same xs before i x c.in_ok-insert.field-0 (contains same c.loop-i.seen x) c.loop-i-test.true c.index-items-i.is c.loop-i.invariant.items (c.loop-i.invariant.seen x) c.in_ok-insert.ensures.added w.if-branch.false
      ];
      within = elim c.if-branch.branch [
        | then-branch+in_ok-push w ↦
            let more : c.if-branch.places.items ≡ before ++ i ∷ [] = ap (λ v. v.items) w.places-is ∙ w.in_ok-push.ensures.items in
            subst (All (λ p. p < length xs)) (sym more) (All-push (λ p. p < length xs) before i c.loop-i.invariant.within c.loop-i-test.true)
        | else-branch w ↦
            let same_places : c.if-branch.places.items ≡ before = ap (λ v. v.items) w.places-is in
            subst (All (λ p. p < length xs)) (sym same_places) c.loop-i.invariant.within
      ];
      seen = λ q. seen_more same xs i x q (contains same c.loop-i.seen q) (contains same c.insert.new.self q) c.loop-i-test.true c.index-items-i.is (c.loop-i.invariant.seen q) (c.in_ok-insert.ensures.updates.0 q);
    }
