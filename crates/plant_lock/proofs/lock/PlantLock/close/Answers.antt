use Rattle.std.proofs.Common.{rules, ◌≡◌, Option, Some, None, List, true, refl, sym, ap, ◌∙◌, subst, unwrap_or}
use mathlib.Core.List.{IsPrefix}
use Rattle.plant_lock.specs.Entries.{own}
use Rattle.plant_lock.proofs.StepLemmas.{ends}
use Rattle.plant_lock.proofs.lock.PlantLock.close.Goals as goal

pub unreachable-requires : goal.unreachable-requires
unreachable-requires g c = let h = g.S.Chronicle in
    let end = ends h.entries h.by h.frame _ _ _ _ _ _ (ap (λ w. w.stage) c.queue.ensures.turned.1) c.close_with-closed.ensures.values.2 c.take-state.ensures.value in
    let no_state : ◌≡◌ {A = Option g.row.S.Denot} None (Some end.0) = sym c.in-None.is ∙ end.1 in search rules

pub returns-clause-history : goal.returns-clause-history
returns-clause-history g c = let h = g.S.Chronicle in let turned = c.queue.ensures.turned in
    let end = ends h.entries h.by h.frame _ _ _ _ _ _ (ap (λ w. w.stage) turned.1) c.close_with-closed.ensures.values.2 c.take-state.ensures.value in
    let state = c.in-Some.state in let state_is : state ≡ end.0 = ap (λ o. unwrap_or o state) (sym c.in-Some.is ∙ end.1) in
    let all_is : h.entries state ≡ turned.0 = ap h.entries state_is ∙ (end.2 ∙ ap (λ w. w.seen) turned.1) in let seen_is = ap (λ m. m.0.seen) c.into_seat-seat.ensures.rests in
    subst (λ (p : List g.row.S-Entry.Denot × List g.row.S-Entry.Denot). IsPrefix p.0 p.1) (λ i. (seen_is i, sym all_is i)) turned.2

pub returns-clause-frame : goal.returns-clause-frame
returns-clause-frame g c = let h = g.S.Chronicle in let turned = c.queue.ensures.turned in
    let end = ends h.entries h.by h.frame _ _ _ _ _ _ (ap (λ w. w.stage) turned.1) c.close_with-closed.ensures.values.2 c.take-state.ensures.value in
    let state = c.in-Some.state in let state_is : state ≡ end.0 = ap (λ o. unwrap_or o state) (sym c.in-Some.is ∙ end.1) in
    ap h.frame state_is ∙ (end.3 ∙ ap (λ l. h.frame l.made) c.self.view_is)

pub returns-clause-own : goal.returns-clause-own
returns-clause-own g c = let h = g.S.Chronicle in let turned = c.queue.ensures.turned in
    let end = ends h.entries h.by h.frame _ _ _ _ _ _ (ap (λ w. w.stage) turned.1) c.close_with-closed.ensures.values.2 c.take-state.ensures.value in
    let state = c.in-Some.state in let state_is : state ≡ end.0 = ap (λ o. unwrap_or o state) (sym c.in-Some.is ∙ end.1) in
    let all_is : h.entries state ≡ turned.0 = ap h.entries state_is ∙ (end.2 ∙ ap (λ w. w.seen) turned.1) in
    ap (own h.by c.args.pass.number) all_is ∙ subst (λ m. m.0.drawn ≡ true → own h.by m.0.number turned.0 ≡ m.0.mine) c.into_seat-seat.ensures.rests turned.3 refl
