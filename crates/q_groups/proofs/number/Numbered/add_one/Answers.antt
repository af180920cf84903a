use Rattle.std.proofs.Common.{◌≡◌, ◌++◌, ◌∷◌, [], List, ℕ, ap, sym, ◌∙◌, subst, arith}
use Rattle.q_groups.specs.Groups.{IsNumbered, with_item}
use Rattle.q_groups.proofs.GroupLemmas.{numbered_seen, numbered_new, numbered_by}
use Rattle.q_groups.proofs.number.Numbered.add_one.Goals as goal
use Rattle.q_groups.proofs.number.Numbered.add_one.Goals.{then-number-known+in_ok-narrow+in_ok-push, else-number-known}

pub returns-clause-ok : goal.returns-clause-ok
returns-clause-ok g c = λ xs h.
    let same = g.T.PartialEq.eq in
    let old = c.args.self.now in
    let n = c.in_ok-number.number in
    elim c.if-number-known.branch [
      | then-number-known+in_ok-narrow+in_ok-push w ↦
          numbered_by same (xs ++ c.args.item ∷ []) (with_item same old.values.keys c.args.item) _ (old.codes.items ++ n ∷ []) _ (old.firsts.items ++ w.in_ok-narrow.field-0 ∷ []) _
          (ap (λ s. s.values.keys) w.self-is ∙ c.in_ok-number.ensures.values)
          (c.push_reserved.ensures.items ∙ ap (λ s. s.codes.items ++ n ∷ []) w.self-is)
          (ap (λ s. s.firsts.items) w.self-is ∙ w.in_ok-push.ensures.items)
          (numbered_new same g.met.T.Eq.laws xs _ _ _ c.args.item n w.in_ok-narrow.field-0 h c.in_ok-number.ensures.number (grind (arith, w.if-number-known.true, c.len-known.ensures.len)) (w.in_ok-narrow.ensures ∙ w.len.ensures ∙ old.codes.ok.0))
      | else-number-known w ↦
          numbered_by same (xs ++ c.args.item ∷ []) (with_item same old.values.keys c.args.item) _ (old.codes.items ++ n ∷ []) _ old.firsts.items _
          (ap (λ s. s.values.keys) w.self-is ∙ c.in_ok-number.ensures.values)
          (c.push_reserved.ensures.items ∙ ap (λ s. s.codes.items ++ n ∷ []) w.self-is)
          (ap (λ s. s.firsts.items) w.self-is)
          (numbered_seen same g.met.T.Eq.laws xs _ _ _ c.args.item n h c.in_ok-number.ensures.number (λ e. grind (arith, w.if-number-known.false, c.len-known.ensures.len, e)))
    ]
