use Rattle.std.proofs.Common.{rules, arith, ◌≡◌, ◌+◌, ◌++◌, length, length-append, ap, ◌∙◌, sym, subst, All}
use Rattle.plant_lock.proofs.StepLemmas.{counts}
use Rattle.plant_lock.proofs.steps.give_state.Goals as goal

pub fetch_add-requires : goal.fetch_add-requires
fetch_add-requires g c = let put = c.put_state.ensures.put in let ext = c.requires.history in let new = ext.0 in let by = g.S.Chronicle.by in
    let seen = c.args.seat.now.me.0.seen in let long : length (g.S.Chronicle.entries c.args.state) ≡ length seen + length new = ap length ext.1 ∙ length-append seen new in let len = c.length.ensures in
    let taken = c.requires.counted in (
      search rules,
      search rules,
      counts g.S.Chronicle.entries by g.S.Chronicle.frame _ _ _ _ c.args.state new _ (ap (λ m. m.0.stage) put ∙ c.requires.holds.0) (ap (λ m. m.0.drawn) put ∙ c.requires.holds.1) (ap (λ m. m.1) put)
          (ext.1 ∙ ap (λ m. m.0.seen ++ new) (sym put)) (subst (λ n. All (λ e. by e ≡ n) new) (ap (λ m. m.0.number) (sym put)) ext.2) (omega arith) (search rules),
    )
