use Rattle.std.proofs.Common.{◌≡◌, Some, w64, to_z, of_z, rules, refl, sym, subst, ◌∙◌}
use Rattle.plant_shared.specs.Shared.{IsLatest}
use Rattle.plant_shared.proofs.PassLemmas.{kept_is}
use Rattle.plant_shared.proofs.shared.SharedAccess.tick.Goals as goal

pub invariant_of-self : goal.invariant_of-self
invariant_of-self g c =
    let here : c.self.inside.pass ≡ Some c.in-Some.pass = search rules in
    let old = rw here at c.self.invariant.0 in
    let kept = kept_is _ _ _ _ _ old in (
      record {
        told = c.tick-pass.result.0;
        kept = refl;
        pass_is = c.tick-pass.ensures.pass;
        latest_is = subst (λ n. IsLatest c.tick-pass.result.0 n) (sym c.latest_after_tick-self-inside.ensures)
            (c.tick-pass.ensures.latest c.self.inside.latest kept.1);
        schema_is = c.self.invariant.0.schema_is;
      },
      (rw here at c.self.invariant.1) ∙ sym c.tick-pass.ensures.number,
    )

pub returns : goal.returns
returns g c =
    let now : to_z w64 (of_z w64 c.args.now) ≡ c.args.now = search rules in
    let here : c.self.inside.pass ≡ Some c.in-Some.pass = search rules in
    record {
      turn = rw (← c.self.view_is, here, c.raised-self-inside.ensures) (rw now at (c.tick-pass.ensures.turn c.self.inside.snapshots c.self.inside.ticks));
      step = rw (← c.self.view_is, here) (rw now at c.tick-pass.ensures.step);
      lock = rw (← c.self.view_is, here) refl;
    }
