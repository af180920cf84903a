use Rattle.std.proofs.Common.{◌≡◌, Some, w64, to_z, of_z, rules, refl, sym, subst, ◌∙◌}
use Rattle.plant_shared.specs.Shared.{IsLatest}
use Rattle.plant_shared.proofs.PassLemmas.{kept_is}
use Rattle.plant_shared.proofs.shared.SharedAccess.upd.Goals as goal

pub invariant_of-self : goal.invariant_of-self
invariant_of-self g c =
    let here : c.self.inside.pass ≡ Some c.in-Some.pass = search rules in
    let old = rw here at c.self.invariant.0 in
    let kept = kept_is _ _ _ _ _ old in (
      record {
        told = c.update-pass.result.0;
        kept = refl;
        pass_is = c.update-pass.ensures.pass;
        latest_is = subst (λ n. IsLatest c.update-pass.result.0 n) (sym c.latest_after_update-self-inside.ensures)
            (c.update-pass.ensures.latest c.self.inside.latest kept.1);
        schema_is = c.self.invariant.0.schema_is;
      },
      (rw here at c.self.invariant.1) ∙ sym c.update-pass.ensures.number,
    )

pub returns : goal.returns
returns g c =
    let now : to_z w64 (of_z w64 c.args.now) ≡ c.args.now = search rules in
    let here : c.self.inside.pass ≡ Some c.in-Some.pass = search rules in
    record {
      turn = rw (← c.self.view_is, here) (rw now at (c.update-pass.ensures.turn c.self.inside.snapshots c.self.inside.ticks));
      step = rw (← c.self.view_is, here) (rw now at c.update-pass.ensures.step);
      lock = rw (← c.self.view_is, here) refl;
    }
