use Rattle.std.proofs.Common.{◌≡◌, Some, rules, refl, sym, ◌∙◌}
use Rattle.plant_shared.proofs.PassLemmas.{kept_is}
use Rattle.plant_shared.proofs.shared.SharedAccess.tail.Goals as goal

pub tail-pass-requires-clause-seen : goal.tail-pass-requires-clause-seen
tail-pass-requires-clause-seen g c =
    let here : c.self.inside.pass ≡ Some c.in-Some.pass = search rules in
    rw (← c.self.view_is, here) at c.requires

pub invariant_of-self : goal.invariant_of-self
invariant_of-self g c =
    let here : c.self.inside.pass ≡ Some c.in-Some.pass = search rules in
    let old = rw here at c.self.invariant.0 in
    let kept = kept_is _ _ _ _ _ old in (
      record {
        told = c.tail-pass.result.0;
        kept = refl;
        pass_is = c.tail-pass.ensures.pass;
        latest_is = c.tail-pass.ensures.latest c.self.inside.latest kept.1;
        schema_is = c.self.invariant.0.schema_is;
      },
      (rw here at c.self.invariant.1) ∙ sym c.tail-pass.ensures.number,
    )

pub returns : goal.returns
returns g c =
    let here : c.self.inside.pass ≡ Some c.in-Some.pass = search rules in
    record {
      answer = rw (← c.self.view_is, here) (c.tail-pass.ensures.answer c.self.inside.snapshots c.self.inside.ticks);
      step = rw (← c.self.view_is, here) c.tail-pass.ensures.step;
      lock = rw (← c.self.view_is, here) refl;
    }
