use Rattle.std.proofs.Common.{◌≡◌, ◌≤◌, ℕ, Some, None, refl, subst, arith}
use Rattle.plant_words.specs.Asked.{IsFromOne}
use Rattle.plant_words.proofs.values.from_one.Goals as goal

pub returns-in-Some-clause-number : goal.returns-in-Some-clause-number
returns-in-Some-clause-number c m = (
  (λ e.
      let same : c.in-Some.n ≡ m = cc in
      subst (λ k. IsFromOne c.args.most c.args.text.now k) same ((c.in-Some.ensures.number c.in-Some.n).0 refl, c.if-n-ge1.true)),
  λ is. (c.in-Some.ensures.number m).1 is.0,
)

pub returns-in_default-clause-number : goal.returns-in_default-clause-number
returns-in_default-clause-number c m = (
  (λ e. absurd (cc)),
  λ is.
      let some : Some c.in-Some.n ≡ Some m = (c.in-Some.ensures.number m).1 is.0 in
      let same : c.in-Some.n ≡ m = cc in
      absurd (omega (arith, same, is.1, c.if-n-ge1.false)),
)

pub returns-in_default-2-clause-number : goal.returns-in_default-2-clause-number
returns-in_default-2-clause-number c m = (
  (λ e. absurd (cc)),
  λ is. let none : None ≡ Some m = (c.in_default.ensures.number m).1 is.0 in absurd (cc),
)
