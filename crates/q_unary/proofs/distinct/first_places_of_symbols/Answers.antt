use Rattle.std.proofs.Common.{◌≡◌, ℕ, Bool, List, Bor, refl, sym, ap, map, ◌∙◌}
use Rattle.std.specs.Prelude.{nat_eq}
use Rattle.std.proofs.lemmas.Result.{IfOk-weaker}
use lib.Pointwise.{pointwise}
use Rattle.q_values.specs.Lists.{gathered}
use Rattle.q_values.specs.Symbols.{symbols_in}
use Rattle.q_verbs.specs.Lists.{distinct}
use Rattle.q_unary.proofs.DistinctLemmas.{read_distinct}
use Rattle.q_unary.proofs.distinct.first_places_of_symbols.Goals as goal

pub returns-in_ok-texts-in-Long-clause-items : goal.returns-in_ok-texts-in-Long-clause-items
returns-in_ok-texts-in-Long-clause-items c =
    let eq : Bor (List ℕ) → Bor (List ℕ) → Bool = λ x y. pointwise nat_eq x.now y.now in
    let bytes : Bor (List ℕ) → List ℕ = λ t. t.now in
    let texts = c.in_ok-texts-in-Long.texts.items in
    let xs = c.deref.result.now in
    let same : map bytes texts ≡ c.args.symbols.now = c.in_ok-texts-in-Long.ensures ∙ ap symbols_in (sym c.in-Long.is) ∙ c.form.ensures in
    IfOk-weaker c.first_places-in-Long.result (λ v. gathered xs v.items ≡ distinct eq xs) (λ v. gathered c.args.symbols.now v.items ≡ distinct (pointwise nat_eq) c.args.symbols.now)
    (λ v found. rw (← same) (read_distinct (pointwise nat_eq) eq bytes texts xs v.items (λ x y. refl) c.deref.ensures.value found))
    c.first_places-in-Long.ensures.items
