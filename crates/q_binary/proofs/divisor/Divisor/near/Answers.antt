use Rattle.std.proofs.Common.{◌≡◌, ◌*ℤ◌, to_z, of_z, w64, rules, ap₂, ◌∙◌}
use Rattle.std.specs.Int.{int_shr}
use Rattle.std.proofs.lemmas.Int.{to_z-of_z}
use Rattle.q_binary.proofs.DivisorLemmas.{rest_from, rest_to}
use Rattle.q_binary.proofs.divisor.Divisor.near.Goals as goal

pub returns-clause-least : goal.returns-clause-least
returns-clause-least c =
    let d = c.args.self.now in
    let number : to_z w64 (of_z w64 c.args.number) ≡ c.args.number = to_z-of_z w64 c.args.number c.ranges.number in
    let inverse : to_z w64 (of_z w64 d.inverse) ≡ d.inverse = search rules in
    let own : to_z w64 (of_z w64 c.high_product.result) ≡ c.high_product.result = search rules in
    let is : to_z w64 (of_z w64 c.high_product.result) ≡ int_shr (c.args.number *ℤ d.inverse) 64 =
    own ∙ c.high_product.ensures ∙ ap₂ (λ a b. int_shr (a *ℤ b) 64) number inverse in
    rw is (rest_from c.args.number d.inverse d.value d.positive d.signed d.inverted c.ranges.number)

pub returns-clause-most : goal.returns-clause-most
returns-clause-most c =
    let d = c.args.self.now in
    let number : to_z w64 (of_z w64 c.args.number) ≡ c.args.number = to_z-of_z w64 c.args.number c.ranges.number in
    let inverse : to_z w64 (of_z w64 d.inverse) ≡ d.inverse = search rules in
    let own : to_z w64 (of_z w64 c.high_product.result) ≡ c.high_product.result = search rules in
    let is : to_z w64 (of_z w64 c.high_product.result) ≡ int_shr (c.args.number *ℤ d.inverse) 64 =
    own ∙ c.high_product.ensures ∙ ap₂ (λ a b. int_shr (a *ℤ b) 64) number inverse in
    rw is (rest_to c.args.number d.inverse d.value d.positive d.signed d.inverted c.ranges.number d.small)
