use Rattle.std.proofs.Common.{◌≡◌, ◌*ℤ◌, to_z, of_z, w64, ap, ap₂, ◌∙◌}
use Rattle.std.specs.Int.{w128, int_shr}
use Rattle.std.proofs.lemmas.Int.{to_z-of_z}
use Rattle.q_binary.proofs.DivisorLemmas.{high_fits, high_fits_wide, product_fits}
use Rattle.q_binary.proofs.divisor.high_product.Goals as goal

pub returns : goal.returns
returns c =
    let x = c.args.x in
    let y = c.args.y in
    let fits = product_fits x y c.ranges.x c.ranges.y in
    let first : to_z w128 (of_z w128 c.from.result) ≡ x = to_z-of_z w128 c.from.result (record { sfits = c.from.type_inv }) ∙ c.from.ensures ∙ to_z-of_z w64 x c.ranges.x in
    let other : to_z w128 (of_z w128 c.from-2.result) ≡ y = to_z-of_z w128 c.from-2.result (record { sfits = c.from-2.type_inv }) ∙ c.from-2.ensures ∙ to_z-of_z w64 y c.ranges.y in
    let whole : to_z w128 (of_z w128 (to_z w128 (of_z w128 c.from.result) *ℤ to_z w128 (of_z w128 c.from-2.result))) ≡ x *ℤ y =
    ap₂ (λ a b. to_z w128 (of_z w128 (a *ℤ b))) first other ∙ to_z-of_z w128 (x *ℤ y) fits in
    ap (λ z. to_z w64 (of_z w64 (to_z w128 (of_z w128 (int_shr z 64))))) whole
    ∙ ap (λ z. to_z w64 (of_z w64 z)) (to_z-of_z w128 (int_shr (x *ℤ y) 64) (high_fits_wide (x *ℤ y) fits))
    ∙ to_z-of_z w64 (int_shr (x *ℤ y) 64) (high_fits (x *ℤ y) fits)
