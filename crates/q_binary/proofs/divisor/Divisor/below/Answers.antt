use Rattle.std.proofs.Common.{◌≡◌, ◌*◌, ◌+◌, ◌-◌, ◌%◌, ◌<◌, ◌-ℤ◌, ◌*ℤ◌, to_z, of_z, w64, arith, rules, ap, ap₂, ◌∙◌}
use Rattle.std.specs.Int.{int_wrap}
use Rattle.std.proofs.lemmas.Int.{to_z-of_z, wrapping_sub-bits, wrapping_mul-bits}
use Rattle.q_binary.proofs.DivisorLemmas.{is_multiple}
use Rattle.q_binary.proofs.divisor.Divisor.below.Goals as goal

pub returns-then-cast_unsigned : goal.returns-then-cast_unsigned
returns-then-cast_unsigned c =
    let d = c.args.self.now in
    let x = c.args.number in
    let q = c.near.result in
    let number : to_z w64 (of_z w64 x) ≡ x = to_z-of_z w64 x c.ranges.number in
    let near : to_z w64 (of_z w64 q) ≡ q = search rules in
    let value : to_z w64 (of_z w64 d.value) ≡ d.value = search rules in
    let product : to_z w64 (of_z w64 q * of_z w64 d.value % 18446744073709551616) ≡ int_wrap w64 (q *ℤ d.value) =
    wrapping_mul-bits w64 (of_z w64 q) (of_z w64 d.value) (search rules) (search rules) ∙ ap₂ (λ a b. int_wrap w64 (a *ℤ b)) near value in
    let rest : to_z w64 ((of_z w64 x + (18446744073709551616 - of_z w64 q * of_z w64 d.value % 18446744073709551616)) % 18446744073709551616) ≡ int_wrap w64 (x -ℤ int_wrap w64 (q *ℤ d.value)) =
    wrapping_sub-bits w64 (of_z w64 x) (of_z w64 q * of_z w64 d.value % 18446744073709551616) (search rules) (omega (arith)) ∙ ap₂ (λ a b. int_wrap w64 (a -ℤ b)) number product in
    let bits : of_z w64 (int_wrap w64 (x -ℤ int_wrap w64 (q *ℤ d.value))) < of_z w64 d.value = rw (c.cast_unsigned.ensures, c.cast_unsigned-2.ensures, rest, value) at c.if-cast_unsigned.true in
    product ∙ ap (int_wrap w64) (is_multiple x q d.value d.positive d.small (rw number at c.near.ensures.least) (rw number at c.near.ensures.most) bits)
