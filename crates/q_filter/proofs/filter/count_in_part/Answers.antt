use Rattle.std.proofs.Common.{◌≡◌, ◌<◌, ◌+◌, length, take, arith, rules, ap, sym, ◌∙◌}
use Rattle.q_filter.specs.Places.{count_of}
use Rattle.q_filter.proofs.PlaceLemmas.{count_more, count-le, count_of_take-le}
use Rattle.q_filter.proofs.filter.count_in_part.Goals as goal

pub loop-bit-preserved : goal.loop-bit-preserved
loop-bit-preserved c =
    ap (λ n. n + c.one_in_16-count.result) c.loop-bit.invariant
    ∙ ap (λ n. count_of (take c.loop-bit.bit-index c.args.bits.now) + n) c.one_in_16-count.ensures
    ∙ sym (count_more c.args.bits.now c.loop-bit.bit-index c.loop-bit-test.true)

pub overflow_add-count : goal.overflow_add-count
overflow_add-count c =
    let bits = c.args.bits.now in
    let sum : c.loop-bit.count + c.one_in_16-count.result ≡ count_of (take (c.loop-bit.bit-index + 1) bits)
    = ap (λ n. n + c.one_in_16-count.result) c.loop-bit.invariant ∙ ap (λ n. count_of (take c.loop-bit.bit-index bits) + n) c.one_in_16-count.ensures ∙ sym (count_more bits c.loop-bit.bit-index c.loop-bit-test.true) in
    let within = count_of_take-le (c.loop-bit.bit-index + 1) bits in
    let all = count-le bits in
    let small : length bits < 18446744073709551616 = search rules in
    omega arith
