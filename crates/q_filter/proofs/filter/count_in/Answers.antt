use Rattle.std.proofs.Common.{◌≡◌, ◌<◌, ◌+◌, ◌-◌, ℕ, length, take, drop, arith, rules, ap, sym, ◌∙◌}
use Rattle.std.proofs.lemmas.List.{take_all}
use Rattle.q_filter.specs.Places.{count_of}
use Rattle.q_filter.proofs.PlaceLemmas.{count_parts, count-le, count_of_take-le}
use Rattle.q_filter.proofs.filter.count_in.Goals as goal

pub overflow_add-count : goal.overflow_add-count
overflow_add-count c =
    let bits = c.args.bits.now in
    let within = count_of_take-le c.loop-done.done bits in
    let all = count-le bits in
    let small : length bits < 9223372036854775808 = search rules in
    omega (arith, c.loop-done.invariant.count, c.from-count.ensures)

pub loop-done-preserved : goal.loop-done-preserved
loop-done-preserved c =
    let bits = c.args.bits.now in
    let done = c.loop-done.done in
    let size : done + 32768 - done ≡ 32768 = omega arith in
    let part : c.from-count.result ≡ count_of (take 32768 (drop done bits)) = c.from-count.ensures ∙ c.count_in_part.ensures ∙ ap (λ (n : ℕ). count_of (take n (drop done bits))) size in
    record {
      count = ap (λ (n : ℕ). n + c.from-count.result) c.loop-done.invariant.count ∙ ap (λ (n : ℕ). count_of (take done bits) + n) part ∙ sym (count_parts bits done 32768);
      within = omega (arith, c.loop-done-test.true);
    }

pub overflow_add-result : goal.overflow_add-result
overflow_add-result c =
    let bits = c.args.bits.now in
    let within = count_of_take-le c.loop-done.done bits in
    let all = count-le bits in
    let small : length bits < 9223372036854775808 = search rules in
    omega (arith, c.loop-done.invariant.count, c.from.ensures)

pub returns : goal.returns
returns c =
    let bits = c.args.bits.now in
    let done = c.loop-done.done in
    let rest : c.from.result ≡ count_of (take (length bits - done) (drop done bits)) = c.from.ensures ∙ c.count_in_part-2.ensures in
    ap (λ (n : ℕ). n + c.from.result) c.loop-done.invariant.count
    ∙ ap (λ (n : ℕ). count_of (take done bits) + n) rest
    ∙ sym (count_parts bits done (length bits - done))
    ∙ ap count_of (take_all (done + (length bits - done)) bits (omega (arith, c.loop-done.invariant.within)))
