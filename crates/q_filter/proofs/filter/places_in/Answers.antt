use Rattle.std.proofs.Common.{◌≡◌, ◌<◌, ◌+◌, length, take, arith, rules, ap, sym, ◌∙◌}
use Rattle.std.proofs.lemmas.List.{length-set}
use Rattle.q_filter.specs.Places.{count_of}
use Rattle.q_filter.proofs.PlaceLemmas.{count_more, count-le, count_of_take-le, places_step}
use Rattle.q_filter.proofs.filter.places_in.Goals as goal

pub overflow_add-count_in : goal.overflow_add-count_in
overflow_add-count_in c =
    let all = count-le c.args.bits.now in
    let small : length c.args.bits.now < 9223372036854775808 = search rules in
    omega (arith, c.count_in.ensures)

pub index_mut-requires : goal.index_mut-requires
index_mut-requires c =
    let within = count_of_take-le c.loop-i.i c.args.bits.now in
    let room : c.loop-i.kept < length c.loop-i.places.items = omega (arith, c.loop-i.invariant.kept, c.loop-i.invariant.size) in
    search rules

pub overflow_add-kept : goal.overflow_add-kept
overflow_add-kept c =
    let bits = c.args.bits.now in
    let sum : c.loop-i.kept + c.one_if-kept.result ≡ count_of (take (c.loop-i.i + 1) bits)
    = ap (λ n. n + c.one_if-kept.result) c.loop-i.invariant.kept ∙ ap (λ n. count_of (take c.loop-i.i bits) + n) c.one_if-kept.ensures ∙ sym (count_more bits c.loop-i.i c.loop-i-test.true) in
    let within = count_of_take-le (c.loop-i.i + 1) bits in
    let all = count-le bits in
    let small : length bits < 18446744073709551616 = search rules in
    omega arith

pub loop-i-preserved : goal.loop-i-preserved
loop-i-preserved c =
    let bits = c.args.bits.now in
    let places = c.loop-i.places.items in
    let within = count_of_take-le c.loop-i.i bits in
    let room : c.loop-i.kept < length places = omega (arith, c.loop-i.invariant.kept, c.loop-i.invariant.size) in
    record {
      kept = ap (λ n. n + c.one_if-kept.result) c.loop-i.invariant.kept ∙ ap (λ n. count_of (take c.loop-i.i bits) + n) c.one_if-kept.ensures ∙ sym (count_more bits c.loop-i.i c.loop-i-test.true);
      places = rw c.one_if-kept.ensures (places_step bits places c.loop-i.i c.loop-i.kept c.loop-i-test.true room c.loop-i.invariant.places);
      size = length-set places c.loop-i.kept c.loop-i.i ∙ c.loop-i.invariant.size;
    }
