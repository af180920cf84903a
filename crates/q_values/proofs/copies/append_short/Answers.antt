use Rattle.std.proofs.Common.{arith, refl, ap, ◌∙◌, ◌≡◌, ◌+◌, ◌≤◌, length, replicate}
use Rattle.std.proofs.lemmas.List.{length-append}
use Rattle.q_values.proofs.ListLemmas.{front_and_rest}
use Rattle.q_values.proofs.copies.append_short.Goals as goal

pub returns : goal.returns
returns c =
    let own = c.args.bytes.now.items in
    let start_is : c.len-start.result ≡ length own = omega (arith, c.args.bytes.now.ok) in
    let count_is : length c.append_zeros.new.bytes.items ≡ length own + 32 = ap length c.append_zeros.ensures ∙ length-append own (replicate 32 0) in
    let within : c.len-start.result + length c.args.more.now ≤ c.append_zeros.new.bytes.len = omega (arith, start_is, count_is, c.append_zeros.new.bytes.ok, c.requires.most) in
    c.truncate.ensures.items ∙ front_and_rest own (replicate 32 0) c.args.more.now _ c.copy_to_front.new.room _ _ _ (length c.args.more.now) _ start_is refl (c.deref_mut.ensures.value ∙ c.append_zeros.ensures) within c.copy_to_front.ensures
