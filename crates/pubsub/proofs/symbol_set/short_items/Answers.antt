use Rattle.std.proofs.Common.{◌<◌, ◌||◌, length, arith, ap, sym, ◌∙◌}
use Rattle.std.specs.Str.{bytes_eq}
use Rattle.pubsub.proofs.SetLemmas.{any_more}
use Rattle.pubsub.proofs.symbol_set.short_items.Goals as goal

pub loop-i-preserved : goal.loop-i-preserved
loop-i-preserved c bytes short =
    let inside : c.loop-i.i < length c.args.symbols.now = omega (arith, c.len-i-end.ensures) in
    c.in_ok-push_short.ensures bytes short
    ∙ ap (λ b. b || bytes_eq bytes c.at.result.now) (c.loop-i.invariant bytes short)
    ∙ sym (any_more (bytes_eq bytes) c.args.symbols.now c.loop-i.i c.at.result.now inside c.at.ensures.value)
