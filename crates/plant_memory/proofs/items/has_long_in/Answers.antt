use Rattle.std.proofs.Common.{◌≡◌, ◌<◌, true, false, length, arith}
use Rattle.std.proofs.lemmas.Bool.Decides.{nat_tests}
use Rattle.std.specs.Prelude.{nat_lt}
use Rattle.plant_memory.proofs.ItemsLemmas.{any_symbol_at, any_symbol_more}
use Rattle.plant_memory.proofs.items.has_long_in.Goals as goal

pub returns-then-limit-at : goal.returns-then-limit-at
returns-then-limit-at c =
    let inside : c.loop-i.i < length c.args.symbols.now = omega (arith, c.len-i-end.ensures) in
    let long : nat_lt c.args.limit (length c.at.result.now) ≡ true = grind (arith, nat_tests) in
    any_symbol_at c.args.limit c.args.symbols.now c.loop-i.i c.at.result.now inside c.at.ensures.value long

pub loop-i-preserved : goal.loop-i-preserved
loop-i-preserved c =
    let inside : c.loop-i.i < length c.args.symbols.now = omega (arith, c.len-i-end.ensures) in
    let short : nat_lt c.args.limit (length c.at.result.now) ≡ false = grind (arith, nat_tests) in
    any_symbol_more c.args.limit c.args.symbols.now c.loop-i.i c.at.result.now inside c.at.ensures.value c.loop-i.invariant short
