use Rattle.std.proofs.Common.{subst}
use Rattle.std.proofs.lemmas.List.{take_all}
use Rattle.std.proofs.lemmas.List.Elements.{All-more}
use Rattle.std.specs.Int.{w64}
use Rattle.std.specs.Int.RustNames.{FitsSigned}
use Rattle.std.specs.Prelude.{All}
use Rattle.ipc_codec.proofs.lengths.longs_fit.Goals as goal

pub loop-x-preserved : goal.loop-x-preserved
loop-x-preserved c = All-more (FitsSigned w64) c.args.items.now c.loop-x.x-index _ c.loop-x-test.true c.loop-x.invariant c.long_fits.ensures

pub returns : goal.returns
returns c = subst (λ items. All (FitsSigned w64) items) (take_all c.loop-x.x-index c.args.items.now c.loop-x-test.false) c.loop-x.invariant
