use Rattle.std.proofs.Common.{◌≡◌, take, map}
use Rattle.std.specs.List.{flat_map}
use Rattle.q_values.specs.declared.atom.Atom.TheVariants as a
use Rattle.day_rows.specs.Joined.{joined}
use Rattle.day_rows.proofs.store.Store.symbols.Given as goal

abbrev pub invariant-loop-block : goal.invariant-loop-block
invariant-loop-block l = map (λ t. a.Symbol t) (flat_map (λ part. part.now) l.parts.items) ≡ joined l.table l.column (flat_map (λ block. block.now) (take l.block-index l.block-items))
