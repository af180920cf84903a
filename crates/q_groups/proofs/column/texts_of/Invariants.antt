use Rattle.std.proofs.Common.{◌≡◌, take, map, flat_map}
use Rattle.q_groups.proofs.column.texts_of.Given as goal

abbrev pub invariant-loop-part : goal.invariant-loop-part
invariant-loop-part l = map (λ t. t.now) l.texts.items ≡ flat_map (λ part. part.now) (take l.part-index l.parts)
