use Rattle.std.proofs.Common.{◌≡◌, sym, ◌∙◌}
use Rattle.partition_set.proofs.TableLemmas.{shapes-same}
use Rattle.partition_set.proofs.encoding.shape_of_bytes.Goals as goal

pub returns-in-Some-2-clause-some : goal.returns-in-Some-2-clause-some
returns-in-Some-2-clause-some c = λ other is same.
    shapes-same other c.in-Some-2.shape (sym ((rw c.in-Some.is at c.in_ok-value.ensures.some) other is same) ∙ (rw c.in-Some-2.is at c.in_ok-shape.ensures.some))
