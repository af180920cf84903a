use Rattle.std.proofs.Common.{◌≡◌, sym, ap, ◌∙◌}
use Rattle.q_values.specs.Contents.{Contents}
use Rattle.partition_set.proofs.TableLemmas.{types-of}
use Rattle.partition_set.proofs.tables.kinds_in.Goals as goal

pub returns-in-None-clause-none : goal.returns-in-None-clause-none
returns-in-None-clause-none c = λ kinds same.
    (rw c.in-None.is at c.in_ok-kinds.ensures.none) kinds (types-of c.in-Some.items.now kinds (ap (λ (v : Contents). v.atoms) (sym c.in-Some.ensures.some ∙ same)))
