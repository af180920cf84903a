use Rattle.q_values.specs.Tree.{tree}
use Rattle.q_values.proofs.ListLemmas.{at_mapped}
use Rattle.q_values.proofs.TreeLemmas.{trees-out}
use Rattle.q_values.proofs.value.Values.at.Goals as goal

pub returns : goal.returns
returns c = rw (trees-out c.args.self.now) (at_mapped tree _ _ _ (rw (trees-out c.args.self.now) at c.requires) c.index.ensures)
