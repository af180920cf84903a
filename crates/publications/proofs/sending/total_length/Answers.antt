use Rattle.std.proofs.Common.{◌≤◌, length, take, sym, arith}
use Rattle.q_values.specs.Tree.{Tree, tree, trees}
use Rattle.std.proofs.lemmas.List.{take_all}
use Rattle.std.proofs.lemmas.List.Elements.{All-same}
use Rattle.publications.proofs.ListLemmas.{all_more}
use Rattle.publications.specs.Notice.{notice}
use Rattle.publications.proofs.sending.total_length.Goals as goal

pub loop-i-preserved : goal.loop-i-preserved
loop-i-preserved c = all_more (λ (t : Tree). length (notice t) ≤ 4294967295) (trees c.args.values.now) c.loop-i.i (tree c.at.result.now) c.at.ensures c.loop-i.invariant c.in_ok-fitting_length.ensures

pub returns : goal.returns
returns c =
    let P : Tree → Type 0 = λ t. length (notice t) ≤ 4294967295 in
    let ts = trees c.args.values.now in
    All-same P ts (take c.loop-i.i ts) (sym (take_all c.loop-i.i ts (omega (arith, c.loop-i-test.false, c.len-i-end.ensures)))) c.loop-i.invariant
