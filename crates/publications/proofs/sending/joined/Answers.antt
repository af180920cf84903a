use Rattle.std.proofs.Common.{◌++◌, ap, sym, ◌∙◌}
use Rattle.q_values.specs.Tree.{tree, trees}
use Rattle.publications.proofs.ListLemmas.{joined_more}
use Rattle.publications.specs.Notice.{notice}
use Rattle.publications.proofs.sending.joined.Goals as goal

pub loop-i-preserved : goal.loop-i-preserved
loop-i-preserved c =
    c.in_ok-put_notice.ensures
    ∙ ap (λ bytes. bytes ++ notice (tree c.at.result.now)) c.loop-i.invariant
    ∙ sym (joined_more notice (trees c.args.values.now) c.loop-i.i (tree c.at.result.now) c.at.ensures)
