use Rattle.std.proofs.Common.{List, ℕ, length, ap, ◌∙◌}
use Rattle.gated_journal.specs.Format.{before_gate}
use Rattle.gated_journal.proofs.Gates.{gate_at_end}
use Rattle.gated_journal.proofs.records.Records.end.Goals as goal

pub returns-clause-offset : goal.returns-clause-offset
returns-clause-offset c =
    let i = c.self.invariant in
    i.2 ∙ gate_at_end c.self.inside.bytes.items c.self.inside.spans.items i.0 ∙ ap (λ (l : List (List ℕ)). length (before_gate l)) c.self.view_is
