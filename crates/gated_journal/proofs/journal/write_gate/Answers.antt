use Rattle.std.proofs.Common.{Bool, IsTrue, subst, sym}
use Rattle.gated_journal.proofs.Halves.{ajar_one, ajar_two}
use Rattle.gated_journal.proofs.journal.write_gate.Goals as goal

pub returns-in_err-write_at-clause-ajar : goal.returns-in_err-write_at-clause-ajar
returns-in_err-write_at-clause-ajar g c tells front following sized s =
    ajar_one c.args.file c.args.end front sized following _ _ _ _ (c.write_at.ensures.changes tells) s

pub returns-clause-ajar : goal.returns-clause-ajar
returns-clause-ajar g c tells front following sized s =
    let one = ajar_one c.args.file c.args.end front sized following _ _ _ _ (c.write_at.ensures.changes tells) s in
    ajar_two c.args.file c.args.end front sized following _ _ _ _ one (c.sync.ensures.changes (subst (λ (b : Bool). IsTrue b) (sym c.in_ok-write_at.ensures.counts.1) tells))
