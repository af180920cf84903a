use Rattle.std.proofs.Common.{Bool, IsTrue, subst, sym}
use Rattle.gated_journal.proofs.Halves.{shut_one, shut_two}
use Rattle.gated_journal.proofs.journal.write_record.Goals as goal

pub returns-in_err-write_at-clause-shut : goal.returns-in_err-write_at-clause-shut
returns-in_err-write_at-clause-shut g c tells front sized s =
    shut_one c.args.file c.args.end front sized _ _ _ _ (c.write_at.ensures.changes tells) s

pub returns-clause-shut : goal.returns-clause-shut
returns-clause-shut g c tells front sized s =
    let one = shut_one c.args.file c.args.end front sized _ _ _ _ (c.write_at.ensures.changes tells) s in
    shut_two c.args.file c.args.end front sized _ _ _ _ one (c.sync.ensures.changes (subst (λ (b : Bool). IsTrue b) (sym c.in_ok-write_at.ensures.counts.1) tells))
