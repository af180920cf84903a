use Rattle.std.proofs.Common.{Bool, IsTrue, subst, sym}
use Rattle.gated_journal.proofs.Calls.{looked_twice}
use Rattle.gated_journal.proofs.journal.read_file.Goals as goal

pub returns-in_err-read-clause-stays : goal.returns-in_err-read-clause-stays
returns-in_err-read-clause-stays g c tells =
    looked_twice (g.D.Disk.shown c.args.disk.now) (g.D.Disk.shown c.size.new.self) (g.D.Disk.shown c.read.new.self) (c.size.ensures.looks tells) (c.read.ensures.looks (subst (λ (b : Bool). IsTrue b) (sym c.in_ok-size.ensures.counts.1) tells))

pub returns-clause-stays : goal.returns-clause-stays
returns-clause-stays g c tells =
    looked_twice (g.D.Disk.shown c.args.disk.now) (g.D.Disk.shown c.size.new.self) (g.D.Disk.shown c.read.new.self) (c.size.ensures.looks tells) (c.read.ensures.looks (subst (λ (b : Bool). IsTrue b) (sym c.in_ok-size.ensures.counts.1) tells))
