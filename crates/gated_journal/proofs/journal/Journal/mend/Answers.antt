use Rattle.std.proofs.Common.{IsTrue, None, subst}
use Rattle.outside_api.specs.Disk.{Passes}
use Rattle.gated_journal.specs.Journal.{Keeps, JournalView, MayRead}
use Rattle.gated_journal.specs.declared.state.State.TheVariants.{Clean, BodyFailed}
use Rattle.gated_journal.proofs.Appends.{on_err, view_of, mend_gate_failed, mend_gate_moments, mend_gate_done, mend_body_failed, mend_body_moments, mend_body_done}
use Rattle.gated_journal.proofs.journal.Journal.mend.Goals as goal
use Rattle.gated_journal.proofs.journal.Journal.mend.Goals.{in-GateFailed+in_ok-write_gate-in-GateFailed, in-Clean+in_ok-sync-in-Clean}

pub returns-in_err-write_gate-in-GateFailed-clause-failed : goal.returns-in_err-write_gate-in-GateFailed-clause-failed
returns-in_err-write_gate-in-GateFailed-clause-failed g c =
    on_err c.from_residual.result _ (λ records late.
    let old = g.D.Disk.shown c.args.disk.now in
    let new = g.D.Disk.shown c.write_gate.new.disk in
    subst (λ (j : JournalView). Keeps old j records late → Keeps new j records late) c.self.view_is
    (mend_gate_failed c.self.inside.file c.self.inside.end records old new c.self.inside.state late c.in-GateFailed.is c.write_gate.ensures.ajar c.in_err-write_gate-in-GateFailed.ensures.counts.1))

pub returns-in_err-write_gate-in-GateFailed-clause-any_moment : goal.returns-in_err-write_gate-in-GateFailed-clause-any_moment
returns-in_err-write_gate-in-GateFailed-clause-any_moment g c records late =
    let old = g.D.Disk.shown c.args.disk.now in
    let new = g.D.Disk.shown c.write_gate.new.disk in
    subst (λ (j : JournalView). Keeps old j records late → IsTrue old.tells → Passes old new j.file (MayRead records late)) c.self.view_is
    (mend_gate_moments c.self.inside.file c.self.inside.end records old new c.self.inside.state late c.in-GateFailed.is c.write_gate.ensures.ajar)

pub returns-in_err-sync-in-Clean-clause-failed : goal.returns-in_err-sync-in-Clean-clause-failed
returns-in_err-sync-in-Clean-clause-failed g c =
    let old = g.D.Disk.shown c.args.disk.now in
    let new = g.D.Disk.shown c.sync.new.self in
    let file = c.self.inside.file in
    let end = c.self.inside.end in
    on_err c.from_residual-in_err-sync-in-Clean.result _ (λ records late.
    subst (λ (j : JournalView). Keeps old j records late → Keeps new (view_of file end BodyFailed) records late) c.self.view_is
    (mend_body_failed file end records old new c.sync.result c.sync.ensures.changes c.self.inside.state late c.in-Clean.is c.in_err-sync-in-Clean.ensures.counts.1))

pub returns-in_err-sync-in-Clean-clause-any_moment : goal.returns-in_err-sync-in-Clean-clause-any_moment
returns-in_err-sync-in-Clean-clause-any_moment g c records late =
    let old = g.D.Disk.shown c.args.disk.now in
    let new = g.D.Disk.shown c.sync.new.self in
    subst (λ (j : JournalView). Keeps old j records late → IsTrue old.tells → Passes old new j.file (MayRead records late)) c.self.view_is
    (mend_body_moments c.self.inside.file c.self.inside.end records old new c.sync.result c.sync.ensures.changes c.self.inside.state late c.in-Clean.is)

pub returns-in_err-sync-in-Clean-clause-unclean : goal.returns-in_err-sync-in-Clean-clause-unclean
returns-in_err-sync-in-Clean-clause-unclean g c = on_err c.from_residual-in_err-sync-in-Clean.result _ (λ e. cc)

pub returns-clause-mended : goal.returns-clause-mended
returns-clause-mended g c records late =
    let old = g.D.Disk.shown c.args.disk.now in
    let file = c.self.inside.file in
    let end = c.self.inside.end in
    elim c.match-self.branch [
      | in-GateFailed+in_ok-write_gate-in-GateFailed w ↦
          let new = g.D.Disk.shown w.write_gate.new.disk in
          rw (w.disk-is, w.self-inside-is)
          (subst (λ (j : JournalView). Keeps old j records late → Keeps new (view_of file end Clean) records None) c.self.view_is
          (mend_gate_done file end records old new c.self.inside.state late w.in-GateFailed.is w.in_ok-write_gate-in-GateFailed.ensures.counts.1 w.in_ok-write_gate-in-GateFailed.ensures.kept))
      | in-Clean+in_ok-sync-in-Clean w ↦
          let new = g.D.Disk.shown w.sync.new.self in
          rw (w.disk-is, w.self-inside-is)
          (subst (λ (j : JournalView). Keeps old j records late → Keeps new (view_of file end Clean) records None) c.self.view_is
          (mend_body_done file end records old new w.sync.result w.sync.ensures.changes c.self.inside.state late w.in-Clean.is w.in_ok-sync-in-Clean.ensures.counts.1))
    ]

pub returns-clause-any_moment : goal.returns-clause-any_moment
returns-clause-any_moment g c records late =
    let old = g.D.Disk.shown c.args.disk.now in
    let file = c.self.inside.file in
    let end = c.self.inside.end in
    elim c.match-self.branch [
      | in-GateFailed+in_ok-write_gate-in-GateFailed w ↦
          let new = g.D.Disk.shown w.write_gate.new.disk in
          rw w.disk-is
          (subst (λ (j : JournalView). Keeps old j records late → IsTrue old.tells → Passes old new j.file (MayRead records late)) c.self.view_is
          (mend_gate_moments file end records old new c.self.inside.state late w.in-GateFailed.is w.write_gate.ensures.ajar))
      | in-Clean+in_ok-sync-in-Clean w ↦
          let new = g.D.Disk.shown w.sync.new.self in
          rw w.disk-is
          (subst (λ (j : JournalView). Keeps old j records late → IsTrue old.tells → Passes old new j.file (MayRead records late)) c.self.view_is
          (mend_body_moments file end records old new w.sync.result w.sync.ensures.changes c.self.inside.state late w.in-Clean.is))
    ]
