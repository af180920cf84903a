use Rattle.std.proofs.Common.{List, ℕ, Bool, IsTrue, refl, subst, sym}
use Rattle.outside_api.specs.Calls.{AllDone, FailsIn}
use Rattle.gated_journal.specs.Calls.{record_calls, gate_calls}
use Rattle.gated_journal.specs.Format.{open_gate}
use Rattle.gated_journal.specs.Journal.{JournalView, HasLastGate, body}
use Rattle.gated_journal.specs.declared.state.State.TheVariants.{BodyFailed, GateFailed}
use Rattle.gated_journal.proofs.Appends.{on_err, view_of}
use Rattle.gated_journal.proofs.Reach.{gate_stays}
use Rattle.gated_journal.proofs.Calls.{body_failed, gate_failed}
use Rattle.gated_journal.proofs.AppendSteps.{failed_at_body, moments_of_body, failed_at_gate, moments_of_gate, added_record, appended_bytes, appended_settled, gate_added}
use Rattle.gated_journal.proofs.journal.Journal.append.Goals as goal

pub returns-in_err-write_record-clause-failed : goal.returns-in_err-write_record-clause-failed
returns-in_err-write_record-clause-failed g c =
    on_err c.from_residual.result _
    (failed_at_body c.self.inside.file c.self.inside.end c.self.inside.state _ c.self.view_is (g.D.Disk.shown c.args.disk.now) (g.D.Disk.shown c.write_record.new.disk) c.write_record.ensures.shut c.in_err-write_record.ensures.counts.1)

pub returns-in_err-write_record-clause-any_moment : goal.returns-in_err-write_record-clause-any_moment
returns-in_err-write_record-clause-any_moment g c =
    moments_of_body c.self.inside.file c.self.inside.end c.self.inside.state _ c.self.view_is c.args.payload.now.bytes (g.D.Disk.shown c.args.disk.now) (g.D.Disk.shown c.write_record.new.disk) c.write_record.ensures.shut

pub returns-in_err-write_gate-clause-failed : goal.returns-in_err-write_gate-clause-failed
returns-in_err-write_gate-clause-failed g c =
    on_err c.from_residual-in_err-write_gate.result _
    (failed_at_gate c.self.inside.file c.self.inside.end c.self.inside.state _ c.self.view_is c.args.payload.now.bytes c.body-body.result.now
    (c.requires.some, c.body-body.ensures.within) c.body-body.ensures.body (g.D.Disk.shown c.args.disk.now) (g.D.Disk.shown c.write_record.new.disk) (g.D.Disk.shown c.write_gate.new.disk) c.in_ok-write_record.ensures.counts.1 c.in_ok-write_record.ensures.kept
    c.in_err-write_gate.ensures.counts.1 c.write_gate.ensures.ajar)

pub returns-in_err-write_gate-clause-any_moment : goal.returns-in_err-write_gate-clause-any_moment
returns-in_err-write_gate-clause-any_moment g c =
    moments_of_gate c.self.inside.file c.self.inside.end c.self.inside.state _ c.self.view_is c.args.payload.now.bytes c.body-body.result.now
    (c.requires.some, c.body-body.ensures.within) c.body-body.ensures.body (g.D.Disk.shown c.args.disk.now) (g.D.Disk.shown c.write_record.new.disk) (g.D.Disk.shown c.write_gate.new.disk) c.in_ok-write_record.ensures.counts.1 c.in_ok-write_record.ensures.kept
    c.write_record.ensures.shut c.write_gate.ensures.ajar

pub returns-clause-any_moment : goal.returns-clause-any_moment
returns-clause-any_moment g c =
    moments_of_gate c.self.inside.file c.self.inside.end c.self.inside.state _ c.self.view_is c.args.payload.now.bytes c.body-body.result.now
    (c.requires.some, c.body-body.ensures.within) c.body-body.ensures.body (g.D.Disk.shown c.args.disk.now) (g.D.Disk.shown c.write_record.new.disk) (g.D.Disk.shown c.write_gate.new.disk) c.in_ok-write_record.ensures.counts.1 c.in_ok-write_record.ensures.kept
    c.write_record.ensures.shut c.write_gate.ensures.ajar

pub returns-clause-added : goal.returns-clause-added
returns-clause-added g c =
    added_record c.self.inside.file c.self.inside.end c.self.inside.state _ c.self.view_is c.args.payload.now.bytes c.body-body.result.now
    (c.requires.some, c.body-body.ensures.within) c.body-body.ensures.body (g.D.Disk.shown c.args.disk.now) (g.D.Disk.shown c.write_record.new.disk) (g.D.Disk.shown c.write_gate.new.disk) c.in_ok-write_record.ensures.counts.1 c.in_ok-write_record.ensures.kept
    c.in_ok-write_gate.ensures.counts.1 c.in_ok-write_gate.ensures.kept

pub returns-in_err-write_record-clause-calls : goal.returns-in_err-write_record-clause-calls
returns-in_err-write_record-clause-calls g c =
    let old = g.D.Disk.shown c.args.disk.now in
    let new = g.D.Disk.shown c.write_record.new.disk in
    body_failed _ c.from_residual.result old new c.args.self.now c.args.payload.now.bytes c.from_residual.ensures.0
    (subst (λ (j : JournalView). IsTrue old.tells → FailsIn j.file (record_calls j.end (body c.args.payload.now.bytes)) old new) c.self.view_is
    (subst (λ (l : List ℕ). IsTrue old.tells → FailsIn c.self.inside.file (record_calls c.self.inside.end l) old new) c.body-body.ensures.body c.in_err-write_record.ensures.calls))

pub returns-in_err-write_gate-clause-calls : goal.returns-in_err-write_gate-clause-calls
returns-in_err-write_gate-clause-calls g c =
    let old = g.D.Disk.shown c.args.disk.now in
    let mid = g.D.Disk.shown c.write_record.new.disk in
    let new = g.D.Disk.shown c.write_gate.new.disk in
    gate_failed _ c.from_residual-in_err-write_gate.result old mid new c.args.self.now c.args.payload.now.bytes c.from_residual-in_err-write_gate.ensures.0
    (subst (λ (j : JournalView). IsTrue old.tells → AllDone j.file (record_calls j.end (body c.args.payload.now.bytes)) old mid) c.self.view_is
    (subst (λ (l : List ℕ). IsTrue old.tells → AllDone c.self.inside.file (record_calls c.self.inside.end l) old mid) c.body-body.ensures.body c.in_ok-write_record.ensures.calls))
    (subst (λ (j : JournalView). IsTrue old.tells → FailsIn j.file (gate_calls j.end open_gate) mid new) c.self.view_is
    (λ tells. c.in_err-write_gate.ensures.calls (subst (λ (b : Bool). IsTrue b) (sym c.in_ok-write_record.ensures.counts.1) tells)))

pub returns-in_err-write_record-clause-has_gate : goal.returns-in_err-write_record-clause-has_gate
returns-in_err-write_record-clause-has_gate g c =
    let old = g.D.Disk.shown c.args.disk.now in
    let new = g.D.Disk.shown c.write_record.new.disk in
    let was = view_of c.self.inside.file c.self.inside.end c.self.inside.state in
    gate_stays old new was (view_of c.self.inside.file c.self.inside.end BodyFailed) c.in_err-write_record.ensures.counts.1 refl refl c.write_record.ensures.longer
    (subst (λ (j : JournalView). HasLastGate old j) (sym c.self.view_is) c.requires.has_gate)

pub returns-in_err-write_gate-clause-has_gate : goal.returns-in_err-write_gate-clause-has_gate
returns-in_err-write_gate-clause-has_gate g c =
    let old = g.D.Disk.shown c.args.disk.now in
    let mid = g.D.Disk.shown c.write_record.new.disk in
    let new = g.D.Disk.shown c.write_gate.new.disk in
    let was = view_of c.self.inside.file c.self.inside.end c.self.inside.state in
    gate_stays mid new was (view_of c.self.inside.file c.self.inside.end GateFailed) c.in_err-write_gate.ensures.counts.1 refl refl c.write_gate.ensures.longer
    (gate_stays old mid was was c.in_ok-write_record.ensures.counts.1 refl refl c.write_record.ensures.longer
    (subst (λ (j : JournalView). HasLastGate old j) (sym c.self.view_is) c.requires.has_gate))

pub returns-clause-has_gate : goal.returns-clause-has_gate
returns-clause-has_gate g c =
    gate_added c.self.inside.file c.self.inside.end c.self.inside.state _ c.self.view_is c.args.payload.now.bytes c.body-body.result.now
    (c.requires.some, c.body-body.ensures.within) c.body-body.ensures.body (g.D.Disk.shown c.args.disk.now) (g.D.Disk.shown c.write_record.new.disk) (g.D.Disk.shown c.write_gate.new.disk) c.in_ok-write_record.ensures.counts.1 c.in_ok-write_record.ensures.kept
    c.in_ok-write_gate.ensures.kept c.in_ok-write_gate.ensures.counts.1 c.requires.has_gate

pub returns-clause-bytes : goal.returns-clause-bytes
returns-clause-bytes g c =
    appended_bytes c.self.inside.file c.self.inside.end c.self.inside.state _ c.self.view_is c.args.payload.now.bytes c.body-body.result.now
    (c.requires.some, c.body-body.ensures.within) c.body-body.ensures.body (g.D.Disk.shown c.args.disk.now) (g.D.Disk.shown c.write_record.new.disk) (g.D.Disk.shown c.write_gate.new.disk) c.in_ok-write_record.ensures.counts.1 c.in_ok-write_record.ensures.kept
    c.in_ok-write_gate.ensures.kept

pub returns-clause-durable : goal.returns-clause-durable
returns-clause-durable g c =
    appended_settled c.self.inside.file c.self.inside.end c.self.inside.state _ c.self.view_is c.args.payload.now.bytes c.body-body.result.now
    (c.requires.some, c.body-body.ensures.within) c.body-body.ensures.body (g.D.Disk.shown c.args.disk.now) (g.D.Disk.shown c.write_record.new.disk) (g.D.Disk.shown c.write_gate.new.disk) c.in_ok-write_record.ensures.counts.1 c.in_ok-write_record.ensures.kept
    c.in_ok-write_gate.ensures.kept

pub write_gate-requires : goal.write_gate-requires
write_gate-requires g c =
    let old = g.D.Disk.shown c.args.disk.now in
    let mid = g.D.Disk.shown c.write_record.new.disk in
    let was = view_of c.self.inside.file c.self.inside.end c.self.inside.state in
    record {
      within = gate_stays old mid was was c.in_ok-write_record.ensures.counts.1 refl refl c.write_record.ensures.longer
          (subst (λ (j : JournalView). HasLastGate old j) (sym c.self.view_is) c.requires.has_gate);
    }
