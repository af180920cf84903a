use Rattle.std.proofs.Common.{◌≡◌, ℕ, List, Bool, IsTrue, Option, Some, IfSome, length, arith, subst, sym, ap, ◌∙◌}
use Rattle.outside_api.specs.Disk.{FileState}
use Rattle.gated_journal.specs.Format.{Reads, IsPrefix, IsCorrupt}
use Rattle.gated_journal.specs.declared.journal.Journal.{Journal}
use Rattle.gated_journal.specs.declared.records.Records.{Records}
use Rattle.gated_journal.specs.declared.scan.ValidPrefix.{ValidPrefix}
use Rattle.gated_journal.proofs.Calls.{raised}
use Rattle.gated_journal.proofs.Loads.{held_loaded, loaded, loaded_still, gate_after}
use Rattle.gated_journal.proofs.Durable.{synced_bytes, synced_settled}
use Rattle.gated_journal.proofs.journal.Journal.load.Goals as goal

pub returns-in_err-sync-clause-any_moment : goal.returns-in_err-sync-clause-any_moment
returns-in_err-sync-clause-any_moment g c tells = loaded _ _ c.args.file _ (c.sync.ensures.changes tells)

pub returns-in_err-records-clause-calls : goal.returns-in_err-records-clause-calls
returns-in_err-records-clause-calls g c =
    raised (ValidPrefix) (Journal × Records) c.args.file (g.D.Disk.shown c.args.disk.now) (g.D.Disk.shown c.sync.new.self) (g.D.Disk.shown c.read_valid.new.disk) c.in_ok-sync.ensures.counts.1 c.in_ok-sync.ensures.changes
    c.from_residual-in_err-records.result c.in_err-records.field-0.0 c.from_residual-in_err-records.ensures.1 c.in_err-records.ensures.calls

pub returns-in_err-records-clause-any_moment : goal.returns-in_err-records-clause-any_moment
returns-in_err-records-clause-any_moment g c tells =
    let tells' : IsTrue (g.D.Disk.shown c.sync.new.self).tells = subst (λ (b : Bool). IsTrue b) (sym c.in_ok-sync.ensures.counts.1) tells in
    loaded_still _ _ _ c.args.file (c.in_ok-sync.ensures.changes tells) (c.read_valid.ensures.stays tells')

pub returns-in-Some-clause-calls : goal.returns-in-Some-clause-calls
returns-in-Some-clause-calls g c tells =
    let tells' : IsTrue (g.D.Disk.shown c.sync.new.self).tells = subst (λ (b : Bool). IsTrue b) (sym c.in_ok-sync.ensures.counts.1) tells in
    (g.D.Disk.shown c.sync.new.self, c.in_ok-sync.ensures.changes tells, c.in_ok-records.ensures.calls tells')

pub returns-in-Some-clause-any_moment : goal.returns-in-Some-clause-any_moment
returns-in-Some-clause-any_moment g c tells =
    let tells' : IsTrue (g.D.Disk.shown c.sync.new.self).tells = subst (λ (b : Bool). IsTrue b) (sym c.in_ok-sync.ensures.counts.1) tells in
    loaded_still _ _ _ c.args.file (c.in_ok-sync.ensures.changes tells) (c.read_valid.ensures.stays tells')

pub returns-in-Some-clause-corrupt : goal.returns-in-Some-clause-corrupt
returns-in-Some-clause-corrupt g c tells =
    let mid = g.D.Disk.shown c.sync.new.self in
    let file = c.args.file in
    let records = c.in_ok-records.field-0.records in
    let tells' : IsTrue mid.tells = subst (λ (b : Bool). IsTrue b) (sym c.in_ok-sync.ensures.counts.1) tells in
    let same : (mid.now file).bytes ≡ ((g.D.Disk.shown c.args.disk.now).now file).bytes =
    ap (λ (f : FileState). f.bytes) (c.in_ok-sync.ensures.changes tells).changed ∙ synced_bytes ((g.D.Disk.shown c.args.disk.now).now file) in
    let is : IfSome (Some c.in-Some.bytes) (λ at. IsTrue mid.tells → IsCorrupt (mid.now file).bytes (length records) at) =
    subst (λ (f : Option ℕ). IfSome f (λ at. IsTrue mid.tells → IsCorrupt (mid.now file).bytes (length records) at)) c.in-Some.is c.in_ok-records.ensures.corrupt in
    subst (λ (l : List ℕ). IsCorrupt l c.len-records.result c.in-Some.bytes) same
    (subst (λ (n : ℕ). IsCorrupt (mid.now file).bytes n c.in-Some.bytes) (sym c.len-records.ensures) (is tells'))

pub returns-in-None-clause-calls : goal.returns-in-None-clause-calls
returns-in-None-clause-calls g c tells =
    let tells' : IsTrue (g.D.Disk.shown c.sync.new.self).tells = subst (λ (b : Bool). IsTrue b) (sym c.in_ok-sync.ensures.counts.1) tells in
    (g.D.Disk.shown c.sync.new.self, c.in_ok-sync.ensures.changes tells, c.in_ok-records.ensures.calls tells')

pub returns-in-None-clause-any_moment : goal.returns-in-None-clause-any_moment
returns-in-None-clause-any_moment g c tells =
    let tells' : IsTrue (g.D.Disk.shown c.sync.new.self).tells = subst (λ (b : Bool). IsTrue b) (sym c.in_ok-sync.ensures.counts.1) tells in
    loaded_still _ _ _ c.args.file (c.in_ok-sync.ensures.changes tells) (c.read_valid.ensures.stays tells')

pub returns-in-None-clause-bytes : goal.returns-in-None-clause-bytes
returns-in-None-clause-bytes g c tells =
    let old = g.D.Disk.shown c.args.disk.now in
    let mid = g.D.Disk.shown c.sync.new.self in
    let file = c.args.file in
    let tells' : IsTrue mid.tells = subst (λ (b : Bool). IsTrue b) (sym c.in_ok-sync.ensures.counts.1) tells in
    ap (λ (f : ℕ → FileState). (f file).bytes) (c.read_valid.ensures.stays tells').0 ∙ ap (λ (f : FileState). f.bytes) (c.in_ok-sync.ensures.changes tells).changed ∙ synced_bytes (old.now file)

pub returns-in-None-clause-records : goal.returns-in-None-clause-records
returns-in-None-clause-records g c tells =
    let old = g.D.Disk.shown c.args.disk.now in
    let mid = g.D.Disk.shown c.sync.new.self in
    let file = c.args.file in
    let records = c.in_ok-records.field-0.records in
    let tells' : IsTrue mid.tells = subst (λ (b : Bool). IsTrue b) (sym c.in_ok-sync.ensures.counts.1) tells in
    let reads : Reads (mid.now file).bytes records = subst (λ (f : Option ℕ). IsPrefix (mid.now file).bytes records f) c.in-None.is (c.in_ok-records.ensures.prefix tells') in
    subst (λ (l : List ℕ). Reads l records) (ap (λ (f : FileState). f.bytes) (c.in_ok-sync.ensures.changes tells).changed ∙ synced_bytes (old.now file)) reads

pub returns-in-None-clause-has_gate : goal.returns-in-None-clause-has_gate
returns-in-None-clause-has_gate g c tells =
    let old = g.D.Disk.shown c.args.disk.now in
    let told : IsTrue old.tells = subst (λ (b : Bool). IsTrue b) (c.in_ok-records.ensures.counts.1 ∙ c.in_ok-sync.ensures.counts.1) tells in
    let size = gate_after (old.now c.args.file).bytes c.in_ok-records.field-0.records c.end-end.result (returns-in-None-clause-records g c told) c.end-end.ensures.offset in
    omega (arith, size, ap length (returns-in-None-clause-bytes g c told))

pub returns-in-None-clause-keeps : goal.returns-in-None-clause-keeps
returns-in-None-clause-keeps g c settled tells =
    let old = g.D.Disk.shown c.args.disk.now in
    let mid = g.D.Disk.shown c.sync.new.self in
    let file = c.args.file in
    let records = c.in_ok-records.field-0.records in
    let tells' : IsTrue mid.tells = subst (λ (b : Bool). IsTrue b) c.in_ok-records.ensures.counts.1 tells in
    let told : IsTrue old.tells = subst (λ (b : Bool). IsTrue b) c.in_ok-sync.ensures.counts.1 tells' in
    held_loaded file c.end-end.result _ (old.now file).bytes records
    (ap (λ (f : ℕ → FileState). f file) (c.read_valid.ensures.stays tells').0 ∙ (c.in_ok-sync.ensures.changes told).changed ∙ synced_settled (old.now file) settled)
    (returns-in-None-clause-records g c told) c.end-end.ensures.offset
