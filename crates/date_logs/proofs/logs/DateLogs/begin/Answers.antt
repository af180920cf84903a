use Rattle.std.proofs.Common.{rules, ◌≡◌, ℕ, ℤ, Some, None, IsTrue, [], ◌∷◌, ◌++◌, subst, ap, ◌∙◌}
use Rattle.std.specs.Int.{w32}
use Rattle.std.proofs.lemmas.Int.{to_z-of_z}
use Rattle.outside_api.specs.Disk.{Passes}
use Rattle.gated_journal.specs.Journal.{JournalView, MayRead}
use Rattle.partition_set.specs.Manifest.{Keeps}
use Rattle.partition_set.specs.Records.{payload_of, payloads_of}
use Rattle.partition_set.specs.declared.record.ManifestRecord.TheVariants as m
use Rattle.date_logs.specs.Restart.{log_file}
use Rattle.date_logs.proofs.Beginning.{begin-fresh-moment, begin-gate, begin-moment, begin-stored, begin-ready}
use Rattle.date_logs.proofs.logs.DateLogs.begin.Goals as goal

pub returns-in_err-log-clause-any_moment : goal.returns-in_err-log-clause-any_moment
returns-in_err-log-clause-any_moment g c = λ schema tables kept t.
    let before = g.D.Disk.shown c.args.disk.now in
    let mid = g.D.Disk.shown c.fresh.new.disk in
    let told : mid.tells ≡ before.tells = search rules in
    let same = to_z-of_z w32 c.args.date c.ranges.date in
    let fresh = subst (λ (k : ℕ). IsTrue before.tells → Passes before mid k (λ _. Unit {0})) (c.log_file.ensures ∙ ap log_file same) c.fresh.ensures.any_moment in
    begin-fresh-moment before mid told c.args.manifest c.args.by c.args.date c.requires.allowed c.requires.file kept fresh schema tables t

pub opened-requires-clause-has_gate : goal.opened-requires-clause-has_gate
opened-requires-clause-has_gate g c =
    let before = g.D.Disk.shown c.args.disk.now in
    let mid = g.D.Disk.shown c.fresh.new.disk in
    let told : mid.tells ≡ before.tells = search rules in
    let same = to_z-of_z w32 c.args.date c.ranges.date in
    let fresh = subst (λ (k : ℕ). IsTrue before.tells → Passes before mid k (λ _. Unit {0})) (c.log_file.ensures ∙ ap log_file same) c.fresh.ensures.any_moment in
    begin-gate before mid told c.args.manifest c.args.by c.args.date c.requires.allowed c.requires.file fresh c.requires.gate

pub returns-in_err-opened-clause-any_moment : goal.returns-in_err-opened-clause-any_moment
returns-in_err-opened-clause-any_moment g c = λ schema tables kept t.
    let before = g.D.Disk.shown c.args.disk.now in
    let mid = g.D.Disk.shown c.fresh.new.disk in
    let told : mid.tells ≡ before.tells = search rules in
    let same = to_z-of_z w32 c.args.date c.ranges.date in
    let fresh = subst (λ (k : ℕ). IsTrue before.tells → Passes before mid k (λ _. Unit {0})) (c.log_file.ensures ∙ ap log_file same) c.fresh.ensures.any_moment in
    let after = g.D.Disk.shown c.opened.new.disk in
    let tells : after.tells ≡ mid.tells = search rules in
    let file : c.in_ok-log.log.file ≡ log_file c.args.date = ap (λ (j : JournalView). j.file) c.in_ok-log.ensures.journal ∙ c.log_file.ensures ∙ ap log_file same in
    let moment = subst (λ (d : ℤ). Keeps mid c.args.manifest None → IsTrue mid.tells → Passes mid after c.args.manifest.journal.file (MayRead (payloads_of c.args.manifest.records) (Some (payload_of (m.Opened c.args.by d))))) same c.opened.ensures.any_moment in
    begin-moment before mid after told tells c.args.manifest c.opened.new.self c.in_ok-log.log c.args.by c.args.date c.requires.allowed c.requires.file c.opened.ensures.file file c.in_ok-log.ensures.keeps kept fresh moment schema tables t

pub returns-clause-stored : goal.returns-clause-stored
returns-clause-stored g c = λ schema tables kept.
    let before = g.D.Disk.shown c.args.disk.now in
    let mid = g.D.Disk.shown c.fresh.new.disk in
    let told : mid.tells ≡ before.tells = search rules in
    let same = to_z-of_z w32 c.args.date c.ranges.date in
    let fresh = subst (λ (k : ℕ). IsTrue before.tells → Passes before mid k (λ _. Unit {0})) (c.log_file.ensures ∙ ap log_file same) c.fresh.ensures.any_moment in
    let after = g.D.Disk.shown c.opened.new.disk in
    let tells : after.tells ≡ mid.tells = search rules in
    let file : c.in_ok-log.log.file ≡ log_file c.args.date = ap (λ (j : JournalView). j.file) c.in_ok-log.ensures.journal ∙ c.log_file.ensures ∙ ap log_file same in
    let moment = subst (λ (d : ℤ). Keeps mid c.args.manifest None → IsTrue mid.tells → Passes mid after c.args.manifest.journal.file (MayRead (payloads_of c.args.manifest.records) (Some (payload_of (m.Opened c.args.by d))))) same c.opened.ensures.any_moment in
    begin-stored before mid after told tells c.args.manifest c.opened.new.self c.in_ok-log.log c.args.by c.args.date c.requires.allowed c.requires.file c.opened.ensures.file file c.in_ok-log.ensures.keeps kept fresh moment schema tables (subst (λ (d : ℤ). c.opened.new.self.records ≡ c.args.manifest.records ++ m.Opened c.args.by d ∷ []) same c.in_ok-opened.ensures.added) c.in_ok-opened.ensures.kept

pub returns-clause-any_moment : goal.returns-clause-any_moment
returns-clause-any_moment g c = λ schema tables kept t.
    let before = g.D.Disk.shown c.args.disk.now in
    let mid = g.D.Disk.shown c.fresh.new.disk in
    let told : mid.tells ≡ before.tells = search rules in
    let same = to_z-of_z w32 c.args.date c.ranges.date in
    let fresh = subst (λ (k : ℕ). IsTrue before.tells → Passes before mid k (λ _. Unit {0})) (c.log_file.ensures ∙ ap log_file same) c.fresh.ensures.any_moment in
    let after = g.D.Disk.shown c.opened.new.disk in
    let tells : after.tells ≡ mid.tells = search rules in
    let file : c.in_ok-log.log.file ≡ log_file c.args.date = ap (λ (j : JournalView). j.file) c.in_ok-log.ensures.journal ∙ c.log_file.ensures ∙ ap log_file same in
    let moment = subst (λ (d : ℤ). Keeps mid c.args.manifest None → IsTrue mid.tells → Passes mid after c.args.manifest.journal.file (MayRead (payloads_of c.args.manifest.records) (Some (payload_of (m.Opened c.args.by d))))) same c.opened.ensures.any_moment in
    begin-moment before mid after told tells c.args.manifest c.opened.new.self c.in_ok-log.log c.args.by c.args.date c.requires.allowed c.requires.file c.opened.ensures.file file c.in_ok-log.ensures.keeps kept fresh moment schema tables t

pub returns-clause-ready : goal.returns-clause-ready
returns-clause-ready g c =
    let before = g.D.Disk.shown c.args.disk.now in
    let mid = g.D.Disk.shown c.fresh.new.disk in
    let told : mid.tells ≡ before.tells = search rules in
    let same = to_z-of_z w32 c.args.date c.ranges.date in
    let fresh = subst (λ (k : ℕ). IsTrue before.tells → Passes before mid k (λ _. Unit {0})) (c.log_file.ensures ∙ ap log_file same) c.fresh.ensures.any_moment in
    let after = g.D.Disk.shown c.opened.new.disk in
    let tells : after.tells ≡ mid.tells = search rules in
    let file : c.in_ok-log.log.file ≡ log_file c.args.date = ap (λ (j : JournalView). j.file) c.in_ok-log.ensures.journal ∙ c.log_file.ensures ∙ ap log_file same in
    let moment = subst (λ (d : ℤ). Keeps mid c.args.manifest None → IsTrue mid.tells → Passes mid after c.args.manifest.journal.file (MayRead (payloads_of c.args.manifest.records) (Some (payload_of (m.Opened c.args.by d))))) same c.opened.ensures.any_moment in
    begin-ready mid after tells c.args.manifest c.opened.new.self c.in_ok-log.log c.args.by c.args.date c.requires.allowed c.requires.file file c.opened.ensures.others c.in_ok-log.ensures.has_gate c.opened.ensures.has_gate
