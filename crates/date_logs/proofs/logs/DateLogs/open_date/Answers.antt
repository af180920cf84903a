use Rattle.std.proofs.Common.{rules, ◌≡◌, ℤ, Some, None, IsTrue, [], ◌∷◌, ◌++◌, subst, sym}
use Rattle.std.specs.Int.{w32}
use Rattle.std.proofs.lemmas.Int.{to_z-of_z}
use Rattle.outside_api.specs.Disk.{Passes}
use Rattle.gated_journal.specs.Journal.{MayRead, late_of}
use Rattle.partition_set.specs.Manifest.{Keeps}
use Rattle.partition_set.specs.Records.{IsManifest, payload_of, payloads_of}
use Rattle.partition_set.specs.declared.record.ManifestRecord.TheVariants as m
use Rattle.date_logs.specs.Stores.{DateLogsView}
use Rattle.date_logs.proofs.Mending.{at-err}
use Rattle.date_logs.proofs.Adding.{date-added, date-failed, date-moment, date-ready, date-failed-ready}
use Rattle.date_logs.proofs.logs.DateLogs.open_date.Goals as goal

pub returns-in_err-opened-clause-failed : goal.returns-in_err-opened-clause-failed
returns-in_err-opened-clause-failed g c =
    let before = g.D.Disk.shown c.args.disk.now in
    let after = g.D.Disk.shown c.opened.new.disk in
    let tells : after.tells ≡ before.tells = search rules in
    let same = to_z-of_z w32 c.args.date c.ranges.date in
    let moment = subst (λ (d : ℤ). Keeps before c.self.inside.manifest None → IsTrue before.tells → Passes before after c.self.inside.manifest.journal.file (MayRead (payloads_of c.self.inside.manifest.records) (Some (payload_of (m.Opened c.args.by d))))) same c.opened.ensures.any_moment in
    let allowed = subst (λ (l : DateLogsView). IsManifest (l.manifest.records ++ m.Opened c.args.by c.args.date ∷ [])) (sym c.self.view_is) c.requires.allowed in
    at-err _ c.from_residual.result (λ schema first entries stores. date-failed before after tells c.self.inside.manifest c.opened.new.self c.self.inside.log c.args.log c.args.self.now c.self.view_is c.opened.ensures.file c.args.by c.args.date allowed c.requires.file c.requires.empty moment schema first entries stores c.in_err-opened.ensures.same (subst (λ (d : ℤ). Keeps before c.self.inside.manifest None → Keeps after c.opened.new.self (late_of c.opened.new.self.journal.state (payload_of (m.Opened c.args.by d)))) same c.in_err-opened.ensures.failed))

pub returns-in_err-opened-clause-any_moment : goal.returns-in_err-opened-clause-any_moment
returns-in_err-opened-clause-any_moment g c = λ schema first entries stores.
    let before = g.D.Disk.shown c.args.disk.now in
    let after = g.D.Disk.shown c.opened.new.disk in
    let tells : after.tells ≡ before.tells = search rules in
    let same = to_z-of_z w32 c.args.date c.ranges.date in
    let moment = subst (λ (d : ℤ). Keeps before c.self.inside.manifest None → IsTrue before.tells → Passes before after c.self.inside.manifest.journal.file (MayRead (payloads_of c.self.inside.manifest.records) (Some (payload_of (m.Opened c.args.by d))))) same c.opened.ensures.any_moment in
    let allowed = subst (λ (l : DateLogsView). IsManifest (l.manifest.records ++ m.Opened c.args.by c.args.date ∷ [])) (sym c.self.view_is) c.requires.allowed in
    date-moment before after tells c.self.inside.manifest c.opened.new.self c.self.inside.log c.args.log c.args.self.now c.self.view_is c.opened.ensures.file c.args.by c.args.date allowed c.requires.file c.requires.empty moment schema first entries stores

pub returns-in_err-opened-clause-ready : goal.returns-in_err-opened-clause-ready
returns-in_err-opened-clause-ready g c =
    let before = g.D.Disk.shown c.args.disk.now in
    let after = g.D.Disk.shown c.opened.new.disk in
    let tells : after.tells ≡ before.tells = search rules in
    let same = to_z-of_z w32 c.args.date c.ranges.date in
    let moment = subst (λ (d : ℤ). Keeps before c.self.inside.manifest None → IsTrue before.tells → Passes before after c.self.inside.manifest.journal.file (MayRead (payloads_of c.self.inside.manifest.records) (Some (payload_of (m.Opened c.args.by d))))) same c.opened.ensures.any_moment in
    let allowed = subst (λ (l : DateLogsView). IsManifest (l.manifest.records ++ m.Opened c.args.by c.args.date ∷ [])) (sym c.self.view_is) c.requires.allowed in
    date-failed-ready before after tells c.self.inside.manifest c.opened.new.self c.self.inside.log c.args.log c.args.self.now c.self.view_is c.opened.ensures.file c.args.by c.args.date allowed c.requires.file c.requires.empty moment c.self.invariant c.opened.ensures.others c.requires.ready c.opened.ensures.has_gate

pub returns-clause-added : goal.returns-clause-added
returns-clause-added g c = λ schema first entries stores.
    let before = g.D.Disk.shown c.args.disk.now in
    let after = g.D.Disk.shown c.opened.new.disk in
    let tells : after.tells ≡ before.tells = search rules in
    let same = to_z-of_z w32 c.args.date c.ranges.date in
    let moment = subst (λ (d : ℤ). Keeps before c.self.inside.manifest None → IsTrue before.tells → Passes before after c.self.inside.manifest.journal.file (MayRead (payloads_of c.self.inside.manifest.records) (Some (payload_of (m.Opened c.args.by d))))) same c.opened.ensures.any_moment in
    let allowed = subst (λ (l : DateLogsView). IsManifest (l.manifest.records ++ m.Opened c.args.by c.args.date ∷ [])) (sym c.self.view_is) c.requires.allowed in
    date-added before after tells c.self.inside.manifest c.opened.new.self c.self.inside.log c.args.log c.args.self.now c.self.view_is c.opened.ensures.file c.args.by c.args.date allowed c.requires.file c.requires.empty moment schema first entries stores (subst (λ (d : ℤ). c.opened.new.self.records ≡ c.self.inside.manifest.records ++ m.Opened c.args.by d ∷ []) same c.in_ok-opened.ensures.added) c.in_ok-opened.ensures.kept

pub returns-clause-any_moment : goal.returns-clause-any_moment
returns-clause-any_moment g c = λ schema first entries stores.
    let before = g.D.Disk.shown c.args.disk.now in
    let after = g.D.Disk.shown c.opened.new.disk in
    let tells : after.tells ≡ before.tells = search rules in
    let same = to_z-of_z w32 c.args.date c.ranges.date in
    let moment = subst (λ (d : ℤ). Keeps before c.self.inside.manifest None → IsTrue before.tells → Passes before after c.self.inside.manifest.journal.file (MayRead (payloads_of c.self.inside.manifest.records) (Some (payload_of (m.Opened c.args.by d))))) same c.opened.ensures.any_moment in
    let allowed = subst (λ (l : DateLogsView). IsManifest (l.manifest.records ++ m.Opened c.args.by c.args.date ∷ [])) (sym c.self.view_is) c.requires.allowed in
    date-moment before after tells c.self.inside.manifest c.opened.new.self c.self.inside.log c.args.log c.args.self.now c.self.view_is c.opened.ensures.file c.args.by c.args.date allowed c.requires.file c.requires.empty moment schema first entries stores

pub returns-clause-ready : goal.returns-clause-ready
returns-clause-ready g c =
    let before = g.D.Disk.shown c.args.disk.now in
    let after = g.D.Disk.shown c.opened.new.disk in
    let tells : after.tells ≡ before.tells = search rules in
    let same = to_z-of_z w32 c.args.date c.ranges.date in
    let moment = subst (λ (d : ℤ). Keeps before c.self.inside.manifest None → IsTrue before.tells → Passes before after c.self.inside.manifest.journal.file (MayRead (payloads_of c.self.inside.manifest.records) (Some (payload_of (m.Opened c.args.by d))))) same c.opened.ensures.any_moment in
    let allowed = subst (λ (l : DateLogsView). IsManifest (l.manifest.records ++ m.Opened c.args.by c.args.date ∷ [])) (sym c.self.view_is) c.requires.allowed in
    date-ready before after tells c.self.inside.manifest c.opened.new.self c.self.inside.log c.args.log c.args.self.now c.self.view_is c.opened.ensures.file c.args.by c.args.date allowed c.requires.file c.requires.empty moment c.self.invariant c.opened.ensures.others c.requires.gate c.opened.ensures.has_gate
