use Rattle.std.proofs.Common.{rules, ◌≡◌, ◌∷◌, ◌++◌, [], Some, None, List, ℕ, map, subst, ap, sym, ◌∙◌}
use Rattle.std.specs.Int.{w32}
use Rattle.std.proofs.lemmas.Int.{to_z-of_z}
use Rattle.std.proofs.lemmas.List.{map-append}
use Rattle.outside_api.specs.Disk.{Passes}
use Rattle.gated_journal.specs.Journal.{Holds, JournalView, Keeps, MayRead, late_of}
use Rattle.partition_set.specs.Records.{payload_of, payloads_of}
use Rattle.partition_set.specs.Manifest.{ManifestView}
use Rattle.partition_set.specs.declared.record.ManifestRecord.{ManifestRecord}
use Rattle.partition_set.specs.declared.record.ManifestRecord.TheVariants as m
use Rattle.partition_set.proofs.manifest.Manifest.opened.Goals as goal

pub returns-in-Err-clause-failed : goal.returns-in-Err-clause-failed
returns-in-Err-clause-failed g c = λ keeps tells.
    let journal : c.self.inside.journal ≡ c.args.self.now.journal = ap (λ (v : ManifestView). v.journal) c.self.view_is in
    let was = subst (λ (j : JournalView). Keeps (g.D.Disk.shown c.args.disk.now) j (payloads_of c.args.self.now.records) None) (sym journal) keeps in
    let payload : c.fill.new.self.bytes ≡ payload_of (m.Opened c.args.by c.args.date) = c.fill.ensures.bytes ∙ c.payload_of_opened.ensures ∙ ap (λ d. payload_of (m.Opened c.args.by d)) (to_z-of_z w32 c.args.date c.ranges.date) in
    let records : c.self.inside.records.items ≡ c.args.self.now.records = ap (λ (v : ManifestView). v.records) c.self.view_is in
    subst (λ (l : List ManifestRecord). Holds c.append.new.self ((g.D.Disk.shown c.append.new.disk).now c.append.new.self.file) (payloads_of l) (late_of c.append.new.self.state (payload_of (m.Opened c.args.by c.args.date)))) (sym records)
    (subst (λ b. Holds c.append.new.self ((g.D.Disk.shown c.append.new.disk).now c.append.new.self.file) (payloads_of c.args.self.now.records) (late_of c.append.new.self.state b)) payload
    (c.in-Err.ensures.failed (payloads_of c.args.self.now.records) was tells))

pub returns-in-Err-clause-any_moment : goal.returns-in-Err-clause-any_moment
returns-in-Err-clause-any_moment g c = λ keeps tells.
    let journal : c.self.inside.journal ≡ c.args.self.now.journal = ap (λ (v : ManifestView). v.journal) c.self.view_is in
    let was = subst (λ (j : JournalView). Keeps (g.D.Disk.shown c.args.disk.now) j (payloads_of c.args.self.now.records) None) (sym journal) keeps in
    let payload : c.fill.new.self.bytes ≡ payload_of (m.Opened c.args.by c.args.date) = c.fill.ensures.bytes ∙ c.payload_of_opened.ensures ∙ ap (λ d. payload_of (m.Opened c.args.by d)) (to_z-of_z w32 c.args.date c.ranges.date) in
    let file : c.self.inside.journal.file ≡ c.args.self.now.journal.file = ap (λ (v : ManifestView). v.journal.file) c.self.view_is in
    subst (λ f. Passes (g.D.Disk.shown c.args.disk.now) (g.D.Disk.shown c.append.new.disk) f (MayRead (payloads_of c.args.self.now.records) (Some (payload_of (m.Opened c.args.by c.args.date))))) file
    (subst (λ b. Passes (g.D.Disk.shown c.args.disk.now) (g.D.Disk.shown c.append.new.disk) c.self.inside.journal.file (MayRead (payloads_of c.args.self.now.records) (Some b))) payload
    (c.append.ensures.any_moment (payloads_of c.args.self.now.records) was tells))

pub returns-in-Ok-clause-kept : goal.returns-in-Ok-clause-kept
returns-in-Ok-clause-kept g c = λ keeps tells.
    let journal : c.self.inside.journal ≡ c.args.self.now.journal = ap (λ (v : ManifestView). v.journal) c.self.view_is in
    let was = subst (λ (j : JournalView). Keeps (g.D.Disk.shown c.args.disk.now) j (payloads_of c.args.self.now.records) None) (sym journal) keeps in
    let payload : c.fill.new.self.bytes ≡ payload_of (m.Opened c.args.by c.args.date) = c.fill.ensures.bytes ∙ c.payload_of_opened.ensures ∙ ap (λ d. payload_of (m.Opened c.args.by d)) (to_z-of_z w32 c.args.date c.ranges.date) in
    let added : c.push_reserved.new.self.items ≡ c.args.self.now.records ++ m.Opened c.args.by c.args.date ∷ [] = search rules in
    let grown = ap payloads_of added ∙ map-append payload_of c.args.self.now.records (m.Opened c.args.by c.args.date ∷ []) ∙ ap (λ p. payloads_of c.args.self.now.records ++ p ∷ []) (sym payload) in
    subst (λ l. Holds c.append.new.self ((g.D.Disk.shown c.append.new.disk).now c.append.new.self.file) l None) (sym grown)
    (c.in-Ok.ensures.added (payloads_of c.args.self.now.records) was tells)

pub returns-in-Ok-clause-any_moment : goal.returns-in-Ok-clause-any_moment
returns-in-Ok-clause-any_moment g c = λ keeps tells.
    let journal : c.self.inside.journal ≡ c.args.self.now.journal = ap (λ (v : ManifestView). v.journal) c.self.view_is in
    let was = subst (λ (j : JournalView). Keeps (g.D.Disk.shown c.args.disk.now) j (payloads_of c.args.self.now.records) None) (sym journal) keeps in
    let payload : c.fill.new.self.bytes ≡ payload_of (m.Opened c.args.by c.args.date) = c.fill.ensures.bytes ∙ c.payload_of_opened.ensures ∙ ap (λ d. payload_of (m.Opened c.args.by d)) (to_z-of_z w32 c.args.date c.ranges.date) in
    let file : c.self.inside.journal.file ≡ c.args.self.now.journal.file = ap (λ (v : ManifestView). v.journal.file) c.self.view_is in
    subst (λ f. Passes (g.D.Disk.shown c.args.disk.now) (g.D.Disk.shown c.append.new.disk) f (MayRead (payloads_of c.args.self.now.records) (Some (payload_of (m.Opened c.args.by c.args.date))))) file
    (subst (λ b. Passes (g.D.Disk.shown c.args.disk.now) (g.D.Disk.shown c.append.new.disk) c.self.inside.journal.file (MayRead (payloads_of c.args.self.now.records) (Some b))) payload
    (c.append.ensures.any_moment (payloads_of c.args.self.now.records) was tells))
