use Rattle.std.proofs.Common.{rules, ◌≡◌, ℕ, List, None, IsTrue, sym, subst}
use Rattle.gated_journal.specs.Format.{Reads}
use Rattle.partition_set.specs.Records.{IsManifest, payloads_of}
use Rattle.partition_set.specs.declared.record.ManifestRecord.{ManifestRecord}
use Rattle.date_logs.specs.Restart.{IsFound}
use Rattle.date_logs.proofs.Beginning.{undated-found, bytes-read}
use Rattle.date_logs.proofs.Storing.{found-read}
use Rattle.date_logs.proofs.making.format.Goals as goal

pub returns-in-Ok-clause-restarts : goal.returns-in-Ok-clause-restarts
returns-in-Ok-clause-restarts g c = λ told first.
    let before = g.D.Disk.shown c.args.disk.now in
    let after = g.D.Disk.shown c.make.new.disk in
    let tells : after.tells ≡ before.tells = search rules in
    let now : IsTrue after.tells = subst IsTrue (sym tells) told in
    undated-found c.args.schema.now first after.now (subst IsManifest c.in-Ok.ensures.records c.records-allowed.ensures.lawful)
    (λ found is.
    subst (λ (l : List ManifestRecord). Reads found (payloads_of l)) c.in-Ok.ensures.records
    (found-read _ _ _ None (c.in-Ok.ensures.keeps now) found (subst (λ (k : ℕ). IsFound (after.now k) found) (sym c.in-Ok.ensures.file) is)))

pub returns-in-Ok-clause-manifest : goal.returns-in-Ok-clause-manifest
returns-in-Ok-clause-manifest g c = λ told.
    let before = g.D.Disk.shown c.args.disk.now in
    let after = g.D.Disk.shown c.make.new.disk in
    let tells : after.tells ≡ before.tells = search rules in
    let now : IsTrue after.tells = subst IsTrue (sym tells) told in
    bytes-read after.now c.in-Ok.manifest _ c.in-Ok.ensures.records c.in-Ok.ensures.file (c.in-Ok.ensures.keeps now)
