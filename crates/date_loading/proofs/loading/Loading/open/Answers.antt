use Rattle.std.proofs.Common.{◌≡◌, ◌≢◌, IsTrue, length, List, [], None, ℕ, ap, sym, subst, ◌∙◌}
use Rattle.outside_api.specs.Disk.{IsSettled}
use Rattle.gated_journal.specs.Format.{Reads}
use Rattle.gated_journal.specs.Journal.{Holds}
use Rattle.partition_set.specs.Records.{payloads_of}
use Rattle.date_loading.specs.Loading.{LoadingView, ReadIn, LoadedIn}
use Rattle.date_loading.specs.Manifests.{tables_of}
use Rattle.date_loading.proofs.DiskLemmas.{keeps-files}
use Rattle.date_loading.proofs.LoadingLemmas.{begun-read, begun-loaded}
use Rattle.date_loading.proofs.loading.Loading.open.Goals as goal

pub returns-then-date-kept-clause-any_moment : goal.returns-then-date-kept-clause-any_moment
returns-then-date-kept-clause-any_moment g c = keeps-files (g.D.Disk.shown c.args.disk.now) (g.D.Disk.shown c.load.new.disk) 0 c.load.ensures.any_moment

pub returns-clause-any_moment : goal.returns-clause-any_moment
returns-clause-any_moment g c = keeps-files (g.D.Disk.shown c.args.disk.now) (g.D.Disk.shown c.load.new.disk) 0 c.load.ensures.any_moment

pub returns-clause-read : goal.returns-clause-read
returns-clause-read g c = λ t.
    let before = g.D.Disk.shown c.args.disk.now in
    let after = g.D.Disk.shown c.load.new.disk in
    let told : IsTrue before.tells = subst IsTrue c.in_ok-manifest.ensures.counts.1 t in
    let same = ap tables_of (sym c.records.ensures.value) ∙ c.in_ok-judge_tables.ensures.same in
    let next : c.len.result ≡ length (tables_of c.in_ok-manifest.manifest.records) = c.len.ensures.value ∙ ap (λ l. length l) (sym same) in
    let reads =
    subst (λ (b : List ℕ). Reads b (payloads_of c.in_ok-manifest.manifest.records)) (sym (c.load.ensures.bytes told))
    (c.in_ok-manifest.ensures.records told) in
    subst (λ (v : LoadingView). ReadIn after.now v c.args.schema.now []) (sym c.begin.ensures)
    (begun-read c.in_ok-manifest.manifest c.in_ok-manifest.ensures.lawful c.len.result next after.now c.args.schema.now same reads)

pub returns-clause-loaded : goal.returns-clause-loaded
returns-clause-loaded g c = λ settled t.
    let before = g.D.Disk.shown c.args.disk.now in
    let after = g.D.Disk.shown c.load.new.disk in
    let told : IsTrue before.tells = subst IsTrue c.in_ok-manifest.ensures.counts.1 t in
    let manifest = c.in_ok-manifest.manifest in
    let same = ap tables_of (sym c.records.ensures.value) ∙ c.in_ok-judge_tables.ensures.same in
    let next : c.len.result ≡ length (tables_of manifest.records) = c.len.ensures.value ∙ ap (λ l. length l) (sym same) in
    let holds =
    subst (λ (k : ℕ). Holds manifest.journal (after.now k) (payloads_of manifest.records) None) c.in_ok-manifest.ensures.file
    (c.in_ok-manifest.ensures.keeps (settled told 0) t) in
    let others : (k : ℕ) → k ≢ 0 → IsSettled (after.now k) =
    λ k apart. subst IsSettled (sym ((c.load.ensures.any_moment told).others_now k apart)) (settled told k) in
    subst (λ (v : LoadingView). LoadedIn after.now v c.args.schema.now []) (sym c.begin.ensures)
    (begun-loaded manifest c.in_ok-manifest.ensures.lawful c.len.result next after.now c.args.schema.now same holds others)
