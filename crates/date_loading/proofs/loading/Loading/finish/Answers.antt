use Rattle.std.proofs.Common.{◌≡◌, length, sym, subst}
use Rattle.date_loading.specs.Loading.{LoadingView, AreLogsOf, IsUndated}
use Rattle.date_loading.proofs.LoadingLemmas.{finish-whole, finish-logs, finish-undated}
use Rattle.date_loading.proofs.loading.Loading.finish.Goals as goal

pub from_parts-requires : goal.from_parts-requires
from_parts-requires c =
    let loading : LoadingView = record { manifest = c.self.inside.manifest; next = c.self.inside.next; log = c.self.inside.log } in
    let all = subst (λ (v : LoadingView). v.next ≡ length v.manifest.records) (sym c.self.view_is) c.requires in
    finish-whole loading c.self.invariant all c.in-Some.log c.in-Some.is

pub returns-in-Some-clause-finished : goal.returns-in-Some-clause-finished
returns-in-Some-clause-finished c =
    let loading : LoadingView = record { manifest = c.self.inside.manifest; next = c.self.inside.next; log = c.self.inside.log } in
    let all = subst (λ (v : LoadingView). v.next ≡ length v.manifest.records) (sym c.self.view_is) c.requires in
    subst (λ (v : LoadingView). AreLogsOf v c.from_parts.result) c.self.view_is
    (subst (AreLogsOf loading) (sym c.from_parts.ensures) (finish-logs loading c.self.invariant all c.in-Some.log c.in-Some.is))

pub returns-in-None-clause-finished : goal.returns-in-None-clause-finished
returns-in-None-clause-finished c =
    let loading : LoadingView = record { manifest = c.self.inside.manifest; next = c.self.inside.next; log = c.self.inside.log } in
    let all = subst (λ (v : LoadingView). v.next ≡ length v.manifest.records) (sym c.self.view_is) c.requires in
    subst (λ (v : LoadingView). IsUndated v loading.manifest) c.self.view_is (finish-undated loading c.self.invariant all c.in-None.is)
