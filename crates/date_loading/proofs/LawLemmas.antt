-- A load goes in one way.
use Rattle.std.proofs.Common.{◌≡◌, inl, inr, ℕ, List, [], ◌∷◌, refl, sym, ap, ap₂, ◌∙◌, subst}
use Rattle.std.specs.List.{AllByRecursion}
use Rattle.std.specs.Ordering.{nat_cmp, ordering_reverse}
use Rattle.std.specs.Cmp.Lexicographic.{slice_cmp}
use Rattle.std.specs.declared.cmp.Ordering.{Ordering}
use Rattle.std.specs.declared.cmp.Ordering.TheVariants.{Less, Equal, Greater}
use Rattle.std.proofs.lemmas.Cmp.{nat_list_cmp_total}
use Rattle.std.proofs.lemmas.Map.Lookups.{exact_bytes}
use Rattle.ipc_codec.specs.Laws.{WrittenSpells}
use Rattle.gated_journal.specs.Laws as journal
use Rattle.day_rows.specs.declared.schema.Shape.{Shape}
use Rattle.tick_log.specs.Laws as log
use Rattle.tick_log.specs.Replay.{NoChunkAt}
use Rattle.partition_set.specs.Records.{payload_of, payloads_of, IsRecord}
use Rattle.partition_set.specs.declared.record.ManifestRecord.{ManifestRecord}
use Rattle.partition_set.proofs.EncodingLemmas.{payload-same}
use Rattle.date_loading.specs.Differences.{DifferFirst, table_named}
use Rattle.date_loading.specs.Laws.{OneManifest, OneDifference, NoDifference, NeverDamaged}

records-once : WrittenSpells → (these those : List ManifestRecord) → AllByRecursion IsRecord these → AllByRecursion IsRecord those
    → payloads_of these ≡ payloads_of those → these ≡ those
records-once law [] [] own own' same = refl
records-once law [] (y ∷ ys) own own' same = absurd cc
records-once law (x ∷ xs) [] own own' same = absurd cc
records-once law (x ∷ xs) (y ∷ ys) own own' same =
    let heads : payload_of x ≡ payload_of y = cc in
    let tails : payloads_of xs ≡ payloads_of ys = cc in
    ap₂ (λ (z : ManifestRecord) (zs : List ManifestRecord). z ∷ zs) (payload-same law x y own.0 own'.0 heads) (records-once law xs ys own.1 own'.1 tails)

pub one-manifest : WrittenSpells → journal.ReadsOnce → OneManifest
one-manifest law once file these those h i =
    records-once law these those h.lawful.each i.lawful.each (once file (payloads_of these) (payloads_of those) h.reads i.reads)

-- the lower name of two first differences would be none
same-names : (kept given : List Shape) (name name' : List ℕ) (one one' other other' : Shape) → DifferFirst kept given name one other
    → DifferFirst kept given name' one' other' → name ≡ name'
same-names kept given name name' one one' other other' h i = by-order (slice_cmp nat_cmp name name') refl where
  by-order : (o : Ordering) → slice_cmp nat_cmp name name' ≡ o → name ≡ name'
  by-order Less is = absurd (h.differ (h.kept_is ∙ i.first name is ∙ sym h.given_is))
  by-order Equal is = exact_bytes name name' is
  by-order Greater is = absurd (i.differ (i.kept_is ∙ h.first name' (nat_list_cmp_total.antisymm name' name ∙ ap ordering_reverse is) ∙ sym i.given_is))

pub one-difference : OneDifference
one-difference kept given name name' one one' other other' h i =
    let same = same-names kept given name name' one one' other other' h i in (
      same,
      h.kept_is ∙ ap (λ (n : List ℕ). table_named n kept) same ∙ sym i.kept_is,
      h.given_is ∙ ap (λ (n : List ℕ). table_named n given) same ∙ sym
          i.given_is,
    )

pub no-difference : NoDifference
no-difference kept given name one other h = λ same. h.differ (h.kept_is ∙ ap (table_named name) same ∙ sym h.given_is)

pub never-damaged : journal.ReadsOnce → journal.NeverBoth → log.NeverBoth → NeverDamaged
never-damaged once never both schema file updates chunks at lawful h (inl corrupt) = never file h.records chunks at h.reads corrupt
never-damaged once never both schema file updates chunks at lawful h (inr bad) =
    both schema h.records updates chunks at lawful h.chunks
    (subst (λ (l : List (List ℕ)). NoChunkAt schema l chunks at) (once file bad.0 h.records bad.1 h.reads) bad.2)
