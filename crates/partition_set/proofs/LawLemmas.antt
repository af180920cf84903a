-- A file is a manifest, or it is damaged, and never both.
use Rattle.std.proofs.Common.{◌≡◌, ◌⊎◌, inl, inr, ℕ, zero, suc, List, [], ◌∷◌, ◌++◌, drop, map, refl, sym, ap, ap₂, ◌∙◌, subst}
use Rattle.std.specs.List.{AllByRecursion}
use Rattle.std.proofs.lemmas.List.{append_assoc}
use Rattle.ipc_codec.specs.Laws.{WrittenSpells}
use Rattle.gated_journal.specs.Format.{Reads, IsCorrupt}
use Rattle.gated_journal.specs.Laws as journal
use Rattle.partition_set.specs.Records.{payload_of, payloads_of, IsManifest, IsRecord, IsOpened}
use Rattle.partition_set.specs.Manifest.{IsDamaged, BadAmong}
use Rattle.partition_set.specs.declared.record.ManifestRecord.{ManifestRecord}
use Rattle.partition_set.proofs.OrderLemmas.{all-front, ascending-front}
use Rattle.partition_set.proofs.EncodingLemmas.{payload-same}

all-drop-front : {X : Type 0} (P : X → Type 0) (n : ℕ) (xs ys : List X) → AllByRecursion P (drop n (xs ++ ys)) → AllByRecursion P (drop n xs)
all-drop-front P zero xs ys h = all-front P xs ys h
all-drop-front P (suc n) [] ys h = tt
all-drop-front P (suc n) (x ∷ xs) ys h = all-drop-front P n xs ys h

manifest-front : (xs ys : List ManifestRecord) → IsManifest (xs ++ ys) → IsManifest xs
manifest-front xs ys is = record { each = all-front IsRecord xs ys is.each; in_order = ascending-front _ xs ys is.in_order; few_tables = all-drop-front IsOpened 64 xs ys is.few_tables }

-- records whose payloads begin as those of others begin with these
record Front (records front : List ManifestRecord) (payload : List ℕ) : Type 0 where
  next : ManifestRecord
  more : List ManifestRecord
  split : records ≡ front ++ next ∷ more
  same : payload ≡ payload_of next

begin_so : WrittenSpells → (records front : List ManifestRecord) (payload : List ℕ) (rest : List (List ℕ)) → AllByRecursion IsRecord records → AllByRecursion IsRecord front
    → payloads_of records ≡ payloads_of front ++ payload ∷ rest → Front records front payload
begin_so law [] [] payload rest own own' same = cc
begin_so law [] (y ∷ ys) payload rest own own' same = cc
begin_so law (x ∷ xs) [] payload rest own own' same = let heads : payload_of x ≡ payload = cc in record { next = x; more = xs; split = refl; same = sym heads }
begin_so law (x ∷ xs) (y ∷ ys) payload rest own own' same =
    let heads : payload_of x ≡ payload_of y = cc in
    let tails : payloads_of xs ≡ payloads_of ys ++ payload ∷ rest = cc in
    let more = begin_so law xs ys payload rest own.1 own'.1 tails in
    record { next = more.next; more = more.more; split = ap₂ (λ z zs. z ∷ zs) (payload-same law x y own.0 own'.0 heads) more.split; same = more.same }

pub never-both : WrittenSpells → journal.ReadsOnce → journal.NeverBoth → (file : List ℕ) (records : List ManifestRecord) (at : ℕ) → IsManifest records → Reads file (payloads_of records) → IsDamaged file at → ⊥
never-both law once never file records at is reads (inl corrupt) = never file (payloads_of records) corrupt.0 at reads corrupt.1
never-both law once never file records at is reads (inr bad) =
    let among = bad.2 in
    let same : payloads_of records ≡ payloads_of among.records ++ among.payload ∷ among.rest = once file (payloads_of records) bad.0 reads bad.1 ∙ among.split in
    let front = begin_so law records among.records among.payload among.rest is.each among.lawful.each same in
    let whole : records ≡ (among.records ++ front.next ∷ []) ++ front.more = front.split ∙ sym (append_assoc among.records (front.next ∷ []) front.more) in
    among.bad front.next front.same (manifest-front (among.records ++ front.next ∷ []) front.more (subst IsManifest whole is))
