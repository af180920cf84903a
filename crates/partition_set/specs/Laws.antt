-- A file is a manifest, or it is damaged, and never both.
use Rattle.std.specs.Prelude.{ℕ, List}
use Rattle.gated_journal.specs.Format.{Reads}
use Rattle.partition_set.specs.Records.{payloads_of, IsManifest}
use Rattle.partition_set.specs.Manifest.{IsDamaged}
use Rattle.partition_set.specs.declared.record.ManifestRecord.{ManifestRecord}

abbrev pub NeverBoth : Type 0
NeverBoth = (file : List ℕ) (records : List ManifestRecord) (at : ℕ) → IsManifest records → Reads file (payloads_of records) → IsDamaged file at → ⊥
