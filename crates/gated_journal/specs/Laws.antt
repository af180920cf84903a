-- A file is read in one way: it holds one list of records, or it is corrupt at one offset, and never both.
use Rattle.std.specs.Prelude.{◌≡◌, ℕ, List}
use Rattle.gated_journal.specs.Format.{Reads, IsCorrupt}

abbrev pub ReadsOnce : Type 0
ReadsOnce = (file : List ℕ) (these those : List (List ℕ)) → Reads file these → Reads file those → these ≡ those

abbrev pub NeverBoth : Type 0
NeverBoth = (file : List ℕ) (records : List (List ℕ)) (count at : ℕ) → Reads file records → IsCorrupt file count at → ⊥

abbrev pub CorruptOnce : Type 0
CorruptOnce = (file : List ℕ) (count at count' at' : ℕ) → IsCorrupt file count at → IsCorrupt file count' at' → (count ≡ count') × (at ≡ at')
