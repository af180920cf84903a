-- What holds of reading, writing and encodings, whatever the bytes.
use Rattle.std.specs.Prelude.{◌≡◌, ◌≤◌, ℕ, List, ◌++◌, length, take, Ok}
use Rattle.q_values.specs.Tree.{Tree}
use Rattle.ipc_codec.specs.declared.order.Order.{Order}
use Rattle.ipc_codec.specs.declared.order.Order.TheVariants as little
use Rattle.ipc_codec.specs.Reading.{object_of}
use Rattle.ipc_codec.specs.Written.{written, IsPlain, AtomsFit}
use Rattle.ipc_codec.specs.Spells.{Spells}

-- the bytes that were read are an encoding of the value that was read
abbrev pub ReadingIsSpelling : Type 0
ReadingIsSpelling =
    (order : Order) (bytes : List ℕ) (t : Tree) (n : ℕ) → object_of order bytes ≡ Ok (t, n)
    → (n ≤ length bytes) × Spells order (take n bytes) t

-- each encoding of a value is read as that value, whatever follows
abbrev pub SpellingIsRead : Type 0
SpellingIsRead =
    (order : Order) (bytes : List ℕ) (t : Tree) (rest : List ℕ) → Spells order bytes t
    → object_of order (bytes ++ rest) ≡ Ok (t, length bytes)

-- no encoding begins another one
abbrev pub NoSpellingBeginsAnother : Type 0
NoSpellingBeginsAnother =
    (order : Order) (a : List ℕ) (b : List ℕ) (x : List ℕ) (y : List ℕ) (t : Tree) (u : Tree)
    → Spells order a t → Spells order b u → a ++ x ≡ b ++ y → (a ≡ b) × (t ≡ u)

-- what is written of a plain value is an encoding of it, and is read again as it, whatever follows
abbrev pub WrittenSpells : Type 0
WrittenSpells =
    (t : Tree) → IsPlain t → AtomsFit t
    → Spells little.Little (written t) t
    × ((rest : List ℕ) → object_of little.Little (written t ++ rest) ≡ Ok (t, length (written t)))

-- a value that has an encoding is plain
abbrev pub SpellingIsPlain : Type 0
SpellingIsPlain = (order : Order) (bytes : List ℕ) (t : Tree) → Spells order bytes t → IsPlain t × AtomsFit t
