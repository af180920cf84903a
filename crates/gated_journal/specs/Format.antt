-- What a journal's file holds.
use Rattle.std.specs.Prelude.{◌≡◌, ◌≢◌, ◌⊎◌, ◌<◌, ◌≤◌, ℕ, ◌+◌, List, [], ◌∷◌, ◌++◌, length, take, Option, Some, None}
use Rattle.std.specs.List.{AllByRecursion}
use Rattle.std.specs.Int.{w32, to_le_bytes, from_le_bytes}

-- the bytes that a journal begins with: "qtplant1"
abbrev pub magic : List ℕ
magic = 0x71 ∷ 0x74 ∷ 0x70 ∷ 0x6c ∷ 0x61 ∷ 0x6e ∷ 0x74 ∷ 0x31 ∷ []

-- a gate after which a record counts; each other byte ends the records
abbrev pub open_gate : ℕ
open_gate = 0xa5

-- the gate that is written after the last record
abbrev pub closed_gate : ℕ
closed_gate = 0

-- the greatest number of bytes of a payload
abbrev pub longest_payload : ℕ
longest_payload = 2147483647

abbrev pub IsPayload : List ℕ → Type 0
IsPayload payload = (0 < length payload) × (length payload ≤ longest_payload)

-- a payload's length in four bytes, the lowest first, and then the payload
abbrev pub measured : List ℕ → List ℕ
measured payload = to_le_bytes w32 (length payload) ++ payload

-- records in order, an open gate before each
unfoldable pub spelled : List (List ℕ) → List ℕ
spelled [] = []
spelled (payload ∷ payloads) = open_gate ∷ (measured payload ++ spelled payloads)

-- all that comes before the last gate
unfoldable pub before_gate : List (List ℕ) → List ℕ
before_gate payloads = magic ++ spelled payloads

-- a gate that isn't open, and whatever follows it
abbrev pub IsEnd : List ℕ → Type 0
IsEnd [] = ⊥
IsEnd (gate ∷ rest) = gate ≢ open_gate

-- the file holds these records and no others
pub record Reads (file : List ℕ) (payloads : List (List ℕ)) : Type 0 where
  pub rest : List ℕ
  pub split : file ≡ before_gate payloads ++ rest
  pub ends : IsEnd rest
  pub sized : AllByRecursion IsPayload payloads

-- an open gate with no whole record after it: the file ends before the next gate, or the length is none of a payload
abbrev pub IsBroken : List ℕ → Type 0
IsBroken [] = ⊥
IsBroken (gate ∷ rest) =
    let size = from_le_bytes w32 (take 4 rest) in
    (gate ≡ open_gate) × ((length rest < 4) ⊎ ((length rest ≤ 4 + size) ⊎ ((size ≡ 0) ⊎ (longest_payload < size))))

-- after this number of records the gate at this offset is open and has no whole record after it
pub record BreaksAt (file : List ℕ) (count at : ℕ) : Type 0 where
  pub payloads : List (List ℕ)
  pub rest : List ℕ
  pub split : file ≡ before_gate payloads ++ rest
  pub broken : IsBroken rest
  pub sized : AllByRecursion IsPayload payloads
  pub counted : count ≡ length payloads
  pub place : at ≡ length (before_gate payloads)

-- the file begins as a journal does, and has a gate
abbrev pub HasHeader : List ℕ → Type 0
HasHeader file = (take 8 file ≡ magic) × (9 ≤ length file)

-- the file doesn't begin so, or has no gate
abbrev pub IsStrange : List ℕ → Type 0
IsStrange file = (take 8 file ≢ magic) ⊎ (length file < 9)

-- the file is no journal from this offset on, after this number of records
abbrev pub IsCorrupt : List ℕ → ℕ → ℕ → Type 0
IsCorrupt file records place = (IsStrange file × (records ≡ 0) × (place ≡ 0)) ⊎ BreaksAt file records place

-- after these records the gate at this offset is open and has no whole record after it
pub record BreaksAfter (file : List ℕ) (records : List (List ℕ)) (at : ℕ) : Type 0 where
  pub rest : List ℕ
  pub split : file ≡ before_gate records ++ rest
  pub broken : IsBroken rest
  pub sized : AllByRecursion IsPayload records
  pub place : at ≡ length (before_gate records)

-- the records of a file up to its first fault, and the offset of that fault, if there is one
abbrev pub IsPrefix : List ℕ → List (List ℕ) → Option ℕ → Type 0
IsPrefix file records None = Reads file records
IsPrefix file records (Some at) = (IsStrange file × (records ≡ []) × (at ≡ 0)) ⊎ BreaksAfter file records at
