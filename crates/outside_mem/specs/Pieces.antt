-- An input in pieces, and what each read of it gives.
use Rattle.std.specs.Prelude.{◌≡◌, ◌<◌, ◌≤◌, ℕ, Bool, true, false, List, [], ◌∷◌, ◌++◌, length, take, drop, min}
use Rattle.outside_api.specs.declared.link.Got.{Got}
use Rattle.outside_api.specs.declared.link.Got.TheVariants as got
use Rattle.outside_mem.specs.declared.input.Piece.{Piece}
use Rattle.outside_mem.specs.declared.input.Piece.TheVariants.{Bytes, Idle, Fault}

-- the pieces, of the first only what is at this offset or after it
abbrev pub from_within : ℕ → List Piece → List Piece
from_within at [] = []
from_within at (Bytes bytes ∷ pieces) = Bytes (drop at bytes) ∷ pieces
from_within at (Idle ∷ pieces) = Idle ∷ pieces
from_within at (Fault ∷ pieces) = Fault ∷ pieces

-- the offset lies in the first piece
abbrev pub IsWithin : ℕ → List Piece → Type 0
IsWithin at [] = Unit {0}
IsWithin at (Bytes bytes ∷ pieces) = at ≤ length bytes
IsWithin at (Idle ∷ pieces) = Unit {0}
IsWithin at (Fault ∷ pieces) = Unit {0}

-- all bytes of the pieces, in order
abbrev pub bytes_of : List Piece → List ℕ
bytes_of [] = []
bytes_of (Bytes bytes ∷ pieces) = bytes ++ bytes_of pieces
bytes_of (Idle ∷ pieces) = bytes_of pieces
bytes_of (Fault ∷ pieces) = bytes_of pieces

-- whether the first piece has no bytes left
abbrev pub is_spent : List Piece → Bool
is_spent (Bytes [] ∷ pieces) = true
is_spent pieces = false

-- the pieces without the spent ones at their front
abbrev pub unspent : List Piece → List Piece
unspent (Bytes [] ∷ pieces) = unspent pieces
unspent pieces = pieces

-- what a read gives of the pieces that are left, what it leaves of them, and the buffer before and after it
abbrev pub Plays : List Piece → List Piece → List ℕ → List ℕ → Got → Type 0
Plays [] new before after result = (result ≡ got.End) × (new ≡ []) × (after ≡ before)
Plays (Idle ∷ pieces) new before after result = (result ≡ got.Idle) × (new ≡ pieces) × (after ≡ before)
Plays (Fault ∷ pieces) new before after result = (result ≡ got.Failed) × (new ≡ pieces) × (after ≡ before)
Plays (Bytes [] ∷ pieces) new before after result = Plays pieces new before after result
Plays (Bytes (b ∷ bs) ∷ pieces) new before after result =
    let count = min (length (b ∷ bs)) (length before) in
    (result ≡ got.Bytes count) × (new ≡ Bytes (drop count (b ∷ bs)) ∷ pieces) × (after ≡ take count (b ∷ bs) ++ drop count before)

-- what a read that gave this took of the pieces
abbrev pub Gives : List Piece → List Piece → List ℕ → Got → Type 0
Gives old new buf (got.Bytes n) = (n ≤ length buf) × (0 < length buf → 0 < n) × (bytes_of old ≡ take n buf ++ bytes_of new)
Gives old new buf got.End = (bytes_of old ≡ []) × (new ≡ [])
Gives old new buf got.Idle = bytes_of old ≡ bytes_of new
Gives old new buf got.Failed = bytes_of old ≡ bytes_of new
