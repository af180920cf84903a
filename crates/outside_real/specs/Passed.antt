-- What passes through a link, where its reader and its writer report it.
use Rattle.std.specs.Prelude.{◌≡◌, ◌⊎◌, ◌≤◌, ◌<◌, ℕ, Bool, false, List, [], length, Option, take, Result, Ok, Err, MatchResult}
use Rattle.std.specs.Io.KnownBytes.{Appends, Consumes, IsAtEnd}
use Rattle.std.specs.declared.io.ErrorKind.{ErrorKind}
use Rattle.std.specs.declared.io.ErrorKind.TheVariants.{TimedOut, WouldBlock}
use Rattle.outside_api.specs.declared.link.Got.{Got}
use Rattle.outside_api.specs.declared.link.Got.TheVariants.{Bytes, End, Idle, Failed}

-- what a read gave is what it took from the reader; the first end comes only where the reader has nothing left
abbrev pub Came : Bool → Option (List ℕ) → Option (List ℕ) → List ℕ → Got → Type 0
Came ended old new buf (Bytes n) = Consumes old new (take n buf)
Came ended old new buf End = Consumes old new [] × (ended ≡ false → IsAtEnd new)
Came ended old new buf Idle = Consumes old new []
Came ended old new buf Failed = Consumes old new []

-- what a write appended to what the writer holds: all bytes, or after a fault a prefix of them
abbrev pub Sent : {T E : Type 0} → Option (List ℕ) → Option (List ℕ) → List ℕ → Result T E → Type 0
Sent old new bytes (Ok _) = Appends old new bytes
Sent old new bytes (Err _) = (n : ℕ) × (n ≤ length bytes) × Appends old new (take n bytes)

-- a read that failed so timed out
abbrev pub IsTimeout : ErrorKind → Type 0
IsTimeout kind = (kind ≡ TimedOut) ⊎ (kind ≡ WouldBlock)

-- the answer of a link is what this result of a read into a buffer with so much room means, where T says which errors are
-- timeouts: a fault only where the read failed, a timeout only where it timed out, the end only where it gave no byte though
-- there was room
abbrev pub Means : {E : Type 0} → (E → Type 0) → Result ℕ E → ℕ → Got → Type 0
Means T read room (Bytes n) = MatchResult read (λ m. (m ≡ n) × (n ≡ 0 → room ≡ 0)) (λ _. ⊥)
Means T read room End = MatchResult read (λ m. (m ≡ 0) × (0 < room)) (λ _. ⊥)
Means T read room Idle = MatchResult read (λ _. ⊥) T
Means T read room Failed = MatchResult read (λ _. ⊥) (λ error. T error → ⊥)
