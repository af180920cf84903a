-- Vectors in their canonical encoding, at the front of bytes.
use Rattle.std.specs.Prelude.{◌≡◌, ◌≤◌, ℕ, List, ◌++◌, length, Result, Ok, Err, ⊤, Bool, true, false}
use Rattle.q_values.specs.Contents.{Contents}
use Rattle.q_values.specs.Tree.{vector}
use Rattle.q_values.specs.declared.kind.Kind.{Kind}
use Rattle.q_values.specs.declared.kind.Kind.TheVariants as k
use Rattle.ipc_codec.specs.Written.{written, VectorFits}
use Rattle.ipc_codec.specs.declared.fault.Stop.{Stop}
use Rattle.ipc_codec.specs.declared.fault.Stop.TheVariants as s
use Rattle.ipc_codec.specs.declared.vectors.VectorFault.{VectorFault}
use Rattle.ipc_codec.specs.declared.vectors.VectorFault.TheVariants.{NotCanonical, NoMemory}

-- a vector that can be written and read back: its count fits, and its atoms are of its kind
pub record IsWritable (v : Contents) : Type 0 where
  pub few : length v.atoms ≤ 2147483647
  pub fits : VectorFits v

-- the bytes are the canonical encoding of this vector, and then the rest
pub record BeginsWith (bytes : List ℕ) (v : Contents) (rest : List ℕ) : Type 0 where
  pub split : bytes ≡ written (vector v) ++ rest
  pub writable : IsWritable v

-- no vector in its canonical encoding begins the bytes
abbrev pub BeginsWithNone : List ℕ → Type 0
BeginsWithNone bytes = (v : Contents) (rest : List ℕ) → BeginsWith bytes v rest → ⊥

-- where the answer is that the bytes are no canonical encoding, this holds
abbrev pub IfNotCanonical : {T : Type 0} → Result T VectorFault → Type 0 → Type 0
IfNotCanonical (Ok x) P = ⊤
IfNotCanonical (Err NotCanonical) P = P
IfNotCanonical (Err NoMemory) P = ⊤

-- what a reader's stop is for the caller
abbrev pub fault_of : Stop → VectorFault
fault_of (s.At fault) = NotCanonical
fault_of s.Memory = NoMemory

abbrev pub is_boolean : Kind → Bool
is_boolean k.Boolean = true
is_boolean _ = false
