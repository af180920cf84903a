-- Steps of the readers of a chunk.
use Rattle.std.proofs.Common.{◌≡◌, ℕ, ◌+◌, true, false, List, [], ◌++◌, length, take, drop, Option, Some, None, Result, Ok, Err, refl, sym, ap, ◌∙◌, subst, Bor}
use Rattle.std.specs.Prelude.{IfOk, IfNone}
use Rattle.std.specs.Option.{IfSome, MatchOption}
use Rattle.std.specs.Str.{bytes_eq}
use Rattle.std.specs.List.{flat_map}
use Rattle.std.proofs.lemmas.List.{take_at, take-append-drop, append_cancel_left}
use Rattle.std.proofs.lemmas.Slice.Eq.{bytes_eq-Decides}
use Rattle.q_values.specs.Contents.{Contents}
use Rattle.q_values.specs.declared.kind.Kind.{Kind}
use Rattle.ipc_codec.specs.Canonical.{IfNotCanonical}
use Rattle.ipc_codec.specs.Written.{head, vector_bytes}
use Rattle.ipc_codec.specs.declared.vectors.VectorFault.{VectorFault}
use Rattle.ipc_codec.specs.declared.vectors.VectorFault.TheVariants as v
use Rattle.tick_log.specs.Chunk.{AreLoggable}
use Rattle.tick_log.specs.Fault.{fault_of}
use Rattle.tick_log.specs.Reading.{IfNoChunk, AreVectors, AreLogged}
use Rattle.tick_log.specs.declared.refusal.ChunkFault.{ChunkFault}
use Rattle.tick_log.specs.declared.refusal.ChunkFault.TheVariants as c
use Rattle.tick_log.proofs.Chunks.{vectors_once, columns_of_kinds}

pub some_then : {X : Type 0} {P Q : X → Type 0} (o : Option X) → ((x : X) → P x → Q x) → IfSome o P → IfSome o Q
some_then None step h = tt
some_then (Some x) step h = step x h

pub none_then : {X P Q : Type 0} (o : Option X) → (P → Q) → IfNone o P → IfNone o Q
none_then None step h = step h
none_then (Some x) step h = tt

pub ok_then : {X E : Type 0} {P Q : X → Type 0} (r : Result X E) → ((x : X) → P x → Q x) → IfOk r P → IfOk r Q
ok_then (Ok x) step h = step x h
ok_then (Err e) step h = tt

-- a prefix that was taken away, and one that wasn't there
abbrev pub Stripped : List ℕ → List ℕ → Option (Bor (List ℕ)) → Type 0
Stripped bytes prefix o =
    MatchOption o (bytes_eq (take (length prefix) bytes) prefix ≡ false)
    (λ x. (bytes_eq (take (length prefix) bytes) prefix ≡ true) × (x.now ≡ drop (length prefix) bytes) × (length x.now + length prefix ≡ length bytes))

pub stripped_some : (bytes prefix : List ℕ) (o : Option (Bor (List ℕ))) → Stripped bytes prefix o → IfSome o (λ rest. bytes ≡ prefix ++ rest.now)
stripped_some bytes prefix None h = tt
stripped_some bytes prefix (Some x) h =
    let same : take (length prefix) bytes ≡ prefix = (bytes_eq-Decides (take (length prefix) bytes) prefix).0 h.0 in
    sym (take-append-drop (length prefix) bytes) ∙ ap (λ (l : List ℕ). l ++ drop (length prefix) bytes) same ∙ ap (λ (l : List ℕ). prefix ++ l) (sym h.1)

pub stripped_none : (bytes prefix : List ℕ) (o : Option (Bor (List ℕ))) → Stripped bytes prefix o → IfNone o ((rest : List ℕ) → bytes ≡ prefix ++ rest → ⊥)
stripped_none bytes prefix (Some x) h = tt
stripped_none bytes prefix None h = λ rest e.
    let same : take (length prefix) bytes ≡ prefix = ap (take (length prefix)) e ∙ take_at prefix rest (length prefix) refl in
    let equal : bytes_eq (take (length prefix) bytes) prefix ≡ true = (bytes_eq-Decides (take (length prefix) bytes) prefix).1 same in
    absurd cc

abbrev pub failed : VectorFault → Result ℕ VectorFault
failed f = Err f

-- a vector that isn't read
pub vector_refuses : {T : Type 0} (r : Result T ChunkFault) (x : ChunkFault) (f : VectorFault) (N M : Type 0) → r ≡ Err x → x ≡ fault_of f → IfNotCanonical (failed f) N → (N → M) → IfNoChunk r M
vector_refuses {T} r x v.NotCanonical N M e g n step = let all : r ≡ Err c.NoChunk = cc in rw all (step n)
vector_refuses {T} r x v.NoMemory N M e g n step = let all : r ≡ Err c.NoMemory = cc in rw all tt

-- columns that a log can't hold
pub not_loggable : (kinds : List Kind) (bytes rest : List ℕ) (columns : List Contents) → bytes ≡ head 0 (length kinds) ++ rest → AreVectors (length kinds) rest columns → (AreLoggable kinds columns → ⊥)
    → (others : List Contents) → AreLogged kinds bytes others → ⊥
not_loggable kinds bytes rest columns e found never others h =
    let tails : rest ≡ flat_map vector_bytes others = append_cancel_left (head 0 (length kinds)) rest (flat_map vector_bytes others) (sym e ∙ h.spelled) in
    let both : flat_map vector_bytes columns ++ [] ≡ flat_map vector_bytes others ++ [] = ap (λ (r : List ℕ). r ++ []) (sym found.spelled ∙ tails) in
    let same = (vectors_once columns others [] [] found.writable h.writable (found.counted ∙ sym (columns_of_kinds kinds others h.loggable.fitting)) both).0 in
    never (subst (AreLoggable kinds) (sym same) h.loggable)
