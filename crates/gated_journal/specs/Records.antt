-- The payloads that are parts of one list of bytes.
use Rattle.std.specs.Prelude.{◌≡◌, ◌≤◌, ◌+◌, ℕ, List, [], ◌∷◌, map, take, drop}
use Rattle.std.specs.List.{AllByRecursion}
use Rattle.gated_journal.specs.declared.records.Span.{Span}

-- the bytes of a span
abbrev pub bytes_in : List ℕ → Span → List ℕ
bytes_in bytes span = take span.len (drop span.start bytes)

abbrev pub payloads_in : List ℕ → List Span → List (List ℕ)
payloads_in bytes spans = map (bytes_in bytes) spans

-- a span lies within this number of bytes
abbrev pub IsInside : ℕ → Span → Type 0
IsInside size span = span.start + span.len ≤ size

abbrev pub AreInside : ℕ → List Span → Type 0
AreInside size spans = AllByRecursion (IsInside size) spans

-- the offset of the gate after these payloads, where the gate before them is at this offset
abbrev pub gate_after : ℕ → List Span → ℕ
gate_after gate [] = gate
gate_after gate (span ∷ spans) = gate_after (gate + 5 + span.len) spans

-- the spans lie as the payloads of a journal's file do, from the gate at this offset on
abbrev pub FollowOn : ℕ → List Span → Type 0
FollowOn gate [] = Unit {0}
FollowOn gate (span ∷ spans) = (span.start ≡ gate + 5) × FollowOn (gate + 5 + span.len) spans
