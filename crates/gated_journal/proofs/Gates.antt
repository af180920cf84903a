-- Where the gates of records are.
use Rattle.std.proofs.Common.{◌≡◌, ℕ, zero, suc, ◌+◌, ◌≤◌, List, [], ◌∷◌, ◌++◌, length, take, drop, refl, sym, ◌∙◌, ap, arith, max, length-append, length-take, length-drop, Some, slice_get}
use Rattle.std.specs.Int.{w32, to_le_bytes}
use Rattle.gated_journal.specs.Format.{magic, measured, spelled, before_gate}
use Rattle.gated_journal.specs.Records.{bytes_in, payloads_in, IsInside, AreInside, FollowOn, gate_after}
use Rattle.gated_journal.specs.declared.records.Span.{Span}

-- the gate after one span more
pub gate_after-push : (gate : ℕ) (spans : List Span) (span : Span) → gate_after gate (spans ++ span ∷ []) ≡ gate_after gate spans + 5 + span.len
gate_after-push gate [] span = refl
gate_after-push gate (first ∷ spans) span = gate_after-push (gate + 5 + first.len) spans span

pub follow_push : (gate : ℕ) (spans : List Span) (span : Span) → FollowOn gate spans → span.start ≡ gate_after gate spans + 5 → FollowOn gate (spans ++ span ∷ [])
follow_push gate [] span follow is = (is, tt)
follow_push gate (first ∷ spans) span follow is = (follow.0, follow_push (gate + 5 + first.len) spans span follow.1 is)

pub gate_after_low : (gate : ℕ) (spans : List Span) → gate ≤ gate_after gate spans
gate_after_low gate [] = omega arith
gate_after_low gate (span ∷ spans) = omega (arith, gate_after_low (gate + 5 + span.len) spans)

pub follow_inside : (gate : ℕ) (spans : List Span) → FollowOn gate spans → AreInside (gate_after gate spans) spans
follow_inside gate [] follow = tt
follow_inside gate (span ∷ spans) follow =
    (omega (arith, follow.0, gate_after_low (gate + 5 + span.len) spans), follow_inside (gate + 5 + span.len) spans follow.1)

bytes_in-size : (bytes : List ℕ) (span : Span) → IsInside (length bytes) span → length (bytes_in bytes span) ≡ span.len
bytes_in-size bytes span inside = omega (arith, inside, length-take span.len (drop span.start bytes), length-drop span.start bytes)

measured-size : (payload : List ℕ) → length (measured payload) ≡ 4 + length payload
measured-size payload = length-append (to_le_bytes w32 (length payload)) payload

-- the gate after all payloads
spelled-size : (bytes : List ℕ) (gate : ℕ) (spans : List Span) → AreInside (length bytes) spans → gate + length (spelled (payloads_in bytes spans)) ≡ gate_after gate spans
unfolding spelled
spelled-size bytes gate [] inside = omega arith
spelled-size bytes gate (span ∷ spans) inside =
    omega (arith, spelled-size bytes (gate + 5 + span.len) spans inside.1, length-append (measured (bytes_in bytes span)) (spelled (payloads_in bytes spans)), measured-size (bytes_in bytes span), bytes_in-size bytes span inside.0)

pub gate_at_end : (bytes : List ℕ) (spans : List Span) → AreInside (length bytes) spans → gate_after 8 spans ≡ length (before_gate (payloads_in bytes spans))
unfolding before_gate
gate_at_end bytes spans inside = sym (length-append magic (spelled (payloads_in bytes spans)) ∙ spelled-size bytes 8 spans inside)

-- the gate before a payload
start_at : (bytes : List ℕ) (gate : ℕ) (spans : List Span) (i : ℕ) (span : Span) → AreInside (length bytes) spans → FollowOn gate spans → slice_get spans i ≡ Some span
    → gate + length (spelled (take i (payloads_in bytes spans))) + 5 ≡ span.start
unfolding spelled
start_at bytes gate [] i span inside follow is = absurd (cc)
start_at bytes gate (first ∷ spans) zero span inside follow is = let same : first ≡ span = cc in omega (arith, follow.0, ap (λ (s : Span). s.start) same)
start_at bytes gate (first ∷ spans) (suc i) span inside follow is =
    omega (arith, start_at bytes (gate + 5 + first.len) spans i span inside.1 follow.1 is, length-append (measured (bytes_in bytes first)) (spelled (take i (payloads_in bytes spans))), measured-size (bytes_in bytes first), bytes_in-size bytes first inside.0)

pub gate_at : (bytes : List ℕ) (spans : List Span) (i : ℕ) (span : Span) → AreInside (length bytes) spans → FollowOn 8 spans → slice_get spans i ≡ Some span
    → length (before_gate (take i (payloads_in bytes spans))) + 5 ≡ span.start
unfolding before_gate
gate_at bytes spans i span inside follow is = omega (arith, length-append magic (spelled (take i (payloads_in bytes spans))), start_at bytes 8 spans i span inside follow is)

-- the offset of the last gate is none beyond the bytes
pub gate_after_within : (gate n : ℕ) (spans : List Span) → FollowOn gate spans → AreInside n spans → gate_after gate spans ≤ max gate n
gate_after_within gate n [] follow inside = omega arith
gate_after_within gate n (span ∷ spans) follow inside =
    omega (arith, follow.0, inside.0, gate_after_within (gate + 5 + span.len) n spans follow.1 inside.1)
