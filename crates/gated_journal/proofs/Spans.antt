-- Payloads in a text of bytes, when there is more of them.
use Rattle.std.proofs.Common.{◌≡◌, ℕ, ◌+◌, ◌≤◌, List, [], ◌∷◌, ◌++◌, length, take, drop, refl, sym, ◌∙◌, ap, subst, arith, length-append, length-take, length-drop, take-append-drop}
use Rattle.std.proofs.lemmas.List.{take-append-le, drop-append-le, map_push, take_all}
use Rattle.gated_journal.specs.Records.{bytes_in, payloads_in, IsInside, AreInside, FollowOn, gate_after}
use Rattle.gated_journal.specs.declared.records.Span.{Span}
use Rattle.gated_journal.proofs.Gates.{gate_after-push, follow_push, follow_inside}
use Rattle.gated_journal.proofs.Moments.{All-append, All_weaker}

-- bytes after them change nothing
pub bytes_more : (bytes more : List ℕ) (span : Span) → IsInside (length bytes) span → bytes_in (bytes ++ more) span ≡ bytes_in bytes span
bytes_more bytes more span inside =
    let low : span.start ≤ length bytes = omega (arith, inside) in
    let long : span.len ≤ length (drop span.start bytes) = omega (arith, inside, length-drop span.start bytes) in
    ap (take span.len) (drop-append-le span.start bytes more low) ∙ take-append-le span.len (drop span.start bytes) more long

pub payloads_more : (bytes more : List ℕ) (spans : List Span) → AreInside (length bytes) spans → payloads_in (bytes ++ more) spans ≡ payloads_in bytes spans
payloads_more bytes more [] inside = refl
payloads_more bytes more (span ∷ spans) inside =
    (λ i. bytes_more bytes more span inside.0 i ∷ payloads_more bytes more spans inside.1 i)

pub inside_more : (m n : ℕ) (spans : List Span) → m ≤ n → AreInside m spans → AreInside n spans
inside_more m n spans le inside = All_weaker (IsInside m) (IsInside n) spans (λ span here. omega (arith, here, le)) inside

pub inside_push : (n : ℕ) (spans : List Span) (span : Span) → AreInside n spans → IsInside n span → AreInside n (spans ++ span ∷ [])
inside_push n spans span all one = All-append (IsInside n) spans (span ∷ []) all (one, tt)

inside_front : (at : ℕ) (bytes : List ℕ) (spans : List Span) → AreInside at spans → AreInside (length bytes) spans → AreInside (length (take at bytes)) spans
inside_front at bytes [] low within = tt
inside_front at bytes (span ∷ spans) low within =
    (omega (arith, low.0, within.0, length-take at bytes), inside_front at bytes spans low.1 within.1)

-- a buffer of which all that is in these spans is kept, and which goes on otherwise
module _ (bytes new more : List ℕ) (spans : List Span) (at : ℕ) (inside : AreInside (length bytes) spans) (follow : FollowOn 8 spans) (is : at ≡ gate_after 8 spans + 5) (kept : new ≡ take at bytes ++ more) where
  front_inside : AreInside (length (take at bytes)) spans
  front_inside = inside_front at bytes spans (inside_more (gate_after 8 spans) at spans (omega (arith, is)) (follow_inside 8 spans follow)) inside

  pub put_keeps : payloads_in new spans ≡ payloads_in bytes spans
  put_keeps =
      ap (λ (l : List ℕ). payloads_in l spans) kept ∙ payloads_more (take at bytes) more spans front_inside
      ∙ sym (ap (λ (l : List ℕ). payloads_in l spans) (sym (take-append-drop at bytes)) ∙ payloads_more (take at bytes) (drop at bytes) spans front_inside)

  pub put_inside : AreInside (length new) spans
  put_inside =
      inside_more (length (take at bytes)) (length new) spans (omega (arith, ap length kept, length-append (take at bytes) more)) front_inside

  -- with a payload at the end
  module _ (payload : List ℕ) (grown : List Span) (last : drop at new ≡ payload) (grows : grown ≡ spans ++ record { start = at; len = length payload } ∷ []) where
    pub put_payload : payloads_in new grown ≡ payloads_in bytes spans ++ payload ∷ []
    put_payload =
        ap (payloads_in new) grows ∙ map_push (bytes_in new) spans (record { start = at; len = length payload })
        ∙ ap (λ (l : List (List ℕ)). l ++ bytes_in new (record { start = at; len = length payload }) ∷ []) put_keeps
        ∙ ap (λ (p : List ℕ). payloads_in bytes spans ++ p ∷ []) (ap (take (length payload)) last ∙ take_all (length payload) payload (omega arith))

    pub put_all_inside : length new ≡ at + length payload → AreInside (length new) grown
    put_all_inside size =
        subst (λ (l : List Span). AreInside (length new) l) (sym grows)
        (inside_push (length new) spans (record { start = at; len = length payload }) put_inside (omega (arith, size)))

    pub put_follows : FollowOn 8 grown
    put_follows = subst (λ (l : List Span). FollowOn 8 l) (sym grows) (follow_push 8 spans (record { start = at; len = length payload }) follow is)

    pub put_end : at + length payload ≡ gate_after 8 grown
    put_end = omega (arith, is, ap (gate_after 8) grows, gate_after-push 8 spans (record { start = at; len = length payload }))
