-- A scan of a journal's bytes, gate by gate.
use Rattle.std.proofs.Common.{◌≡◌, inl, inr, ℕ, ◌+◌, ◌≤◌, ◌<◌, List, [], ◌∷◌, ◌++◌, length, get_or, take, drop, refl, sym, ◌∙◌, ap, subst, arith, append_assoc, length-append, length-take, length-drop, take-append-drop, Option, Some, None, IfSome}
use Rattle.std.proofs.lemmas.List.{drop_more, drop-drop, map_push}
use Rattle.std.specs.Int.{w32, to_le_bytes}
use Rattle.std.specs.List.{AllByRecursion}
use Rattle.gated_journal.specs.Format.{open_gate, measured, spelled, before_gate, longest_payload, IsPayload, HasHeader, IsBroken, IsCorrupt, IsPrefix}
use Rattle.gated_journal.specs.Records.{bytes_in, payloads_in}
use Rattle.gated_journal.specs.declared.records.Span.{Span}
use Rattle.gated_journal.proofs.Reading.{before_gate-push, sized_push}

pub begins : (bytes : List ℕ) → HasHeader bytes → bytes ≡ before_gate [] ++ drop 8 bytes
unfolding before_gate spelled
begins bytes h = sym (take-append-drop 8 bytes) ∙ ap (λ (l : List ℕ). l ++ drop 8 bytes) h.0

pub length-before_none : length (before_gate []) ≡ 8
unfolding before_gate spelled
length-before_none = refl

module _ (bytes : List ℕ) (spans : List Span) (at : ℕ) (within : at < length bytes) (split : bytes ≡ before_gate (payloads_in bytes spans) ++ drop at bytes) (place : at ≡ length (before_gate (payloads_in bytes spans))) (sized : AllByRecursion IsPayload (payloads_in bytes spans)) (is_open : get_or bytes at 0 ≡ open_gate) where
  here : drop at bytes ≡ open_gate ∷ drop (at + 1) bytes
  here = drop_more bytes at 0 within ∙ ap (λ (g : ℕ). g ∷ drop (at + 1) bytes) is_open

  pub broken : IsBroken (open_gate ∷ drop (at + 1) bytes) → IsPrefix bytes (payloads_in bytes spans) (Some at)
  broken is = inr (record {
    rest = open_gate ∷ drop (at + 1) bytes;
    split = split ∙ ap (λ (l : List ℕ). before_gate (payloads_in bytes spans) ++ l) here;
    broken = is;
    sized = sized;
    place = place;
  })

  module _ (len : ℕ) (long : 4 + len < length (drop (at + 1) bytes)) (some : 0 < len) (small : len ≤ longest_payload) (measure : take 4 (drop (at + 1) bytes) ≡ to_le_bytes w32 len) where
    abbrev payload : List ℕ
    payload = take len (drop (at + 5) bytes)

    abbrev next : List Span
    next = spans ++ record { start = at + 5; len = len } ∷ []

    size : length payload ≡ len
    size = omega (arith, length-take len (drop (at + 5) bytes), length-drop (at + 5) bytes, length-drop (at + 1) bytes, long)

    pub grown : payloads_in bytes next ≡ payloads_in bytes spans ++ payload ∷ []
    grown = map_push (bytes_in bytes) spans (record { start = at + 5; len = len })

    following : drop (at + 1) bytes ≡ measured payload ++ drop (at + (len + 5)) bytes
    following =
        let rest : drop 4 (drop (at + 1) bytes) ≡ drop (at + 5) bytes = drop-drop 4 (at + 1) bytes ∙ (let same : at + 1 + 4 ≡ at + 5 = omega arith in ap (λ (k : ℕ). drop k bytes) same) in
        let tail : drop len (drop (at + 5) bytes) ≡ drop (at + (len + 5)) bytes = drop-drop len (at + 5) bytes ∙ (let same : at + 5 + len ≡ at + (len + 5) = omega arith in ap (λ (k : ℕ). drop k bytes) same) in
        sym (take-append-drop 4 (drop (at + 1) bytes))
        ∙ (λ i. (measure ∙ ap (to_le_bytes w32) (sym size)) i ++ rest i)
        ∙ ap (λ (l : List ℕ). to_le_bytes w32 (length payload) ++ l) (sym (take-append-drop len (drop (at + 5) bytes)) ∙ ap (λ (l : List ℕ). payload ++ l) tail)
        ∙ sym (append_assoc (to_le_bytes w32 (length payload)) payload (drop (at + (len + 5)) bytes))

    pub split_on : bytes ≡ before_gate (payloads_in bytes next) ++ drop (at + (len + 5)) bytes
    split_on =
        split ∙ ap (λ (l : List ℕ). before_gate (payloads_in bytes spans) ++ l) (here ∙ ap (λ (l : List ℕ). open_gate ∷ l) following)
        ∙ sym (append_assoc (before_gate (payloads_in bytes spans)) (open_gate ∷ measured payload) (drop (at + (len + 5)) bytes))
        ∙ ap (λ (l : List ℕ). l ++ drop (at + (len + 5)) bytes) (sym (ap before_gate grown ∙ before_gate-push (payloads_in bytes spans) payload))

    pub place_on : at + (len + 5) ≡ length (before_gate (payloads_in bytes next))
    place_on =
        let whole = ap length (ap before_gate grown ∙ before_gate-push (payloads_in bytes spans) payload) in
        omega (arith, whole, length-append (before_gate (payloads_in bytes spans)) (open_gate ∷ measured payload), length-append (to_le_bytes w32 (length payload)) payload, size, place)

    pub within_on : at + (len + 5) < length bytes
    within_on = omega (arith, long, length-drop (at + 1) bytes)

    pub sized_on : AllByRecursion IsPayload (payloads_in bytes next)
    sized_on = subst (λ (l : List (List ℕ)). AllByRecursion IsPayload l) (sym grown) (sized_push (payloads_in bytes spans) payload sized (omega (arith, size, some), omega (arith, size, small)))

-- the fault that ends a prefix, as a load answers it
pub prefix_corrupt : (file : List ℕ) (records : List (List ℕ)) (fault : Option ℕ) → IsPrefix file records fault → IfSome fault (λ at. IsCorrupt file (length records) at)
prefix_corrupt file records None is = tt
prefix_corrupt file records (Some at) (inl strange) = inl (strange.0, ap length strange.1, strange.2)
prefix_corrupt file records (Some at) (inr breaks) = inr (record {
  payloads = records;
  rest = breaks.rest;
  split = breaks.split;
  broken = breaks.broken;
  sized = breaks.sized;
  counted = refl;
  place = breaks.place;
})
