-- Which records a file holds by its parts.
use Rattle.std.proofs.Common.{◌≡◌, inl, inr, ℕ, ◌+◌, ◌≤◌, List, [], ◌∷◌, ◌++◌, length, take, sym, ◌∙◌, ap, arith, append_assoc, length-append, Some}
use Rattle.std.proofs.lemmas.Bool.{cases_eq}
use Rattle.std.proofs.lemmas.List.{take_at, append-nil}
use Rattle.std.specs.List.{AllByRecursion}
use Rattle.outside_api.specs.Disk.{FileState}
use Rattle.gated_journal.specs.Format.{open_gate, closed_gate, magic, measured, spelled, before_gate, IsPayload, Reads}
use Rattle.gated_journal.specs.Journal.{IsShut, IsDurableIn, MayRead, body}
use Rattle.gated_journal.specs.Steps.{HasShut, HasAny}
use Rattle.gated_journal.proofs.Moments.{All-append}

pub spelled-push : (records : List (List ℕ)) (payload : List ℕ) → spelled (records ++ payload ∷ []) ≡ spelled records ++ open_gate ∷ measured payload
unfolding spelled
spelled-push [] payload = ap (λ (l : List ℕ). open_gate ∷ l) (append-nil (measured payload))
spelled-push (r ∷ records) payload =
    ap (λ (l : List ℕ). open_gate ∷ (measured r ++ l)) (spelled-push records payload)
    ∙ ap (λ (l : List ℕ). open_gate ∷ l) (sym (append_assoc (measured r) (spelled records) (open_gate ∷ measured payload)))

pub before_gate-push : (records : List (List ℕ)) (payload : List ℕ) → before_gate (records ++ payload ∷ []) ≡ before_gate records ++ open_gate ∷ measured payload
unfolding before_gate
before_gate-push records payload = ap (λ (l : List ℕ). magic ++ l) (spelled-push records payload) ∙ sym (append_assoc magic (spelled records) (open_gate ∷ measured payload))

-- an open gate and a whole record after it
pub one_more : (records : List (List ℕ)) (payload rest : List ℕ) → before_gate records ++ open_gate ∷ (body payload ++ rest) ≡ before_gate (records ++ payload ∷ []) ++ closed_gate ∷ rest
one_more records payload rest =
    ap (λ (l : List ℕ). before_gate records ++ open_gate ∷ l) (append_assoc (measured payload) (closed_gate ∷ []) rest)
    ∙ sym (append_assoc (before_gate records) (open_gate ∷ measured payload) (closed_gate ∷ rest))
    ∙ ap (λ (l : List ℕ). l ++ closed_gate ∷ rest) (sym (before_gate-push records payload))

pub reads_shut : (records : List (List ℕ)) (image : List ℕ) → AllByRecursion IsPayload records → HasShut (before_gate records) image → Reads image records
reads_shut records image sized has = record { rest = has.gate ∷ has.rest; split = has.split; ends = has.shut; sized = sized }

pub sized_push : (records : List (List ℕ)) (payload : List ℕ) → AllByRecursion IsPayload records → IsPayload payload → AllByRecursion IsPayload (records ++ payload ∷ [])
sized_push records payload sized one = All-append IsPayload records (payload ∷ []) sized (one, tt)

-- whatever the gate is
pub reads_any : (records : List (List ℕ)) (payload image : List ℕ) → AllByRecursion IsPayload records → IsPayload payload → HasAny (before_gate records) (body payload) image → MayRead records (Some payload) image
reads_any records payload image sized one has = elim (cases_eq has.gate open_gate) [
  | inl is_open ↦ inr (record {
    rest = closed_gate ∷ has.rest;
    split = has.split ∙ ap (λ g. before_gate records ++ g ∷ (body payload ++ has.rest)) is_open ∙ one_more records payload has.rest;
    ends = omega arith;
    sized = sized_push records payload sized one;
  })
  | inr shut ↦ inl (record { rest = has.gate ∷ (body payload ++ has.rest); split = has.split; ends = shut; sized = sized })
]

pub length-push : (records : List (List ℕ)) (payload : List ℕ) (end : ℕ) → end ≡ length (before_gate records) → end + length (body payload) ≡ length (before_gate (records ++ payload ∷ []))
length-push records payload end is =
    omega (arith, is, ap length (before_gate-push records payload), length-append (before_gate records) (open_gate ∷ measured payload), length-append (measured payload) (closed_gate ∷ []))

-- the gate of a whole record was opened and synced
pub opened : (records : List (List ℕ)) (payload : List ℕ) (end : ℕ) (new : FileState) (rest : List ℕ) → end ≡ length (before_gate records) → new.bytes ≡ before_gate records ++ open_gate ∷ (body payload ++ rest)
    → end + 1 + length (body payload) ≤ new.least → IsDurableIn new 0 (end + 1 + length (body payload)) → IsShut new (before_gate (records ++ payload ∷ [])) (end + length (body payload))
opened records payload end new rest is split long durable =
    let front = before_gate (records ++ payload ∷ []) in
    let whole : new.bytes ≡ front ++ closed_gate ∷ rest = split ∙ one_more records payload rest in
    let size : length (front ++ closed_gate ∷ []) ≡ end + length (body payload) + 1 = omega (arith, length-push records payload end is, length-append front (closed_gate ∷ [])) in
    record {
      gate = closed_gate;
      shut = omega arith;
      bytes = ap (take (end + length (body payload) + 1)) (whole ∙ sym (append_assoc front (closed_gate ∷ []) rest)) ∙ take_at (front ++ closed_gate ∷ []) rest (end + length (body payload) + 1) size;
      long = omega (arith, long);
      durable = λ k low high. durable k low (omega (arith, high));
    }
