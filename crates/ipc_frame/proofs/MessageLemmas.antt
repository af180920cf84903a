-- A whole message is a header and an encoding of its value; a call of `feed` goes on.
use Rattle.std.proofs.Common.{◌≡◌, ◌≤◌, ◌<◌, ◌+◌, ◌-◌, ◌⊎◌, ℕ, Bool, true, false, cond, List, [], ◌++◌, length, take, drop, ltb, eqb, Result, Ok, Err, refl, sym, ap, subst, ◌∙◌, inl, inr, arith}
use Rattle.std.proofs.lemmas.Bool.{eqb-true, eq-eqb, cases_lt}
use Rattle.std.proofs.lemmas.List.{append-nil, length-drop, take_all}
use Rattle.ipc_codec.proofs.LawLemmas.{reading_spells, spelling_reads}
use Rattle.ipc_codec.specs.Reading.{object_of}
use Rattle.ipc_codec.specs.Spells.{Spells}
use Rattle.ipc_codec.specs.declared.refusal.DecodeRefusal.{DecodeRefusal}
use Rattle.ipc_codec.specs.declared.refusal.DecodeRefusal.TheVariants as r
use Rattle.q_values.specs.Tree.{Tree}
use Rattle.q_values.specs.declared.limits.Limits.{Limits}
use Rattle.ipc_frame.specs.Framing.{IsNeeded}
use Rattle.ipc_frame.specs.Laws.{SpellsMessage, MessageIsSpelled, FeedGoesOn}
use Rattle.ipc_frame.specs.Stream.{Message, partial, whole, fault, built, unbuilt, front_of, header_of, header_front, body_front}
use Rattle.ipc_frame.specs.declared.bad.Bad.TheVariants as b
use Rattle.ipc_frame.specs.declared.head.Head.{Head}
use Rattle.ipc_frame.specs.declared.head.BadHeader.{BadHeader}
use Rattle.ipc_frame.proofs.FrontLemmas.{front_judged, header_of-front, header_fits, front_exact}
use Rattle.ipc_frame.proofs.ReadLemmas.{body_size}
use Rattle.ipc_frame.proofs.UniqueLemmas.{same_message, header_stands}

-- ---- encoded messages

-- what a body holds that makes a message of this value
record Holds (head : Head) (read : Result (Tree × ℕ) DecodeRefusal) (sync : Bool) (t : Tree) : Type 0 where
  pub count : ℕ
  pub object : read ≡ Ok (t, count)
  pub fits : count + 8 ≡ head.length
  pub told : head.sync ≡ sync

same_tree : (t u : Tree) → built t ≡ built u → t ≡ u
same_tree t u e = cc

not_unbuilt : (at : ℕ) (t : Tree) → unbuilt at ≡ built t → ⊥
not_unbuilt at t e = cc

held_object : (head : Head) (read : Result (Tree × ℕ) DecodeRefusal) (k : ℕ) (sync : Bool) (t : Tree) → body_front head read ≡ whole k (record { sync = sync; content = built t }) → Holds head read sync t
held_object head (Ok y) k sync t e = by_fit (eqb (y.1 + 8) head.length) refl e
  where
    by_fit : (fits : Bool) → eqb (y.1 + 8) head.length ≡ fits → cond fits (whole head.length (record { sync = head.sync; content = built y.0 })) (fault b.Object (y.1 + 8)) ≡ whole k (record { sync = sync; content = built t }) → Holds head (Ok y) sync t
    by_fit true h d =
        let one : record { sync = head.sync; content = built y.0 } ≡ record { sync = sync; content = built t } = same_message head.length k (record { sync = head.sync; content = built y.0 }) (record { sync = sync; content = built t }) d in
        let value : y.0 ≡ t = same_tree y.0 t (ap (λ (m : Message). m.content) one) in
        record { count = y.1; object = ap (λ u. Ok (u, y.1)) value; fits = eqb-true _ _ h; told = ap (λ (m : Message). m.sync) one }
    by_fit false h d = absurd cc
held_object head (Err (r.NotBuilt at)) k sync t e =
    let one : record { sync = head.sync; content = unbuilt (at + 8) } ≡ record { sync = sync; content = built t } = same_message head.length k (record { sync = head.sync; content = unbuilt (at + 8) }) (record { sync = sync; content = built t }) e in
    absurd (not_unbuilt (at + 8) t (ap (λ (m : Message). m.content) one))
held_object head (Err (r.Truncated at)) k sync t e = absurd cc
held_object head (Err (r.BadType at)) k sync t e = absurd cc
held_object head (Err (r.BadShape at)) k sync t e = absurd cc
held_object head (Err (r.TooDeep at)) k sync t e = absurd cc
held_object head (Err r.NoMemory) k sync t e = absurd cc

spelled_by : (limits : Limits) (frame : List ℕ) (sync : Bool) (t : Tree) (h : Result Head BadHeader) → header_of limits frame ≡ h → header_front frame h ≡ whole (length frame) (record { sync = sync; content = built t }) → SpellsMessage limits frame sync t
spelled_by limits frame sync t (Err f) e d = absurd cc
spelled_by limits frame sync t (Ok head) e d = by_size (ltb (length frame) head.length) refl d
  where
    by_size : (short : Bool) → ltb (length frame) head.length ≡ short → cond short partial (body_front head (object_of head.order (take (head.length - 8) (drop 8 frame)))) ≡ whole (length frame) (record { sync = sync; content = built t }) → SpellsMessage limits frame sync t
    by_size true h d = absurd cc
    by_size false h d =
        let read = object_of head.order (take (head.length - 8) (drop 8 frame)) in
        let size : head.length ≡ length frame = body_size head (object_of head.order (take (head.length - 8) (drop 8 frame))) (length frame) (record { sync = sync; content = built t }) d in
        let held = held_object head (object_of head.order (take (head.length - 8) (drop 8 frame))) (length frame) sync t d in
        let same_body : take (head.length - 8) (drop 8 frame) ≡ drop 8 frame = take_all (head.length - 8) (drop 8 frame) (omega (arith, length-drop 8 frame, size)) in
        let object : object_of head.order (drop 8 frame) ≡ Ok (t, held.count) = ap (object_of head.order) (sym same_body) ∙ held.object in
        let spelled = reading_spells head.order (drop 8 frame) t held.count object in
        let all : take held.count (drop 8 frame) ≡ drop 8 frame = take_all held.count (drop 8 frame) (omega (arith, length-drop 8 frame, size, held.fits)) in
        record { head = head; header = e; told = held.told; fills = sym size; object = subst (λ l. Spells head.order l t) all spelled.1 }

spelled : (limits : Limits) (frame : List ℕ) (sync : Bool) (t : Tree) → front_of limits frame ≡ whole (length frame) (record { sync = sync; content = built t }) → SpellsMessage limits frame sync t
spelled limits frame sync t e =
    let long = header_stands limits frame (whole (length frame) (record { sync = sync; content = built t })) tt e in
    spelled_by limits frame sync t (header_of limits frame) refl (sym (front_judged limits frame long) ∙ e)

stands : (limits : Limits) (frame : List ℕ) (sync : Bool) (t : Tree) → SpellsMessage limits frame sync t → front_of limits frame ≡ whole (length frame) (record { sync = sync; content = built t })
stands limits frame sync t p =
    let fits = header_fits limits frame p.head p.header in
    let fills = p.fills in
    let long : 8 ≤ length frame = omega (arith, fits.0, fills) in
    let object : object_of p.head.order (drop 8 frame) ≡ Ok (t, length (drop 8 frame)) = ap (object_of p.head.order) (sym (append-nil (drop 8 frame))) ∙ spelling_reads p.head.order (drop 8 frame) t [] p.object in
    let fit : eqb (length (drop 8 frame) + 8) p.head.length ≡ true = eq-eqb _ _ (omega (arith, length-drop 8 frame, fills, long)) in
    let made : body_front p.head (Ok (t, length (drop 8 frame))) ≡ whole p.head.length (record { sync = p.head.sync; content = built t }) = rw fit refl in
    front_exact limits frame (drop 8 frame) p.head long (sym p.header ∙ header_of-front limits frame long) refl fills
    ∙ ap (body_front p.head) object ∙ made ∙ ap (λ k. whole k (record { sync = p.head.sync; content = built t })) (sym fills) ∙ ap (λ s. whole (length frame) (record { sync = s; content = built t })) p.told

pub message_spelled : MessageIsSpelled
message_spelled limits frame sync t = (spelled limits frame sync t, stands limits frame sync t)

-- ---- a call of `feed`

pub goes_on : FeedGoesOn
goes_on old piece taken new f = record {
  some = λ need more. by_none need more (cases_lt 0 taken);
  none = λ enough. by_some enough (cases_lt 0 taken);
}
  where
    same : taken ≡ 0 → old.held ++ take taken piece ≡ old.held
    same e = ap (λ k. old.held ++ take k piece) e ∙ append-nil old.held

    by_none : IsNeeded old.limits old.greeted old.held → 0 < length piece → (0 < taken) ⊎ (taken ≤ 0) → 0 < taken
    by_none need more (inl some) = some
    by_none need more (inr none) =
        let zero : taken ≡ 0 = omega (arith, none) in
        absurd (f.takes.enough (omega (arith, zero, more)) (subst (IsNeeded old.limits old.greeted) (sym (same zero)) need))

    by_some : (IsNeeded old.limits old.greeted old.held → ⊥) → (0 < taken) ⊎ (taken ≤ 0) → taken ≡ 0
    by_some enough (inl some) = absurd (enough (subst (IsNeeded old.limits old.greeted) (append-nil old.held) (f.takes.before 0 some)))
    by_some enough (inr none) = omega (arith, none)
