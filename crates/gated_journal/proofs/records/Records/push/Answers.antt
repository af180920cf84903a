use Rattle.std.proofs.Common.{◌≡◌, ◌+◌, ◌++◌, ◌∷◌, [], List, ℕ, length, ap, ◌∙◌, sym, subst, arith}
use Rattle.gated_journal.specs.Records.{payloads_in, AreInside, FollowOn, gate_after}
use Rattle.gated_journal.specs.declared.records.Span.{Span}
use Rattle.gated_journal.proofs.Appends.{on_err}
use Rattle.gated_journal.proofs.Spans.{put_keeps, put_inside, put_payload, put_all_inside, put_follows, put_end}
use Rattle.gated_journal.proofs.records.Records.push.Goals as goal

pub invariant_of-self-in_err-put_from : goal.invariant_of-self-in_err-put_from
invariant_of-self-in_err-put_from c =
    let i = c.self.invariant in
    let kept = c.put_from.ensures.kept in
    let bytes = c.self.inside.bytes.items in
    let spans = c.self.inside.spans.items in
    let same = c.in_ok-reserve.ensures.items in (
      subst (λ (l : List Span). AreInside (length c.put_from.new.bytes.items) l) (sym same)
          (put_inside bytes c.put_from.new.bytes.items kept.0 spans (c.self.inside.end + 5) i.0 i.1 (ap (λ (k : ℕ). k + 5) i.2) kept.1),
      subst (λ (l : List Span). FollowOn 8 l) (sym same) i.1,
      i.2 ∙ ap (gate_after 8) (sym same),
      i.3,
    )

pub returns-in_err-put_from-clause-err : goal.returns-in_err-put_from-clause-err
returns-in_err-put_from-clause-err c =
    let i = c.self.invariant in
    let kept = c.put_from.ensures.kept in
    let bytes = c.self.inside.bytes.items in
    let spans = c.self.inside.spans.items in
    on_err c.from_residual-in_err-put_from.result _
    (ap (payloads_in c.put_from.new.bytes.items) c.in_ok-reserve.ensures.items
    ∙ put_keeps bytes c.put_from.new.bytes.items kept.0 spans (c.self.inside.end + 5) i.0 i.1 (ap (λ (k : ℕ). k + 5) i.2) kept.1 ∙ c.self.view_is)

pub invariant_of-self-2 : goal.invariant_of-self-2
invariant_of-self-2 c =
    let i = c.self.invariant in
    let kept = c.put_from.ensures.kept in
    let bytes = c.self.inside.bytes.items in
    let new = c.put_from.new.bytes.items in
    let spans = c.self.inside.spans.items in
    let payload = c.args.payload.now in
    let at = c.self.inside.end + 5 in
    let is : at ≡ gate_after 8 spans + 5 = ap (λ (k : ℕ). k + 5) i.2 in
    let grows : c.push_reserved.new.self.items ≡ spans ++ record { start = at; len = length payload } ∷ [] =
    c.push_reserved.ensures.items ∙ ap (λ (l : List Span). l ++ record { start = at; len = length payload } ∷ []) c.in_ok-reserve.ensures.items in
    let put = c.in_ok-put_from.ensures.put in (
      put_all_inside bytes new kept.0 spans at i.0 i.1 is kept.1 payload c.push_reserved.new.self.items put grows c.in_ok-put_from.ensures.ok,
      put_follows bytes new kept.0 spans at i.0 i.1 is kept.1 payload c.push_reserved.new.self.items put grows,
      put_end bytes new kept.0 spans at i.0 i.1 is kept.1 payload c.push_reserved.new.self.items put grows,
      omega arith,
    )

pub returns-clause-ok : goal.returns-clause-ok
returns-clause-ok c =
    let i = c.self.invariant in
    let kept = c.put_from.ensures.kept in
    let bytes = c.self.inside.bytes.items in
    let new = c.put_from.new.bytes.items in
    let spans = c.self.inside.spans.items in
    let payload = c.args.payload.now in
    let at = c.self.inside.end + 5 in
    let is : at ≡ gate_after 8 spans + 5 = ap (λ (k : ℕ). k + 5) i.2 in
    let grows : c.push_reserved.new.self.items ≡ spans ++ record { start = at; len = length payload } ∷ [] =
    c.push_reserved.ensures.items ∙ ap (λ (l : List Span). l ++ record { start = at; len = length payload } ∷ []) c.in_ok-reserve.ensures.items in
    put_payload bytes new kept.0 spans at i.0 i.1 is kept.1 payload c.push_reserved.new.self.items c.in_ok-put_from.ensures.put grows
    ∙ ap (λ (l : List (List ℕ)). l ++ payload ∷ []) c.self.view_is
