use Rattle.std.proofs.Common.{◌≡◌, ◌∷◌, ◌++◌, ◌+◌, ◌-◌, ◌<◌, ◌≤◌, length, length-drop, sym, ap, subst, arith, ◌∙◌, drop, take, List, ℕ}
use Rattle.std.proofs.lemmas.List.{take_all}
use Rattle.std.specs.Int.{w32, to_le_bytes}
use Rattle.std.specs.List.{AllByRecursion}
use Rattle.gated_journal.specs.Format.{IsBroken, before_gate, open_gate, HasHeader, IsPayload}
use Rattle.gated_journal.specs.Records.{payloads_in, AreInside, FollowOn, gate_after}
use Rattle.gated_journal.specs.declared.records.Span.{Span}
use Rattle.gated_journal.proofs.Scans.{begins, length-before_none, broken, split_on, place_on, within_on, sized_on}
use Rattle.gated_journal.proofs.Gates.{follow_push, gate_after-push}
use Rattle.gated_journal.proofs.Spans.{inside_push}
use Rattle.gated_journal.proofs.scan.scan.Goals as goal

rest_of : (bytes : List ℕ) (k : ℕ) → k ≤ length bytes → take (length bytes - k) (drop k bytes) ≡ drop k bytes
rest_of bytes k le = take_all (length bytes - k) (drop k bytes) (omega (arith, length-drop k bytes))

pub loop-at-init : goal.loop-at-init
loop-at-init c =
    let header : HasHeader c.args.bytes.now = c.requires in
    let none = c.new-spans.ensures.items in
    let bytes = c.args.bytes.now in
    record {
      within = omega (arith, header.1);
      split = begins bytes header ∙ ap (λ (l : List Span). before_gate (payloads_in bytes l) ++ drop 8 bytes) (sym none);
      place = sym length-before_none ∙ ap (λ (l : List Span). length (before_gate (payloads_in bytes l))) (sym none);
      sized = subst (λ (l : List Span). AllByRecursion IsPayload (payloads_in bytes l)) (sym none) tt;
      inside = subst (λ (l : List Span). AreInside (length bytes) l) (sym none) tt;
      follow = subst (λ (l : List Span). FollowOn 8 l) (sym none) tt;
      after = ap (gate_after 8) (sym none);
    }

pub returns-in_default-clause-prefix : goal.returns-in_default-clause-prefix
returns-in_default-clause-prefix c =
    let i = c.loop-at.invariant in
    let bytes = c.args.bytes.now in
    let at = c.loop-at.at in
    broken bytes c.loop-at.spans.items at i.within i.split i.place i.sized c.loop-at-test.true
    (subst (λ (l : List ℕ). IsBroken (open_gate ∷ l)) (rest_of bytes (at + 1) (omega (arith, i.within))) c.in_default.ensures.none)

pub loop-at-preserved : goal.loop-at-preserved
loop-at-preserved c =
    let i = c.loop-at.invariant in
    let m = c.in-Some.ensures in
    let e = c.in_ok-push_span.ensures in
    let bytes = c.args.bytes.now in
    let spans = c.loop-at.spans.items in
    let at = c.loop-at.at in
    let len = c.in-Some.len in
    let rest = rest_of bytes (at + 1) (omega (arith, i.within)) in
    let long : 4 + len < length (drop (at + 1) bytes) = subst (λ (l : List ℕ). 4 + len < length l) rest m.long in
    let measure : take 4 (drop (at + 1) bytes) ≡ to_le_bytes w32 len = subst (λ (l : List ℕ). take 4 l ≡ to_le_bytes w32 len) rest m.spelled in
    let o = c.loop-at-test.true in
    let fits : at + (len + 5) < length bytes = within_on bytes spans at i.within i.split i.place i.sized o len long m.some m.small measure in
    record {
      within = fits;
      split = split_on bytes spans at i.within i.split i.place i.sized o len long m.some m.small measure
          ∙ ap (λ (l : List Span). before_gate (payloads_in bytes l) ++ drop (at + (len + 5)) bytes) (sym e);
      place = place_on bytes spans at i.within i.split i.place i.sized o len long m.some m.small measure
          ∙ ap (λ (l : List Span). length (before_gate (payloads_in bytes l))) (sym e);
      sized = subst (λ (l : List Span). AllByRecursion IsPayload (payloads_in bytes l)) (sym e) (sized_on bytes spans at i.within i.split i.place i.sized o len long m.some m.small measure);
      inside = subst (λ (l : List Span). AreInside (length bytes) l) (sym e) (inside_push (length bytes) spans (record { start = at + 5; len = len }) i.inside (omega (arith, fits)));
      follow = subst (λ (l : List Span). FollowOn 8 l) (sym e) (follow_push 8 spans (record { start = at + 5; len = len }) i.follow (ap (λ (k : ℕ). k + 5) i.after));
      after = omega (arith, i.after, ap (gate_after 8) e, gate_after-push 8 spans (record { start = at + 5; len = len }));
    }
