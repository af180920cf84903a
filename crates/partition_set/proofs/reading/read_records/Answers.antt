use Rattle.std.proofs.Common.{◌≡◌, ◌+◌, suc, ◌∷◌, ◌++◌, [], take, drop, length, map, subst, ap, ap₂, sym, ◌∙◌, arith}
use Rattle.std.proofs.lemmas.List.{map-append, take-append-drop}
use Rattle.gated_journal.specs.Format.{before_gate}
use Rattle.partition_set.specs.Records.{payload_of, payloads_of, IsManifest}
use Rattle.partition_set.proofs.TableLemmas.{take-got, split-at}
use Rattle.partition_set.proofs.reading.read_records.Goals as goal

pub returns-in-None-clause-bad : goal.returns-in-None-clause-bad
returns-in-None-clause-bad c =
    record {
      records = c.loop-i.records.items;
      payload = c.at.result.now;
      rest = drop (suc c.loop-i.i) c.args.payloads.now;
      lawful = c.loop-i.invariant.1;
      split = split-at c.args.payloads.now c.loop-i.i c.at.result.now c.at.ensures ∙ ap (λ l. l ++ c.at.result.now ∷ drop (suc c.loop-i.i) c.args.payloads.now) (sym c.loop-i.invariant.0);
      bad = λ next p is. (rw c.in-None.is at c.in_ok-next.ensures.none) next p (subst (λ l. IsManifest (l ++ next ∷ [])) (sym c.as_slice.ensures.value) is);
      place = c.gate_of.ensures ∙ ap (λ l. length (before_gate l)) (sym c.loop-i.invariant.0);
    }

pub loop-i-preserved : goal.loop-i-preserved
loop-i-preserved c =
    let next : suc c.loop-i.i ≡ c.loop-i.i + 1 = omega arith in
    let found = rw c.in-Some.is at c.in_ok-next.ensures.some in
    let grown = c.in_ok-push-in-Some.ensures in
    let all = ap payloads_of grown ∙ map-append payload_of c.loop-i.records.items (c.in-Some.next ∷ []) ∙ ap₂ (λ l p. l ++ p ∷ []) c.loop-i.invariant.0 (sym found.0) in
    (all ∙ sym (take-got c.args.payloads.now c.loop-i.i c.at.result.now c.at.ensures) ∙ ap (λ n. take n c.args.payloads.now) next, subst (λ l. IsManifest l) (sym grown) (subst (λ l. IsManifest (l ++ c.in-Some.next ∷ [])) c.as_slice.ensures.value found.1))
