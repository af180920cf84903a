use Rattle.std.proofs.Common.{◌≡◌, ◌<◌, List, ℕ, length, take, ap, arith, Some, slice_get}
use Rattle.std.proofs.lemmas.List.{length-map}
use Rattle.std.proofs.lemmas.Option.{slice_get_read}
use Rattle.gated_journal.specs.Format.{before_gate}
use Rattle.gated_journal.specs.Records.{bytes_in, payloads_in}
use Rattle.gated_journal.proofs.Gates.{gate_at}
use Rattle.gated_journal.proofs.records.Records.gate_of.Goals as goal

pub overflow_sub-result : goal.overflow_sub-result
overflow_sub-result c =
    let i = c.self.invariant in
    let spans = c.self.inside.spans.items in
    let at : c.args.i < length spans = omega (arith, c.requires, ap length c.self.view_is, length-map spans (bytes_in c.self.inside.bytes.items)) in
    let is : slice_get spans c.args.i ≡ Some c.index.result.now = slice_get_read spans (length spans) c.args.i c.index.result.now (λ i. length spans) at c.index.ensures in
    omega (arith, gate_at c.self.inside.bytes.items spans c.args.i c.index.result.now i.0 i.1 is)

pub returns : goal.returns
returns c =
    let i = c.self.invariant in
    let spans = c.self.inside.spans.items in
    let at : c.args.i < length spans = omega (arith, c.requires, ap length c.self.view_is, length-map spans (bytes_in c.self.inside.bytes.items)) in
    let is : slice_get spans c.args.i ≡ Some c.index.result.now = slice_get_read spans (length spans) c.args.i c.index.result.now (λ i. length spans) at c.index.ensures in
    let here = gate_at c.self.inside.bytes.items spans c.args.i c.index.result.now i.0 i.1 is in
    let same : length (before_gate (take c.args.i (payloads_in c.self.inside.bytes.items spans))) ≡ length (before_gate (take c.args.i c.args.self.now)) =
    ap (λ (l : List (List ℕ)). length (before_gate (take c.args.i l))) c.self.view_is in
    omega (arith, here, same)
