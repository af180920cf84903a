use Rattle.std.proofs.Common.{◌≡◌, ◌<◌, ◌∙◌, length, map, ap, sym, subst}
use Rattle.std.specs.List.{flat_map}
use Rattle.std.proofs.lemmas.Bool.{eqb-true}
use Rattle.pubsub.specs.Parts.{part_lines}
use Rattle.pubsub.specs.Steps.{table_told}
use Rattle.pubsub.specs.Told.{upd, publication, grid_of, lines_in}
use Rattle.pubsub.specs.declared.parts.Part.{Part}
use Rattle.std.proofs.Common.{List}
use Rattle.pubsub.proofs.TableLemmas.{message_told, shape_at, some_of, table_silent}
use Rattle.pubsub.proofs.batches.tell_table.Goals as goal

pub returns-then-is_empty : goal.returns-then-is_empty
unfolding table_told
returns-then-is_empty c =
    let parts = c.in_ok-found.found.items in
    let lines = flat_map (lines_in c.args.table) c.args.batch.now in
    let none : length parts ≡ 0 = sym (ap length c.as_slice-parts.ensures.value) ∙ eqb-true (length c.as_slice-parts.result.now) 0 (sym c.is_empty.ensures ∙ c.if-is_empty.true) in
    table_silent c.args.subscription.now c.args.schema.now c.args.table c.filter-chosen.result.now lines parts (map publication c.args.messages.now.items) c.filter-chosen.ensures c.in_ok-found.ensures none

pub message-requires-clause-shape : goal.message-requires-clause-shape
message-requires-clause-shape c = shape_at c.args.schema.now c.args.table c.at.result.now c.at.ensures.lawful c.at.ensures.value

pub returns : goal.returns
unfolding table_told
returns c =
    let parts = c.in_ok-found.found.items in
    let lines = flat_map (lines_in c.args.table) c.args.batch.now in
    let shape = c.at.result.now in
    let some : 0 < length parts = subst (λ n. 0 < n) (ap length c.as_slice-parts.ensures.value) (some_of (length c.as_slice-parts.result.now) (sym c.is_empty.ensures ∙ c.if-is_empty.false)) in
    message_told c.args.subscription.now c.args.schema.now c.args.table shape c.filter-chosen.result.now lines parts c.in_ok-told.told c.args.messages.now.items c.push.new.self.items c.requires.own c.at.ensures.value c.filter-chosen.ensures c.in_ok-found.ensures some
    (c.in_ok-told.ensures ∙ ap (λ (ps : List Part). upd shape.table (grid_of shape (flat_map part_lines ps))) c.as_slice-parts.ensures.value)
    c.in_ok-push.ensures.items
