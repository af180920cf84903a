use Rattle.std.proofs.lemmas.Result.{IfOk-weaker}
use Rattle.pubsub.specs.Parts.{IsPassed}
use Rattle.pubsub.specs.Steps.{IsPassedIn}
use Rattle.pubsub.proofs.TableLemmas.{symbols_of_table, in_table, passed_in}
use Rattle.pubsub.proofs.batches.passed_in.Goals as goal

pub passed-requires : goal.passed-requires
passed-requires c =
    let of = in_table c.args.schema.now c.args.table c.args.entry.now c.in-Some.columns.now c.in-Some.ensures c.requires.update in
    symbols_of_table c.args.schema.now c.args.table c.in-Some.columns.now c.at-shape.ensures.lawful of.0

pub returns-in-Some : goal.returns-in-Some
returns-in-Some c =
    let columns = c.in-Some.columns.now in
    let of = in_table c.args.schema.now c.args.table c.args.entry.now columns c.in-Some.ensures c.requires.update in
    IfOk-weaker c.passed.result (IsPassed c.args.chosen.now columns) (IsPassedIn c.args.chosen.now c.args.schema.now c.args.table c.args.entry.now)
    (passed_in c.args.chosen.now c.args.schema.now c.args.table c.args.entry.now columns of.0 of.1) c.passed.ensures
