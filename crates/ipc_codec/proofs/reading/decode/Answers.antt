use Rattle.std.proofs.Common.{◌-◌, length, ◌∙◌}
use Rattle.q_values.specs.Tree.{tree}
use Rattle.ipc_codec.specs.Reading.{placed}
use Rattle.ipc_codec.proofs.ReadingLemmas.{found-counted, refused-placed}
use Rattle.ipc_codec.proofs.LawLemmas.{reading_spells, only_ok, only_err}
use Rattle.ipc_codec.proofs.PlainLemmas.{spelled-plain, spelled-fit}
use Rattle.ipc_codec.proofs.reading.decode.Goals as goal

pub returns-in-Ok-clause-found : goal.returns-in-Ok-clause-found
returns-in-Ok-clause-found c = rw c.saturating_sub.ensures (found-counted c.args.order c.args.bytes.now (tree c.in-Ok.value) c.in-Ok.rest.now c.in-Ok.ensures.found)

pub returns-in-Ok-clause-spelled : goal.returns-in-Ok-clause-spelled
returns-in-Ok-clause-spelled c =
    let bytes = c.args.bytes.now in
    let read = found-counted c.args.order bytes (tree c.in-Ok.value) c.in-Ok.rest.now c.in-Ok.ensures.found in
    rw c.saturating_sub.ensures ((reading_spells c.args.order bytes (tree c.in-Ok.value) (length bytes - length c.in-Ok.rest.now) read).1)

pub returns-in-Ok-clause-plain : goal.returns-in-Ok-clause-plain
returns-in-Ok-clause-plain c =
    let bytes = c.args.bytes.now in
    let read = found-counted c.args.order bytes (tree c.in-Ok.value) c.in-Ok.rest.now c.in-Ok.ensures.found in
    spelled-plain (reading_spells c.args.order bytes (tree c.in-Ok.value) (length bytes - length c.in-Ok.rest.now) read).1

pub returns-in-Ok-clause-fit : goal.returns-in-Ok-clause-fit
returns-in-Ok-clause-fit c =
    let bytes = c.args.bytes.now in
    let read = found-counted c.args.order bytes (tree c.in-Ok.value) c.in-Ok.rest.now c.in-Ok.ensures.found in
    spelled-fit (reading_spells c.args.order bytes (tree c.in-Ok.value) (length bytes - length c.in-Ok.rest.now) read).1

pub returns-in-Ok-clause-only : goal.returns-in-Ok-clause-only
returns-in-Ok-clause-only c t n within spelled =
    let bytes = c.args.bytes.now in
    let read = found-counted c.args.order bytes (tree c.in-Ok.value) c.in-Ok.rest.now c.in-Ok.ensures.found in
    let same = only_ok c.args.order bytes t (tree c.in-Ok.value) (length bytes - length c.in-Ok.rest.now) n read within spelled in
    (same.0, c.saturating_sub.ensures ∙ same.1)

pub returns-in-Err-At-clause-refused : goal.returns-in-Err-At-clause-refused
returns-in-Err-At-clause-refused c = rw c.placed_in.ensures (refused-placed c.args.order c.args.bytes.now c.in-Err-At.fault (rw c.in-Err-At.field-0-is at c.in-Err-At.ensures.found))

pub returns-in-Err-At-clause-only : goal.returns-in-Err-At-clause-only
returns-in-Err-At-clause-only c t n within spelled =
    let bytes = c.args.bytes.now in
    let refused = refused-placed c.args.order bytes c.in-Err-At.fault (rw c.in-Err-At.field-0-is at c.in-Err-At.ensures.found) in
    rw c.placed_in.ensures (only_err c.args.order bytes t n (placed (length bytes) c.in-Err-At.fault) refused within spelled)
