use Rattle.std.proofs.Common.{◌≡◌, ◌↔◌, true, sym, ◌∙◌}
use Rattle.partition_set.proofs.OrderLemmas.{may_come-is, no}
use Rattle.partition_set.proofs.order.may_come.Goals as goal

pub returns-then-has_room : goal.returns-then-has_room
returns-then-has_room c =
    let is = may_come-is c.args.records.now c.in-Some.field-0-1.now c.in-Some.last.now c.args.next.now c.in-Some.ensures.cases.0 c.requires.lawful c.requires.allowed in
    ((λ t. is.0 (c.has_room.ensures.0 c.if-has_room.true, c.may_follow.ensures.0 t)), λ m. c.may_follow.ensures.1 (is.1 m).1)

pub returns-else-has_room : goal.returns-else-has_room
returns-else-has_room c =
    let is = may_come-is c.args.records.now c.in-Some.field-0-1.now c.in-Some.last.now c.args.next.now c.in-Some.ensures.cases.0 c.requires.lawful c.requires.allowed in
    ((λ t. no (sym c.if-has_room.false ∙ t)), λ m. c.has_room.ensures.1 (is.1 m).0)
