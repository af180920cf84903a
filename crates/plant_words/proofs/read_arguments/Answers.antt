use Rattle.std.proofs.Common.{Err, map, string_bytes, subst}
use Rattle.plant_words.specs.Asked.{Asked, IsAsked, shown}
use Rattle.plant_words.specs.Reading.{IsReadBy}
use Rattle.plant_words.specs.declared.command.Unread.{Unread}
use Rattle.plant_words.proofs.read_arguments.Goals as goal

pub returns-in-Err-Faulty-clause-asked : goal.returns-in-Err-Faulty-clause-asked
returns-in-Err-Faulty-clause-asked c asked is =
    absurd (subst (λ (e : Unread). IsReadBy shown asked (Err e)) c.in-Err-Faulty.field-0-is (c.in-Err-Faulty.ensures.asked asked is))
