use Rattle.std.proofs.Common.{◌≡◌, ◌∷◌, ◌++◌, [], subst, sym, ◌∙◌}
use Rattle.partition_set.specs.Records.{IsManifest}
use Rattle.partition_set.proofs.OrderLemmas.{no, last-own}
use Rattle.partition_set.proofs.EncodingLemmas.{payload-same}
use Rattle.partition_set.proofs.reading.next_record.Goals as goal

pub returns-else-may_come-clause-none : goal.returns-else-may_come-clause-none
returns-else-may_come-clause-none c = λ next same is.
    let own = rw c.in-Some.is at c.in_ok-next.ensures.some in
    let one = payload-same c.written_spells.ensures next c.in-Some.next (last-own c.args.records.now next is) own.1 (sym same ∙ own.0) in
    no (sym c.if-may_come.false ∙ c.may_come.ensures.1 (subst (λ n. IsManifest (c.args.records.now ++ n ∷ [])) one is))
