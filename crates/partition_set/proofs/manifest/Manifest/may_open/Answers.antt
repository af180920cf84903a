use Rattle.std.proofs.Common.{◌≡◌, sym, subst, ◌∙◌}
use Rattle.std.specs.Int.{w32}
use Rattle.std.proofs.lemmas.Int.{to_z-of_z}
use Rattle.partition_set.specs.Records.{IsRecord}
use Rattle.partition_set.specs.declared.record.ManifestRecord.TheVariants as m
use Rattle.partition_set.proofs.OrderLemmas.{no, last-own}
use Rattle.partition_set.proofs.manifest.Manifest.may_open.Goals as goal

pub returns-then-not-is_opening : goal.returns-then-not-is_opening
returns-then-not-is_opening c = (
  (λ e. no e),
  λ is. sym c.if-not-is_opening.true ∙ c.is_opening.ensures.1 (subst (λ d. IsRecord (m.Opened c.args.by d)) (sym (to_z-of_z w32 c.args.date c.ranges.date)) (last-own c.args.self.now.records (m.Opened c.args.by c.args.date) is)),
)
