use Rattle.std.proofs.Common.{◌≡◌, ◌≢◌, ◌∷◌, ◌++◌, [], ℕ, IsTrue, subst, ap, sym, ◌∙◌}
use Rattle.partition_set.specs.Records.{IsManifest}
use Rattle.partition_set.specs.declared.record.ManifestRecord.TheVariants as m
use Rattle.partition_set.proofs.OrderLemmas.{next-table, tables-grown}
use Rattle.partition_set.proofs.manifest.Manifest.make.Goals as goal

pub add_table-requires-clause-allowed : goal.add_table-requires-clause-allowed
add_table-requires-clause-allowed g c =
    subst (λ l. IsManifest (l ++ m.Shape c.at.result.now ∷ [])) (sym c.loop-i.invariant.0) (next-table c.args.schema.now c.loop-i.i c.at.result.now c.at.ensures.lawful c.at.ensures.value)

pub loop-i-preserved : goal.loop-i-preserved
loop-i-preserved g c =
    let before = c.loop-i.invariant in
    let done = c.in_ok-add_table.ensures in (
      done.added ∙ ap (λ l. l ++ m.Shape c.at.result.now ∷ []) before.0 ∙ tables-grown c.args.schema.now c.loop-i.i c.at.result.now c.at.ensures.value,
      done.kept,
      done.clean,
      done.file ∙ before.3,
      done.counts.0 ∙ before.4,
      done.counts.1 ∙ before.5,
      λ tells k apart. done.others (subst IsTrue (sym before.5) tells) k (subst (λ f. k ≢ f) (sym before.3) apart) ∙ before.6 tells k apart,
      done.has_gate,
    )
