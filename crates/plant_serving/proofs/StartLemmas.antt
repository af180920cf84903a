-- How a server starts.
use Rattle.std.proofs.Common.{◌≡◌, ◌∙◌, ℕ, false, List, [], None, sym, ap, subst}
use Rattle.day_rows.specs.declared.entry.Entry.{Entry}
use Rattle.day_rows.specs.declared.schema.Shape.{Shape}
use Rattle.outside_api.specs.Disk.{DiskView}
use Rattle.plant_core.specs.Plant.{PlantView}
use Rattle.plant_lock.specs.Told.{Lock, Told}
use Rattle.plant_serving.proofs.WorkLemmas.{begun}
use Rattle.plant_serving.specs.declared.end.Progress.{Progress}
use Rattle.plant_serving.specs.Serving.{Setting, setting_of}
use Rattle.plant_serving.specs.Working.{Promised, IsLawful, Works}
use Rattle.program_outside.specs.Outside.{OutsideView}
use Rattle.q_values.specs.Limits.{AreLimits}
use Rattle.q_values.specs.declared.limits.Limits.{Limits}

module _ {D : Type 0} (shown : D → DiskView) (setting : Setting D) (count : ℕ) (old : OutsideView) where
  -- a server at its start, by what the calls say that make it
  pub begun_as : (first : Told Entry) (running : List (Promised D)) (progress : Progress) (now : OutsideView) → running ≡ []
      → progress ≡ record { accepted = 0; is_short = false; stopped = None } → now ≡ old → first.lock ≡ setting.lock → first.seen ≡ setting.loaded
      → Works shown setting count old first running progress now
  begun_as first running progress now running_is progress_is now_is of_lock knows =
      rw (running_is, progress_is, now_is) (begun shown setting count old first of_lock knows)

-- the limits and tables of a plant that was put under a lock
pub lawful_of : {D : Type 0} (lock : Lock (PlantView D)) (plant : PlantView D) (limits : Limits) (schema : List Shape) → lock.made ≡ plant
    → plant.memory.frame.limits ≡ limits → AreLimits limits → schema ≡ plant.memory.frame.schema → IsLawful (setting_of lock limits) schema
lawful_of lock plant limits schema made same lawful schema_is = record {
  limits_are = ap (λ p. p.memory.frame.limits) made ∙ same;
  lawful = lawful;
  schema_is = schema_is ∙ sym (ap (λ p. p.memory.frame.schema) made);
}
