-- A plant that was loaded from a disk without dates.
use Rattle.std.proofs.Common.{◌≡◌, ℤ, Bool, true, false, IsTrue, List, [], ◌++◌, map, None, inr, refl, ◌∙◌, ap}
use Rattle.std.specs.Prelude.{int_lt}
use Rattle.std.specs.Int.Signed.{<ℤ_irrefl, lt_z_yes}
use Rattle.std.proofs.lemmas.Float.{T_from_true}
use Rattle.outside_api.specs.Disk.{DiskView}
use Rattle.gated_journal.specs.Format.{Reads}
use Rattle.day_rows.specs.Chronicle.{date_of}
use Rattle.day_rows.specs.Schema.{IsSchema}
use Rattle.day_rows.specs.declared.schema.Shape.{Shape}
use Rattle.q_values.specs.declared.limits.Limits.{Limits}
use Rattle.partition_set.specs.Records.{payloads_of}
use Rattle.partition_set.specs.declared.record.ManifestRecord.TheVariants as m
use Rattle.date_logs.specs.Laws.{RestartsOnce}
use Rattle.date_logs.specs.Moments.{RestartsFrom}
use Rattle.plant_memory.specs.Memory.{MemoryView}
use Rattle.plant_core.specs.Load.{files_of, roll_to, IsLoaded}
use Rattle.mem_plant.specs.New.{IsNew}

no_less : (d : ℤ) → int_lt d d ≡ false
no_less d = elim (int_lt d d) as (λ b. int_lt d d ≡ b → b ≡ false) [ true ↦ λ h. absurd (<ℤ_irrefl {a = d} (lt_z_yes (T_from_true (int_lt d d) h))) | false ↦ λ h. refl ] refl

roll-none : (date : ℤ) → roll_to date date ≡ []
roll-none date = rw (no_less date) refl

pub new-is : RestartsOnce → (disk : DiskView) (schema : List Shape) (date : ℤ) (limits : Limits) (memory : MemoryView) → IsSchema schema → IsTrue disk.tells → RestartsFrom schema memory.frame.first [] None disk.now
    → Reads (disk.now 0).bytes (payloads_of (map m.Shape schema)) → (IsTrue disk.tells → IsLoaded disk schema date memory) → memory.frame.schema ≡ schema → memory.frame.limits ≡ limits → IsNew schema date limits memory
new-is once disk schema date limits memory lawful told restarts reads load tables bounds =
    let loaded : IsLoaded disk schema date memory = load told in
    let first : memory.frame.first ≡ date = loaded.begun reads in
    let kept : loaded.kept ≡ [] = once schema memory.frame.first (files_of disk) loaded.kept [] lawful loaded.restarts (restarts (files_of disk) (λ k. inr refl)) in
    record {
      frame = λ i. record { schema = tables i; first = first i; limits = bounds i };
      entries = loaded.entries ∙ ap (λ l. l ++ roll_to (date_of memory.frame.first l) date) kept ∙ ap (λ d. roll_to d date) first ∙ roll-none date;
    }
