-- How the restart of a closed plant is its log.
use Rattle.std.proofs.Common.{inl, inr, ⊎_elim, ℕ, ℤ, List, [], ◌∷◌, ◌++◌, Option, Some, None, refl, subst}
use Rattle.day_rows.specs.Chronicle.{log}
use Rattle.day_rows.specs.Schema.{IsSchema}
use Rattle.day_rows.specs.declared.entry.Entry.{Entry}
use Rattle.day_rows.specs.declared.schema.Shape.{Shape}
use Rattle.date_logs.specs.Laws.{RestartsOnce}
use Rattle.date_logs.specs.Restart.{Restarts, MayRestart}
use Rattle.plant_core.specs.Load.{files_of}
use Rattle.plant_laws.specs.Laws.{IsWithLate, FoundAgain}

same-late : RestartsOnce → (schema : List Shape) (first : ℤ) (files : ℕ → List ℕ) (entries found : List Entry) (late : Option Entry) → IsSchema schema → MayRestart schema first files entries late → Restarts schema first files found → IsWithLate entries late found
same-late once schema first files entries found None lawful may is = once schema first files found entries lawful is may
same-late once schema first files entries found (Some late) lawful may is =
    ⊎_elim
    (λ (a : Restarts schema first files entries). inl (once schema first files found entries lawful is a))
    (λ (b : Restarts schema first files (entries ++ late ∷ [])). inr (once schema first files found (entries ++ late ∷ []) lawful is b))
    may

pub found-again : RestartsOnce → FoundAgain
found-again once former date memory lawful sound settled told first loaded =
    let restarts = sound.restarts settled told in
    let files = files_of former.disk in
    let schema = former.memory.frame.schema in
    let is : Restarts schema former.memory.frame.first files loaded.kept = subst (λ d. Restarts schema d files loaded.kept) first loaded.restarts in
    record {
      late = restarts.0;
      allowed = restarts.1;
      kept = loaded.kept;
      same = same-late once schema former.memory.frame.first files (log former.memory.entries) loaded.kept restarts.0 lawful (restarts.2 files (λ k. inr refl)) is;
      entries = rw (← first) loaded.entries;
    }
