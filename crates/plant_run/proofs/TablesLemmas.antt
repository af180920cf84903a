-- The tables that are found in a file.
use Rattle.std.proofs.Common.{◌≡◌, ◌∙◌, ℕ, List, Some, Result, Ok, Err, inl, inr}
use Rattle.day_rows.specs.declared.schema.Shape.{Shape}
use Rattle.program_outside.specs.Outside.{OutsideView, read_of}
use Rattle.plant_run.specs.Tables.{FindsIn, FindsTables}

-- what is found in the bytes of a file that was read is found
pub found-in : (path bytes : List ℕ) (old read new : OutsideView) (result : Result (List Shape) ℕ)
    → read ≡ read_of old path bytes → FindsIn path bytes read new result → FindsTables (Some path) old new result
found-in path bytes old read new (Ok tables) is finds = (bytes, finds.0, finds.1 ∙ is)
found-in path bytes old read new (Err status) is (inl short) = inr (inr (inr (bytes, rw is at short)))
found-in path bytes old read new (Err status) is (inr fault) =
    inr (inl (bytes, (fault.0, fault.1, fault.2, rw is at fault.3)))
