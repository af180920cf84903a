-- The last fault of a pass whose newest entry is a fault.
use Rattle.std.proofs.Common.{◌≡◌, ℕ, ℤ, ◌+◌, ◌∷◌, ◌++◌, [], List, refl, ap, true, false, Bool, Option, Some, None}
use Rattle.std.specs.Prelude.{◌==◌, cond}
use Rattle.std.proofs.Math.Dec.{eqb_refl}
use lib.Dec.{T}
use Rattle.q_values.specs.Tree.{Tree}
use Rattle.day_rows.specs.declared.entry.Entry.{Entry}
use Rattle.day_rows.specs.declared.entry.Entry.TheVariants as e
use Rattle.plant_memory.specs.Chronicle.{last_fault_from, last_fault}
use Rattle.plant_core.specs.Access.{AccessView, Fails, FailsRoll}

holds-true : (b : Bool) → T b → b ≡ true
holds-true true h = refl
holds-true false h = absurd h

own_pass : (by : ℕ) → (by == by) ≡ true
own_pass by = holds-true (by == by) (eqb_refl by)

last_fault-found : (by i : ℕ) (found : Option ℕ) (es : List Entry) → (place : ℕ) × (last_fault_from by i found (es ++ e.Fault by ∷ []) ≡ Some place)
last_fault-found by i found [] = (i, rw (own_pass by) refl)
last_fault-found by i found (e.Upd own table columns ∷ es) = last_fault-found by (i + 1) found es
last_fault-found by i found (e.Roll own date ∷ es) = last_fault-found by (i + 1) found es
last_fault-found by i found (e.Fault own ∷ es) = last_fault-found by (i + 1) (cond (own == by) (Some i) found) es

-- after an update that failed
pub last_fault-update : (old new : AccessView) (table : List ℕ) (items : List Tree) (now : ℤ) (rolled : Option ℕ) (at : ℕ) → Fails old new table items now rolled at → (place : ℕ) × (last_fault new.by new.seen ≡ Some place)
last_fault-update old new table items now rolled at f = rw (f.after) (last_fault-found old.by 0 None ((old.seen ++ f.others) ++ f.before))

-- after a roll that failed
pub last_fault-roll : (old new : AccessView) (now : ℤ) (at : ℕ) → FailsRoll old new now at → (place : ℕ) × (last_fault new.by new.seen ≡ Some place)
last_fault-roll old new now at f = rw (f.after) (last_fault-found old.by 0 None (old.seen ++ f.others))
