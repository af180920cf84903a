-- Where what an accepted update adds stands.
use Rattle.std.proofs.Common.{◌≡◌, ◌+◌, ℕ, ℤ, List, [], ◌∷◌, ◌++◌, length, Option, Some, None, arith}
use Rattle.std.proofs.lemmas.List.{length-append}
use Rattle.day_rows.specs.declared.entry.Entry.{Entry}
use Rattle.day_rows.specs.declared.entry.Entry.TheVariants as e
use Rattle.plant_memory.specs.Frame.{Frame}
use Rattle.plant_core.specs.Adds.{roll_place}
use Rattle.plant_memory.specs.Verdict.{accepts, verdict}
use Rattle.plant_memory.proofs.MadeLemmas.{IsMade, verdict_made}
use Rattle.q_values.specs.Tree.{Tree}

-- an update, and a roll before it where there is one, stand from a place on
abbrev pub AreAt : ℕ → List Entry → Option ℕ → ℕ → Type 0
AreAt n (e.Upd by table columns ∷ []) None place = place ≡ n
AreAt n (e.Roll by date ∷ e.Upd by' table columns ∷ []) (Some rolled) place = (rolled ≡ n) × (place ≡ n + 1)
AreAt n entries rolled place = ⊥

made_at : (front entries : List Entry) (rolled : Option ℕ) (place : ℕ) → IsMade entries → rolled ≡ roll_place (length front) entries → place + 1 ≡ length (front ++ entries) → AreAt (length front) entries rolled place
made_at front [] rolled place m r l = absurd m
made_at front (e.Fault by ∷ entries) rolled place m r l = absurd m
made_at front (e.Upd by table columns ∷ x ∷ entries) rolled place m r l = absurd m
made_at front (e.Upd by table columns ∷ []) (Some p) place m r l = absurd cc
made_at front (e.Upd by table columns ∷ []) None place m r l = omega (arith, l, length-append front (e.Upd by table columns ∷ []))
made_at front (e.Roll by date ∷ []) rolled place m r l = absurd m
made_at front (e.Roll by date ∷ e.Roll by' date' ∷ entries) rolled place m r l = absurd m
made_at front (e.Roll by date ∷ e.Fault by' ∷ entries) rolled place m r l = absurd m
made_at front (e.Roll by date ∷ e.Upd by' table columns ∷ x ∷ entries) rolled place m r l = absurd m
made_at front (e.Roll by date ∷ e.Upd by' table columns ∷ []) None place m r l = absurd cc
made_at front (e.Roll by date ∷ e.Upd by' table columns ∷ []) (Some p) place m r l =
    let same : p ≡ length front = cc in
    (same, omega (arith, l, length-append front (e.Roll by date ∷ e.Upd by' table columns ∷ [])))

-- the places of what an accepted update adds
pub accepted_at : (frame : Frame) (by : ℕ) (front entries : List Entry) (name : List ℕ) (items : List Tree) (now : ℤ) (rolled : Option ℕ) (place : ℕ) → verdict frame by front name items now ≡ accepts entries → rolled ≡ roll_place (length front) entries → place + 1 ≡ length (front ++ entries) → AreAt (length front) entries rolled place
accepted_at frame by front entries name items now rolled place h r l = made_at front entries rolled place (verdict_made frame by front entries name items now h) r l

-- a roll, or nothing, stands from a place on, and then a fault
abbrev pub AreBefore : ℕ → List Entry → Option ℕ → ℕ → Type 0
AreBefore n [] None place = place ≡ n
AreBefore n (e.Roll by date ∷ []) (Some rolled) place = (rolled ≡ n) × (place ≡ n + 1)
AreBefore n entries rolled place = ⊥

before_at : (front before rest : List Entry) (failed : Entry) (rolled : Option ℕ) (place : ℕ) → IsMade (before ++ failed ∷ rest) → rolled ≡ roll_place (length front) before → place ≡ length (front ++ before) → AreBefore (length front) before rolled place
before_at front [] rest failed (Some p) place m r l = absurd cc
before_at front [] rest failed None place m r l = omega (arith, l, length-append front [])
before_at front (e.Fault by ∷ before) rest failed rolled place m r l = absurd m
before_at front (e.Upd by table columns ∷ []) rest failed rolled place m r l = absurd m
before_at front (e.Upd by table columns ∷ x ∷ before) rest failed rolled place m r l = absurd m
before_at front (e.Roll by date ∷ []) rest failed None place m r l = absurd cc
before_at front (e.Roll by date ∷ []) rest failed (Some p) place m r l =
    let same : p ≡ length front = cc in
    (same, omega (arith, l, length-append front (e.Roll by date ∷ [])))
before_at front (e.Roll by date ∷ e.Roll by' date' ∷ before) rest failed rolled place m r l = absurd m
before_at front (e.Roll by date ∷ e.Fault by' ∷ before) rest failed rolled place m r l = absurd m
before_at front (e.Roll by date ∷ e.Upd by' table columns ∷ []) rest failed rolled place m r l = absurd m
before_at front (e.Roll by date ∷ e.Upd by' table columns ∷ x ∷ before) rest failed rolled place m r l = absurd m

-- the places of what was made before the entry that the disk failed at
pub failed_at : (frame : Frame) (by : ℕ) (front before rest : List Entry) (failed : Entry) (name : List ℕ) (items : List Tree) (now : ℤ) (rolled : Option ℕ) (place : ℕ) → verdict frame by front name items now ≡ accepts (before ++ failed ∷ rest) → rolled ≡ roll_place (length front) before → place ≡ length (front ++ before) → AreBefore (length front) before rolled place
failed_at frame by front before rest failed name items now rolled place h r l = before_at front before rest failed rolled place (verdict_made frame by front (before ++ failed ∷ rest) name items now h) r l
