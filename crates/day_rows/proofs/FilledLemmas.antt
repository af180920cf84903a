-- Blocks that fill: one more update, and how many rows are loose.
use Rattle.std.proofs.Common.{◌≡◌, ℕ, zero, suc, ◌+◌, ◌-◌, ◌<◌, ◌≤◌, ◌++◌, Bool, true, false, cond, inl, inr, List, [], ◌∷◌, length, take, refl, sym, ap, ◌∙◌, arith}
use Rattle.std.specs.Prelude.{nat_le, ◌↔◌}
use Rattle.std.specs.List.{AllByRecursion, flat_map}
use Rattle.std.proofs.Math.Seq.{take-length}
use Rattle.std.proofs.lemmas.Bool.{leb-false, le-leb, lt-leb}
use Rattle.std.proofs.lemmas.Bool.Decides.{leb_tells}
use Rattle.std.proofs.lemmas.List.{length-append, take-append-le}
use Rattle.std.proofs.lemmas.List.Sums.{sum_by-append}
use Rattle.day_rows.specs.Blocks.{IsFull}
use Rattle.day_rows.specs.Day.{entry_rows, total_rows}
use Rattle.day_rows.specs.Filled.{Filled, filled_more, filled_after}
use Rattle.day_rows.specs.declared.entry.Entry.{Entry}

pub filled_after-push : (before : Filled) (updates : List Entry) (entry : Entry) → filled_after before (updates ++ entry ∷ []) ≡ filled_more (filled_after before updates) (entry_rows entry)
filled_after-push before [] entry = refl
filled_after-push before (first ∷ updates) entry = filled_after-push (filled_more before (entry_rows first)) updates entry

pub loose-more : (before : Filled) (rows : ℕ) → (filled_more before rows).loose < 1024
loose-more before rows = go (nat_le 1024 (before.loose + rows)) refl
  where
    go : (b : Bool) → nat_le 1024 (before.loose + rows) ≡ b → (cond {A = Filled} b (record { blocks = before.blocks + 1; loose = 0 }) (record { blocks = before.blocks; loose = before.loose + rows })).loose < 1024
    go true h = omega arith
    go false h = leb-false 1024 (before.loose + rows) h

pub loose-after : (before : Filled) (updates : List Entry) → before.loose < 1024 → (filled_after before updates).loose < 1024
loose-after before [] h = h
loose-after before (entry ∷ updates) h = loose-after (filled_more before (entry_rows entry)) updates (loose-more before (entry_rows entry))

-- an update that fills the block, and one that doesn't
pub filled-full : (sealed loose rows : ℕ) → 1024 ≤ loose + rows → filled_more (record { blocks = sealed; loose = loose }) rows ≡ record { blocks = sealed + 1; loose = 0 }
filled-full sealed loose rows h = ap (λ b. cond b (record { blocks = sealed + 1; loose = 0 }) (record { blocks = sealed; loose = loose + rows })) (le-leb 1024 (loose + rows) h)

pub filled-open : (sealed loose rows : ℕ) → loose + rows < 1024 → filled_more (record { blocks = sealed; loose = loose }) rows ≡ record { blocks = sealed; loose = loose + rows }
filled-open sealed loose rows h = ap (λ b. cond b (record { blocks = sealed + 1; loose = 0 }) (record { blocks = sealed; loose = loose + rows })) (lt-leb 1024 (loose + rows) h)

pub total-cons : (entry : Entry) (updates : List Entry) → total_rows (entry ∷ updates) ≡ entry_rows entry + total_rows updates
total-cons entry updates = let one : total_rows (entry ∷ []) ≡ 0 + entry_rows entry = refl in omega (arith, sum_by-append entry_rows (entry ∷ []) updates, one)

pub total-push : (updates : List Entry) (entry : Entry) → total_rows (updates ++ entry ∷ []) ≡ total_rows updates + entry_rows entry
total-push updates entry = let one : total_rows (entry ∷ []) ≡ 0 + entry_rows entry = refl in omega (arith, sum_by-append entry_rows updates (entry ∷ []), one)

-- fewer updates have no more rows
pub total-take : (i j : ℕ) (updates : List Entry) → i ≤ j → total_rows (take i updates) ≤ total_rows (take j updates)
total-take zero j updates h = omega arith
total-take (suc i) zero updates h = absurd (omega (arith, h))
total-take (suc i) (suc j) [] h = omega arith
total-take (suc i) (suc j) (entry ∷ updates) h =
    omega (arith, total-take i j updates (omega (arith, h)), total-cons entry (take i updates), total-cons entry (take j updates))

-- the update that fills a block
pub full-pushed : (updates : List Entry) (entry : Entry) → total_rows updates < 1024 → 1024 ≤ total_rows (updates ++ entry ∷ []) → IsFull (updates ++ entry ∷ [])
full-pushed updates entry few enough =
    let n : length (updates ++ entry ∷ []) - 1 ≡ length updates = omega (arith, length-append updates (entry ∷ [])) in
    let same : take (length (updates ++ entry ∷ []) - 1) (updates ++ entry ∷ []) ≡ updates =
    ap (λ k. take k (updates ++ entry ∷ [])) n ∙ take-append-le (length updates) updates (entry ∷ []) (omega arith) ∙ take-length updates in
    record { enough = enough; only_then = omega (arith, few, ap total_rows same) }

-- no block is empty
pub full-some : (updates : List Entry) → IsFull updates → 0 < length updates
full-some [] full = absurd (omega (arith, full.enough))
full-some (entry ∷ updates) full = omega arith

pub full-blocks : (blocks : List (List Entry)) → AllByRecursion IsFull blocks → length blocks ≤ length (flat_map (λ b. b) blocks)
full-blocks [] all = omega arith
full-blocks (block ∷ blocks) all = omega (arith, full-some block all.0, full-blocks blocks all.1, length-append block (flat_map (λ (b : List Entry). b) blocks))

-- a block that is not full
pub not-full : (answer : Bool) (rows : ℕ) → answer ≡ false → ((answer ≡ true) ↔ (1024 ≤ rows)) → rows < 1024
not-full answer rows is tells =
    elim (leb_tells 1024 rows) [
      | inl full ↦ let no : false ≡ true = sym is ∙ tells.1 full.1 in cc
      | inr few ↦ few.1
    ]
