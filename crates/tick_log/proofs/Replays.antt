-- Records, read as chunks one after another.
use Rattle.std.proofs.Common.{◌≡◌, ℕ, zero, suc, ◌+◌, ◌<◌, List, [], ◌∷◌, ◌++◌, max, take, Some, refl, sym, ap, ◌∙◌, subst, arith}
use Rattle.std.specs.Prelude.{slice_get}
use Rattle.std.proofs.lemmas.List.Sums.{sum_by-append}
use Rattle.day_rows.specs.Day.{entry_rows, total_rows}
use Rattle.day_rows.specs.Schema.{IsSchema}
use Rattle.day_rows.specs.declared.entry.Entry.{Entry}
use Rattle.day_rows.specs.declared.entry.Entry.TheVariants as e
use Rattle.day_rows.specs.declared.schema.Shape.{Shape}
use Rattle.tick_log.specs.Chunk.{IsChunk, no_pass}
use Rattle.tick_log.specs.Laws.{OneEntry, OneReplay, NeverBoth}
use Rattle.tick_log.specs.Replay.{AreChunks, by_of, top_by}
use Rattle.tick_log.proofs.Chunks.{chunk_once}

total-first : (x : Entry) (xs : List Entry) → total_rows (x ∷ xs) ≡ entry_rows x + total_rows xs
total-first x xs = sum_by-append entry_rows (x ∷ []) xs ∙ omega arith

pub total-more : (xs : List Entry) (x : Entry) → total_rows (xs ++ x ∷ []) ≡ total_rows xs + entry_rows x
total-more xs x = sum_by-append entry_rows xs (x ∷ []) ∙ omega arith

later : (before : ℕ) (x : Entry) (xs : List Entry) → before + total_rows (x ∷ xs) ≡ before + entry_rows x + total_rows xs
later before x xs = omega (arith, total-first x xs)

pub chunks_more : (schema : List Shape) (before : ℕ) (payloads : List (List ℕ)) (entries : List Entry) (payload : List ℕ) (x : Entry) → AreChunks schema before payloads entries
    → IsChunk schema (before + total_rows entries) payload x → AreChunks schema before (payloads ++ payload ∷ []) (entries ++ x ∷ [])
chunks_more schema before [] [] payload x h is =
    let none : before + total_rows [] ≡ before = omega arith in
    (subst (λ (n : ℕ). IsChunk schema n payload x) none is, tt)
chunks_more schema before [] (y ∷ ys) payload x h is = absurd h
chunks_more schema before (p ∷ ps) [] payload x h is = absurd h
chunks_more schema before (p ∷ ps) (y ∷ ys) payload x h is =
    (h.0, chunks_more schema (before + entry_rows y) ps ys payload x h.1 (subst (λ (n : ℕ). IsChunk schema n payload x) (later before y ys) is))

pub take_next : {X : Type 0} (xs : List X) (i : ℕ) (x : X) → slice_get xs i ≡ Some x → take (i + 1) xs ≡ take i xs ++ x ∷ []
take_next [] i x e = absurd cc
take_next (y ∷ ys) zero x e = let same : y ≡ x = cc in ap (λ z. z ∷ []) same
take_next (y ∷ ys) (suc i) x e =
    let n : suc i + 1 ≡ suc (i + 1) = omega arith in
    rw n (ap (λ l. y ∷ l) (take_next ys i x e))

pub top_by-push : (xs : List Entry) (x : Entry) → top_by (xs ++ x ∷ []) ≡ max (top_by xs) (by_of x)
top_by-push [] x = omega arith
top_by-push (y ∷ ys) x = let h = top_by-push ys x in omega arith

-- the pass of a chunk has a number
pub chunk-pass : (schema : List Shape) (before : ℕ) (bytes : List ℕ) (x : Entry) → IsChunk schema before bytes x → by_of x < no_pass
chunk-pass schema before bytes (e.Upd by table columns) is = is.2.pass
chunk-pass schema before bytes (e.Roll by date) is = absurd is
chunk-pass schema before bytes (e.Fault by) is = absurd is

replays_once : (schema : List Shape) (before : ℕ) (payloads : List (List ℕ)) (xs ys : List Entry) → IsSchema schema → AreChunks schema before payloads xs → AreChunks schema before payloads ys → xs ≡ ys
replays_once schema before [] [] [] lawful h i = refl
replays_once schema before [] (x ∷ xs) ys lawful h i = absurd h
replays_once schema before [] [] (y ∷ ys) lawful h i = absurd i
replays_once schema before (p ∷ ps) [] ys lawful h i = absurd h
replays_once schema before (p ∷ ps) (x ∷ xs) [] lawful h i = absurd i
replays_once schema before (p ∷ ps) (x ∷ xs) (y ∷ ys) lawful h i =
    let same = chunk_once schema before p x y lawful h.0 i.0 in
    let moved = subst (λ (z : Entry). AreChunks schema (before + entry_rows z) ps ys) (sym same) i.1 in
    ap (λ (z : Entry). z ∷ xs) same ∙ ap (λ (zs : List Entry). y ∷ zs) (replays_once schema (before + entry_rows x) ps xs ys lawful h.1 moved)

none_bad : (schema : List Shape) (before : ℕ) (payloads : List (List ℕ)) (entries front : List Entry) (n : ℕ) (payload : List ℕ) → IsSchema schema → AreChunks schema before payloads entries
    → slice_get payloads n ≡ Some payload → AreChunks schema before (take n payloads) front → ((x : Entry) → IsChunk schema (before + total_rows front) payload x → ⊥) → ⊥
none_bad schema before [] entries front n payload lawful h at good bad = absurd cc
none_bad schema before (p ∷ ps) [] front n payload lawful h at good bad = h
none_bad schema before (p ∷ ps) (x ∷ xs) [] zero payload lawful h at good bad =
    let same : p ≡ payload = cc in
    let none : before ≡ before + total_rows [] = omega arith in
    bad x (subst (λ (n : ℕ). IsChunk schema n payload x) none (subst (λ (l : List ℕ). IsChunk schema before l x) same h.0))
none_bad schema before (p ∷ ps) (x ∷ xs) (y ∷ ys) zero payload lawful h at good bad = good
none_bad schema before (p ∷ ps) (x ∷ xs) [] (suc n) payload lawful h at good bad = good
none_bad schema before (p ∷ ps) (x ∷ xs) (y ∷ ys) (suc n) payload lawful h at good bad =
    let same = chunk_once schema before p y x lawful good.0 h.0 in
    let moved = subst (λ (z : Entry). AreChunks schema (before + entry_rows z) ps xs) (sym same) h.1 in
    none_bad schema (before + entry_rows y) ps xs ys n payload lawful moved at good.1 (λ z is. bad z (subst (λ (m : ℕ). IsChunk schema m payload z) (sym (later before y ys)) is))

pub one_entry : OneEntry
one_entry = chunk_once

pub one_replay : OneReplay
one_replay = replays_once

pub never_both : NeverBoth
never_both schema records entries chunks at lawful h found =
    let front : (x : Entry) → IsChunk schema (0 + total_rows found.entries) found.payload x → ⊥ = λ x is. found.bad x (subst (λ (n : ℕ). IsChunk schema n found.payload x) (omega arith) is) in
    none_bad schema 0 records entries found.entries chunks found.payload lawful h found.here found.good front
