-- Updates in blocks: the first of them, those from an index on, and more of them.
use Rattle.std.proofs.Common.{◌≡◌, ℕ, zero, suc, ◌+◌, ◌-◌, ◌<◌, ◌≤◌, ◌++◌, List, [], ◌∷◌, length, get_or, take, drop, refl, sym, ap, ap₂, ◌∙◌, arith, inl, inr, append_assoc, append-nil}
use Rattle.std.specs.List.{AllByRecursion, flat_map}
use Rattle.std.proofs.Math.Seq.{take-append-add, take-length}
use Rattle.std.proofs.lemmas.Bool.{cases_eq}
use Rattle.std.proofs.lemmas.List.{length-append, length-take, take-append-le, get_or_default}
use Rattle.std.proofs.lemmas.Grind.{flat_map-append}
use Rattle.std.proofs.lemmas.List.Sums.{sum_by-append}
use Rattle.day_rows.specs.Blocks.{updates_in, IsFull, IsStore, Grew}
use Rattle.day_rows.specs.Day.{total_rows, entry_rows}
use Rattle.day_rows.specs.declared.entry.Entry.{Entry}
use Rattle.day_rows.proofs.BlockLemmas.{all-left, all-right}
use Rattle.day_rows.proofs.Lists.{drop-append, flat_map_more}
use Rattle.day_rows.proofs.DayLemmas.{all-append}
use Rattle.day_rows.proofs.FilledLemmas.{full-pushed}

pub blocks-split : (blocks : List (List Entry)) (i : ℕ) (last : List Entry) → i ≤ length blocks → (rest : List Entry) × (updates_in blocks last ≡ flat_map (λ b. b) (take i blocks) ++ (get_or blocks i last ++ rest))
blocks-split [] zero last i_in = ([], sym (append-nil last))
blocks-split [] (suc i) last i_in = absurd (omega (arith, i_in))
blocks-split (block ∷ blocks) zero last i_in = (flat_map (λ b. b) blocks ++ last, append_assoc block (flat_map (λ b. b) blocks) last)
blocks-split (block ∷ blocks) (suc i) last i_in =
    let rest = blocks-split blocks i last (omega (arith, i_in)) in
    (rest.0, append_assoc block (flat_map (λ b. b) blocks) last ∙ ap (λ l. block ++ l) rest.1 ∙ sym (append_assoc block (flat_map (λ b. b) (take i blocks)) (get_or blocks i last ++ rest.0)))

pub get_or-end : {X : Type 0} (xs : List X) (d : X) → get_or xs (length xs) d ≡ d
get_or-end [] d = refl
get_or-end (x ∷ xs) d = get_or-end xs d

-- the first updates, up to some of the next block
pub cut-next : (blocks : List (List Entry)) (last : List Entry) (sealed before n : ℕ) → sealed ≤ length blocks → before ≡ length (flat_map (λ b. b) (take sealed blocks)) → n ≤ length (get_or blocks sealed last) → updates_in (take sealed blocks) (take n (get_or blocks sealed last)) ≡ take (before + n) (updates_in blocks last)
cut-next blocks last sealed before n within is few =
    let split = blocks-split blocks sealed last within in
    let P = flat_map (λ (b : List Entry). b) (take sealed blocks) in
    let own = get_or blocks sealed last in
    let size : before + n ≡ length P + n = omega (arith, is) in
    sym (ap₂ take size split.1 ∙ take-append-add P (own ++ split.0) n ∙ ap (λ l. P ++ l) (take-append-le n own split.0 few))

-- each block that is sealed is full
pub full-got : (blocks : List (List Entry)) (i : ℕ) (last : List Entry) → i < length blocks → AllByRecursion IsFull blocks → IsFull (get_or blocks i last)
full-got [] i last i_in all = absurd (omega (arith, i_in))
full-got (block ∷ blocks) zero last i_in all = all.0
full-got (block ∷ blocks) (suc i) last i_in all = full-got blocks i last (omega (arith, i_in)) all.1

-- a store begins with itself
pub grew-none : (blocks : List (List Entry)) (last : List Entry) → Grew blocks last blocks last
grew-none blocks last = record { begins = take-length (updates_in blocks last); blocks_begin = take-length blocks; grown = λ more. absurd (omega (arith, more)) }

-- one update more
pub store-appended : (blocks : List (List Entry)) (last : List Entry) (held : ℕ) (entry : Entry) → IsStore blocks last held → IsStore blocks (last ++ entry ∷ []) (held + 1)
store-appended blocks last held entry store = record {
  held_is = omega (arith, store.held_is, length-append (flat_map (λ (b : List Entry). b) blocks) last, length-append (flat_map (λ (b : List Entry). b) blocks) (last ++ entry ∷ []), length-append last (entry ∷ []));
  full = store.full;
}

pub updates-appended : (blocks : List (List Entry)) (last : List Entry) (entry : Entry) → updates_in blocks (last ++ entry ∷ []) ≡ updates_in blocks last ++ entry ∷ []
updates-appended blocks last entry = sym (append_assoc (flat_map (λ (b : List Entry). b) blocks) last (entry ∷ []))

get_or-within : {X : Type 0} (xs : List X) (i : ℕ) (d e : X) → i < length xs → get_or xs i d ≡ get_or xs i e
get_or-within [] i d e i_in = absurd (omega (arith, i_in))
get_or-within (x ∷ xs) zero d e i_in = refl
get_or-within (x ∷ xs) (suc i) d e i_in = get_or-within xs i d e (omega (arith, i_in))

get_or-pushed : {X : Type 0} (xs : List X) (i : ℕ) (x d e : X) → i < length xs → get_or (xs ++ x ∷ []) i d ≡ get_or xs i e
get_or-pushed [] i x d e i_in = absurd (omega (arith, i_in))
get_or-pushed (y ∷ xs) zero x d e i_in = refl
get_or-pushed (y ∷ xs) (suc i) x d e i_in = get_or-pushed xs i x d e (omega (arith, i_in))

get_or-last : {X : Type 0} (xs : List X) (x d : X) → get_or (xs ++ x ∷ []) (length xs) d ≡ x
get_or-last [] x d = refl
get_or-last (y ∷ xs) x d = get_or-last xs x d

pub longer : {X : Type 0} (xs ys : List X) → take (length xs) ys ≡ xs → length xs ≤ length ys
longer xs ys begins = omega (arith, ap length begins, length-take (length xs) ys)

pub grew-appended : (blocks : List (List Entry)) (last : List Entry) (more : List (List Entry)) (next : List Entry) (entry : Entry) → Grew blocks last more next → Grew blocks last more (next ++ entry ∷ [])
grew-appended blocks last more next entry grew =
    let was = updates_in blocks last in
    let size = longer was (updates_in more next) grew.begins in
    record {
      begins = ap (take (length was)) (updates-appended more next entry) ∙ take-append-le (length was) (updates_in more next) (entry ∷ []) size ∙ grew.begins;
      blocks_begin = grew.blocks_begin;
      grown = λ less. let same = ap length (get_or-within more (length blocks) (next ++ entry ∷ []) next less) in omega (arith, same, grew.grown less);
    }

updates-sealed : (blocks : List (List Entry)) (last : List Entry) → updates_in (blocks ++ last ∷ []) [] ≡ updates_in blocks last
updates-sealed blocks last =
    append-nil (flat_map (λ (b : List Entry). b) (blocks ++ last ∷ [])) ∙ flat_map-append (λ (b : List Entry). b) blocks (last ∷ []) ∙ ap (λ l. flat_map (λ (b : List Entry). b) blocks ++ l) (append-nil last)

-- one update more, which fills the block
pub store-sealed : (blocks : List (List Entry)) (last : List Entry) (held : ℕ) (entry : Entry) → IsStore blocks last held → total_rows last < 1024 → 1024 ≤ total_rows (last ++ entry ∷ []) → IsStore (blocks ++ (last ++ entry ∷ []) ∷ []) [] (held + 1)
store-sealed blocks last held entry store few enough =
    let whole = ap length (updates-sealed blocks (last ++ entry ∷ [])) in
    record {
      held_is = omega (arith, (store-appended blocks last held entry store).held_is, whole);
      full = all-append IsFull blocks ((last ++ entry ∷ []) ∷ []) store.full (full-pushed last entry few enough, tt);
    }

pub updates-filled : (blocks : List (List Entry)) (last : List Entry) (entry : Entry) → updates_in (blocks ++ (last ++ entry ∷ []) ∷ []) [] ≡ updates_in blocks last ++ entry ∷ []
updates-filled blocks last entry = updates-sealed blocks (last ++ entry ∷ []) ∙ updates-appended blocks last entry

pub grew-sealed : (blocks : List (List Entry)) (last : List Entry) (more : List (List Entry)) (next : List Entry) (entry : Entry) → Grew blocks last more next → Grew blocks last (more ++ (next ++ entry ∷ []) ∷ []) []
grew-sealed blocks last more next entry grew =
    let was = updates_in blocks last in
    let full = next ++ entry ∷ [] in
    let one = length-append next (entry ∷ []) in
    let size = longer was (updates_in more next) grew.begins in
    let fewer = longer blocks more grew.blocks_begin in
    record {
      begins = ap (take (length was)) (updates-filled more next entry) ∙ take-append-le (length was) (updates_in more next) (entry ∷ []) size ∙ grew.begins;
      blocks_begin = take-append-le (length blocks) more (full ∷ []) fewer ∙ grew.blocks_begin;
      grown = λ less.
          elim (cases_eq (length blocks) (length more)) [
            | inl same ↦
                let all : more ≡ blocks = sym (ap (λ n. take n more) same ∙ take-length more) ∙ grew.blocks_begin in
                let sum : length (flat_map (λ b. b) more) ≡ length (flat_map (λ b. b) blocks) = ap (λ (l : List (List Entry)). length (flat_map (λ b. b) l)) all in
                let got : length (get_or (more ++ full ∷ []) (length blocks) []) ≡ length full = ap length (ap (λ n. get_or (more ++ full ∷ []) n []) same ∙ get_or-last more full []) in
                omega (arith, got, one, sum, size, length-append (flat_map (λ (b : List Entry). b) blocks) last, length-append (flat_map (λ (b : List Entry). b) more) next)
            | inr other ↦
                let inside : length blocks < length more = omega (arith, other, fewer) in
                let got = ap length (get_or-pushed more (length blocks) full [] next inside) in
                omega (arith, got, grew.grown inside)
          ];
    }

-- the number of updates in the first blocks, and in one more
pub cat-more : (blocks : List (List Entry)) (i : ℕ) (last : List Entry) → i < length blocks → length (flat_map (λ b. b) (take (i + 1) blocks)) ≡ length (flat_map (λ b. b) (take i blocks)) + length (get_or blocks i last)
cat-more [] i last i_in = absurd (omega (arith, i_in))
cat-more (block ∷ blocks) zero last i_in = let whole : length (block ++ []) ≡ length block = ap length (append-nil block) in omega (arith, whole)
cat-more (block ∷ blocks) (suc i) last i_in =
    let same : suc i + 1 ≡ suc (i + 1) = omega arith in
    rw same (let a = length-append block (flat_map (λ b. b) (take (i + 1) blocks)) in let b' = length-append block (flat_map (λ b. b) (take i blocks)) in omega (arith, a, b', cat-more blocks i last (omega (arith, i_in))))

-- the updates from an index on, in the first blocks and in one more
pub from-more : (blocks : List (List Entry)) (i from : ℕ) (last : List Entry) → i < length blocks → drop from (flat_map (λ b. b) (take (i + 1) blocks)) ≡ drop from (flat_map (λ b. b) (take i blocks)) ++ drop (from - length (flat_map (λ b. b) (take i blocks))) (get_or blocks i last)
from-more blocks i from last i_in =
    let block = get_or blocks i last in
    ap (drop from) (flat_map_more (λ (b : List Entry). b) blocks i block i_in (get_or_default blocks i last block i_in)) ∙ drop-append from (flat_map (λ (b : List Entry). b) (take i blocks)) block

-- what holds of each update of the first blocks holds of those of one of them
pub one-all : (P : Entry → Type 0) (blocks : List (List Entry)) (i sealed : ℕ) (last : List Entry) → i < sealed → sealed ≤ length blocks → AllByRecursion P (flat_map (λ b. b) (take sealed blocks)) → AllByRecursion P (get_or blocks i last)
one-all P blocks i zero last i_in within all = absurd (omega (arith, i_in))
one-all P [] i (suc sealed) last i_in within all = absurd (omega (arith, within))
one-all P (block ∷ blocks) zero (suc sealed) last i_in within all = all-left P block (flat_map (λ b. b) (take sealed blocks)) all
one-all P (block ∷ blocks) (suc i) (suc sealed) last i_in within all =
    one-all P blocks i sealed last (omega (arith, i_in)) (omega (arith, within)) (all-right P block (flat_map (λ b. b) (take sealed blocks)) all)

-- one of the first blocks has no more rows than all of them
pub one-total : (blocks : List (List Entry)) (i sealed : ℕ) (last : List Entry) → i < sealed → sealed ≤ length blocks → total_rows (get_or blocks i last) ≤ total_rows (flat_map (λ b. b) (take sealed blocks))
one-total blocks i zero last i_in within = absurd (omega (arith, i_in))
one-total [] i (suc sealed) last i_in within = absurd (omega (arith, within))
one-total (block ∷ blocks) zero (suc sealed) last i_in within = omega (arith, sum_by-append entry_rows block (flat_map (λ (b : List Entry). b) (take sealed blocks)))
one-total (block ∷ blocks) (suc i) (suc sealed) last i_in within =
    omega (arith, one-total blocks i sealed last (omega (arith, i_in)) (omega (arith, within)), sum_by-append entry_rows block (flat_map (λ (b : List Entry). b) (take sealed blocks)))
