-- The updates of a date in blocks: which of them it has, and one more.
use Rattle.std.proofs.Common.{◌≡◌, ℕ, zero, suc, ◌+◌, ◌-◌, ◌<◌, ◌≤◌, ◌==◌, ◌++◌, true, false, cond, List, [], ◌∷◌, length, get_or, take, drop, refl, sym, ap, ap₂, ◌∙◌, subst, arith, set, inl, inr, Some, slice_get}
use Rattle.std.specs.List.{AllByRecursion, sum_by, flat_map}
use Rattle.std.proofs.Math.Seq.{take-length}
use Rattle.std.proofs.lemmas.Bool.{cases_eq, eqb-true, eq-eqb}
use Rattle.std.proofs.lemmas.List.{length-append, length-take, get_or-set_same, get_or-set_other, length-set, take_all, drop-take, drop-drop, get_or_past, append_cancel_left}
use Rattle.std.proofs.lemmas.Bool.Decides.{leb_tells}
use Rattle.std.proofs.lemmas.List.Sums.{sum_by-append, sum_by-le-sum_by, sum_by-take-le}
use Rattle.q_values.specs.Table.{rows_of}
use Rattle.day_rows.specs.Blocks.{mark_of, updates_in, IsFull, IsStore, Grew, IsPlace, IsCounted, IsKept}
use Rattle.day_rows.specs.Day.{total_rows, entry_rows}
use Rattle.day_rows.specs.Filled.{Filled, filled_more}
use Rattle.day_rows.specs.Joined.{rows_in}
use Rattle.day_rows.specs.declared.entry.Entry.{Entry}
use Rattle.day_rows.specs.declared.entry.Entry.TheVariants as e
use Rattle.day_rows.proofs.BlockLemmas.{sum-one, take_more_got, all-take}
use Rattle.day_rows.proofs.FilledLemmas.{filled_after-push, loose-after, filled-full, filled-open, total-push, total-take, full-some, full-blocks}
use Rattle.day_rows.proofs.GrowLemmas.{mark-rows}
use Rattle.day_rows.proofs.RowsLemmas.{rows_in-le}
use Rattle.day_rows.proofs.StoreLemmas.{blocks-split, get_or-end, cut-next, full-got, cat-more}

-- the updates of the next block that are shown are some of it
pub open-within : (blocks : List (List Entry)) (last : List Entry) (shown sealed before : ℕ) → IsPlace blocks last shown sealed before → shown ≤ length (updates_in blocks last) → shown - before ≤ length (get_or blocks sealed last)
open-within blocks last shown sealed before place all =
    elim (cases_eq sealed (length blocks)) [
      | inl same ↦
          let own : length (get_or blocks sealed last) ≡ length last = ap length (ap (λ n. get_or blocks n last) same ∙ get_or-end blocks last) in
          let whole : length (flat_map (λ b. b) (take sealed blocks)) ≡ length (flat_map (λ b. b) blocks) = ap (λ (l : List (List Entry)). length (flat_map (λ b. b) l)) (ap (λ n. take n blocks) same ∙ take-length blocks) in
          omega (arith, own, whole, place.before_is, all, length-append (flat_map (λ (b : List Entry). b) blocks) last)
      | inr other ↦
          let less : sealed < length blocks = omega (arith, other, place.sealed_within) in
          omega (arith, place.next_open less)
    ]

-- the updates that are shown, in blocks of their own
pub first-shown : (blocks : List (List Entry)) (last : List Entry) (shown sealed before : ℕ) → IsPlace blocks last shown sealed before → shown ≤ length (updates_in blocks last) → updates_in (take sealed blocks) (take (shown - before) (get_or blocks sealed last)) ≡ take shown (updates_in blocks last)
first-shown blocks last shown sealed before place all =
    let size : before + (shown - before) ≡ shown = omega (arith, place.before_within) in
    cut-next blocks last sealed before (shown - before) place.sealed_within place.before_is (open-within blocks last shown sealed before place all) ∙ ap (λ n. take n (updates_in blocks last)) size

pub take-twice : {X : Type 0} (n : ℕ) (xs : List X) → take n (take n xs) ≡ take n xs
take-twice n xs = take_all n (take n xs) (omega (arith, length-take n xs))

-- the loose rows are no block
pub loose-fits : (blocks : List (List Entry)) (last : List Entry) (held shown room sealed before loose : ℕ) (counts : List ℕ) (rows : ℕ) → IsKept blocks last held shown room sealed before loose counts rows → loose < 1024
loose-fits blocks last held shown room sealed before loose counts rows kept =
    let none : Filled = record { blocks = 0; loose = 0 } in
    subst (λ (f : Filled). f.loose < 1024) kept.counted.filled_is (loose-after none (take shown (updates_in blocks last)) (omega arith))

-- with no update held but those that are shown, all blocks are sealed
all-sealed : (blocks : List (List Entry)) (last : List Entry) (held shown room sealed before loose : ℕ) (counts : List ℕ) (rows : ℕ) → IsKept blocks last held shown room sealed before loose counts rows → held ≡ shown → sealed ≡ length blocks
all-sealed blocks last held shown room sealed before loose counts rows kept none =
    let whole = updates_in blocks last in
    let size : shown ≡ length whole = omega (arith, none, kept.store.held_is) in
    let split = blocks-split blocks sealed last kept.place.sealed_within in
    let P = flat_map (λ (b : List Entry). b) (take sealed blocks) in
    let own = get_or blocks sealed last in
    let parts = ap length split.1 in
    let later = length-append P (own ++ split.0) in
    let inner = length-append own split.0 in
    elim (cases_eq sealed (length blocks)) [
      | inl same ↦ same
      | inr other ↦ absurd (omega (arith, kept.place.next_open (omega (arith, other, kept.place.sealed_within)), parts, later, inner, size, kept.place.before_is))
    ]

-- and the block after them is not full
pub grows-whole : (blocks : List (List Entry)) (last : List Entry) (held shown room sealed before loose : ℕ) (counts : List ℕ) (rows : ℕ) → IsKept blocks last held shown room sealed before loose counts rows → held ≡ shown → total_rows last < 1024
grows-whole blocks last held shown room sealed before loose counts rows kept none =
    let same = all-sealed blocks last held shown room sealed before loose counts rows kept none in
    let own : get_or blocks sealed last ≡ last = ap (λ n. get_or blocks n last) same ∙ get_or-end blocks last in
    let P : length (flat_map (λ b. b) (take sealed blocks)) ≡ length (flat_map (λ b. b) blocks) = ap (λ (l : List (List Entry)). length (flat_map (λ b. b) l)) (ap (λ n. take n blocks) same ∙ take-length blocks) in
    let size : length last ≤ shown - before = omega (arith, P, none, kept.store.held_is, kept.place.before_is, length-append (flat_map (λ (b : List Entry). b) blocks) last) in
    let rows_are : total_rows (take (shown - before) (get_or blocks sealed last)) ≡ total_rows last = ap (λ l. total_rows (take (shown - before) l)) own ∙ ap total_rows (take_all (shown - before) last size) in
    omega (arith, rows_are, kept.loose_is, loose-fits blocks last held shown room sealed before loose counts rows kept)

pub kept-first : (blocks : List (List Entry)) (last : List Entry) (held shown room sealed before loose : ℕ) (counts : List ℕ) (rows : ℕ) → IsKept blocks last held shown room sealed before loose counts rows
    → IsKept (take sealed blocks) (take (shown - before) (get_or blocks sealed last)) shown shown 0 sealed before loose counts rows
kept-first blocks last held shown room sealed before loose counts rows kept =
    let whole = updates_in blocks last in
    let own = get_or blocks sealed last in
    let n = shown - before in
    let all : shown ≤ length whole = omega (arith, kept.store.held_is, kept.all_within) in
    let first = first-shown blocks last shown sealed before kept.place all in
    let size = ap length first in
    let fewer = length-take sealed blocks in
    let past : get_or (take sealed blocks) sealed (take n own) ≡ take n own = get_or_past (take sealed blocks) sealed (take n own) (omega (arith, fewer)) in
    record {
      store = record { held_is = omega (arith, size, length-take shown whole, all); full = all-take IsFull sealed blocks kept.store.full };
      all_within = omega arith;
      place = record {
        sealed_within = omega (arith, fewer, kept.place.sealed_within);
        before_is = kept.place.before_is ∙ ap (λ (l : List (List Entry)). length (flat_map (λ b. b) l)) (sym (take-twice sealed blocks));
        before_within = kept.place.before_within;
        next_open = λ more. absurd (omega (arith, more, fewer));
      };
      loose_is = kept.loose_is ∙ ap total_rows (sym (ap (take n) past ∙ take-twice n own));
      grows = λ some. absurd (omega (arith, some));
      counted = subst (λ u. IsCounted u counts rows sealed loose) (sym (ap (take shown) first ∙ take-twice shown whole)) kept.counted;
    }

pub kept-grown : (blocks : List (List Entry)) (last : List Entry) (held shown room sealed before loose : ℕ) (counts : List ℕ) (rows : ℕ) (more : List (List Entry)) (next : List Entry) (holds wanted : ℕ) → IsKept blocks last held shown room sealed before loose counts rows
    → held ≡ shown → Grew blocks last more next → IsStore more next holds → shown + wanted ≤ holds → (0 < wanted → total_rows next < 1024) → IsKept more next holds shown wanted sealed before loose counts rows
kept-grown blocks last held shown room sealed before loose counts rows more next holds wanted kept none grew store enough grows =
    let whole = updates_in blocks last in
    let size : shown ≡ length whole = omega (arith, none, kept.store.held_is) in
    let last_one = all-sealed blocks last held shown room sealed before loose counts rows kept none in
    let begins : take sealed more ≡ blocks = ap (λ n. take n more) last_one ∙ grew.blocks_begin in
    let same : take sealed blocks ≡ blocks = ap (λ n. take n blocks) last_one ∙ take-length blocks in
    let longer_one : length blocks ≤ length more = omega (arith, ap length grew.blocks_begin, length-take (length blocks) more) in
    let total = length-append (flat_map (λ (b : List Entry). b) blocks) last in
    let sum : length (flat_map (λ b. b) (take sealed blocks)) ≡ length (flat_map (λ b. b) blocks) = ap (λ (l : List (List Entry)). length (flat_map (λ b. b) l)) same in
    let place : IsPlace more next shown sealed before = record {
      sealed_within = omega (arith, last_one, longer_one);
      before_is = kept.place.before_is ∙ ap (λ (l : List (List Entry)). length (flat_map (λ b. b) l)) (same ∙ sym begins);
      before_within = kept.place.before_within;
      next_open = λ less.
          let there : length (get_or more sealed next) ≡ length (get_or more (length blocks) next) = ap (λ n. length (get_or more n next)) last_one in
          omega (arith, grew.grown (omega (arith, less, last_one)), there, size, total, sum, kept.place.before_is);
    } in
    let begun : take shown whole ≡ take shown (updates_in more next) = ap (λ n. take n whole) size ∙ take-length whole ∙ sym grew.begins ∙ ap (λ n. take n (updates_in more next)) (sym size) in
    let n = shown - before in
    let mine : updates_in (take sealed blocks) (take n (get_or blocks sealed last)) ≡ take shown whole = first-shown blocks last shown sealed before kept.place (omega (arith, size)) in
    let now : updates_in (take sealed more) (take n (get_or more sealed next)) ≡ take shown (updates_in more next) = first-shown more next shown sealed before place (omega (arith, store.held_is, enough)) in
    let both : flat_map (λ b. b) (take sealed blocks) ++ take n (get_or blocks sealed last) ≡ flat_map (λ b. b) (take sealed blocks) ++ take n (get_or more sealed next) =
    mine ∙ begun ∙ sym now ∙ ap (λ (l : List (List Entry)). updates_in l (take n (get_or more sealed next))) (begins ∙ sym same) in
    record {
      store = store;
      all_within = enough;
      place = place;
      loose_is = kept.loose_is ∙ ap total_rows (append_cancel_left (flat_map (λ (b : List Entry). b) (take sealed blocks)) (take n (get_or blocks sealed last)) (take n (get_or more sealed next)) both);
      grows = grows;
      counted = subst (λ u. IsCounted u counts rows sealed loose) begun kept.counted;
    }

-- the next of the updates that are to come
pub next-got : {X : Type 0} (xs : List X) (n room : ℕ) (x : X) → take 1 (take room (drop n xs)) ≡ x ∷ [] → slice_get xs n ≡ Some x
next-got [] zero zero x is = cc
next-got [] zero (suc room) x is = cc
next-got [] (suc n) zero x is = cc
next-got [] (suc n) (suc room) x is = cc
next-got (y ∷ xs) zero zero x is = cc
next-got (y ∷ xs) zero (suc room) x is = let same : y ≡ x = cc in ap Some same
next-got (y ∷ xs) (suc n) room x is = next-got xs n room x is

pub some-room : {X : Type 0} (xs : List X) (n room : ℕ) (x : X) → take 1 (take room (drop n xs)) ≡ x ∷ [] → 0 < room
some-room xs n zero x is = cc
some-room xs n (suc room) x is = omega arith

rows-own : (entry : Entry) → rows_in (mark_of entry).table entry ≡ (mark_of entry).rows
rows-own (e.Upd by to columns) = rw (eq-eqb to to refl) refl
rows-own (e.Roll by date) = refl
rows-own (e.Fault by) = refl

rows-apart : (t : ℕ) (entry : Entry) → ((mark_of entry).table ≡ t → ⊥) → rows_in t entry ≡ 0
rows-apart t (e.Upd by to columns) other = elim (to == t) as (λ b. (to == t) ≡ b → cond b (rows_of columns) 0 ≡ 0) [ true ↦ λ h. absurd (other (eqb-true to t h)) | false ↦ λ h. refl ] refl
rows-apart t (e.Roll by date) other = refl
rows-apart t (e.Fault by) other = refl

-- a table's rows and those of one more update fit where all do
pub counts-fit : (updates : List Entry) (entry : Entry) (counts : List ℕ) (rows sealed loose : ℕ) → IsCounted updates counts rows sealed loose → (mark_of entry).table < length counts → get_or counts (mark_of entry).table 0 + (mark_of entry).rows ≤ total_rows updates + entry_rows entry
counts-fit updates entry counts rows sealed loose is t_in =
    omega (arith, is.counts_are (mark_of entry).table t_in, mark-rows entry, sum_by-le-sum_by (rows_in (mark_of entry).table) entry_rows updates (rows_in-le (mark_of entry).table))

counts-pushed : (updates : List Entry) (entry : Entry) (counts : List ℕ) (rows sealed loose sealed' loose' : ℕ) → IsCounted updates counts rows sealed loose → (mark_of entry).table < length counts
    → filled_more (record { blocks = sealed; loose = loose }) (entry_rows entry) ≡ record { blocks = sealed'; loose = loose' }
    → IsCounted (updates ++ entry ∷ []) (set counts (mark_of entry).table (get_or counts (mark_of entry).table 0 + (mark_of entry).rows)) (rows + entry_rows entry) sealed' loose'
counts-pushed updates entry counts rows sealed loose sealed' loose' is t_in more_filled =
    let own = (mark_of entry).table in
    let sum = get_or counts own 0 + (mark_of entry).rows in
    record {
      counts_are = λ t within.
          let here : t < length counts = omega (arith, within, length-set counts own sum) in
          let more : sum_by (rows_in t) (updates ++ entry ∷ []) ≡ sum_by (rows_in t) updates + rows_in t entry = sum_by-append (rows_in t) updates (entry ∷ []) ∙ sum-one (rows_in t) (sum_by (rows_in t) updates) entry in
          elim (cases_eq own t) [
            | inl same ↦
                let got : get_or (set counts own sum) own 0 ≡ sum = get_or-set_same counts own sum 0 t_in in
                let got' : get_or (set counts own sum) t 0 ≡ sum = subst (λ n. get_or (set counts own sum) n 0 ≡ sum) same got in
                let rows' : rows_in t entry ≡ (mark_of entry).rows = subst (λ n. rows_in n entry ≡ (mark_of entry).rows) same (rows-own entry) in
                omega (arith, got', rows', more, ap (λ n. get_or counts n 0) same, is.counts_are t here)
            | inr other ↦
                omega (arith, get_or-set_other counts own t sum 0 (λ e. other (sym e)), rows-apart t entry other, more, is.counts_are t here)
          ];
      rows_are = omega (arith, is.rows_are, sum_by-append entry_rows updates (entry ∷ []), sum-one entry_rows (total_rows updates) entry);
      filled_is = filled_after-push (record { blocks = 0; loose = 0 }) updates entry ∙ ap (λ f. filled_more f (entry_rows entry)) is.filled_is ∙ more_filled;
    }

-- what room is left for, after the next update
pub room-left : {X : Type 0} (xs : List X) (shown room left : ℕ) → left + 1 ≡ room → take left (drop (shown + 1) xs) ≡ drop 1 (take room (drop shown xs))
room-left xs shown room left is =
    let size : room ≡ 1 + left = omega (arith, is) in
    sym (ap (λ n. drop 1 (take n (drop shown xs))) size ∙ drop-take 1 left (drop shown xs) ∙ ap (take left) (drop-drop 1 shown xs))

-- a block that is sealed is followed by a later one
place-sealed : (blocks : List (List Entry)) (last : List Entry) (shown sealed before : ℕ) → IsPlace blocks last shown sealed before → AllByRecursion IsFull blocks → sealed < length blocks → shown + 1 - before ≡ length (get_or blocks sealed last)
    → IsPlace blocks last (shown + 1) (sealed + 1) (shown + 1)
place-sealed blocks last shown sealed before place full less size =
    let open_ = place.next_open less in
    record {
      sealed_within = omega (arith, less);
      before_is = omega (arith, place.before_is, place.before_within, size, cat-more blocks sealed last less);
      before_within = omega arith;
      next_open = λ more. omega (arith, full-some (get_or blocks (sealed + 1) last) (full-got blocks (sealed + 1) last more full));
    }

place-open : (blocks : List (List Entry)) (last : List Entry) (shown sealed before : ℕ) → IsPlace blocks last shown sealed before → (sealed < length blocks → shown + 1 - before < length (get_or blocks sealed last)) → IsPlace blocks last (shown + 1) sealed before
place-open blocks last shown sealed before place open_ = record {
  sealed_within = place.sealed_within;
  before_is = place.before_is;
  before_within = omega (arith, place.before_within);
  next_open = λ less. omega (arith, open_ less, place.before_within);
}

-- the next update is of the next block
next-within : (blocks : List (List Entry)) (last : List Entry) (shown sealed before : ℕ) → IsPlace blocks last shown sealed before → shown < length (updates_in blocks last) → shown + 1 - before ≤ length (get_or blocks sealed last)
next-within blocks last shown sealed before place all =
    elim (cases_eq sealed (length blocks)) [
      | inl same ↦
          let own : length (get_or blocks sealed last) ≡ length last = ap length (ap (λ n. get_or blocks n last) same ∙ get_or-end blocks last) in
          let whole : length (flat_map (λ b. b) (take sealed blocks)) ≡ length (flat_map (λ b. b) blocks) = ap (λ (l : List (List Entry)). length (flat_map (λ b. b) l)) (ap (λ n. take n blocks) same ∙ take-length blocks) in
          omega (arith, own, whole, place.before_is, all, length-append (flat_map (λ (b : List Entry). b) blocks) last)
      | inr other ↦
          let less : sealed < length blocks = omega (arith, other, place.sealed_within) in
          omega (arith, place.next_open less, place.before_within)
    ]

-- the rows of the next block that are shown with one more update
rows-next : (blocks : List (List Entry)) (last : List Entry) (shown sealed before loose : ℕ) (entry : Entry) → IsPlace blocks last shown sealed before → loose ≡ total_rows (take (shown - before) (get_or blocks sealed last)) → shown < length (updates_in blocks last) → slice_get (updates_in blocks last) shown ≡ Some entry
    → total_rows (take (shown + 1 - before) (get_or blocks sealed last)) ≡ loose + entry_rows entry
rows-next blocks last shown sealed before loose entry place loose_is less next =
    let whole = updates_in blocks last in
    let own = get_or blocks sealed last in
    let P = flat_map (λ (b : List Entry). b) (take sealed blocks) in
    let size : before + (shown + 1 - before) ≡ shown + 1 = omega (arith, place.before_within) in
    let more : P ++ take (shown + 1 - before) own ≡ take shown whole ++ entry ∷ [] =
    cut-next blocks last sealed before (shown + 1 - before) place.sealed_within place.before_is (next-within blocks last shown sealed before place less) ∙ ap (λ n. take n whole) size ∙ take_more_got whole shown entry next in
    let was : P ++ take (shown - before) own ≡ take shown whole = first-shown blocks last shown sealed before place (omega (arith, less)) in
    omega (arith, ap total_rows more, ap total_rows was, loose_is, total-push (take shown whole) entry, sum_by-append entry_rows P (take (shown + 1 - before) own), sum_by-append entry_rows P (take (shown - before) own))

-- where an update makes the loose rows a block, it is the last of the next block
seals-next : (blocks : List (List Entry)) (last : List Entry) (shown sealed before : ℕ) → IsPlace blocks last shown sealed before → AllByRecursion IsFull blocks → total_rows last < 1024 → shown < length (updates_in blocks last) → 1024 ≤ total_rows (take (shown + 1 - before) (get_or blocks sealed last))
    → (sealed < length blocks) × (shown + 1 - before ≡ length (get_or blocks sealed last))
seals-next blocks last shown sealed before place full grows all enough =
    let n = shown + 1 - before in
    let within = next-within blocks last shown sealed before place all in
    elim (cases_eq sealed (length blocks)) [
      | inl same ↦
          let own : total_rows (take n (get_or blocks sealed last)) ≡ total_rows (take n last) = ap (λ l. total_rows (take n l)) (ap (λ i. get_or blocks i last) same ∙ get_or-end blocks last) in
          absurd (omega (arith, own, enough, grows, sum_by-take-le entry_rows last n))
      | inr other ↦
          let less : sealed < length blocks = omega (arith, other, place.sealed_within) in
          let own = get_or blocks sealed last in
          let is = full-got blocks sealed last less full in (
            less,
            elim (cases_eq n (length own)) [
              | inl size ↦ size
              | inr short ↦ absurd (omega (arith, enough, is.only_then, total-take n (length own - 1) own (omega (arith, short, within))))
            ],
          )
    ]

-- and where it doesn't, that block goes on
opens-next : (blocks : List (List Entry)) (last : List Entry) (shown sealed before : ℕ) → IsPlace blocks last shown sealed before → AllByRecursion IsFull blocks → shown < length (updates_in blocks last) → total_rows (take (shown + 1 - before) (get_or blocks sealed last)) < 1024
    → sealed < length blocks → shown + 1 - before < length (get_or blocks sealed last)
opens-next blocks last shown sealed before place full all few less =
    let n = shown + 1 - before in
    let own = get_or blocks sealed last in
    let within = next-within blocks last shown sealed before place all in
    elim (cases_eq n (length own)) [
      | inl size ↦
          let whole : total_rows (take n own) ≡ total_rows own = ap (λ i. total_rows (take i own)) size ∙ ap total_rows (take-length own) in
          absurd (omega (arith, whole, few, (full-got blocks sealed last less full).enough))
      | inr short ↦ omega (arith, short, within)
    ]

-- the updates, after the next of them
pub kept-pushed : (blocks : List (List Entry)) (last : List Entry) (held shown room sealed before loose : ℕ) (counts : List ℕ) (rows : ℕ) (entry : Entry) (sealed' before' loose' left : ℕ) → IsKept blocks last held shown room sealed before loose counts rows
    → take 1 (take room (drop shown (updates_in blocks last))) ≡ entry ∷ [] → (mark_of entry).table < length counts → left + 1 ≡ room
    → (1024 ≤ loose + entry_rows entry → (sealed' ≡ sealed + 1) × (before' ≡ shown + 1) × (loose' ≡ 0)) → (loose + entry_rows entry < 1024 → (sealed' ≡ sealed) × (before' ≡ before) × (loose' ≡ loose + entry_rows entry))
    → IsKept blocks last held (shown + 1) left sealed' before' loose' (set counts (mark_of entry).table (get_or counts (mark_of entry).table 0 + (mark_of entry).rows)) (rows + entry_rows entry)
kept-pushed blocks last held shown room sealed before loose counts rows entry sealed' before' loose' left kept next t_in less seals opens =
    let whole = updates_in blocks last in
    let own = get_or blocks sealed last in
    let counts' = set counts (mark_of entry).table (get_or counts (mark_of entry).table 0 + (mark_of entry).rows) in
    let got = next-got whole shown room entry next in
    let there : shown < length whole = omega (arith, kept.all_within, kept.store.held_is, less) in
    let grows = kept.grows (omega (arith, less)) in
    let now = rows-next blocks last shown sealed before loose entry kept.place kept.loose_is there got in
    let counted : (s l : ℕ) → filled_more (record { blocks = sealed; loose = loose }) (entry_rows entry) ≡ record { blocks = s; loose = l } → IsCounted (take (shown + 1) whole) counts' (rows + entry_rows entry) s l =
    λ s l filled_so. subst (λ u. IsCounted u counts' (rows + entry_rows entry) s l) (sym (take_more_got whole shown entry got)) (counts-pushed (take shown whole) entry counts rows sealed loose s l kept.counted t_in filled_so) in
    elim (leb_tells 1024 (loose + entry_rows entry)) [
      | inl tells ↦
          let enough : 1024 ≤ total_rows (take (shown + 1 - before) own) = omega (arith, now, tells.1) in
          let is = seals-next blocks last shown sealed before kept.place kept.store.full grows there enough in
          let s = seals tells.1 in
          let none : (shown + 1) - (shown + 1) ≡ 0 = omega arith in
          rw (s.0, s.1, s.2) (record {
            store = kept.store;
            all_within = omega (arith, kept.all_within, less);
            place = place-sealed blocks last shown sealed before kept.place kept.store.full is.0 is.1;
            loose_is = ap (λ n. total_rows (take n (get_or blocks (sealed + 1) last))) (sym none);
            grows = λ some. grows;
            counted = counted (sealed + 1) 0 (filled-full sealed loose (entry_rows entry) tells.1);
          })
      | inr tells ↦
          let few : total_rows (take (shown + 1 - before) own) < 1024 = omega (arith, now, tells.1) in
          let o = opens tells.1 in
          rw (o.0, o.1, o.2) (record {
            store = kept.store;
            all_within = omega (arith, kept.all_within, less);
            place = place-open blocks last shown sealed before kept.place (opens-next blocks last shown sealed before kept.place kept.store.full there few);
            loose_is = sym now;
            grows = λ some. grows;
            counted = counted sealed (loose + entry_rows entry) (filled-open sealed loose (entry_rows entry) tells.1);
          })
    ]

-- no more blocks are sealed than updates are shown
pub sealed-few : (blocks : List (List Entry)) (last : List Entry) (held shown room sealed before loose : ℕ) (counts : List ℕ) (rows : ℕ) → IsKept blocks last held shown room sealed before loose counts rows → sealed ≤ shown
sealed-few blocks last held shown room sealed before loose counts rows kept =
    omega (arith, full-blocks (take sealed blocks) (all-take IsFull sealed blocks kept.store.full), length-take sealed blocks, kept.place.sealed_within, kept.place.before_is, kept.place.before_within)

-- what holds of each update that is shown holds of those after the sealed blocks
pub first-all : (P : Entry → Type 0) (blocks : List (List Entry)) (last : List Entry) (held shown room sealed before loose : ℕ) (counts : List ℕ) (rows : ℕ) → IsKept blocks last held shown room sealed before loose counts rows → AllByRecursion P (take shown (updates_in blocks last))
    → AllByRecursion P (updates_in (take sealed blocks) (take (shown - before) (get_or blocks sealed last)))
first-all P blocks last held shown room sealed before loose counts rows kept all =
    subst (AllByRecursion P) (sym (first-shown blocks last shown sealed before kept.place (omega (arith, kept.store.held_is, kept.all_within)))) all

pub first-whole : (blocks : List (List Entry)) (last : List Entry) (held shown room sealed before loose : ℕ) (counts : List ℕ) (rows : ℕ) → IsKept blocks last held shown room sealed before loose counts rows
    → updates_in (take sealed blocks) (take (shown - before) (get_or blocks sealed last)) ≡ take shown (updates_in blocks last)
first-whole blocks last held shown room sealed before loose counts rows kept = first-shown blocks last shown sealed before kept.place (omega (arith, kept.store.held_is, kept.all_within))

pub length-shown : (blocks : List (List Entry)) (last : List Entry) (held shown room sealed before loose : ℕ) (counts : List ℕ) (rows : ℕ) → IsKept blocks last held shown room sealed before loose counts rows → length (take shown (updates_in blocks last)) ≡ shown
length-shown blocks last held shown room sealed before loose counts rows kept = omega (arith, kept.store.held_is, kept.all_within, length-take shown (updates_in blocks last))

drop-seam : {X : Type 0} (xs ys : List X) → drop (length xs) (xs ++ ys) ≡ ys
drop-seam [] ys = refl
drop-seam (x ∷ xs) ys = drop-seam xs ys

take-seam : {X : Type 0} (xs ys : List X) → take (length xs) (xs ++ ys) ≡ xs
take-seam [] ys = refl
take-seam (x ∷ xs) ys = ap (λ l. x ∷ l) (take-seam xs ys)

-- what is shown, and what room was made for, where the updates to come are all at the end
pub shown-planned : (shown : ℕ) (whole was entries : List Entry) → whole ≡ was ++ entries → length was ≡ shown → take shown whole ≡ was
shown-planned shown whole was entries is size = ap₂ take (sym size) is ∙ take-seam was entries

pub room-planned : (shown : ℕ) (whole was entries : List Entry) → whole ≡ was ++ entries → length was ≡ shown → take (length entries) (drop shown whole) ≡ entries
room-planned shown whole was entries is size = ap (take (length entries)) (ap₂ drop (sym size) is ∙ drop-seam was entries) ∙ take-length entries

pub enough-planned : (shown holds : ℕ) (more : List (List Entry)) (next was entries : List Entry) → updates_in more next ≡ was ++ entries → length was ≡ shown → IsStore more next holds → shown + length entries ≤ holds
enough-planned shown holds more next was entries is size store = omega (arith, ap length is, length-append was entries, size, store.held_is)
