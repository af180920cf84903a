-- Updates that a block gives back, from one index to another.
use Rattle.std.proofs.Common.{◌≡◌, ℕ, zero, suc, ◌+◌, ◌<◌, ◌≤◌, ◌++◌, List, [], ◌∷◌, length, take, drop, refl, sym, ap, ap₂, ◌∙◌, arith, Some, slice_get, subst, map, get_or}
use Rattle.std.proofs.lemmas.Option.{slice_get_within}
use Rattle.std.specs.List.{AllByRecursion, sum_by}
use Rattle.std.proofs.lemmas.List.{take-append-le, drop-append-le, length-drop, length-take, take-append-drop, get_or-take, get_or_default, length-map}
use Rattle.std.proofs.lemmas.Grind.{flat_map-append}
use Rattle.std.proofs.lemmas.List.Sums.{sum_by-append}
use Rattle.q_values.specs.declared.atom.Atom.{Atom}
use Rattle.q_values.specs.declared.kind.Kind.{Kind}
use Rattle.day_rows.specs.Blocks.{mark_of, columns_with}
use Rattle.day_rows.specs.Day.{IsUpdate, total_rows}
use Rattle.day_rows.specs.declared.block.Mark.{Mark}
use Rattle.day_rows.proofs.DayLemmas.{all-slice_get}
use Rattle.day_rows.specs.Joined.{atoms_in, rows_in, joined}
use Rattle.day_rows.specs.declared.entry.Entry.{Entry}
use Rattle.day_rows.proofs.BlockLemmas.{length-column, take_more_got, rows-marked, sum-one, mark-got, marked, starts-fit}

-- what is read of a column of the first updates
pub part-shown : (t c n from shown : ℕ) (whole : List Entry) → from + n ≤ length (joined t c (take shown whole)) → take n (drop from (joined t c whole)) ≡ take n (drop from (joined t c (take shown whole)))
part-shown t c n from shown whole within =
    let J = joined t c (take shown whole) in
    let K = joined t c (drop shown whole) in
    let split : joined t c whole ≡ J ++ K = ap (joined t c) (sym (take-append-drop shown whole)) ∙ flat_map-append (atoms_in t c) (take shown whole) (drop shown whole) in
    ap (λ l. take n (drop from l)) split ∙ ap (take n) (drop-append-le from J K (omega (arith, within))) ∙ take-append-le n (drop from J) K (omega (arith, within, length-drop from J))

columns_with-agree : (i : ℕ) (kinds : List Kind) (f g : ℕ → List Atom) → ((c : ℕ) → c < length kinds → f (i + c) ≡ g (i + c)) → columns_with i kinds f ≡ columns_with i kinds g
columns_with-agree i [] f g same = refl
columns_with-agree i (kind ∷ kinds) f g same =
    let here : i + 0 ≡ i = omega arith in
    let first : f i ≡ g i = rw here at (same 0 (omega arith)) in
    let later : (c : ℕ) → c < length kinds → f ((i + 1) + c) ≡ g ((i + 1) + c) = λ c c_in. let next : (i + 1) + c ≡ i + suc c = omega arith in rw next (same (suc c) (omega (arith, c_in))) in
    ap₂ (λ a l. record { kind = kind; atoms = a } ∷ l) first (columns_with-agree (i + 1) kinds f g later)

-- the rows of an update among the first, read from all columns and from theirs
pub part-first : (tables : List (List Kind)) (whole : List Entry) (to t start rows : ℕ) (kinds : List Kind) → AllByRecursion (IsUpdate tables) (take to whole) → slice_get tables t ≡ Some kinds → start + rows ≤ sum_by (rows_in t) (take to whole)
    → columns_with 0 kinds (λ c. take rows (drop start (joined t c whole))) ≡ columns_with 0 kinds (λ c. take rows (drop start (joined t c (take to whole))))
part-first tables whole to t start rows kinds all known fits =
    columns_with-agree 0 kinds (λ c. take rows (drop start (joined t c whole))) (λ c. take rows (drop start (joined t c (take to whole))))
    (λ c c_in. let here : 0 + c ≡ c = omega arith in rw here (part-shown t c rows start to whole (omega (arith, fits, length-column tables t c kinds (take to whole) all known c_in))))

-- the rows of a table up to an update and with it are among those of all updates
pub starts-within : (updates : List Entry) (i : ℕ) (entry : Entry) → slice_get updates i ≡ Some entry → sum_by (rows_in (mark_of entry).table) (take i updates) + (mark_of entry).rows ≤ sum_by (rows_in (mark_of entry).table) updates
starts-within updates i entry is =
    let t : ℕ = (mark_of entry).table in
    let more = ap (sum_by (rows_in t)) (take_more_got updates i entry is) ∙ sum_by-append (rows_in t) (take i updates) (entry ∷ []) ∙ sum-one (rows_in t) (sum_by (rows_in t) (take i updates)) entry in
    let whole = ap (sum_by (rows_in t)) (sym (take-append-drop (i + 1) updates)) ∙ sum_by-append (rows_in t) (take (i + 1) updates) (drop (i + 1) updates) in
    omega (arith, more, whole, rows-marked entry)

-- an update of the first ones
pub got-first : (whole : List Entry) (to i : ℕ) (entry : Entry) → i < to → slice_get whole i ≡ Some entry → slice_get (take to whole) i ≡ Some entry
got-first [] to i entry i_in is = cc
got-first (x ∷ xs) zero i entry i_in is = absurd (omega (arith, i_in))
got-first (x ∷ xs) (suc to) zero entry i_in is = is
got-first (x ∷ xs) (suc to) (suc i) entry i_in is = got-first xs to i entry (omega (arith, i_in)) is

-- a mark of one of the first updates: which update that is, that its table is there, and what rows come before it
pub record IsMarkOf (tables : List (List Kind)) (updates : List Entry) (i : ℕ) (mark : Mark) : Type 0 where
  pub entry : Entry
  pub got : slice_get updates i ≡ Some entry
  pub same : mark ≡ mark_of entry
  pub within : mark.table < length tables
  pub fits : sum_by (rows_in mark.table) (take i updates) + mark.rows ≤ sum_by (rows_in mark.table) updates
  pub bounded : sum_by (rows_in mark.table) (take i updates) + mark.rows ≤ total_rows updates

pub mark-first : (tables : List (List Kind)) (whole : List Entry) (marks : List Mark) (to i : ℕ) (mark : Mark) → marks ≡ map mark_of whole → i < to → to ≤ length whole → mark ≡ get_or marks i mark → AllByRecursion (IsUpdate tables) (take to whole) → IsMarkOf tables (take to whole) i mark
mark-first tables whole marks to i mark are i_in within is all =
    let U : List Entry = take to whole in
    let there : i < length marks = omega (arith, i_in, within, ap length are, length-map whole mark_of) in
    let found = mark-got whole marks i mark are there in
    let got : slice_get U i ≡ Some found.0 = got-first whole to i found.0 i_in found.1 in
    let same : mark ≡ mark_of found.0 = is ∙ found.2 in
    let own = marked tables found.0 (all-slice_get (IsUpdate tables) U i found.0 got all) in
    record {
      entry = found.0;
      got = got;
      same = same;
      within = omega (arith, ap (λ (m : Mark). m.table) same, slice_get_within tables (mark_of found.0).table own.0 own.1);
      fits = subst (λ (m : Mark). sum_by (rows_in m.table) (take i U) + m.rows ≤ sum_by (rows_in m.table) U) (sym same) (starts-within U i found.0 got);
      bounded = subst (λ (m : Mark). sum_by (rows_in m.table) (take i U) + m.rows ≤ total_rows U) (sym same) (starts-fit U i found.0 got);
    }

-- a mark among the first ones
pub mark-read : (marks : List Mark) (n i : ℕ) (none : Mark) → i < length (take n marks) → get_or (take n marks) i none ≡ get_or marks i (get_or (take n marks) i none)
mark-read marks n i none i_in = get_or-take n marks i none (omega (arith, i_in, length-take n marks)) ∙ get_or_default marks i none (get_or (take n marks) i none) (omega (arith, i_in, length-take n marks))

-- the updates from an index on, with the next
pub from-pushed : (updates : List Entry) (from i : ℕ) (entry : Entry) → from ≤ i → slice_get updates i ≡ Some entry → drop from (take (i + 1) updates) ≡ drop from (take i updates) ++ entry ∷ []
from-pushed updates from i entry after is =
    ap (drop from) (take_more_got updates i entry is) ∙ drop-append-le from (take i updates) (entry ∷ []) (omega (arith, after, length-take i updates, slice_get_within updates i entry is))
