-- The entries of a plant from an index on.
use Rattle.std.proofs.Common.{◌≡◌, ℕ, ℤ, zero, suc, ◌+◌, ◌-◌, ◌<◌, ◌≤◌, min, ◌∷◌, ◌++◌, [], List, length, get_or, take, drop, map, refl, sym, ap, ap₂, ◌∙◌, arith, append_assoc}
use Rattle.std.specs.List.{flat_map}
use Rattle.std.proofs.Math.Seq.{drop-append-add, take-append-add}
use Rattle.std.proofs.lemmas.List.{length-append, length-take, length-drop, drop-append-le, take-append-le, drop-take, drop-drop, drop_min, drop_more, take_all}
use Rattle.q_values.specs.declared.kind.Kind.{Kind}
use Rattle.day_rows.proofs.BlockLemmas.{all-take}
use Rattle.day_rows.proofs.Lists.{drop-append, flat_map_more}
use Rattle.day_rows.specs.Chronicle.{date_of, KeepsDate}
use Rattle.day_rows.specs.Day.{Day}
use Rattle.day_rows.specs.declared.entry.Entry.{Entry}
use Rattle.day_rows.specs.declared.entry.Entry.TheVariants as e
use Rattle.plant_memory.specs.Faults.{woven, shortened, IsPlaceOf}
use Rattle.plant_memory.specs.History.{Past, chronicle_of, entries_of, Follow}
use Rattle.plant_memory.specs.declared.faults.Mark.{Mark}
use Rattle.plant_memory.specs.declared.weaving.Place.{Place}
use Rattle.plant_memory.proofs.FaultLemmas.{length-woven}
use Rattle.plant_memory.proofs.HistoryLemmas.{day_keeps, date_of-kept, date_of-roll, ended_length}

-- the entries from an index before the next fault on
pub woven-dropped : (m : Mark) (ms : List Mark) (us : List Entry) (since : ℕ) → since ≤ length (take m.gap us) → drop since (woven (m ∷ ms) us) ≡ woven (shortened since (m ∷ ms)) (drop since us)
woven-dropped m ms us since within =
    let gap : m.gap ≡ since + (m.gap - since) = omega (arith, within, length-take m.gap us) in
    let before : drop since (take m.gap us) ≡ take (m.gap - since) (drop since us) = ap (λ n. drop since (take n us)) gap ∙ drop-take since (m.gap - since) us in
    let after : drop m.gap us ≡ drop (m.gap - since) (drop since us) = ap (λ n. drop n us) gap ∙ sym (drop-drop (m.gap - since) since us) in
    drop-append-le since (take m.gap us) (e.Fault m.by ∷ woven ms (drop m.gap us)) within ∙ ap₂ (λ a b. a ++ e.Fault m.by ∷ woven ms b) before after

-- the entries from an index after the next fault on
pub woven-passed : (m : Mark) (ms : List Mark) (us : List Entry) (since gap : ℕ) → gap ≡ min m.gap (length us) → gap < since → drop since (woven (m ∷ ms) us) ≡ drop (since - (gap + 1)) (woven ms (drop gap us))
woven-passed m ms us since gap is past =
    let size : since ≡ length (take m.gap us) + suc (since - (gap + 1)) = omega (arith, is, past, length-take m.gap us) in
    ap (λ n. drop n (woven (m ∷ ms) us)) size
    ∙ drop-append-add (take m.gap us) (e.Fault m.by ∷ woven ms (drop m.gap us)) (suc (since - (gap + 1)))
    ∙ ap (λ l. drop (since - (gap + 1)) (woven ms l)) (sym (drop_min m.gap us) ∙ ap (λ n. drop n us) (sym is))

-- how far a look over the faults has come: `i` of them and `updates` updates are passed, and `since` more entries are to be
pub record HasPassed (marks : List Mark) (count index i updates since : ℕ) : Type 0 where
  pub among : updates ≤ count
  pub left : since + updates + i ≤ count + length marks
  pub same : (us : List Entry) → length us ≡ count → drop index (woven marks us) ≡ drop since (woven (drop i marks) (drop updates us))

pub passed-more : (marks : List Mark) (count index i updates since gap : ℕ) (m : Mark) → i < length marks → m ≡ get_or marks i m → HasPassed marks count index i updates since → gap ≡ min m.gap (count - updates) → gap < since
    → HasPassed marks count index (i + 1) (updates + gap) (since - (gap + 1))
passed-more marks count index i updates since gap m i_in is h gap_is past = record {
  among = omega (arith, h.among, gap_is);
  left = omega (arith, h.left, past);
  same = λ us size.
      let next : drop i marks ≡ m ∷ drop (i + 1) marks = drop_more marks i m i_in ∙ ap (λ x. x ∷ drop (i + 1) marks) (sym is) in
      let own : gap ≡ min m.gap (length (drop updates us)) = omega (arith, gap_is, size, length-drop updates us) in
      h.same us size ∙ ap (λ ms. drop since (woven ms (drop updates us))) next ∙ woven-passed m (drop (i + 1) marks) (drop updates us) since gap own past
      ∙ ap (λ l. drop (since - (gap + 1)) (woven (drop (i + 1) marks) l)) (drop-drop gap updates us);
}

pub placed-before : (marks : List Mark) (count index i updates since gap : ℕ) (m : Mark) (place : Place) → i < length marks → m ≡ get_or marks i m → HasPassed marks count index i updates since → gap ≡ min m.gap (count - updates) → since ≤ gap
    → place ≡ record { faults = i; updates = updates + since; since = since } → IsPlaceOf marks count index place
placed-before marks count index i updates since gap m place i_in is h gap_is within place_is = rw place_is (record {
  faults_within = omega (arith, i_in);
  updates_within = omega (arith, h.among, gap_is, within);
  rest = λ us size.
      let next : drop i marks ≡ m ∷ drop (i + 1) marks = drop_more marks i m i_in ∙ ap (λ x. x ∷ drop (i + 1) marks) (sym is) in
      let few : since ≤ length (take m.gap (drop updates us)) = omega (arith, gap_is, within, size, length-drop updates us, length-take m.gap (drop updates us)) in
      h.same us size ∙ ap (λ ms. drop since (woven ms (drop updates us))) next ∙ woven-dropped m (drop (i + 1) marks) (drop updates us) since few
      ∙ ap₂ (λ ms l. woven (shortened since ms) l) (sym next) (drop-drop since updates us);
})

-- one more of the first elements
pub next-moved : {X : Type 0} (xs ys : List X) (i : ℕ) (x : X) → drop i xs ≡ x ∷ ys → (take (i + 1) xs ≡ take i xs ++ x ∷ []) × (drop (i + 1) xs ≡ ys)
next-moved [] ys zero x is = cc
next-moved [] ys (suc i) x is = cc
next-moved (y ∷ xs) ys zero x is = let same : y ≡ x = cc in let rest : xs ≡ ys = cc in (ap (λ z. z ∷ []) same, rest)
next-moved (y ∷ xs) ys (suc i) x is =
    let more : suc i + 1 ≡ suc (i + 1) = omega arith in
    let h = next-moved xs ys i x is in
    rw more (ap (λ l. y ∷ l) h.0, h.1)

pub chronicle-flat : (pasts : List Past) (current : List Entry) → chronicle_of pasts current ≡ flat_map entries_of pasts ++ current
chronicle-flat [] current = refl
chronicle-flat (past ∷ pasts) current =
    let own = woven past.marks past.day.updates in
    let roll = e.Roll past.by past.next in
    ap (λ l. own ++ roll ∷ l) (chronicle-flat pasts current)
    ∙ sym (append_assoc own (roll ∷ []) (flat_map entries_of pasts ++ current))
    ∙ sym (append_assoc (entries_of past) (flat_map entries_of pasts) current)

pub length-ended : (pasts : List Past) → ended_length pasts ≡ length (flat_map entries_of pasts)
length-ended [] = refl
length-ended (past ∷ pasts) =
    omega (arith, length-ended pasts, length-append (entries_of past) (flat_map entries_of pasts), length-append (woven past.marks past.day.updates) (e.Roll past.by past.next ∷ []))

pub length-entries_of : (past : Past) → length (entries_of past) ≡ length past.day.updates + length past.marks + 1
length-entries_of past = omega (arith, length-append (woven past.marks past.day.updates) (e.Roll past.by past.next ∷ []), length-woven past.marks past.day.updates)

-- the number of entries of the first dates, and of one more
pub length-dated : (pasts : List Past) (i : ℕ) (past : Past) → i < length pasts → past ≡ get_or pasts i past → length (flat_map entries_of (take (i + 1) pasts)) ≡ length (flat_map entries_of (take i pasts)) + length (entries_of past)
length-dated pasts i past i_in is = ap length (flat_map_more entries_of pasts i past i_in is) ∙ length-append (flat_map entries_of (take i pasts)) (entries_of past)

-- the entries from an index on, of the first dates and one more
pub dated-more : (pasts : List Past) (i from : ℕ) (past : Past) → i < length pasts → past ≡ get_or pasts i past → drop from (flat_map entries_of (take (i + 1) pasts)) ≡ drop from (flat_map entries_of (take i pasts)) ++ drop (from - length (flat_map entries_of (take i pasts))) (entries_of past)
dated-more pasts i from past i_in is = ap (drop from) (flat_map_more entries_of pasts i past i_in is) ∙ drop-append from (flat_map entries_of (take i pasts)) (entries_of past)

-- the entries of all dates from an index on
pub chronicle-dropped : (pasts : List Past) (current : List Entry) (n from : ℕ) → n ≡ length pasts → drop from (chronicle_of pasts current) ≡ drop from (flat_map entries_of (take n pasts)) ++ drop (from - length (flat_map entries_of (take n pasts))) current
chronicle-dropped pasts current n from is =
    let all : take n pasts ≡ pasts = take_all n pasts (omega (arith, is)) in
    ap (drop from) (chronicle-flat pasts current) ∙ drop-append from (flat_map entries_of pasts) current
    ∙ ap (λ (l : List Past). drop from (flat_map entries_of l) ++ drop (from - length (flat_map entries_of l)) current) (sym all)

-- the date before an index, which lies on the date with the index `k`
pub date_of-before : (kinds : List (List Kind)) (first other : ℤ) (pasts : List Past) (current : Day) (marks : List Mark) (k from : ℕ) → Follow kinds first pasts current → k ≤ length pasts → length (flat_map entries_of (take k pasts)) ≤ from
    → (k < length pasts → from < length (flat_map entries_of (take (k + 1) pasts))) → date_of first (take from (chronicle_of pasts (woven marks current.updates))) ≡ get_or (first ∷ map (λ past. past.next) pasts) k other
date_of-before kinds first other [] current marks zero from h k_in after within =
    date_of-kept first (take from (woven marks current.updates)) (all-take KeepsDate from (woven marks current.updates) (day_keeps current marks h.2))
date_of-before kinds first other [] current marks (suc k) from h k_in after within = absurd (omega (arith, k_in))
date_of-before kinds first other (past ∷ pasts) current marks zero from h k_in after within =
    let own = woven past.marks past.day.updates in
    let few : from ≤ length own = omega (arith, within (omega arith), length-append (entries_of past) [], length-append own (e.Roll past.by past.next ∷ [])) in
    ap (date_of first) (take-append-le from own (e.Roll past.by past.next ∷ chronicle_of pasts (woven marks current.updates)) few)
    ∙ date_of-kept first (take from own) (all-take KeepsDate from own (day_keeps past.day past.marks h.2))
date_of-before kinds first other (past ∷ pasts) current marks (suc k) from h k_in after within =
    let own = woven past.marks past.day.updates in
    let later = chronicle_of pasts (woven marks current.updates) in
    let mine = length-append own (e.Roll past.by past.next ∷ []) in
    let next : suc k + 1 ≡ suc (k + 1) = omega arith in
    let rest = from - length (entries_of past) in
    let past_it : length (entries_of past) ≤ from = omega (arith, after, length-append (entries_of past) (flat_map entries_of (take k pasts))) in
    let size : from ≡ length own + suc rest = omega (arith, past_it, mine) in
    let after' : length (flat_map entries_of (take k pasts)) ≤ rest = omega (arith, after, length-append (entries_of past) (flat_map entries_of (take k pasts))) in
    let within' : k < length pasts → rest < length (flat_map entries_of (take (k + 1) pasts)) = λ more. omega (arith, rw next at (within (omega (arith, more))), length-append (entries_of past) (flat_map entries_of (take (k + 1) pasts)), past_it) in
    ap (date_of first) (ap (λ n. take n (own ++ e.Roll past.by past.next ∷ later)) size ∙ take-append-add own (e.Roll past.by past.next ∷ later) (suc rest))
    ∙ date_of-roll first past.next past.by own (take rest later) (day_keeps past.day past.marks h.2)
    ∙ date_of-before kinds past.next other pasts current marks k rest h.4 (omega (arith, k_in)) after' within'
