-- Ranges of a file in memory, and files by their number.
use Rattle.std.proofs.Common.{◌≡◌, ◌≢◌, ◌⊎◌, inl, inr, ⊎_elim, ◌<◌, ◌≤◌, ◌+◌, ◌-◌, ℕ, zero, suc, List, [], ◌∷◌, ◌++◌, length, take, drop, slice_index, slice_get, Some, map, get_or, set, refl, sym, ◌∙◌, ap, subst, arith, append_assoc, length-append, length-take, length-drop}
use Rattle.std.proofs.lemmas.Bool.{cases_eq, cases_lt}
use Rattle.std.proofs.lemmas.Bool.Decides.{nat_tests}
use Rattle.std.proofs.lemmas.List.{take_at, drop_at, drop-drop, take_more, drop_more, take_all, map_push, length-set}
use Rattle.std.proofs.lemmas.Grind.{take-set_at, drop-set_at}
use Rattle.std.proofs.lemmas.Option.{get_or_from_slice_get}
use Rattle.outside_api.specs.Disk.{IsBeside, IsDurableAt, IsKeptAt, IsTorn, put, FileState, empty_file, kept_file}
use Rattle.outside_api.specs.declared.range.WrittenRange.{WrittenRange}
use Rattle.outside_api.specs.declared.range.RangeState.TheVariants.{Kept}
use Rattle.std.specs.List.{AllByRecursion}
use Rattle.outside_mem.specs.MemFile.{file_in, ChangesFile, IsFirst, IsAbsent, IsAbsentBefore, IsChosen, IsLeft, IsLeftSo, IsRangeLeft}
use Rattle.outside_mem.specs.Ranges.{IsInDoubt, IsNotKept}
use Rattle.outside_mem.specs.MemDisk.{AreLeft}
use Rattle.outside_mem.specs.declared.calling.Leaving.{Leaving}
use Rattle.outside_mem.specs.declared.calling.Leaving.TheVariants.{Whole, Torn, Shortest, Range}
use Rattle.outside_mem.specs.declared.calling.RangeLeft.{RangeLeft}
use Rattle.outside_mem.specs.declared.files.Numbered.{Numbered}

all_push : {X : Type 0} (P : X → Type 0) (xs : List X) (x : X) → AllByRecursion P (xs ++ x ∷ []) → AllByRecursion P xs × P x
all_push P [] x all = (tt, all.0)
all_push P (y ∷ xs) x all = let rest = all_push P xs x all.1 in ((all.0, rest.0), rest.1)

pub all_at : {X : Type 0} (P : X → Type 0) (xs : List X) (i : ℕ) (d : X) → i < length xs → AllByRecursion P xs → P (get_or xs i d)
all_at P [] i d less all = absurd (omega arith)
all_at P (x ∷ xs) zero d less all = all.0
all_at P (x ∷ xs) (suc i) d less all = all_at P xs i d (omega arith) all.1

pub all_drop : {X : Type 0} (P : X → Type 0) (xs : List X) (n : ℕ) → AllByRecursion P xs → AllByRecursion P (drop n xs)
all_drop P xs zero all = all
all_drop P [] (suc n) all = tt
all_drop P (x ∷ xs) (suc n) all = all_drop P xs n all.1

pub all_map : {X : Type 0} (P : X → Type 0) (f : X → X) (xs : List X) → ((x : X) → P x → P (f x)) → AllByRecursion P xs → AllByRecursion P (map f xs)
all_map P f [] step all = tt
all_map P f (x ∷ xs) step all = (step x all.0, all_map P f xs step all.1)

-- a place before a range or after it, or within it
pub beside_or : (k : ℕ) (range : WrittenRange) → IsBeside k range ⊎ ((range.at ≤ k) × (k < range.at + range.size))
beside_or k range = elim (cases_lt k range.at) [
  | inl low ↦ inl (inl low)
  | inr high ↦ elim (cases_lt k (range.at + range.size)) [
    | inl within ↦ inr (high, within)
    | inr after ↦ inl (inr after)
  ]
]

not_both : (k : ℕ) (range : WrittenRange) → IsBeside k range → range.at ≤ k → k < range.at + range.size → ⊥
not_both k range (inl low) le less = absurd (omega (arith, low, le))
not_both k range (inr high) le less = absurd (omega (arith, high, less))

-- lists of one length agree beyond their end
pub same_beyond : (xs ys : List ℕ) (k : ℕ) → length xs ≡ length ys → length xs ≤ k → slice_index xs k ≡ slice_index ys k
same_beyond [] [] k size le = refl
same_beyond [] (y ∷ ys) k size le = absurd (omega arith)
same_beyond (x ∷ xs) [] k size le = absurd (omega arith)
same_beyond (x ∷ xs) (y ∷ ys) zero size le = absurd (omega arith)
same_beyond (x ∷ xs) (y ∷ ys) (suc k) size le = same_beyond xs ys k (omega arith) (omega arith)

module _ (k : ℕ) where
  kept_last : (ranges : List WrittenRange) (range : WrittenRange) → IsKeptAt k (ranges ++ range ∷ []) → IsKeptAt k ranges ⊎ ((range.state ≡ Kept) × (range.at ≤ k) × (k < range.at + range.size))
  kept_last [] range (inl here) = inr here
  kept_last [] range (inr none) = absurd none
  kept_last (first ∷ ranges) range (inl here) = inl (inl here)
  kept_last (first ∷ ranges) range (inr there) = elim (kept_last ranges range there) [
    | inl before ↦ inl (inr before)
    | inr last ↦ inr last
  ]

  kept_before : (ranges : List WrittenRange) (range : WrittenRange) → IsBeside k range → IsKeptAt k (ranges ++ range ∷ []) → IsKeptAt k ranges
  kept_before ranges range beside kept = elim (kept_last ranges range kept) [
    | inl before ↦ before
    | inr last ↦ absurd (not_both k range beside last.1 last.2)
  ]

  durable_before : (ranges : List WrittenRange) (range : WrittenRange) → IsBeside k range → IsDurableAt k (ranges ++ range ∷ []) → IsDurableAt k ranges
  durable_before [] range beside durable = tt
  durable_before (first ∷ ranges) range beside durable =
      (⊎_elim (λ b. inl b) (λ kept. inr (⊎_elim (λ here. inl here) (λ there. inr (kept_before ranges range beside there)) kept)) durable.0, durable_before ranges range beside durable.1)

  durable_here : (ranges : List WrittenRange) (range : WrittenRange) → range.at ≤ k → k < range.at + range.size → IsDurableAt k (ranges ++ range ∷ []) → range.state ≡ Kept
  durable_here [] range le less durable =
      ⊎_elim (λ b. absurd (not_both k range b le less)) (λ kept. ⊎_elim (λ here. here) (λ there. absurd there) kept) durable.0
  durable_here (first ∷ ranges) range le less durable = durable_here ranges range le less durable.1

  doubt_last : (ranges : List WrittenRange) (range : WrittenRange) → IsInDoubt k (ranges ++ range ∷ []) → (IsNotKept range × (range.at ≤ k) × (k < range.at + range.size)) ⊎ (IsBeside k range × IsInDoubt k ranges)
  doubt_last [] range (inl here) = inl (here.0, here.1, here.2)
  doubt_last [] range (inr none) = absurd none
  doubt_last (first ∷ ranges) range (inl here) =
      let both = all_push (IsBeside k) ranges range here.3 in inr (both.1, inl (here.0, here.1, here.2, both.0))
  doubt_last (first ∷ ranges) range (inr there) = elim (doubt_last ranges range there) [
    | inl last ↦ inl last
    | inr before ↦ inr (before.0, inr before.1)
  ]

  -- where a range holds the place, a later one is durable, or it is itself
  durable_at : (ranges : List WrittenRange) (i : ℕ) (d : WrittenRange) → i < length ranges → IsDurableAt k ranges → (get_or ranges i d).at ≤ k → k < (get_or ranges i d).at + (get_or ranges i d).size
      → ((get_or ranges i d).state ≡ Kept) ⊎ IsKeptAt k (drop (suc i) ranges)
  durable_at [] i d few durable le less = absurd (omega arith)
  durable_at (first ∷ ranges) zero d few durable le less = ⊎_elim (λ b. absurd (not_both k first b le less)) (λ kept. kept) durable.0
  durable_at (first ∷ ranges) (suc i) d few durable le less = durable_at ranges i d (omega arith) durable.1 le less

  -- one range more was filled, or put back
  module _ (ranges : List WrittenRange) (i : ℕ) (d : WrittenRange) (old new kept : List ℕ) (byte : ℕ) (more : i < length ranges) (size : length new ≡ length old) (whole : length old ≡ length kept) where
    abbrev range : WrittenRange
    range = get_or ranges i d

    front : take (i + 1) ranges ≡ take i ranges ++ range ∷ []
    front = take_more ranges i d more

    pub durable_on : (IsBeside k (get_or ranges i d) → slice_index new k ≡ slice_index old k)
        → ((get_or ranges i d).state ≡ Kept → k < length new → (get_or ranges i d).at ≤ k → k < (get_or ranges i d).at + (get_or ranges i d).size → slice_index new k ≡ slice_index kept k)
        → (IsDurableAt k (take i ranges) → slice_index old k ≡ slice_index kept k)
        → IsDurableAt k (take (i + 1) ranges) → slice_index new k ≡ slice_index kept k
    durable_on others back before durable =
        let here = subst (λ (l : List WrittenRange). IsDurableAt k l) front durable in
        elim (beside_or k range) [
          | inl beside ↦ others beside ∙ before (durable_before (take i ranges) range beside here)
          | inr within ↦ elim (cases_lt k (length new)) [
            | inl less ↦ back (durable_here (take i ranges) range within.0 within.1 here) less within.0 within.1
            | inr beyond ↦ same_beyond new kept k (size ∙ whole) beyond
          ]
        ]

    pub doubt_on : (IsBeside k (get_or ranges i d) → slice_index new k ≡ slice_index old k)
        → (IsNotKept (get_or ranges i d) → k < length new → (get_or ranges i d).at ≤ k → k < (get_or ranges i d).at + (get_or ranges i d).size → slice_index new k ≡ byte)
        → (k < length old → IsInDoubt k (take i ranges) → slice_index old k ≡ byte)
        → k < length new → IsInDoubt k (take (i + 1) ranges) → slice_index new k ≡ byte
    doubt_on others torn before less doubt = elim (doubt_last (take i ranges) range (subst (λ (l : List WrittenRange). IsInDoubt k l) front doubt)) [
      | inl last ↦ torn last.0 less last.1 last.2
      | inr rest ↦ others rest.0 ∙ before (subst (λ (m : ℕ). k < m) size less) rest.1
    ]

    pub kept_on : ((slice_index new k ≡ slice_index old k) ⊎ (slice_index new k ≡ slice_index kept k))
        → ((get_or ranges i d).state ≡ Kept → k < length new → (get_or ranges i d).at ≤ k → k < (get_or ranges i d).at + (get_or ranges i d).size → slice_index new k ≡ slice_index kept k)
        → (k < length old → IsKeptAt k (take i ranges) → slice_index old k ≡ slice_index kept k)
        → k < length new → IsKeptAt k (take (i + 1) ranges) → slice_index new k ≡ slice_index kept k
    kept_on each back before less at = elim (kept_last (take i ranges) range (subst (λ (l : List WrittenRange). IsKeptAt k l) front at)) [
      | inl first ↦ ⊎_elim (λ same. same ∙ before (subst (λ (m : ℕ). k < m) size less) first) (λ put_back. put_back) each
      | inr last ↦ back last.0 less last.1 last.2
    ]

  pub each_on : (old mid new kept : List ℕ) → (slice_index mid k ≡ slice_index old k) ⊎ (slice_index mid k ≡ slice_index kept k) → (slice_index new k ≡ slice_index mid k) ⊎ (slice_index new k ≡ slice_index kept k)
      → (slice_index new k ≡ slice_index old k) ⊎ (slice_index new k ≡ slice_index kept k)
  each_on old mid new kept before (inr back) = inr back
  each_on old mid new kept (inl was) (inl same) = inl (same ∙ was)
  each_on old mid new kept (inr was) (inl same) = inr (same ∙ was)

-- no range so far is durable
pub none_on : (ranges : List WrittenRange) (i : ℕ) (d : WrittenRange) → i < length ranges → AllByRecursion IsNotKept (take (i + 1) ranges) → AllByRecursion IsNotKept (take i ranges) × IsNotKept (get_or ranges i d)
none_on ranges i d more all =
    all_push IsNotKept (take i ranges) (get_or ranges i d) (subst (λ (l : List WrittenRange). AllByRecursion IsNotKept l) (take_more ranges i d more) all)

-- one of the ranges was left so
pub left_so : (index : ℕ) (left : RangeLeft) (f : FileState) (range : WrittenRange) (new : List ℕ) → index < length f.ranges → range ≡ get_or f.ranges index range → IsNotKept range
    → length new ≡ length f.bytes → ((k : ℕ) → IsBeside k range → slice_index new k ≡ slice_index f.bytes k)
    → ((k : ℕ) → k < length new → IsKeptAt k (drop (index + 1) f.ranges) → slice_index new k ≡ slice_index f.bytes k)
    → (AllByRecursion IsNotKept (drop (index + 1) f.ranges) → IsRangeLeft left range.at range.size f.bytes new) → IsLeftSo index left f new
left_so index left f range new few is not_kept size others kept so =
    let at : (r : WrittenRange) → slice_get f.ranges index ≡ Some r → range ≡ r = λ r get. is ∙ get_or_from_slice_get f.ranges index r range get in
    let next : suc index ≡ index + 1 = omega arith in
    let after : drop (suc index) f.ranges ≡ drop (index + 1) f.ranges = ap (λ (n : ℕ). drop n f.ranges) next in
    record {
      size = size;
      others = λ k durable. elim (beside_or k range) [
        | inl beside ↦ others k beside
        | inr within ↦ elim (cases_lt k (length new)) [
          | inl less ↦ ⊎_elim (λ itself. absurd (not_kept (ap (λ (r : WrittenRange). r.state) is ∙ itself))) (λ later. kept k less (subst (λ (l : List WrittenRange). IsKeptAt k l) after later))
              (durable_at k f.ranges index range few durable (subst (λ (r : WrittenRange). r.at ≤ k) is within.0) (subst (λ (r : WrittenRange). k < r.at + r.size) is within.1))
          | inr beyond ↦ same_beyond new f.bytes k size beyond
        ]
      ];
      so = λ r get apart last. subst (λ (r : WrittenRange). IsRangeLeft left r.at r.size f.bytes new) (at r get) (so last);
      kept = λ r get itself. absurd (not_kept (ap (λ (r : WrittenRange). r.state) (at r get) ∙ itself));
      none = λ le. absurd (omega arith);
    }

-- the same by the lists that a call was given
pub left_at : (index : ℕ) (left : RangeLeft) (f : FileState) (range : WrittenRange) (later : List WrittenRange) (bytes new : List ℕ) → index < length f.ranges → range ≡ get_or f.ranges index range → later ≡ drop (index + 1) f.ranges → bytes ≡ f.bytes → IsNotKept range
    → length new ≡ length f.bytes → ((k : ℕ) → IsBeside k range → slice_index new k ≡ slice_index bytes k)
    → ((k : ℕ) → k < length new → IsKeptAt k later → slice_index new k ≡ slice_index bytes k)
    → (AllByRecursion IsNotKept later → IsRangeLeft left range.at range.size bytes new) → IsLeftSo index left f new
left_at index left f range later bytes new few is last whole not_kept size others kept so =
    left_so index left f range new few is not_kept size (λ k beside. others k beside ∙ ap (λ (l : List ℕ). slice_index l k) whole)
    (λ k less at. kept k less (subst (λ (l : List WrittenRange). IsKeptAt k l) (sym last) at) ∙ ap (λ (l : List ℕ). slice_index l k) whole)
    (λ none. subst (λ (l : List ℕ). IsRangeLeft left range.at range.size l new) whole (so (subst (λ (l : List WrittenRange). AllByRecursion IsNotKept l) (sym last) none)))

-- one range more in its next state
pub mark_on : (f : WrittenRange → WrittenRange) (old now : List WrittenRange) (i : ℕ) (d y : WrittenRange) → i < length now → length now ≡ length old → take i now ≡ map f (take i old) → drop i now ≡ drop i old → y ≡ f (get_or now i d)
    → (take (i + 1) (set now i y) ≡ map f (take (i + 1) old)) × (drop (i + 1) (set now i y) ≡ drop (i + 1) old) × (length (set now i y) ≡ length old)
mark_on f old now i d y less size front back is =
    let less' : i < length old = omega (arith, less, size) in
    let both : get_or now i d ∷ drop (i + 1) now ≡ get_or old i d ∷ drop (i + 1) old = sym (drop_more now i d less) ∙ back ∙ drop_more old i d less' in
    let head : get_or now i d ≡ get_or old i d = ap (λ (l : List WrittenRange). get_or l 0 d) both in
    let size' : length (set now i y) ≡ length now = length-set now i y in (
      take-set_at now i (i + 1) y refl less ∙ ap (λ (l : List WrittenRange). l ++ y ∷ []) front ∙ ap (λ (x : WrittenRange). map f (take i old) ++ x ∷ []) (is ∙ ap f head)
          ∙ sym (map_push f (take i old) (get_or old i d)) ∙ ap (map f) (sym (take_more old i d less')),
      ap (drop 1) (sym (drop_more (set now i y) i d (omega (arith, less, size'))) ∙ drop-set_at now i i y refl less) ∙ ap (drop 1) both,
      size' ∙ size,
    )

-- all of them
pub mark_all : (f : WrittenRange → WrittenRange) (old now : List WrittenRange) (i : ℕ) → length now ≤ i → length now ≡ length old → take i now ≡ map f (take i old) → now ≡ map f old
mark_all f old now i le size front = sym (take_all i now le) ∙ front ∙ ap (map f) (take_all i old (omega (arith, le, size)))

-- all of it, where the range is durable or isn't there
pub left_whole : (index : ℕ) (left : RangeLeft) (f : FileState) (new : List ℕ) → new ≡ f.bytes → ((range : WrittenRange) → slice_get f.ranges index ≡ Some range → IsNotKept range → ⊥) → IsLeftSo index left f new
left_whole index left f new is durable = record {
  size = ap length is;
  others = λ k at. ap (λ (l : List ℕ). slice_index l k) is;
  so = λ range get apart last. absurd (durable range get apart);
  kept = λ range get itself. is;
  none = λ le. is;
}

-- a write of which only a part was done
pub part_torn : (old part : List ℕ) (at n : ℕ) → at ≤ length old → length part ≤ n → IsTorn at n old (put old at part)
part_torn old part at n within le =
    let front : length (take at old) ≡ at = omega (arith, length-take at old) in
    let whole : put old at part ≡ take at old ++ (part ++ drop (at + length part) old) = append_assoc (take at old) part (drop (at + length part) old) in
    let size : length (put old at part) ≡ at + (length part + length (drop (at + length part) old)) =
    omega (arith, ap length whole, front, length-append (take at old) (part ++ drop (at + length part) old), length-append part (drop (at + length part) old)) in
    let rest = length-drop (at + length part) old in
    let both : length (take at old ++ part) ≡ at + length part = omega (arith, front, length-append (take at old) part) in
    let after : drop (at + length part) (put old at part) ≡ drop (at + length part) old = drop_at (take at old ++ part) (drop (at + length part) old) (at + length part) both in
    record {
      before = ap (take at) whole ∙ take_at (take at old) (part ++ drop (at + length part) old) at front;
      after =
          let sum : at + length part + (n - length part) ≡ at + n = omega (arith, le) in
          ap (λ (k : ℕ). drop k (put old at part)) (sym sum) ∙ sym (drop-drop (n - length part) (at + length part) (put old at part))
          ∙ ap (drop (n - length part)) after ∙ drop-drop (n - length part) (at + length part) old ∙ ap (λ (k : ℕ). drop k old) sum;
      no_shorter = omega (arith, size, rest);
      no_longer = omega (arith, size, rest, within, le);
    }

-- a slice of a whole vector, written back
pub written_back : (new items : List ℕ) (len : ℕ) → len ≡ length items → length new ≡ length items → take len (new ++ drop (length new) items) ≡ new
written_back new items len size same = take_at new (drop (length new) items) len (same ∙ sym size)

file_in-here : (e : Numbered) (es : List Numbered) (n : ℕ) → e.number ≡ n → file_in (e ∷ es) n ≡ e.file
unfolding file_in
file_in-here e es n is = rw (is) (grind (arith, nat_tests))

file_in-there : (e : Numbered) (es : List Numbered) (n : ℕ) → e.number ≢ n → file_in (e ∷ es) n ≡ file_in es n
unfolding file_in
file_in-there e es n apart = grind (arith, nat_tests)

later : (e : Numbered) (es : List Numbered) (n i : ℕ) → IsAbsentBefore (e ∷ es) n (suc i) → IsAbsentBefore es n i
later e es n i absent k d less within = absent (suc k) d (omega arith) (omega arith)

-- the first of a number is its file
pub file_in-first : (es : List Numbered) (n i : ℕ) (d : Numbered) → i < length es → IsFirst es n i → file_in es n ≡ (get_or es i d).file
file_in-first [] n i d less first = absurd (omega arith)
file_in-first (e ∷ es) n zero d less first = file_in-here e es n (first.1 d)
file_in-first (e ∷ es) n (suc i) d less first =
    file_in-there e es n (first.0 0 d (omega arith) (omega arith)) ∙ file_in-first es n i d (omega arith) (later e es n i first.0, first.1)

pub file_in-absent : (es : List Numbered) (n : ℕ) → IsAbsent es n → file_in es n ≡ empty_file
unfolding file_in
file_in-absent [] n absent = refl
file_in-absent (e ∷ es) n absent = file_in-there e es n (absent 0 e (omega arith) (omega arith)) ∙ file_in-absent es n (later e es n (length es) absent)

-- an empty file more changes nothing
pub file_in-push : (es : List Numbered) (e : Numbered) → e.file ≡ empty_file → (k : ℕ) → file_in (es ++ e ∷ []) k ≡ file_in es k
unfolding file_in
file_in-push [] e is k = elim (cases_eq e.number k) [
  | inl same ↦ file_in-here e [] k same ∙ is
  | inr apart ↦ file_in-there e [] k apart
]
file_in-push (x ∷ es) e is k = elim (cases_eq x.number k) [
  | inl same ↦ file_in-here x (es ++ e ∷ []) k same ∙ sym (file_in-here x es k same)
  | inr apart ↦ file_in-there x (es ++ e ∷ []) k apart ∙ file_in-push es e is k ∙ sym (file_in-there x es k apart)
]

pub first_push : (es : List Numbered) (e : Numbered) (n : ℕ) → IsAbsent es n → e.number ≡ n → IsFirst (es ++ e ∷ []) n (length es)
first_push [] e n absent is = ((λ k d less within. absurd (omega arith)), (λ d. is))
first_push (x ∷ es) e n absent is =
    let rest = first_push es e n (later x es n (length es) absent) is in
    (go rest.0, rest.1)
  where
    go : IsAbsentBefore (es ++ e ∷ []) n (length es) → IsAbsentBefore (x ∷ (es ++ e ∷ [])) n (suc (length es))
    go before zero d less within = absent zero d (omega arith) (omega arith)
    go before (suc k) d less within = before k d (omega arith) (omega arith)

-- another file at the first of a number
pub changes_first : (es : List Numbered) (n i : ℕ) (e : Numbered) → i < length es → IsFirst es n i → e.number ≡ n → ChangesFile (file_in es) (file_in (set es i e)) n e.file
changes_first [] n i e less first is = absurd (omega arith)
changes_first (x ∷ es) n zero e less first is = record {
  changed = file_in-here e es n is;
  others = λ k apart. file_in-there e es k (λ same. apart (sym same ∙ is)) ∙ sym (file_in-there x es k (λ same. apart (sym same ∙ first.1 x)));
}
changes_first (x ∷ es) n (suc i) e less first is =
    let rest = changes_first es n i e (omega arith) (later x es n i first.0, first.1) is in
    let apart_x : x.number ≢ n = first.0 0 x (omega arith) (omega arith) in
    record {
      changed = file_in-there x (set es i e) n apart_x ∙ rest.changed;
      others = λ k apart. elim (cases_eq x.number k) [
        | inl same ↦ file_in-here x (set es i e) k same ∙ sym (file_in-here x es k same)
        | inr not ↦ file_in-there x (set es i e) k not ∙ rest.others k apart ∙ sym (file_in-there x es k not)
      ];
    }

-- the entry at the first place of a number has its file
pub file_at : (es now : List Numbered) (n i : ℕ) (e : Numbered) → es ≡ now → i < length es → IsFirst es n i → e ≡ get_or es i e → e.file ≡ file_in now n
file_at es now n i e same less first is = ap (λ (x : Numbered). x.file) is ∙ sym (file_in-first es n i e less first) ∙ ap (λ (l : List Numbered). file_in l n) same

pub changes_at : (es now : List Numbered) (n i : ℕ) (e : Numbered) (old new : FileState) → es ≡ now → i < length es → IsFirst es n i → e ≡ get_or es i e → old ≡ new → ChangesFile (file_in now) (file_in (set es i (record { number = e.number; file = old }))) n new
changes_at es now n i e old new same less first is sets =
    let number : e.number ≡ n = ap (λ (x : Numbered). x.number) is ∙ first.1 e in
    let step = changes_first es n i (record { number = e.number; file = old }) less first number in
    record {
      changed = step.changed ∙ sets;
      others = λ k apart. step.others k apart ∙ ap (λ (l : List Numbered). file_in l k) same;
    }

-- a file that isn't there is left as it is
pub changes_absent : (es now : List Numbered) (n : ℕ) (step : FileState → FileState) → es ≡ now → IsAbsent es n → step empty_file ≡ empty_file → ChangesFile (file_in now) (file_in now) n (step (file_in now n))
changes_absent es now n step same absent still =
    let none : file_in now n ≡ empty_file = ap (λ (l : List Numbered). file_in l n) (sym same) ∙ file_in-absent es n absent in
    record { changed = none ∙ sym still ∙ ap step (sym none); others = λ k apart. refl }

pub absent_bytes : (es now : List Numbered) (n : ℕ) → es ≡ now → IsAbsent es n → [] ≡ (file_in now n).bytes
absent_bytes es now n same absent = sym (ap (λ (l : List Numbered). (file_in l n).bytes) (sym same) ∙ ap (λ (f : FileState). f.bytes) (file_in-absent es n absent))

-- a write of the first of a number, in files that read as others do
pub changes_over : (old es now : List Numbered) (n i : ℕ) (e : Numbered) (made : FileState) (step : FileState → FileState) → ((k : ℕ) → file_in now k ≡ file_in old k) → es ≡ now → i < length es → IsFirst es n i → e ≡ get_or es i e → made ≡ step e.file
    → ChangesFile (file_in old) (file_in (set es i (record { number = e.number; file = made }))) n (step (file_in old n))
changes_over old es now n i e made step reads same less first is sets =
    let made_is : made ≡ step (file_in old n) = sets ∙ ap step (file_at es now n i e same less first is ∙ reads n) in
    let changes = changes_at es now n i e made (step (file_in old n)) same less first is made_is in
    record { changed = changes.changed; others = λ k apart. changes.others k apart ∙ reads k }

-- entries of the same numbers, whose files are what a crash leaves
abbrev pub AllLeft : Leaving → List Numbered → List Numbered → Type 0
AllLeft leaving [] [] = Unit {0}
AllLeft leaving [] (y ∷ ys) = ⊥
AllLeft leaving (x ∷ xs) [] = ⊥
AllLeft leaving (x ∷ xs) (y ∷ ys) = (y.number ≡ x.number) × ((image : List ℕ) × IsLeft leaving x.file image × (y.file ≡ kept_file image)) × AllLeft leaving xs ys

pub left_push : (leaving : Leaving) (xs ys : List Numbered) (x y : Numbered) (image : List ℕ) → AllLeft leaving xs ys → y.number ≡ x.number → IsLeft leaving x.file image → y.file ≡ kept_file image → AllLeft leaving (xs ++ x ∷ []) (ys ++ y ∷ [])
left_push leaving [] [] x y image all number is kept = (number, (image, is, kept), tt)
left_push leaving [] (b ∷ ys) x y image all number is kept = absurd all
left_push leaving (a ∷ xs) [] x y image all number is kept = absurd all
left_push leaving (a ∷ xs) (b ∷ ys) x y image all number is kept = (all.0, all.1, left_push leaving xs ys x y image all.2 number is kept)

-- a crash leaves nothing of a file that was never written
nothing_left : (leaving : Leaving) → IsChosen leaving empty_file []
nothing_left Whole = refl
nothing_left (Torn byte) = record { size = refl; others = λ k durable. refl; torn = λ k less doubt. absurd doubt }
nothing_left Shortest = refl
nothing_left (Range index left) = left_whole index left empty_file [] refl (λ range get. cc)

pub all_left : (leaving : Leaving) (xs ys : List Numbered) → AllLeft leaving xs ys → AreLeft leaving (file_in xs) (file_in ys)
unfolding file_in
all_left leaving [] [] all k = ([], record { image = record { no_shorter = omega arith; no_longer = omega arith; agrees = λ j less outside. refl }; chosen = nothing_left leaving }, refl)
all_left leaving [] (b ∷ ys) all k = absurd all
all_left leaving (a ∷ xs) [] all k = absurd all
all_left leaving (a ∷ xs) (b ∷ ys) all k = elim (cases_eq a.number k) [
  | inl same ↦
      let here = file_in-here a xs k same in
      let there = file_in-here b ys k (all.0 ∙ same) in
      (all.1.0, subst (λ (f : FileState). IsLeft leaving f all.1.0) (sym here) all.1.1, there ∙ all.1.2)
  | inr apart ↦
      let rest = all_left leaving xs ys all.2 k in
      let here = file_in-there a xs k apart in
      let there = file_in-there b ys k (λ same. apart (sym all.0 ∙ same)) in
      (rest.0, subst (λ (f : FileState). IsLeft leaving f rest.0) (sym here) rest.1, there ∙ rest.2)
]
