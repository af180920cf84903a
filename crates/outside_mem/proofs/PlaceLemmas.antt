-- An index of numbered files.
use Rattle.std.proofs.Common.{◌≡◌, ◌≢◌, inl, inr, ◌<◌, ◌≤◌, ◌+◌, ℕ, List, [], ◌∷◌, ◌++◌, length, map, get_or, set, false, Option, Some, None, refl, sym, ◌∙◌, ap, subst, arith, length-append, Less, Greater}
use Rattle.std.proofs.lemmas.Bool.{cases_eq, cases_lt}
use Rattle.std.proofs.lemmas.List.{get_or-map, length-map, map_push}
use Rattle.std.proofs.Math.ListN.{get_or-append}
use Rattle.std.proofs.Math.Seq.{get_or-append_seam, map-set_same}
use Rattle.std.specs.Ordering.{nat_cmp, is_eq}
use Rattle.std.specs.Cmp.{nat_cmp_is}
use Rattle.std.specs.BTreeMap.{BTreeMap, get}
use Rattle.std.specs.Map.{lookup}
use Rattle.std.specs.BTreeMap.{is_at}
use Rattle.outside_mem.proofs.FileLemmas.{AllLeft}
use Rattle.outside_mem.specs.declared.calling.Leaving.{Leaving}
use Rattle.outside_mem.specs.Places.{IsPlace, Finds}
use Rattle.outside_mem.specs.MemFile.{IsFirst, IsAbsent}
use Rattle.outside_mem.specs.declared.files.Numbered.{Numbered}

abbrev pub number_of : Numbered → ℕ
number_of e = e.number

-- the place that the index gives
pub first_of : (places : BTreeMap ℕ ℕ) (es : List Numbered) (n i : ℕ) → Finds places (map number_of es) → get nat_cmp places n ≡ Some i → (i < length es) × IsFirst es n i
first_of places es n i finds is =
    let at = subst (λ (o : Option ℕ). IsPlace o (map number_of es) n) is (finds n) in
    let size : length (map number_of es) ≡ length es = length-map es number_of in
    let less : i < length es = omega (arith, at.0, size) in
    (less, ((λ k d before within. λ same. at.2 k before (get_or-map number_of es k d 0 within ∙ same)), (λ d. sym (get_or-map number_of es i d 0 less) ∙ at.1)))

pub absent_of : (places : BTreeMap ℕ ℕ) (es : List Numbered) (n : ℕ) → Finds places (map number_of es) → get nat_cmp places n ≡ None → IsAbsent es n
absent_of places es n finds is =
    let at = subst (λ (o : Option ℕ). IsPlace o (map number_of es) n) is (finds n) in
    let size : length (map number_of es) ≡ length es = length-map es number_of in
    λ k d less within same. at k (omega (arith, within, size)) (get_or-map number_of es k d 0 within ∙ same)

-- one number more, at the end
pub finds_push : (old new : BTreeMap ℕ ℕ) (numbers : List ℕ) (n i : ℕ) → i ≡ length numbers → Finds old numbers → ((k : ℕ) → k < length numbers → get_or numbers k 0 ≢ n)
    → get nat_cmp new n ≡ Some i → ((q : ℕ) → q ≢ n → get nat_cmp new q ≡ get nat_cmp old q) → Finds new (numbers ++ n ∷ [])
finds_push old new numbers n i end finds absent is others q = elim (cases_eq q n) [
  | inl same ↦ subst (λ (m : ℕ). IsPlace (get nat_cmp new m) (numbers ++ n ∷ []) m) (sym same) (subst (λ (o : Option ℕ). IsPlace o (numbers ++ n ∷ []) n) (sym is) here)
  | inr apart ↦ subst (λ (o : Option ℕ). IsPlace o (numbers ++ n ∷ []) q) (sym (others q apart)) (there (get nat_cmp old q) (finds q) apart)
]
  where
    size : length (numbers ++ n ∷ []) ≡ length numbers + 1
    size = length-append numbers (n ∷ [])

    left : (k : ℕ) → k < length numbers → get_or (numbers ++ n ∷ []) k 0 ≡ get_or numbers k 0
    left k less = get_or-append numbers (n ∷ []) 0 k less

    last : (k : ℕ) → k < length (numbers ++ n ∷ []) → length numbers ≤ k → k ≡ length numbers
    last k less beyond = omega (arith, less, beyond, size)

    here : IsPlace (Some i) (numbers ++ n ∷ []) n
    here = (omega (arith, size, end), ap (λ (k : ℕ). get_or (numbers ++ n ∷ []) k 0) end ∙ get_or-append_seam numbers n [] 0, λ k less same. absent k (omega (arith, less, end)) (sym (left k (omega (arith, less, end))) ∙ same))

    there : (o : Option ℕ) → IsPlace o numbers q → q ≢ n → IsPlace o (numbers ++ n ∷ []) q
    there (Some j) at apart = (omega (arith, at.0, size), left j at.0 ∙ at.1, λ k less same. at.2 k less (sym (left k (omega (arith, less, at.0))) ∙ same))
    there None at apart = λ k less same. elim (cases_lt k (length numbers)) [
      | inl within ↦ at k within (sym (left k within) ∙ same)
      | inr beyond ↦ apart (sym same ∙ ap (λ (m : ℕ). get_or (numbers ++ n ∷ []) m 0) (last k less beyond) ∙ get_or-append_seam numbers n [] 0)
    ]

-- another file of the same number
pub finds_set : (places : BTreeMap ℕ ℕ) (es : List Numbered) (i : ℕ) (e : Numbered) (d : Numbered) → Finds places (map number_of es) → e.number ≡ (get_or es i d).number → Finds places (map number_of (set es i e))
finds_set places es i e d finds same = subst (λ (l : List ℕ). Finds places l) (sym (map-set_same number_of es i e d same)) finds

-- an index with the same entries
pub finds_same : (places those : BTreeMap ℕ ℕ) (numbers : List ℕ) → those.entries ≡ places.entries → Finds places numbers → Finds those numbers
finds_same places those numbers same finds n = subst (λ (o : Option ℕ). IsPlace o numbers n) (ap (λ (es : List (ℕ × ℕ)). lookup (is_at (nat_cmp n)) es) (sym same)) (finds n)

-- files as a crash leaves them have the numbers that they had
pub left_numbers : (leaving : Leaving) (xs ys : List Numbered) → AllLeft leaving xs ys → map number_of ys ≡ map number_of xs
left_numbers leaving [] [] all = refl
left_numbers leaving [] (y ∷ ys) all = absurd all
left_numbers leaving (x ∷ xs) [] all = absurd all
left_numbers leaving (x ∷ xs) (y ∷ ys) all = ap (λ (n : ℕ). n ∷ map number_of ys) all.0 ∙ ap (λ (l : List ℕ). x.number ∷ l) (left_numbers leaving xs ys all.2)

-- numbers that differ aren't equal keys
apart_keys : (n q : ℕ) → q ≢ n → is_at (nat_cmp n) q ≡ false
apart_keys n q apart = elim (cases_lt n q) [
  | inl less ↦ ap is_eq (sym (nat_cmp_is n q Less less))
  | inr le ↦ ap is_eq (sym (nat_cmp_is n q Greater (omega (arith, le, apart))))
]

-- one file more, at the end
pub finds_pushed : (old new : BTreeMap ℕ ℕ) (es now : List Numbered) (e : Numbered) (i : ℕ) → now ≡ es ++ e ∷ [] → i ≡ length es → Finds old (map number_of es) → IsAbsent es e.number
    → get nat_cmp new e.number ≡ Some i → ((q : ℕ) → is_at (nat_cmp e.number) q ≡ false → get nat_cmp new q ≡ get nat_cmp old q) → Finds new (map number_of now)
finds_pushed old new es now e i grown end finds absent is others =
    let size : length (map number_of es) ≡ length es = length-map es number_of in
    subst (λ (l : List ℕ). Finds new l) (sym (ap (map number_of) grown ∙ map_push number_of es e))
    (finds_push old new (map number_of es) e.number i (end ∙ sym size) finds
    (λ k less same. absent k e (omega (arith, less, size)) (omega (arith, less, size)) (sym (get_or-map number_of es k e 0 (omega (arith, less, size))) ∙ same))
    is (λ q apart. others q (apart_keys e.number q apart)))
