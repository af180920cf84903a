-- Beginnings of lists, the entries of one pass, and functions that change at one number.
use Rattle.std.proofs.Common.{◌≡◌, ◌≢◌, ℕ, zero, suc, ◌+◌, ◌<◌, ◌≤◌, Bool, true, false, cond, eqb, ltb, List, [], ◌∷◌, ◌++◌, set, length, All, sym, refl, ap, ◌∙◌, subst, arith, append_assoc, append-nil, length-append, eq-eqb, ne_eqb, ltb-true, ltb-false}
use Rattle.std.proofs.lemmas.List.{get_or_append_left}
use Rattle.std.proofs.lemmas.List.Elements.{filter-append}
use mathlib.Core.List.{IsPrefix}
use mathlib.Core.Option.{some, some-ne-none}
use native.Mathlib.Decide.{ℕ_discrete}
use lib.ListN.{get_elem?}
use Rattle.plant_lock.specs.Entries.{own, longer}

abbrev pick : {P : Type 0} → Dec P → ℕ → ℕ → ℕ
pick (yes _) a b = a
pick (no _) a b = b

-- the function f, but c at i
pub put : (ℕ → ℕ) → ℕ → ℕ → ℕ → ℕ
put f i c j = pick (ℕ_discrete j i) c (f j)

pub put_here : (f : ℕ → ℕ) (i c : ℕ) → put f i c i ≡ c
unfolding put
put_here f i c = go (ℕ_discrete i i)
  where
    go : (d : Dec (i ≡ i)) → pick d c (f i) ≡ c
    go (yes _) = refl
    go (no n) = absurd (n refl)

pub put_else : (f : ℕ → ℕ) (i c j : ℕ) → j ≢ i → put f i c j ≡ f j
unfolding put
put_else f i c j other = go (ℕ_discrete j i)
  where
    go : (d : Dec (j ≡ i)) → pick d c (f j) ≡ f j
    go (yes e) = absurd (other e)
    go (no _) = refl

module _ {A : Type 0} where
  abbrev pub head_or : A → List A → A
  head_or d [] = d
  head_or d (x ∷ xs) = x

  abbrev pub tail_of : List A → List A
  tail_of [] = []
  tail_of (x ∷ xs) = xs

  pub set_at : (l : List A) (i : ℕ) (a b : A) → get_elem? l i ≡ some a → get_elem? (set l i b) i ≡ some b
  set_at [] i a b e = absurd (some-ne-none a (sym e))
  set_at (x ∷ xs) zero a b e = refl
  set_at (x ∷ xs) (suc i) a b e = set_at xs i a b e

  pub nil_of_length : (l : List A) → length l ≡ 0 → l ≡ []
  nil_of_length [] e = refl
  nil_of_length (x ∷ xs) e = absurd (omega arith)

  pub prefix_refl : (xs : List A) → IsPrefix xs xs
  prefix_refl xs = ([], append-nil xs)

  pub prefix_nil : (xs : List A) → IsPrefix [] xs
  prefix_nil xs = (xs, refl)

  pub prefix_trans : (xs ys zs : List A) → IsPrefix xs ys → IsPrefix ys zs → IsPrefix xs zs
  prefix_trans xs ys zs h k = (h.0 ++ k.0, sym (append_assoc xs h.0 k.0) ∙ (ap (λ l. l ++ k.0) h.1 ∙ k.1))

  pub prefix_length : (xs ys : List A) → IsPrefix xs ys → length xs ≤ length ys
  prefix_length xs ys h = let e : length ys ≡ length xs + length h.0 = ap length (sym h.1) ∙ length-append xs h.0 in omega arith

  -- of two beginnings of one list the shorter begins the longer
  pub prefix_shorter : (xs ys zs : List A) → IsPrefix xs zs → IsPrefix ys zs → length xs ≤ length ys → IsPrefix xs ys
  prefix_shorter [] ys zs h k le = (ys, refl)
  prefix_shorter (x ∷ xs) [] zs h k le = absurd (omega arith)
  prefix_shorter (x ∷ xs) (y ∷ ys) [] h k le = let n = prefix_length (x ∷ xs) [] h in absurd (omega arith)
  prefix_shorter (x ∷ xs) (y ∷ ys) (z ∷ zs) h k le =
      let t = prefix_shorter xs ys zs (h.0, ap tail_of h.1) (k.0, ap tail_of k.1) (omega arith) in
      let e : x ≡ y = ap (head_or x) h.1 ∙ sym (ap (head_or y) k.1) in (t.0, λ i. e i ∷ t.1 i)

  pub longer_cases : (xs ys : List A) (P : List A → Type 0) → (length ys ≤ length xs → P xs) → (length xs < length ys → P ys) → P (longer xs ys)
  longer_cases xs ys P h k = go (ltb (length xs) (length ys)) refl
    where
      go : (b : Bool) → ltb (length xs) (length ys) ≡ b → P (cond b ys xs)
      go true e = k (ltb-true (length xs) (length ys) e)
      go false e = h (ltb-false (length xs) (length ys) e)

  pub longer_first : (xs ys : List A) → length xs ≤ length (longer xs ys)
  longer_first xs ys = longer_cases xs ys (λ (l : List A). length xs ≤ length l) (λ _. omega arith) (λ lt. omega arith)

  pub longer_second : (xs ys : List A) → length ys ≤ length (longer xs ys)
  longer_second xs ys = longer_cases xs ys (λ (l : List A). length ys ≤ length l) (λ le. le) (λ _. omega arith)

module _ {E : Type 0} (by : E → ℕ) where
  pub own-append : (n : ℕ) (xs ys : List E) → own by n (xs ++ ys) ≡ own by n xs ++ own by n ys
  own-append n xs ys = filter-append (λ e. eqb (by e) n) xs ys

  pub own_all : (n : ℕ) (xs : List E) → All (λ e. by e ≡ n) xs → own by n xs ≡ xs
  own_all n [] h = refl
  own_all n (x ∷ xs) h =
      let e : eqb (by x) n ≡ true = eq-eqb (by x) n (h 0 x (omega arith)) in
      subst (λ (b : Bool). cond b (x ∷ own by n xs) (own by n xs) ≡ x ∷ xs) (sym e) (ap (λ (l : List E). x ∷ l) (own_all n xs (λ k d lt. h (suc k) d (omega arith))))

  pub own_none : (n m : ℕ) (xs : List E) → All (λ e. by e ≡ n) xs → m ≢ n → own by m xs ≡ []
  own_none n m [] h other = refl
  own_none n m (x ∷ xs) h other =
      let e : eqb (by x) m ≡ false = ne_eqb (by x) m (λ same. other (sym same ∙ h 0 x (omega arith))) in
      subst (λ (b : Bool). cond b (x ∷ own by m xs) (own by m xs) ≡ []) (sym e) (own_none n m xs (λ k d lt. h (suc k) d (omega arith)) other)

  pub own_between : (n : ℕ) (mine xs ys zs : List E) → IsPrefix xs ys → IsPrefix ys zs → own by n xs ≡ mine → own by n zs ≡ mine → own by n ys ≡ mine
  own_between n mine xs ys zs h k low high =
      let a : own by n ys ≡ mine ++ own by n h.0 = ap (own by n) (sym h.1) ∙ (own-append n xs h.0 ∙ ap (λ (l : List E). l ++ own by n h.0) low) in
      let b : mine ≡ own by n ys ++ own by n k.0 = sym high ∙ (ap (own by n) (sym k.1) ∙ own-append n ys k.0) in
      let a' : length (own by n ys) ≡ length mine + length (own by n h.0) = ap length a ∙ length-append mine (own by n h.0) in
      let b' : length mine ≡ length (own by n ys) + length (own by n k.0) = ap length b ∙ length-append (own by n ys) (own by n k.0) in
      let none : own by n h.0 ≡ [] = nil_of_length (own by n h.0) (omega arith) in
      a ∙ (ap (λ (l : List E). mine ++ l) none ∙ append-nil mine)

  pub below_raised : (m n : ℕ) (xs : List E) → All (λ e. by e < m) xs → m ≤ n → All (λ e. by e < n) xs
  below_raised m n xs h le = λ k d lt. let a = h k d lt in omega arith

  pub below_same : (m n : ℕ) (xs : List E) → All (λ e. by e ≡ m) xs → m < n → All (λ e. by e < n) xs
  below_same m n xs h lt' = λ k d lt. let a = h k d lt in omega arith

  pub below_prefix : (n : ℕ) (xs zs : List E) → IsPrefix xs zs → All (λ e. by e < n) zs → All (λ e. by e < n) xs
  below_prefix n xs zs h all =
      let a : All (λ e. by e < n) (xs ++ h.0) = subst (All (λ e. by e < n)) (sym h.1) all in let long = length-append xs h.0 in
      λ k d lt. subst (λ (e : E). by e < n) (get_or_append_left xs h.0 d k lt) (a k d (omega arith))

  -- no entry has a number at or above one that all are below
  pub own_fresh : (first n : ℕ) (xs : List E) → All (λ e. by e < first) xs → first ≤ n → own by n xs ≡ []
  own_fresh first n [] h le = refl
  own_fresh first n (x ∷ xs) h le =
      let lt = h 0 x (omega arith) in let e : eqb (by x) n ≡ false = ne_eqb (by x) n (λ same. omega arith) in
      subst (λ (b : Bool). cond b (x ∷ own by n xs) (own by n xs) ≡ []) (sym e) (own_fresh first n xs (λ k d lt. h (suc k) d (omega arith)) le)
