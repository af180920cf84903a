-- The least and the greatest of lists joined.
use Rattle.std.proofs.Common.{◌≡◌, ◌<ℤ◌, ℤ, Bool, true, false, if◌then◌else◌, List, [], ◌∷◌, ◌++◌, Option, Some, None, refl, sym, ap, ◌∙◌, subst, arith}
use Rattle.std.specs.Prelude.{fold, is_some}
use Rattle.std.specs.declared.cmp.Ordering.{Ordering}
use Rattle.std.specs.declared.cmp.Ordering.TheVariants.{Less, Equal, Greater}
use Rattle.std.specs.Ordering.{MatchOrdering, int_cmp, is_le, is_ge}
use Rattle.std.specs.Cmp.{int_ranks}
use Rattle.std.proofs.lemmas.Int.{ints}
use Rattle.std.proofs.lemmas.List.Sums.{fold-append}
use Rattle.q_values.specs.declared.atom.Atom.{Atom}
use Rattle.q_values.specs.declared.atom.Atom.TheVariants as a
use Rattle.q_verbs.specs.Numbers.{numeric, worth, worth_cmp}
use Rattle.q_verbs.specs.Aggregates.{best_of, choose_present, number_of}
use Rattle.q_grouped.proofs.ChosenLemmas.{pick_atom}
use Rattle.q_lanes.proofs.OrderLemmas.{worth_cmp-some}
use Rattle.q_grouped.specs.Laws.{of_either, LeastOfJoined, GreatestOfJoined}

-- a number is worth nothing else
worth_of : (x : Atom) (n : ℤ) → number_of x ≡ Some n → worth x ≡ numeric (Some n)
worth_of (a.Boolean b) n e = ap numeric e
worth_of (a.Byte b) n e = ap numeric e
worth_of (a.Short z) n e = ap numeric e
worth_of (a.Integer z) n e = ap numeric e
worth_of (a.Long z) n e = ap numeric e
worth_of (a.Character b) n e = ap numeric e
worth_of (a.Symbol s) n e = cc
worth_of (a.Timestamp z) n e = ap numeric e
worth_of (a.Month z) n e = ap numeric e
worth_of (a.Date z) n e = ap numeric e
worth_of (a.Timespan z) n e = ap numeric e
worth_of (a.Minute z) n e = ap numeric e
worth_of (a.Second z) n e = ap numeric e
worth_of (a.Time z) n e = ap numeric e

-- a relation of numbers that hold on from one to the next, where they all hold and where none does
record Chains (relates : Ordering → Bool) : Type 0 where
  holds : (n m k : ℤ) → relates (int_cmp n m) ≡ true → relates (int_cmp m k) ≡ true → relates (int_cmp n k) ≡ true
  fails : (n m k : ℤ) → relates (int_cmp n m) ≡ false → relates (int_cmp m k) ≡ false → relates (int_cmp n k) ≡ false

abbrev Numbered : Atom → Type 0
Numbered x = (n : ℤ) × (number_of x ≡ Some n)

abbrev NumberedIn : Option Atom → Type 0
NumberedIn None = Unit {0}
NumberedIn (Some x) = Numbered x

pick_is : (relates : Ordering → Bool) (x y : Atom) (p : Numbered x) (q : Numbered y) (b : Bool) → relates (int_cmp p.0 q.0) ≡ b → pick_atom relates x y ≡ (if b then x else y)
pick_is relates x y p q b e =
    (λ i. if relates (worth_cmp (worth_of x p.0 p.1 i) (worth_of y q.0 q.1 i)) then x else y)
    ∙ ap (λ o. if relates o then x else y) (sym (worth_cmp-some p.0 q.0))
    ∙ ap (λ c. if c then x else y) e

numbered_if : (b : Bool) (x y : Atom) → Numbered x → Numbered y → Numbered (if b then x else y)
numbered_if true x y p q = p
numbered_if false x y p q = q

numbered_pick : (relates : Ordering → Bool) (x y : Atom) → Numbered x → Numbered y → Numbered (pick_atom relates x y)
numbered_pick relates x y p q = numbered_if (relates (worth_cmp (worth x) (worth y))) x y p q

picks_on : (relates : Ordering → Bool) → Chains relates → (x y z : Atom) (p : Numbered x) (q : Numbered y) (r : Numbered z) → pick_atom relates (pick_atom relates x y) z ≡ pick_atom relates x (pick_atom relates y z)
picks_on relates chains x y z p q r = go (relates (int_cmp p.0 q.0)) (relates (int_cmp q.0 r.0)) refl refl
  where
    go : (b c : Bool) → relates (int_cmp p.0 q.0) ≡ b → relates (int_cmp q.0 r.0) ≡ c → pick_atom relates (pick_atom relates x y) z ≡ pick_atom relates x (pick_atom relates y z)
    go true true d e =
        ap (λ w. pick_atom relates w z) (pick_is relates x y p q true d)
        ∙ pick_is relates x z p r true (chains.holds p.0 q.0 r.0 d e)
        ∙ sym (ap (pick_atom relates x) (pick_is relates y z q r true e) ∙ pick_is relates x y p q true d)
    go true false d e = ap (λ w. pick_atom relates w z) (pick_is relates x y p q true d) ∙ sym (ap (pick_atom relates x) (pick_is relates y z q r false e))
    go false true d e =
        ap (λ w. pick_atom relates w z) (pick_is relates x y p q false d)
        ∙ pick_is relates y z q r true e
        ∙ sym (ap (pick_atom relates x) (pick_is relates y z q r true e) ∙ pick_is relates x y p q false d)
    go false false d e =
        ap (λ w. pick_atom relates w z) (pick_is relates x y p q false d)
        ∙ pick_is relates y z q r false e
        ∙ sym (ap (pick_atom relates x) (pick_is relates y z q r false e) ∙ pick_is relates x z p r false (chains.fails p.0 q.0 r.0 d e))

abbrev step : (Ordering → Bool) → Option Atom → Atom → Option Atom
step relates = choose_present number_of (pick_atom relates)

passed : (relates : Ordering → Bool) (o : Option Atom) (x : Atom) → number_of x ≡ None → step relates o x ≡ o
passed relates o x e = ap (λ n. if is_some n then Some (best_of (pick_atom relates) o x) else o) e

taken : (relates : Ordering → Bool) (o : Option Atom) (x : Atom) (z : ℤ) → number_of x ≡ Some z → step relates o x ≡ Some (best_of (pick_atom relates) o x)
taken relates o x z e = ap (λ n. if is_some n then Some (best_of (pick_atom relates) o x) else o) e

numbered_best : (relates : Ordering → Bool) (o : Option Atom) (x : Atom) → NumberedIn o → Numbered x → Numbered (best_of (pick_atom relates) o x)
numbered_best relates None x p q = q
numbered_best relates (Some y) x p q = numbered_pick relates y x p q

numbered_step : (relates : Ordering → Bool) (o : Option Atom) (x : Atom) (n : Option ℤ) → number_of x ≡ n → NumberedIn o → NumberedIn (step relates o x)
numbered_step relates o x None e p = subst NumberedIn (sym (passed relates o x e)) p
numbered_step relates o x (Some z) e p = subst NumberedIn (sym (taken relates o x z e)) (numbered_best relates o x p (z, e))

numbered_all : (relates : Ordering → Bool) (o : Option Atom) (xs : List Atom) → NumberedIn o → NumberedIn (fold (step relates) o xs)
numbered_all relates o [] p = p
numbered_all relates o (x ∷ xs) p = numbered_all relates (step relates o x) xs (numbered_step relates o x (number_of x) refl p)

either_on : (relates : Ordering → Bool) → Chains relates → (x y : Atom) (o : Option Atom) → Numbered x → Numbered y → NumberedIn o → of_either (pick_atom relates) (Some (pick_atom relates x y)) o ≡ of_either (pick_atom relates) (Some x) (of_either (pick_atom relates) (Some y) o)
either_on relates chains x y None p q r = refl
either_on relates chains x y (Some z) p q r = ap (λ w. Some w) (picks_on relates chains x y z p q r)

from_some : (relates : Ordering → Bool) → Chains relates → (ys : List Atom) (b : Atom) → Numbered b → fold (step relates) (Some b) ys ≡ of_either (pick_atom relates) (Some b) (fold (step relates) None ys)
from_some relates chains [] b p = refl
from_some relates chains (y ∷ ys) b p = go (number_of y) refl (λ c q. from_some relates chains ys c q)
  where
    go : (n : Option ℤ) → number_of y ≡ n → ((c : Atom) → Numbered c → fold (step relates) (Some c) ys ≡ of_either (pick_atom relates) (Some c) (fold (step relates) None ys))
        → fold (step relates) (Some b) (y ∷ ys) ≡ of_either (pick_atom relates) (Some b) (fold (step relates) None (y ∷ ys))
    go None e rest =
        ap (λ s. fold (step relates) s ys) (passed relates (Some b) y e)
        ∙ rest b p
        ∙ ap (λ s. of_either (pick_atom relates) (Some b) (fold (step relates) s ys)) (sym (passed relates None y e))
    go (Some z) e rest =
        ap (λ s. fold (step relates) s ys) (taken relates (Some b) y z e)
        ∙ rest (pick_atom relates b y) (numbered_pick relates b y p (z, e))
        ∙ either_on relates chains b y (fold (step relates) None ys) p (z, e) (numbered_all relates None ys tt)
        ∙ ap (of_either (pick_atom relates) (Some b)) (sym (rest y (z, e)))
        ∙ ap (λ s. of_either (pick_atom relates) (Some b) (fold (step relates) s ys)) (sym (taken relates None y z e))

joined : (relates : Ordering → Bool) → Chains relates → (xs ys : List Atom) → fold (step relates) None (xs ++ ys) ≡ of_either (pick_atom relates) (fold (step relates) None xs) (fold (step relates) None ys)
joined relates chains xs ys =
    fold-append (step relates) None xs ys ∙ go (fold (step relates) None xs) (numbered_all relates None xs tt)
  where
    go : (o : Option Atom) → NumberedIn o → fold (step relates) o ys ≡ of_either (pick_atom relates) o (fold (step relates) None ys)
    go None p = refl
    go (Some b) p = from_some relates chains ys b p

le_holds : (o r s : Ordering) (n m k : ℤ) → MatchOrdering o (n <ℤ m) (n ≡ m) (m <ℤ n) → MatchOrdering r (m <ℤ k) (m ≡ k) (k <ℤ m) → MatchOrdering s (n <ℤ k) (n ≡ k) (k <ℤ n) → is_le o ≡ true → is_le r ≡ true → is_le s ≡ true
le_holds o r Less n m k x y z d e = refl
le_holds o r Equal n m k x y z d e = refl
le_holds Less Less Greater n m k x y z d e = absurd (omega (arith, ints, x, y, z))
le_holds Less Equal Greater n m k x y z d e = absurd (omega (arith, ints, x, y, z))
le_holds Less Greater Greater n m k x y z d e = cc
le_holds Equal Less Greater n m k x y z d e = absurd (omega (arith, ints, x, y, z))
le_holds Equal Equal Greater n m k x y z d e = absurd (omega (arith, ints, x, y, z))
le_holds Equal Greater Greater n m k x y z d e = cc
le_holds Greater r Greater n m k x y z d e = cc

le_fails : (o r s : Ordering) (n m k : ℤ) → MatchOrdering o (n <ℤ m) (n ≡ m) (m <ℤ n) → MatchOrdering r (m <ℤ k) (m ≡ k) (k <ℤ m) → MatchOrdering s (n <ℤ k) (n ≡ k) (k <ℤ n) → is_le o ≡ false → is_le r ≡ false → is_le s ≡ false
le_fails o r Greater n m k x y z d e = refl
le_fails Greater Greater Less n m k x y z d e = absurd (omega (arith, ints, x, y, z))
le_fails Greater Greater Equal n m k x y z d e = absurd (omega (arith, ints, x, y, z))
le_fails Greater Less Less n m k x y z d e = cc
le_fails Greater Less Equal n m k x y z d e = cc
le_fails Greater Equal Less n m k x y z d e = cc
le_fails Greater Equal Equal n m k x y z d e = cc
le_fails Less r Less n m k x y z d e = cc
le_fails Less r Equal n m k x y z d e = cc
le_fails Equal r Less n m k x y z d e = cc
le_fails Equal r Equal n m k x y z d e = cc

le_chains : Chains is_le
le_chains = record {
  holds = λ n m k. le_holds (int_cmp n m) (int_cmp m k) (int_cmp n k) n m k (int_ranks n m) (int_ranks m k) (int_ranks n k);
  fails = λ n m k. le_fails (int_cmp n m) (int_cmp m k) (int_cmp n k) n m k (int_ranks n m) (int_ranks m k) (int_ranks n k);
}

ge_holds : (o r s : Ordering) (n m k : ℤ) → MatchOrdering o (n <ℤ m) (n ≡ m) (m <ℤ n) → MatchOrdering r (m <ℤ k) (m ≡ k) (k <ℤ m) → MatchOrdering s (n <ℤ k) (n ≡ k) (k <ℤ n) → is_ge o ≡ true → is_ge r ≡ true → is_ge s ≡ true
ge_holds o r Greater n m k x y z d e = refl
ge_holds o r Equal n m k x y z d e = refl
ge_holds Greater Greater Less n m k x y z d e = absurd (omega (arith, ints, x, y, z))
ge_holds Greater Equal Less n m k x y z d e = absurd (omega (arith, ints, x, y, z))
ge_holds Greater Less Less n m k x y z d e = cc
ge_holds Equal Greater Less n m k x y z d e = absurd (omega (arith, ints, x, y, z))
ge_holds Equal Equal Less n m k x y z d e = absurd (omega (arith, ints, x, y, z))
ge_holds Equal Less Less n m k x y z d e = cc
ge_holds Less r Less n m k x y z d e = cc

ge_fails : (o r s : Ordering) (n m k : ℤ) → MatchOrdering o (n <ℤ m) (n ≡ m) (m <ℤ n) → MatchOrdering r (m <ℤ k) (m ≡ k) (k <ℤ m) → MatchOrdering s (n <ℤ k) (n ≡ k) (k <ℤ n) → is_ge o ≡ false → is_ge r ≡ false → is_ge s ≡ false
ge_fails o r Less n m k x y z d e = refl
ge_fails Less Less Greater n m k x y z d e = absurd (omega (arith, ints, x, y, z))
ge_fails Less Less Equal n m k x y z d e = absurd (omega (arith, ints, x, y, z))
ge_fails Less Greater Greater n m k x y z d e = cc
ge_fails Less Greater Equal n m k x y z d e = cc
ge_fails Less Equal Greater n m k x y z d e = cc
ge_fails Less Equal Equal n m k x y z d e = cc
ge_fails Greater r Greater n m k x y z d e = cc
ge_fails Greater r Equal n m k x y z d e = cc
ge_fails Equal r Greater n m k x y z d e = cc
ge_fails Equal r Equal n m k x y z d e = cc

ge_chains : Chains is_ge
ge_chains = record {
  holds = λ n m k. ge_holds (int_cmp n m) (int_cmp m k) (int_cmp n k) n m k (int_ranks n m) (int_ranks m k) (int_ranks n k);
  fails = λ n m k. ge_fails (int_cmp n m) (int_cmp m k) (int_cmp n k) n m k (int_ranks n m) (int_ranks m k) (int_ranks n k);
}

pub least_of_joined : LeastOfJoined
least_of_joined xs ys = joined is_le le_chains xs ys

pub greatest_of_joined : GreatestOfJoined
greatest_of_joined xs ys = joined is_ge ge_chains xs ys
