-- The groups of atoms from the groups of the items that stand for them.
use Rattle.std.proofs.Common.{◌≡◌, ℕ, ℤ, pos, ◌+◌, Bool, true, false, cond, not, ◌||◌, if◌then◌else◌, List, [], ◌∷◌, ◌++◌, length, map, fold, refl, sym, ap, ◌∙◌, subst, arith, Ordering, is_eq, Bor, flat_map}
use Rattle.std.specs.Prelude.{nat_eq}
use Rattle.std.specs.List.{list_any, position_or_len}
use Rattle.std.specs.Ordering.{nat_cmp, int_cmp, int_eq, bool_cmp}
use Rattle.std.specs.Cmp.Lexicographic.{slice_cmp, lists_ties}
use lib.Pointwise.{pointwise}
use Rattle.std.proofs.lemmas.Bool.Decides.{nat_tests}
use Rattle.std.proofs.lemmas.Int.{ints}
use Rattle.std.proofs.lemmas.List.{map-append}
use Rattle.q_values.specs.Order.{atom_cmp, IsOrder}
use Rattle.q_values.specs.Column.{byte_atom, integer_atom, long_atom}
use Rattle.q_values.specs.declared.atom.Atom.{Atom}
use Rattle.q_values.specs.declared.atom.Atom.TheVariants as a
use Rattle.q_values.specs.declared.kind.ByteKind.{ByteKind}
use Rattle.q_values.specs.declared.kind.ByteKind.TheVariants as b
use Rattle.q_values.specs.declared.kind.IntegerKind.{IntegerKind}
use Rattle.q_values.specs.declared.kind.IntegerKind.TheVariants as i
use Rattle.q_values.specs.declared.kind.LongKind.{LongKind}
use Rattle.q_values.specs.declared.kind.LongKind.TheVariants as l
use Rattle.q_values.proofs.OrderLemmas.{IsOrder-map}
use Rattle.q_groups.specs.Groups.{with_item, distinct, first_of, codes_of, firsts_of, AreGroups, Grouping, same_atom}
use mathlib.Core.Bool.{beq}

module _ {X : Type 0} (f : X → Atom) (same : X → X → Bool) (cmp : X → X → Ordering) (ties : (x y : X) → same_atom (f x) (f y) ≡ same x y) (agree : (x y : X) → atom_cmp (f x) (f y) ≡ cmp x y) where
  any_map : (x : X) (zs : List X) → list_any (same_atom (f x)) (map f zs) ≡ list_any (same x) zs
  any_map x [] = refl
  any_map x (z ∷ zs) = λ k. ties x z k || any_map x zs k

  first_map : (zs : List X) (x : X) → first_of same_atom (map f zs) (f x) ≡ first_of same zs x
  first_map [] x = refl
  first_map (z ∷ zs) x = λ k. cond (not (ties x z k)) (1 + first_map zs x k) 0

  with_item-map : (zs : List X) (y : X) → with_item same_atom (map f zs) (f y) ≡ map f (with_item same zs y)
  with_item-map zs y = ap (λ b. if b then map f zs else map f zs ++ f y ∷ []) (any_map y zs) ∙ go (list_any (same y) zs)
    where
      go : (b : Bool) → (if b then map f zs else map f zs ++ f y ∷ []) ≡ map f (if b then zs else zs ++ y ∷ [])
      go true = refl
      go false = sym (map-append f zs (y ∷ []))

  fold-map : (zs ys : List X) → fold (with_item same_atom) (map f zs) (map f ys) ≡ map f (fold (with_item same) zs ys)
  fold-map zs [] = refl
  fold-map zs (y ∷ ys) = ap (λ l. fold (with_item same_atom) l (map f ys)) (with_item-map zs y) ∙ fold-map (with_item same zs y) ys

  distinct-map : (xs : List X) → distinct same_atom (map f xs) ≡ map f (distinct same xs)
  distinct-map xs = fold-map [] xs

  firsts_map : (zs ys : List X) → map (first_of same_atom (map f zs)) (map f ys) ≡ map (first_of same zs) ys
  firsts_map zs [] = refl
  firsts_map zs (y ∷ ys) = λ k. first_map zs y k ∷ firsts_map zs ys k

  pub groups-map : (xs : List X) (groups : Grouping) → AreGroups same cmp xs groups → AreGroups same_atom atom_cmp (map f xs) groups
  groups-map xs groups h = record {
    codes = h.codes ∙ sym (ap (λ values. map (first_of same_atom values) (map f xs)) (distinct-map xs) ∙ firsts_map (distinct same xs) xs);
    firsts = h.firsts ∙ sym (ap (map (first_of same_atom (map f xs))) (distinct-map xs) ∙ firsts_map xs (distinct same xs));
    sorted = subst (λ values. IsOrder atom_cmp values groups.sorted) (sym (distinct-map xs)) (IsOrder-map f cmp atom_cmp agree (distinct same xs) groups.sorted h.sorted);
  }

-- how atoms of each width compare
naturals_agree : (x y : ℕ) → int_cmp (pos x) (pos y) ≡ nat_cmp x y
naturals_agree x y = grind (arith, nat_tests)

booleans_agree : (x y : Bool) → atom_cmp (a.Boolean x) (a.Boolean y) ≡ bool_cmp x y
booleans_agree false false = refl
booleans_agree false true = refl
booleans_agree true false = refl
booleans_agree true true = refl

booleans_tie : (x y : Bool) → same_atom (a.Boolean x) (a.Boolean y) ≡ beq x y
booleans_tie false false = refl
booleans_tie false true = refl
booleans_tie true false = refl
booleans_tie true true = refl

naturals_tie : (x y : ℕ) → is_eq (int_cmp (pos x) (pos y)) ≡ nat_eq x y
naturals_tie x y = grind (arith, nat_tests)

integers_tie : (x y : ℤ) → is_eq (int_cmp x y) ≡ int_eq x y
integers_tie x y = grind (arith, ints)

nat_ties : (x y : ℕ) → nat_eq x y ≡ is_eq (nat_cmp x y)
nat_ties x y = grind arith

texts_tie : (s t : List ℕ) → is_eq (slice_cmp nat_cmp s t) ≡ pointwise nat_eq s t
texts_tie s t = sym (lists_ties nat_cmp nat_ties s t)

pub groups_of_booleans : (xs : List Bool) (groups : Grouping) → AreGroups beq bool_cmp xs groups → AreGroups same_atom atom_cmp (map (λ x. a.Boolean x) xs) groups
groups_of_booleans = groups-map (λ x. a.Boolean x) beq bool_cmp booleans_tie booleans_agree

pub groups_of_bytes : (kind : ByteKind) (xs : List ℕ) (groups : Grouping) → AreGroups nat_eq nat_cmp xs groups → AreGroups same_atom atom_cmp (map (byte_atom kind) xs) groups
groups_of_bytes b.Byte = groups-map (byte_atom b.Byte) nat_eq nat_cmp naturals_tie naturals_agree
groups_of_bytes b.Character = groups-map (byte_atom b.Character) nat_eq nat_cmp naturals_tie naturals_agree

pub groups_of_shorts : (xs : List ℤ) (groups : Grouping) → AreGroups int_eq int_cmp xs groups → AreGroups same_atom atom_cmp (map (λ x. a.Short x) xs) groups
groups_of_shorts = groups-map (λ x. a.Short x) int_eq int_cmp integers_tie (λ x y. refl)

pub groups_of_integers : (kind : IntegerKind) (xs : List ℤ) (groups : Grouping) → AreGroups int_eq int_cmp xs groups → AreGroups same_atom atom_cmp (map (integer_atom kind) xs) groups
groups_of_integers i.Integer = groups-map (integer_atom i.Integer) int_eq int_cmp integers_tie (λ x y. refl)
groups_of_integers i.Month = groups-map (integer_atom i.Month) int_eq int_cmp integers_tie (λ x y. refl)
groups_of_integers i.Date = groups-map (integer_atom i.Date) int_eq int_cmp integers_tie (λ x y. refl)
groups_of_integers i.Minute = groups-map (integer_atom i.Minute) int_eq int_cmp integers_tie (λ x y. refl)
groups_of_integers i.Second = groups-map (integer_atom i.Second) int_eq int_cmp integers_tie (λ x y. refl)
groups_of_integers i.Time = groups-map (integer_atom i.Time) int_eq int_cmp integers_tie (λ x y. refl)

pub groups_of_longs : (kind : LongKind) (xs : List ℤ) (groups : Grouping) → AreGroups int_eq int_cmp xs groups → AreGroups same_atom atom_cmp (map (long_atom kind) xs) groups
groups_of_longs l.Long = groups-map (long_atom l.Long) int_eq int_cmp integers_tie (λ x y. refl)
groups_of_longs l.Timestamp = groups-map (long_atom l.Timestamp) int_eq int_cmp integers_tie (λ x y. refl)
groups_of_longs l.Timespan = groups-map (long_atom l.Timespan) int_eq int_cmp integers_tie (λ x y. refl)

pub groups_of_symbols : (xs : List (List ℕ)) (groups : Grouping) → AreGroups (pointwise nat_eq) (slice_cmp nat_cmp) xs groups → AreGroups same_atom atom_cmp (map (λ x. a.Symbol x) xs) groups
groups_of_symbols = groups-map (λ x. a.Symbol x) (pointwise nat_eq) (slice_cmp nat_cmp) texts_tie (λ x y. refl)

pub ruleset groups = (groups_of_booleans, groups_of_bytes, groups_of_shorts, groups_of_integers, groups_of_longs, groups_of_symbols)

map-mapped : {X Y Z : Type 0} (g : Y → Z) (f : X → Y) (xs : List X) → map (λ x. g (f x)) xs ≡ map g (map f xs)
map-mapped g f [] = refl
map-mapped g f (x ∷ xs) = ap (λ l. g (f x) ∷ l) (map-mapped g f xs)

pub groups_of_texts : (texts : List (Bor (List ℕ))) (xs : List (List ℕ)) (groups : Grouping) → map (λ t. t.now) texts ≡ xs
    → AreGroups (λ (x y : Bor (List ℕ)). pointwise nat_eq x.now y.now) (λ (x y : Bor (List ℕ)). slice_cmp nat_cmp x.now y.now) texts groups
    → AreGroups same_atom atom_cmp (map (λ x. a.Symbol x) xs) groups
groups_of_texts texts xs groups e h =
    let text : Bor (List ℕ) → List ℕ = λ t. t.now in
    subst (λ l. AreGroups same_atom atom_cmp l groups) (map-mapped (λ (x : List ℕ). a.Symbol x) text texts ∙ ap (map (λ (x : List ℕ). a.Symbol x)) e)
    (groups-map (λ (t : Bor (List ℕ)). a.Symbol t.now) (λ x y. pointwise nat_eq x.now y.now) (λ x y. slice_cmp nat_cmp x.now y.now) (λ x y. texts_tie x.now y.now) (λ x y. refl) texts groups h)
