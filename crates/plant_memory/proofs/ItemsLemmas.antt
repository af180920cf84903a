-- Items, in order.
use Rattle.std.proofs.Common.{◌≡◌, ℕ, zero, suc, ◌+◌, ◌<◌, ◌≤◌, ◌∷◌, [], List, length, get_or, take, drop, map, refl, sym, ap, ◌∙◌, arith, true, false, Bool, cond, Some, None, slice_get, replicate, ◌++◌}
use Rattle.std.specs.List.{list_all, list_any}
use Rattle.std.proofs.lemmas.List.{map_push, take_more, drop_more, length-map, get_or-map, take_all, length-drop}
use Rattle.std.proofs.lemmas.List.Folds.{list_all_more, list_all_at, list_any_more, list_any_at}
use Rattle.std.proofs.lemmas.Option.{get_or_from_slice_get}
use Rattle.q_values.specs.Contents.{Contents}
use Rattle.q_values.specs.Lists.{gathered}
use Rattle.q_values.specs.Tree.{Tree, tree}
use Rattle.q_values.specs.declared.atom.Atom.{Atom}
use Rattle.q_values.specs.declared.atom.Atom.TheVariants as a
use Rattle.q_values.specs.declared.kind.Kind.{Kind}
use Rattle.q_values.specs.declared.value.Value.{Value}
use Rattle.q_values.specs.Column.{contents, byte_atom, integer_atom, long_atom}
use Rattle.q_values.specs.declared.column.Column.{Column}
use Rattle.q_values.specs.declared.column.Column.TheVariants as c
use Rattle.q_values.specs.declared.kind.ByteKind.TheVariants as b
use Rattle.q_values.specs.declared.kind.IntegerKind.TheVariants as n
use Rattle.q_values.specs.declared.kind.LongKind.TheVariants as l
use Rattle.plant_memory.specs.Items.{is_of_kind, wrong_from, is_long_symbol}

-- the tree of an item that a loop reads
pub tree_at : (xs : List Value) (i : ℕ) (x : Value) (d : Tree) → i < length xs → x ≡ get_or xs i x → get_or (map tree xs) i d ≡ tree x
tree_at xs i x d i_in is = get_or-map tree xs i x d i_in ∙ ap tree (sym is)

pub all_more : (p : Tree → Bool) (xs : List Value) (i : ℕ) (x : Value) → i < length xs → x ≡ get_or xs i x → list_all p (take i (map tree xs)) ≡ true → p (tree x) ≡ true → list_all p (take (i + 1) (map tree xs)) ≡ true
all_more p xs i x i_in is before here =
    let size : i < length (map tree xs) = omega (arith, i_in, length-map xs tree) in
    list_all_more p (map tree xs) i (tree x) size ∙ rw (before, tree_at xs i x (tree x) i_in is, here) refl

pub all_not : (p : Tree → Bool) (xs : List Value) (i : ℕ) (x : Value) → i < length xs → x ≡ get_or xs i x → p (tree x) ≡ false → false ≡ list_all p (map tree xs)
all_not p xs i x i_in is here =
    let size : i < length (map tree xs) = omega (arith, i_in, length-map xs tree) in
    sym (list_all_at p (map tree xs) i (tree x) size (ap p (tree_at xs i x (tree x) i_in is) ∙ here))

pub all_all : (p : Tree → Bool) (xs : List Value) (n : ℕ) → length xs ≤ n → list_all p (take n (map tree xs)) ≡ true → true ≡ list_all p (map tree xs)
all_all p xs n enough before = sym (ap (list_all p) (sym (take_all n (map tree xs) (omega (arith, enough, length-map xs tree)))) ∙ before)

pub any_more : {X : Type 0} (p : X → Bool) (xs : List X) (i : ℕ) (x : X) → i < length xs → x ≡ get_or xs i x → list_any p (take i xs) ≡ false → p x ≡ false → list_any p (take (i + 1) xs) ≡ false
any_more p xs i x i_in is before here =
    list_any_more p xs i x i_in ∙ rw (before, ← is, here) refl

pub any_at : {X : Type 0} (p : X → Bool) (xs : List X) (i : ℕ) (x : X) → i < length xs → x ≡ get_or xs i x → p x ≡ true → true ≡ list_any p xs
any_at p xs i x i_in is here = sym (list_any_at p xs i x i_in (ap p (sym is) ∙ here))

pub any_all : {X : Type 0} (p : X → Bool) (xs : List X) (n : ℕ) → length xs ≤ n → list_any p (take n xs) ≡ false → false ≡ list_any p xs
any_all p xs n enough before = sym (ap (list_any p) (sym (take_all n xs enough)) ∙ before)

-- the next item is of its column's kind, or is the first that isn't
wrong_step : (place i : ℕ) (kinds : List Kind) (xs : List Value) (d : Kind) (x : Value) → i < length kinds → i < length xs → x ≡ get_or xs i x
    → wrong_from (place + i) (drop i kinds) (drop i (map tree xs)) ≡ cond (is_of_kind (get_or kinds i d) (tree x)) (wrong_from (place + i + 1) (drop (suc i) kinds) (drop (suc i) (map tree xs))) (Some (place + i))
wrong_step place i kinds xs d x k_in i_in x_is =
    let size : i < length (map tree xs) = omega (arith, i_in, length-map xs tree) in
    let one : i + 1 ≡ suc i = omega arith in
    rw (drop_more kinds i d k_in, drop_more (map tree xs) i (tree x) size, tree_at xs i x (tree x) i_in x_is, ← one) refl

pub wrong_more : (place i : ℕ) (kinds : List Kind) (xs : List Value) (d : Kind) (x : Value) → i < length kinds → i < length xs → x ≡ get_or xs i x → is_of_kind (get_or kinds i d) (tree x) ≡ true
    → wrong_from place kinds (map tree xs) ≡ wrong_from (place + i) (drop i kinds) (drop i (map tree xs)) → wrong_from place kinds (map tree xs) ≡ wrong_from (place + (i + 1)) (drop (i + 1) kinds) (drop (i + 1) (map tree xs))
wrong_more place i kinds xs d x k_in i_in x_is right before =
    let one : i + 1 ≡ suc i = omega arith in
    let next : place + suc i ≡ place + i + 1 = omega arith in
    before ∙ wrong_step place i kinds xs d x k_in i_in x_is ∙ rw (right, one, next) refl

pub wrong_here : (place i : ℕ) (kinds : List Kind) (xs : List Value) (d : Kind) (x : Value) → i < length kinds → i < length xs → x ≡ get_or xs i x → is_of_kind (get_or kinds i d) (tree x) ≡ false
    → wrong_from place kinds (map tree xs) ≡ wrong_from (place + i) (drop i kinds) (drop i (map tree xs)) → Some (place + i) ≡ wrong_from place kinds (map tree xs)
wrong_here place i kinds xs d x k_in i_in x_is wrong before =
    sym (before ∙ wrong_step place i kinds xs d x k_in i_in x_is ∙ rw wrong refl)

pub wrong_none : (place n : ℕ) (kinds : List Kind) (xs : List Value) → length kinds ≤ n → wrong_from place kinds (map tree xs) ≡ wrong_from (place + n) (drop n kinds) (drop n (map tree xs)) → None ≡ wrong_from place kinds (map tree xs)
wrong_none place n kinds xs enough before = sym (before ∙ none (place + n) (drop n kinds) (drop n (map tree xs)) (omega (arith, enough, length-drop n kinds)))
  where
    none : (p : ℕ) (ks : List Kind) (ts : List Tree) → length ks ≡ 0 → wrong_from p ks ts ≡ None
    none p [] ts empty = refl
    none p (x ∷ ks) ts empty = absurd (omega arith)

short : {X : Type 0} (limit : ℕ) (f : X → Atom) → ((x : X) → is_long_symbol limit (f x) ≡ false) → (xs : List X) → list_any (is_long_symbol limit) (map f xs) ≡ false
short limit f h [] = refl
short limit f h (x ∷ xs) = rw (h x) (short limit f h xs)

abbrev pub are_symbols : Column → Bool
are_symbols (c.Booleans xs) = false
are_symbols (c.Bytes kind xs) = false
are_symbols (c.Shorts xs) = false
are_symbols (c.Integers kind xs) = false
are_symbols (c.Longs kind xs) = false
are_symbols (c.Symbols xs) = true

no_long : (limit : ℕ) (column : Column) → are_symbols column ≡ false → list_any (is_long_symbol limit) (contents column).atoms ≡ false
no_long limit (c.Booleans xs) never = short limit (λ x. a.Boolean x) (λ x. refl) xs.items
no_long limit (c.Bytes kind xs) never = short limit (byte_atom kind) (λ x. elim kind as (λ b. is_long_symbol limit (byte_atom b x) ≡ false) [ b.Byte ↦ refl | b.Character ↦ refl ]) xs.items
no_long limit (c.Shorts xs) never = short limit (λ x. a.Short x) (λ x. refl) xs.items
no_long limit (c.Integers kind xs) never = short limit (integer_atom kind) (λ x. elim kind as (λ b. is_long_symbol limit (integer_atom b x) ≡ false) [ n.Integer ↦ refl | n.Month ↦ refl | n.Date ↦ refl | n.Minute ↦ refl | n.Second ↦ refl | n.Time ↦ refl ]) xs.items
no_long limit (c.Longs kind xs) never = short limit (long_atom kind) (λ x. elim kind as (λ b. is_long_symbol limit (long_atom b x) ≡ false) [ l.Long ↦ refl | l.Timestamp ↦ refl | l.Timespan ↦ refl ]) xs.items
no_long limit (c.Symbols xs) never = absurd cc

-- a column that isn't of symbols has no long ones
pub none_long : (limit : ℕ) (column : Column) (v : Contents) → contents column ≡ v → are_symbols column ≡ false → false ≡ list_any (is_long_symbol limit) v.atoms
none_long limit column v is never = sym (ap (λ (x : Contents). list_any (is_long_symbol limit) x.atoms) (sym is) ∙ no_long limit column never)

pub map-replicate : {X Y : Type 0} (f : X → Y) (n : ℕ) (x : X) → map f (replicate n x) ≡ replicate n (f x)
map-replicate f zero x = refl
map-replicate f (suc n) x = ap (λ l. f x ∷ l) (map-replicate f n x)

pub any_symbol_more : (limit : ℕ) (xs : List (List ℕ)) (i : ℕ) (x : List ℕ) → i < length xs → slice_get xs i ≡ Some x → list_any (is_long_symbol limit) (take i (map (λ s. a.Symbol s) xs)) ≡ false → is_long_symbol limit (a.Symbol x) ≡ false
    → list_any (is_long_symbol limit) (take (i + 1) (map (λ s. a.Symbol s) xs)) ≡ false
any_symbol_more limit xs i x i_in is before here =
    let at : a.Symbol x ≡ get_or (map (λ s. a.Symbol s) xs) i (a.Symbol x) = sym (get_or-map (λ (s : List ℕ). a.Symbol s) xs i x (a.Symbol x) i_in ∙ ap (λ (s : List ℕ). a.Symbol s) (get_or_from_slice_get xs i x x is)) in
    any_more (is_long_symbol limit) (map (λ s. a.Symbol s) xs) i (a.Symbol x) (omega (arith, i_in, length-map xs (λ (s : List ℕ). a.Symbol s))) at before here

pub any_symbol_at : (limit : ℕ) (xs : List (List ℕ)) (i : ℕ) (x : List ℕ) → i < length xs → slice_get xs i ≡ Some x → is_long_symbol limit (a.Symbol x) ≡ true → true ≡ list_any (is_long_symbol limit) (map (λ s. a.Symbol s) xs)
any_symbol_at limit xs i x i_in is here =
    let at : a.Symbol x ≡ get_or (map (λ s. a.Symbol s) xs) i (a.Symbol x) = sym (get_or-map (λ (s : List ℕ). a.Symbol s) xs i x (a.Symbol x) i_in ∙ ap (λ (s : List ℕ). a.Symbol s) (get_or_from_slice_get xs i x x is)) in
    any_at (is_long_symbol limit) (map (λ s. a.Symbol s) xs) i (a.Symbol x) (omega (arith, i_in, length-map xs (λ (s : List ℕ). a.Symbol s))) at here

-- the same of items
pub any_item_more : (p : Tree → Bool) (xs : List Value) (i : ℕ) (x : Value) → i < length xs → x ≡ get_or xs i x → list_any p (take i (map tree xs)) ≡ false → p (tree x) ≡ false → list_any p (take (i + 1) (map tree xs)) ≡ false
any_item_more p xs i x i_in is before here = any_more p (map tree xs) i (tree x) (omega (arith, i_in, length-map xs tree)) (sym (tree_at xs i x (tree x) i_in is)) before here

pub any_item_at : (p : Tree → Bool) (xs : List Value) (i : ℕ) (x : Value) → i < length xs → x ≡ get_or xs i x → p (tree x) ≡ true → true ≡ list_any p (map tree xs)
any_item_at p xs i x i_in is here = any_at p (map tree xs) i (tree x) (omega (arith, i_in, length-map xs tree)) (sym (tree_at xs i x (tree x) i_in is)) here

pub gathered-zeros : {X : Type 0} (n : ℕ) (x : X) → gathered (x ∷ []) (replicate n 0) ≡ replicate n x
gathered-zeros zero x = refl
gathered-zeros (suc n) x = ap (λ l. x ∷ l) (gathered-zeros n x)

-- one more item of a list that is mapped
pub spread_more : (f : Tree → Contents) (xs : List Value) (i : ℕ) (x : Value) → i < length xs → x ≡ get_or xs i x → map f (take (i + 1) (map tree xs)) ≡ map f (take i (map tree xs)) ++ f (tree x) ∷ []
spread_more f xs i x i_in is =
    ap (map f) (take_more (map tree xs) i (tree x) (omega (arith, i_in, length-map xs tree)))
    ∙ rw (tree_at xs i x (tree x) i_in is) (map_push f (take i (map tree xs)) (tree x))
