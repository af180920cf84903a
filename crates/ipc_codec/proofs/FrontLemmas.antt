-- Loops that read one item after another.
use Rattle.std.proofs.Common.{◌≡◌, ℕ, suc, ◌+◌, ◌-◌, ◌<◌, ◌≤◌, List, [], ◌∷◌, ◌++◌, Result, Ok, Err, refl, sym, ap, ◌∙◌, append_assoc, arith}
use Rattle.std.proofs.lemmas.List.{append-nil}
use Rattle.q_values.specs.Contents.{Contents}
use Rattle.q_values.specs.Tree.{Tree, Items, items_of, no_items, item}
use Rattle.ipc_codec.specs.declared.fault.Fault.{Fault}
use Rattle.ipc_codec.specs.declared.fault.Stop.{Stop}
use Rattle.ipc_codec.specs.declared.fault.Stop.TheVariants as s
use Rattle.ipc_codec.specs.declared.order.Order.{Order}
use Rattle.ipc_codec.specs.Front.{with_front}
use Rattle.ipc_codec.specs.Reading.{◌>>=◌, Stops, text_at, texts_at, column_at, columns_at, items_at}

regroup : {X : Type 0} (front : List X) (x : X) (r : Result (List X × List ℕ) Fault) → with_front front (r >>= λ others. Ok (x ∷ others.0, others.1)) ≡ with_front (front ++ x ∷ []) r
regroup front x (Ok r) = rw (append_assoc front (x ∷ []) r.0) refl
regroup front x (Err e) = refl

pub Stops-from : {X Y : Type 0} (e : Stop) (r : Result X Fault) (total : Result Y Fault) → ((f : Fault) → r ≡ Err f → total ≡ Err f) → Stops e r → Stops e total
Stops-from s.Memory r total h k = tt
Stops-from (s.At f) r total h k = h f k

-- ---- texts

pub texts_at-more : (front : List (List ℕ)) (count i : ℕ) (rest text after : List ℕ) (total : Result (List (List ℕ) × List ℕ) Fault) → i < count → text_at rest ≡ Ok (text, after) → with_front front (texts_at (count - i) rest) ≡ total → with_front (front ++ text ∷ []) (texts_at (count - (i + 1)) after) ≡ total
unfolding texts_at
texts_at-more front count i rest text after total lt h so_far =
    let k : count - i ≡ suc (count - (i + 1)) = omega arith in
    let one : with_front front (texts_at (count - i) rest) ≡ with_front (front ++ text ∷ []) (texts_at (count - (i + 1)) after) = rw (k, h) (regroup front text (texts_at (count - (i + 1)) after)) in
    sym one ∙ so_far

pub texts_at-ends : (front : List (List ℕ)) (count i : ℕ) (rest : List ℕ) (e : Fault) (total : Result (List (List ℕ) × List ℕ) Fault) → i < count → text_at rest ≡ Err e → with_front front (texts_at (count - i) rest) ≡ total → total ≡ Err e
unfolding texts_at
texts_at-ends front count i rest e total lt h so_far =
    let k : count - i ≡ suc (count - (i + 1)) = omega arith in
    let one : with_front front (texts_at (count - i) rest) ≡ Err e = rw (k, h) refl in
    sym so_far ∙ one

pub texts_at-done : (front : List (List ℕ)) (count i : ℕ) (rest : List ℕ) (total : Result (List (List ℕ) × List ℕ) Fault) → count ≤ i → with_front front (texts_at (count - i) rest) ≡ total → total ≡ Ok (front, rest)
unfolding texts_at
texts_at-done front count i rest total le so_far =
    let k : count - i ≡ 0 = omega arith in
    let one : with_front front (texts_at (count - i) rest) ≡ Ok (front, rest) = rw k (ap (λ (xs : List (List ℕ)). Ok (xs, rest)) (append-nil front)) in
    sym so_far ∙ one

pub texts_at-starts : (count : ℕ) (bytes : List ℕ) → with_front [] (texts_at count bytes) ≡ texts_at count bytes
texts_at-starts count bytes = by_cases (texts_at count bytes)
  where
    by_cases : (r : Result (List (List ℕ) × List ℕ) Fault) → with_front [] r ≡ r
    by_cases (Ok x) = refl
    by_cases (Err e) = refl

-- ---- columns

pub columns_at-more : (room : ℕ) (order : Order) (front : List Contents) (count i : ℕ) (rest : List ℕ) (column : Contents) (after : List ℕ) (total : Result (List Contents × List ℕ) Fault) → i < count → column_at room order rest ≡ Ok (column, after) → with_front front (columns_at room order (count - i) rest) ≡ total → with_front (front ++ column ∷ []) (columns_at room order (count - (i + 1)) after) ≡ total
unfolding columns_at
columns_at-more room order front count i rest column after total lt h so_far =
    let k : count - i ≡ suc (count - (i + 1)) = omega arith in
    let one : with_front front (columns_at room order (count - i) rest) ≡ with_front (front ++ column ∷ []) (columns_at room order (count - (i + 1)) after) = rw (k, h) (regroup front column (columns_at room order (count - (i + 1)) after)) in
    sym one ∙ so_far

pub columns_at-ends : (room : ℕ) (order : Order) (front : List Contents) (count i : ℕ) (rest : List ℕ) (e : Fault) (total : Result (List Contents × List ℕ) Fault) → i < count → column_at room order rest ≡ Err e → with_front front (columns_at room order (count - i) rest) ≡ total → total ≡ Err e
unfolding columns_at
columns_at-ends room order front count i rest e total lt h so_far =
    let k : count - i ≡ suc (count - (i + 1)) = omega arith in
    let one : with_front front (columns_at room order (count - i) rest) ≡ Err e = rw (k, h) refl in
    sym so_far ∙ one

pub columns_at-done : (room : ℕ) (order : Order) (front : List Contents) (count i : ℕ) (rest : List ℕ) (total : Result (List Contents × List ℕ) Fault) → count ≤ i → with_front front (columns_at room order (count - i) rest) ≡ total → total ≡ Ok (front, rest)
unfolding columns_at
columns_at-done room order front count i rest total le so_far =
    let k : count - i ≡ 0 = omega arith in
    let one : with_front front (columns_at room order (count - i) rest) ≡ Ok (front, rest) = rw k (ap (λ (xs : List Contents). Ok (xs, rest)) (append-nil front)) in
    sym so_far ∙ one

pub columns_at-starts : (room : ℕ) (order : Order) (count : ℕ) (bytes : List ℕ) → with_front [] (columns_at room order count bytes) ≡ columns_at room order count bytes
columns_at-starts room order count bytes = by_cases (columns_at room order count bytes)
  where
    by_cases : (r : Result (List Contents × List ℕ) Fault) → with_front [] r ≡ r
    by_cases (Ok x) = refl
    by_cases (Err e) = refl

-- ---- objects

abbrev pub items_behind : List Tree → Items → Items
items_behind [] items = items
items_behind (t ∷ ts) items = item t (items_behind ts items)

-- what is read after these trees
abbrev pub behind_items : List Tree → Result (Items × List ℕ) Fault → Result (Items × List ℕ) Fault
behind_items front (Ok x) = Ok (items_behind front x.0, x.1)
behind_items front (Err e) = Err e

items_behind-push : (front : List Tree) (t : Tree) (items : Items) → items_behind (front ++ t ∷ []) items ≡ items_behind front (item t items)
items_behind-push [] t items = refl
items_behind-push (u ∷ front) t items = ap (item u) (items_behind-push front t items)

items_behind-none : (front : List Tree) → items_behind front no_items ≡ items_of front
items_behind-none [] = refl
items_behind-none (u ∷ front) = ap (item u) (items_behind-none front)

regroup_items : (front : List Tree) (t : Tree) (r : Result (Items × List ℕ) Fault) → behind_items front (r >>= λ others. Ok (item t others.0, others.1)) ≡ behind_items (front ++ t ∷ []) r
regroup_items front t (Ok r) = rw (items_behind-push front t r.0) refl
regroup_items front t (Err e) = refl

pub items_at-more : (object : List ℕ → Result (Tree × List ℕ) Fault) (front : List Tree) (count i : ℕ) (rest : List ℕ) (t : Tree) (after : List ℕ) (total : Result (Items × List ℕ) Fault) → i < count → object rest ≡ Ok (t, after) → behind_items front (items_at object (count - i) rest) ≡ total → behind_items (front ++ t ∷ []) (items_at object (count - (i + 1)) after) ≡ total
unfolding items_at
items_at-more object front count i rest t after total lt h so_far =
    let k : count - i ≡ suc (count - (i + 1)) = omega arith in
    let one : behind_items front (items_at object (count - i) rest) ≡ behind_items (front ++ t ∷ []) (items_at object (count - (i + 1)) after) = rw (k, h) (regroup_items front t (items_at object (count - (i + 1)) after)) in
    sym one ∙ so_far

pub items_at-ends : (object : List ℕ → Result (Tree × List ℕ) Fault) (front : List Tree) (count i : ℕ) (rest : List ℕ) (e : Fault) (total : Result (Items × List ℕ) Fault) → i < count → object rest ≡ Err e → behind_items front (items_at object (count - i) rest) ≡ total → total ≡ Err e
unfolding items_at
items_at-ends object front count i rest e total lt h so_far =
    let k : count - i ≡ suc (count - (i + 1)) = omega arith in
    let one : behind_items front (items_at object (count - i) rest) ≡ Err e = rw (k, h) refl in
    sym so_far ∙ one

pub items_at-done : (object : List ℕ → Result (Tree × List ℕ) Fault) (front : List Tree) (count i : ℕ) (rest : List ℕ) (total : Result (Items × List ℕ) Fault) → count ≤ i → behind_items front (items_at object (count - i) rest) ≡ total → total ≡ Ok (items_of front, rest)
unfolding items_at
items_at-done object front count i rest total le so_far =
    let k : count - i ≡ 0 = omega arith in
    let one : behind_items front (items_at object (count - i) rest) ≡ Ok (items_of front, rest) = rw k (ap (λ (xs : Items). Ok (xs, rest)) (items_behind-none front)) in
    sym so_far ∙ one

pub items_at-starts : (object : List ℕ → Result (Tree × List ℕ) Fault) (count : ℕ) (bytes : List ℕ) → behind_items [] (items_at object count bytes) ≡ items_at object count bytes
items_at-starts object count bytes = by_cases (items_at object count bytes)
  where
    by_cases : (r : Result (Items × List ℕ) Fault) → behind_items [] r ≡ r
    by_cases (Ok x) = refl
    by_cases (Err e) = refl
