-- Lists of trees, written in order.
use Rattle.std.proofs.Common.{◌≡◌, ℕ, zero, suc, ◌+◌, ◌-◌, ◌<◌, ◌≤◌, List, [], ◌∷◌, ◌++◌, length, take, drop, refl, sym, ap, ◌∙◌, append_assoc, arith}
use Rattle.std.specs.Prelude.{slice_get, Some}
use Rattle.std.proofs.lemmas.List.{append-nil}
use Rattle.q_values.specs.Tree.{Tree, Items, items_of, atom, vector, list, dict, table, keyed, identity, wrong, no_items, item}
use Rattle.ipc_codec.specs.Reading.{number_of_items}
use Rattle.ipc_codec.specs.Written.{written, written_items, Fits, AllFit}

pub number_of_items-of : (ts : List Tree) → number_of_items (items_of ts) ≡ length ts
number_of_items-of [] = refl
number_of_items-of (t ∷ ts) = ap suc (number_of_items-of ts)

pub written_items-more : (ts : List Tree) (i : ℕ) (t : Tree) → slice_get ts i ≡ Some t → written_items (items_of (take (i + 1) ts)) ≡ written_items (items_of (take i ts)) ++ written t
unfolding written
written_items-more [] zero t e = absurd cc
written_items-more [] (suc i) t e = absurd cc
written_items-more (u ∷ ts) zero t e = let same : u ≡ t = cc in rw same (append-nil (written t))
written_items-more (u ∷ ts) (suc i) t e =
    let n : suc i + 1 ≡ suc (i + 1) = omega arith in
    rw (n, written_items-more ts i t e) (sym (append_assoc (written u) (written_items (items_of (take i ts))) (written t)))

pub AllFit-at : (ts : List Tree) (i : ℕ) (t : Tree) → slice_get ts i ≡ Some t → AllFit (items_of ts) → Fits t
AllFit-at [] zero t e h = absurd cc
AllFit-at [] (suc i) t e h = absurd cc
AllFit-at (u ∷ ts) zero t e h = let same : u ≡ t = cc in rw (← same) h.0
AllFit-at (u ∷ ts) (suc i) t e h = AllFit-at ts i t e h.1

-- the number of objects in a tree, lists' ends counted too
abbrev mutual
  pub size : Tree → ℕ
  size (atom x) = 1
  size (vector v) = 1
  size (list items) = suc (size_items items)
  size (dict keys values) = suc (size keys + size values)
  size (table grid) = 1
  size (keyed keys values) = 1
  size identity = 1
  size (wrong text) = 1

  pub size_items : Items → ℕ
  size_items no_items = 1
  size_items (item t items) = suc (size t + size_items items)

pub size-at : (ts : List Tree) (i : ℕ) (t : Tree) → slice_get ts i ≡ Some t → size t < size_items (items_of ts)
size-at [] zero t e = absurd cc
size-at [] (suc i) t e = absurd cc
size-at (u ∷ ts) zero t e = let same : u ≡ t = cc in rw same (omega arith)
size-at (u ∷ ts) (suc i) t e = omega (arith, size-at ts i t e)

-- one more element, and then the rest
pub append-push : (old : List ℕ) (x : ℕ) (more : List ℕ) → (old ++ x ∷ []) ++ more ≡ old ++ x ∷ more
append-push old x more = append_assoc old (x ∷ []) more

pub ruleset items = (append-push, append_assoc, number_of_items-of)
