-- Tables as they grow.
use Rattle.std.proofs.Common.{◌≡◌, ◌≢◌, ℕ, suc, ◌<◌, ◌&&◌, codes, Bool, true, false, List, [], ◌∷◌, ◌++◌, length, take, insert, map, refl, sym, ap, ap₂, ◌∙◌, arith, rules, cond, is_eq, is_gt}
use Rattle.std.specs.Cmp.{IsTotalOrder}
use Rattle.std.proofs.lemmas.Cmp.{nat_list_cmp_total, on_total}
use Rattle.std.proofs.lemmas.List.Sorted.{length_permutation}
use Rattle.std.specs.List.{list_any, AllByRecursion}
use Rattle.std.specs.Str.{bytes_eq}
use Rattle.std.proofs.lemmas.List.{length-append}
use Rattle.std.proofs.lemmas.Slice.Eq.{bytes_eq-Decides}
use Rattle.std.proofs.lemmas.Map.Text.{is_eq-slice_cmp}
use Rattle.q_values.specs.declared.kind.Kind.{Kind}
use Rattle.q_values.specs.declared.kind.Kind.TheVariants as k
use Rattle.day_rows.specs.Schema.{IsName, IsShape, IsSchema, AreDistinct, by_name}
use Rattle.day_rows.specs.Sorted.{inserted}
use Rattle.day_rows.specs.declared.schema.Shape.{Shape}
use Rattle.day_rows.proofs.DayLemmas.{all-append}
use Rattle.day_rows.proofs.Sorting.{all_weaker, all-inserted, rises-inserted, IsPermutation-inserted}
use Rattle.schema_text.specs.Growing.{IsGrowing}
use Rattle.schema_text.specs.Positions.{below_count}
use Rattle.schema_text.specs.Kinds.{is_first_names, is_first_kinds}
use Rattle.schema_text.proofs.Words.{apart-from_list_any, list_any-mapped}

distinct-push : (xs : List (List ℕ)) (new : List ℕ) → AreDistinct xs → AllByRecursion (λ x. bytes_eq new x ≡ false) xs → AreDistinct (xs ++ new ∷ [])
distinct-push [] new h apart = (tt, tt)
distinct-push (x ∷ xs) new h apart = (all-append (λ y. bytes_eq y x ≡ false) xs (new ∷ []) h.0 (apart.0, tt), distinct-push xs new h.1 apart.1)

-- one column more
pub growing-push : (shape : Shape) (name : List ℕ) (kind : Kind) → IsGrowing shape → IsName name → list_any (bytes_eq name) shape.names ≡ false → length shape.names < 48 → kind ≢ k.Character
    → IsGrowing (record shape { names = shape.names ++ name ∷ []; kinds = shape.kinds ++ kind ∷ [] })
growing-push shape name kind is own fresh few plain = record {
  table = is.table;
  names = all-append IsName shape.names (name ∷ []) is.names (own, tt);
  distinct = distinct-push shape.names name is.distinct (apart-from_list_any (bytes_eq name) shape.names fresh);
  few = omega (arith, length-append shape.names (name ∷ []), few);
  named = omega (arith, length-append shape.names (name ∷ []), length-append shape.kinds (kind ∷ []), is.named);
  kinds = all-append (λ other. other ≢ k.Character) shape.kinds (kind ∷ []) is.kinds (plain, tt);
}

same-bytes : (xs ys : List ℕ) → bytes_eq xs ys ≡ true → xs ≡ ys
same-bytes xs ys h = search (rules, bytes_eq-Decides)

both : (a b : Bool) → (a && b) ≡ true → (a ≡ true) × (b ≡ true)
both true true h = (refl, refl)
both true false h = cc
both false b h = cc

first_names : (names : List (List ℕ)) → is_first_names names ≡ true → take 2 names ≡ codes "time" ∷ codes "sym" ∷ []
first_names [] h = cc
first_names (first ∷ []) h = cc
first_names (first ∷ second ∷ names) h =
    let parts = both (bytes_eq first (codes "time")) (bytes_eq second (codes "sym")) h in
    ap₂ (λ a b. a ∷ b ∷ []) (same-bytes first (codes "time") parts.0) (same-bytes second (codes "sym") parts.1)

first_kinds : (kinds : List Kind) → is_first_kinds kinds ≡ true → take 2 kinds ≡ k.Timespan ∷ k.Symbol ∷ []
first_kinds kinds h = search rules

-- a table that has been read
pub shape-read : (shape : Shape) → IsGrowing shape → (is_first_names shape.names && is_first_kinds shape.kinds) ≡ true → IsShape shape
shape-read shape is h =
    let parts = both (is_first_names shape.names) (is_first_kinds shape.kinds) h in
    record {
      table = is.table;
      names = is.names;
      distinct = is.distinct;
      few = is.few;
      named = is.named;
      first_names = first_names shape.names parts.0;
      first_kinds = first_kinds shape.kinds parts.1;
      kinds = is.kinds;
    }

pub inserted-at : (new : Shape) (tables : List Shape) → inserted by_name new tables ≡ insert tables (below_count new.table tables) new
inserted-at new [] = refl
inserted-at new (table ∷ tables) =
    elim (is_gt (by_name new table)) as (λ b. cond b (table ∷ inserted by_name new tables) (new ∷ table ∷ tables) ≡ insert (table ∷ tables) (cond b (suc (below_count new.table tables)) 0) new)
    [ true ↦ ap (λ l. table ∷ l) (inserted-at new tables) | false ↦ refl ]

pub by_name_total : IsTotalOrder by_name
by_name_total = on_total (λ (shape : Shape). shape.table) nat_list_cmp_total

pub length-inserted : (new : Shape) (tables : List Shape) → length (inserted by_name new tables) ≡ suc (length tables)
length-inserted new tables = sym (length_permutation (inserted by_name new tables) (new ∷ tables) (IsPermutation-inserted by_name by_name_total new tables))

-- one table more
pub schema-inserted : (new : Shape) (tables : List Shape) → IsSchema tables → IsShape new → list_any (bytes_eq new.table) (map (λ (other : Shape). other.table) tables) ≡ false → length tables < 64 → IsSchema (inserted by_name new tables)
schema-inserted new tables is own fresh few =
    let apart = apart-from_list_any (λ (other : Shape). bytes_eq new.table other.table) tables (sym (list_any-mapped (bytes_eq new.table) (λ (other : Shape). other.table) tables) ∙ fresh) in
    let differ : AllByRecursion (λ other. is_eq (by_name new other) ≡ false) tables =
    all_weaker (λ (other : Shape). bytes_eq new.table other.table ≡ false) (λ other. is_eq (by_name new other) ≡ false) (λ other h. is_eq-slice_cmp new.table other.table ∙ h) tables apart in
    record {
      few = omega (arith, length-inserted new tables, few);
      each = all-inserted by_name by_name_total IsShape new tables own is.each;
      ascends = rises-inserted by_name by_name_total new tables differ is.ascends;
    }
