-- Filters of tables, one after the other.
use Rattle.std.proofs.Common.{Bool, add-one, ◌≡◌, ℕ, zero, suc, ◌+◌, ◌<◌, ◌==◌, ◌++◌, false, if◌then◌else◌, List, [], ◌∷◌, length, map, take, get_or, refl, sym, ap, ap₂, ◌∙◌, arith, Some, slice_get}
use Rattle.std.specs.List.{list_any}
use Rattle.std.specs.Str.{bytes_eq}
use Rattle.std.proofs.lemmas.List.{take_more, map-append, length-take-le, length-map}
use Rattle.std.proofs.lemmas.Option.{get_or_from_slice_get}
use Rattle.day_rows.specs.declared.schema.Shape.{Shape}
use Rattle.pubsub.specs.Filters.{nothing_of, is_asked, is_known, replaced, table_names}
use Rattle.pubsub.specs.declared.filter.Filter.{Filter}

-- one more element of a mapped list, which a call read
pub mapped_more : {X Y : Type 0} (f : X → Y) (xs : List X) (i : ℕ) (x : X) → i < length xs → slice_get xs i ≡ Some x → map f (take (i + 1) xs) ≡ map f (take i xs) ++ f x ∷ []
mapped_more f xs i x h e =
    ap (map f) (take_more xs i x h) ∙ map-append f (take i xs) (get_or xs i x ∷ []) ∙ ap (λ y. map f (take i xs) ++ f y ∷ []) (get_or_from_slice_get xs i x x e)

nothing_from : (schema : List Shape) (i : ℕ) → i < length schema → nothing_of (take (suc i) schema) ≡ nothing_of (take i schema) ++ Filter.Nothing ∷ []
nothing_from [] i h = absurd (omega (arith, h))
nothing_from (s ∷ schema) zero h = refl
nothing_from (s ∷ schema) (suc i) h = ap (λ l. Filter.Nothing ∷ l) (nothing_from schema i (omega (arith, h)))

-- one more table
pub nothing_more : (schema : List Shape) (i : ℕ) → i < length schema → nothing_of (take (i + 1) schema) ≡ nothing_of (take i schema) ++ Filter.Nothing ∷ []
nothing_more schema i h = rw add-one (nothing_from schema i h)

-- a name that isn't the null symbol
pub known_by_name : (asked : List ℕ) (tables : List (List ℕ)) → (length asked == 0) ≡ false → list_any (bytes_eq asked) tables ≡ is_known asked tables
known_by_name [] tables e = cc
known_by_name (b ∷ asked) tables e = refl

replaced-append : (asked : List ℕ) (new : Filter) (tables more : List (List ℕ)) (filters others : List Filter) → length filters ≡ length tables → replaced asked new (tables ++ more) (filters ++ others) ≡ replaced asked new tables filters ++ replaced asked new more others
replaced-append asked new [] more [] others size = refl
replaced-append asked new [] more (f ∷ filters) others size = absurd (omega (arith, size))
replaced-append asked new (t ∷ tables) more [] others size = absurd (omega (arith, size))
replaced-append asked new (t ∷ tables) more (f ∷ filters) others size =
    ap (λ l. (if is_asked asked t then new else f) ∷ l) (replaced-append asked new tables more filters others (omega (arith, size)))

-- one more table
replaced_more : (asked : List ℕ) (new : Filter) (tables : List (List ℕ)) (filters : List Filter) (i : ℕ) (table : List ℕ) (old : Filter) → length filters ≡ length tables → i < length tables → slice_get tables i ≡ Some table → old ≡ get_or filters i old → replaced asked new (take (i + 1) tables) (take (i + 1) filters) ≡ replaced asked new (take i tables) (take i filters) ++ (if is_asked asked table then new else old) ∷ []
replaced_more asked new tables filters i table old size h e o =
    ap₂ (replaced asked new) (take_more tables i table h) (take_more filters i old (omega (arith, size, h)))
    ∙ replaced-append asked new (take i tables) (get_or tables i table ∷ []) (take i filters) (get_or filters i old ∷ []) (length-take-le i filters (omega (arith, size, h)) ∙ sym (length-take-le i tables (omega (arith, h))))
    ∙ ap₂ (λ t f. replaced asked new (take i tables) (take i filters) ++ (if is_asked asked t then new else f) ∷ []) (get_or_from_slice_get tables i table table e) (sym o)

-- its filter is put at the end
pub replaced_push : (asked : List ℕ) (new : Filter) (tables : List (List ℕ)) (filters : List Filter) (i : ℕ) (table : List ℕ) (old put : Filter) (found after : List Filter) (named : Bool) → length filters ≡ length tables → i < length tables → slice_get tables i ≡ Some table → old ≡ get_or filters i old
    → named ≡ is_asked asked table → put ≡ (if named then new else old) → found ≡ replaced asked new (take i tables) (take i filters) → after ≡ found ++ put ∷ []
    → after ≡ replaced asked new (take (i + 1) tables) (take (i + 1) filters)
replaced_push asked new tables filters i table old put found after named size h e o n p before pushed =
    pushed
    ∙ ap₂ (λ (l : List Filter) (f : Filter). l ++ f ∷ []) before (p ∙ ap (λ b. if b then new else old) n)
    ∙ sym (replaced_more asked new tables filters i table old size h e o)

length-replaced : (asked : List ℕ) (new : Filter) (tables : List (List ℕ)) (filters : List Filter) → length filters ≡ length tables → length (replaced asked new tables filters) ≡ length tables
length-replaced asked new [] filters size = refl
length-replaced asked new (t ∷ tables) [] size = absurd (omega (arith, size))
length-replaced asked new (t ∷ tables) (f ∷ filters) size = ap suc (length-replaced asked new tables filters (omega (arith, size)))

beside_names : (names : List (List ℕ)) (filters : List Filter) (schema : List Shape) → names ≡ table_names schema → length filters ≡ length schema → length filters ≡ length names
beside_names names filters schema are each = each ∙ sym (length-map schema (λ (s : Shape). s.table)) ∙ sym (ap length are)

-- there are as many filters after a request
pub still_each : (asked : List ℕ) (new : Filter) (names : List (List ℕ)) (filters found : List Filter) (schema : List Shape) → names ≡ table_names schema → length filters ≡ length schema → found ≡ replaced asked new names filters → length found ≡ length schema
still_each asked new names filters found schema are each e =
    let beside = beside_names names filters schema are each in
    ap length e ∙ length-replaced asked new names filters beside ∙ sym beside ∙ each
