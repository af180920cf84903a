-- Flags of items that are computed in blocks.
use Rattle.std.proofs.Common.{◌≡◌, ◌<◌, ◌≤◌, ◌+◌, ◌++◌, ℕ, Bool, List, [], ◌∷◌, length, take, drop, map, set, get_or, sym, ap, ap₂, ◌∙◌}
use Rattle.std.proofs.lemmas.List.{take_more_set, take_more, take_all, map_push, map-append}
use Rattle.std.proofs.Math.Seq.{take-add}

-- one flag more that is put in its place
pub put_more : {X : Type 0} (f : X → Bool) (items : List X) (block : List Bool) (k : ℕ) (x : X) (y : Bool) → k < length block → k < length items → get_or items k x ≡ x → y ≡ f x
    → take k block ≡ map f (take k items) → take (k + 1) (set block k y) ≡ map f (take (k + 1) items)
put_more f items block k x y inside within there is done =
    take_more_set block k y inside ∙ ap₂ (λ l z. l ++ z ∷ []) done is ∙ sym (map_push f (take k items) x)
    ∙ ap (map f) (ap (λ z. take k items ++ z ∷ []) (sym there) ∙ sym (take_more items k x within))

-- all of them
pub put_all : {X : Type 0} (f : X → Bool) (items : List X) (block : List Bool) (k : ℕ) → length block ≤ k → length items ≤ k → take k block ≡ map f (take k items) → block ≡ map f items
put_all f items block k short small done = sym (take_all k block short) ∙ done ∙ ap (map f) (take_all k items small)

-- the flags of a part more
pub grown : {X : Type 0} (f : X → Bool) (items : List X) (done part : ℕ) → map f (take done items) ++ map f (take part (drop done items)) ≡ map f (take (done + part) items)
grown f items done part = sym (map-append f (take done items) (take part (drop done items))) ∙ ap (map f) (sym (take-add done part items))
