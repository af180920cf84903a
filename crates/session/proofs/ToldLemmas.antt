-- What devices tell in two parts, and counts that rise in two steps.
use Rattle.std.proofs.Common.{◌≡◌, ◌+◌, ℕ, zero, suc, List, [], ◌++◌, refl, sym, ap, ◌∙◌, arith, Option, Some, None, append_assoc}
use Rattle.std.proofs.lemmas.List.{append-nil}
use Rattle.link_reader.specs.Moved.{moved}
use Rattle.outside_api.specs.Counts.{counted, next_count}
use Rattle.outside_api.specs.Link.{LinkView}
use Rattle.outside_api.specs.Told.{told, Tells}

pub told-nil : {X : Type 0} (o : Option (List X)) → told o [] ≡ o
told-nil None = refl
told-nil (Some xs) = ap Some (append-nil xs)

pub told-told : {X : Type 0} (o : Option (List X)) (xs ys : List X) → told (told o xs) ys ≡ told o (xs ++ ys)
told-told None xs ys = refl
told-told (Some zs) xs ys = ap Some (append_assoc zs xs ys)

counted_twice : (m n c : ℕ) → counted (counted c m) n ≡ counted c (m + n)
counted_twice zero n c = let e : 0 + n ≡ n = omega arith in rw e refl
counted_twice (suc m) n c = let e : suc m + n ≡ suc (m + n) = omega arith in rw e (counted_twice m n (next_count c))

pub counted-counted : (c m n : ℕ) → counted (counted c m) n ≡ counted c (m + n)
counted-counted c m n = counted_twice m n c

pub moved-none : (link : LinkView) → moved link [] [] 0 ≡ link
moved-none link = rw (told-nil link.given, told-nil link.taken) refl

-- moving twice is moving once
pub moved-moved : (link : LinkView) (g t : List ℕ) (i : ℕ) (g' t' : List ℕ) (i' : ℕ) → moved (moved link g t i) g' t' i' ≡ moved link (g ++ g') (t ++ t') (i + i')
moved-moved link g t i g' t' i' = rw (told-told link.given g g', told-told link.taken t t', counted-counted link.idles i i') refl

-- what is told in two parts
pub tells-append : {X : Type 0} (a b c : Option (List X)) (xs ys : List X) → Tells a b xs → Tells b c ys → Tells a c (xs ++ ys)
tells-append a None c xs ys p q = λ all e. absurd (let h = q all e in cc)
tells-append a (Some bs) c xs ys p q = λ all e. sym (told-told a xs ys) ∙ ap (λ o. told o ys) (p bs refl) ∙ q all e
