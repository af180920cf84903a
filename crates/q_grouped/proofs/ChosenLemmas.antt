-- The chosen one of a list, of items and of the atoms that they are.
use Rattle.std.proofs.Common.{◌≡◌, ℤ, Bool, true, false, if◌then◌else◌, List, [], ◌∷◌, map, Option, Some, None, refl, sym, ap, ◌∙◌, option_map}
use Rattle.std.specs.Prelude.{is_some, fold}
use Rattle.std.specs.declared.cmp.Ordering.{Ordering}
use Rattle.q_values.specs.declared.atom.Atom.{Atom}
use Rattle.q_verbs.specs.Numbers.{numeric, worth, worth_cmp}
use Rattle.q_verbs.specs.Aggregates.{best_of, choose_present, chosen_of, number_of}

abbrev pub pick_item : {X : Type 0} → (Ordering → Bool) → (X → Option ℤ) → X → X → X
pick_item picks number x y = if picks (worth_cmp (numeric (number x)) (numeric (number y))) then x else y

abbrev pub pick_atom : (Ordering → Bool) → Atom → Atom → Atom
pick_atom picks x y = if picks (worth_cmp (worth x) (worth y)) then x else y

chosen_through : {X Y : Type 0} (f : X → Y) (b : Bool) (x y : X) → f (if b then x else y) ≡ (if b then f x else f y)
chosen_through f true x y = refl
chosen_through f false x y = refl

best_through : {X : Type 0} (picks : Ordering → Bool) (number : X → Option ℤ) (atom : X → Atom) → ((x : X) → worth (atom x) ≡ numeric (number x)) → (best : Option X) (x : X) → atom (best_of (pick_item picks number) best x) ≡ best_of (pick_atom picks) (option_map atom best) (atom x)
best_through picks number atom e None x = refl
best_through picks number atom e (Some y) x = chosen_through atom (picks (worth_cmp (numeric (number y)) (numeric (number x)))) y x ∙ (λ i. if picks (worth_cmp (sym (e y) i) (sym (e x) i)) then atom y else atom x)

step_if : {X Y : Type 0} (f : X → Y) (b : Bool) (x : X) (best : Option X) → option_map f (if b then Some x else best) ≡ (if b then Some (f x) else option_map f best)
step_if f true x best = refl
step_if f false x best = refl

step_through : {X : Type 0} (picks : Ordering → Bool) (number : X → Option ℤ) (atom : X → Atom) → ((x : X) → worth (atom x) ≡ numeric (number x)) → (best : Option X) (x : X) → option_map atom (choose_present number (pick_item picks number) best x) ≡ choose_present number_of (pick_atom picks) (option_map atom best) (atom x)
step_through picks number atom e best x =
    step_if atom (is_some (number x)) (best_of (pick_item picks number) best x) best
    ∙ (λ i. if is_some (sym (e x) i).number then Some (best_through picks number atom e best x i) else option_map atom best)

folded_through : {X : Type 0} (picks : Ordering → Bool) (number : X → Option ℤ) (atom : X → Atom) → ((x : X) → worth (atom x) ≡ numeric (number x)) → (best : Option X) (xs : List X) → option_map atom (fold (choose_present number (pick_item picks number)) best xs) ≡ fold (choose_present number_of (pick_atom picks)) (option_map atom best) (map atom xs)
folded_through picks number atom e best [] = refl
folded_through picks number atom e best (x ∷ xs) =
    folded_through picks number atom e (choose_present number (pick_item picks number) best x) xs
    ∙ ap (λ b. fold (choose_present number_of (pick_atom picks)) b (map atom xs)) (step_through picks number atom e best x)

pub chosen_atom : {X : Type 0} (picks : Ordering → Bool) (number : X → Option ℤ) (atom : X → Atom) (xs ys : List X) (result : Option X) → ((x : X) → worth (atom x) ≡ numeric (number x)) → ys ≡ xs → result ≡ chosen_of number (pick_item picks number) ys → option_map atom result ≡ chosen_of number_of (pick_atom picks) (map atom xs)
chosen_atom picks number atom xs ys result e same is_result =
    ap (option_map atom) (is_result ∙ ap (chosen_of number (pick_item picks number)) same) ∙ folded_through picks number atom e None xs
