-- Results of the sides of verbs, where there may be no memory for one.
use Rattle.std.proofs.Common.{Result, Ok, Err}
use Rattle.std.specs.Prelude.{IfOk, IsOkAnd}

-- what holds of two values, from what holds of each
pub both_if : {A B E : Type 0} (r : Result A E) (s : Result B E) (P : A → Type 0) (Q : B → Type 0) (R : A → B → Type 0) → ((x : A) → P x → (y : B) → Q y → R x y) → IfOk r P → IfOk s Q → IfOk r (λ x. IfOk s (λ y. R x y))
both_if (Ok x) (Ok y) P Q R f p q = f x p y q
both_if (Ok x) (Err e) P Q R f p q = tt
both_if (Err e) s P Q R f p q = tt

-- what holds of a result that was made of a value, from what holds of that
pub made_of_one : {A C E : Type 0} (t : Result C E) (r : Result A E) (P : A → Type 0) (R : C → A → Type 0) (S : C → Type 0) → ((v : C) (x : A) → P x → R v x → S v) → IfOk r P → IfOk t (λ v. IsOkAnd r (λ x. R v x)) → IfOk t (λ v. S v)
made_of_one (Ok v) (Ok x) P R S f p h = f v x p h
made_of_one (Ok v) (Err e) P R S f p h = absurd h
made_of_one (Err e) r P R S f p h = tt

-- and of a result that was made of two
pub made_of_two : {A B C E : Type 0} (t : Result C E) (r : Result A E) (s : Result B E) (P : A → Type 0) (Q : B → Type 0) (R : C → A → B → Type 0) (S : C → Type 0) → ((v : C) (x : A) → P x → (y : B) → Q y → R v x y → S v) → IfOk r P → IfOk s Q → IfOk t (λ v. IsOkAnd r (λ x. IsOkAnd s (λ y. R v x y))) → IfOk t (λ v. S v)
made_of_two (Ok v) (Ok x) (Ok y) P Q R S f p q h = f v x p y q h
made_of_two (Ok v) (Ok x) (Err e) P Q R S f p q h = absurd h
made_of_two (Ok v) (Err e) s P Q R S f p q h = absurd h
made_of_two (Err e) r s P Q R S f p q h = tt
