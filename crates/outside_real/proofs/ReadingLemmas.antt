-- A reader that gives fewer bytes than it is limited to gives all that are left.
use Rattle.std.proofs.Common.{◌≡◌, ◌∙◌, ap, subst, ℕ, ◌<◌, List, [], ◌++◌, length, take, min, Option, Some, None, IfSome, arith}
use Rattle.std.specs.Option.{option_map}
use Rattle.std.specs.Io.Take.{take_limit, take_inner, take_remaining}
use Rattle.std.specs.declared.io.Take.{Take}
use Rattle.std.proofs.lemmas.List.{take_all, length-take}

-- fewer than n items came where n were asked for, so these are all
short_take : {X : Type 0} (n : ℕ) (all got : List X) → got ≡ take n all → length got < n → got ≡ all
short_take n all got gave few =
    let came : length got ≡ min n (length all) = ap length gave ∙ length-take n all in
    gave ∙ take_all n all (omega arith)

-- the same where all is perhaps not known
short_take_known : {X : Type 0} (n : ℕ) (all : Option (List X)) (got : List X) → IfSome (option_map (take n) all) (λ xs. got ≡ [] ++ xs) → length got < n → IfSome all (λ xs. got ≡ xs)
short_take_known n None got gave few = tt
short_take_known n (Some all) got gave few = short_take n all got gave few

-- what came of a reader with a limit, where it is less than the limit
pub short_read : {R : Type 0} (remaining : R → Option (List ℕ)) (reader : Take R) (input : R) (n : ℕ) (start got : List ℕ) → IfSome (take_remaining remaining reader) (λ xs. got ≡ start ++ xs) → start ≡ [] → take_limit reader ≡ n → take_inner reader ≡ input → length got < n → IfSome (remaining input) (λ xs. got ≡ xs)
short_read remaining reader input n start got gave empty limit inner few =
    let known = subst (λ s. IfSome (take_remaining remaining reader) (λ xs. got ≡ s ++ xs)) empty gave in
    let all = short_take_known (take_limit reader) (remaining (take_inner reader)) got known (rw limit few) in
    subst (λ r. IfSome (remaining r) (λ xs. got ≡ xs)) inner all
