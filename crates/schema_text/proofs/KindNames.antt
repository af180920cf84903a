-- The kinds that a column may have.
use Rattle.std.proofs.Common.{◌≢◌, ℕ, true, false, cond, List, [], ◌∷◌, Some, IfSome}
use Rattle.std.specs.List.{AllByRecursion}
use Rattle.std.specs.Str.{bytes_eq}
use Rattle.q_values.specs.declared.kind.Kind.{Kind}
use Rattle.q_values.specs.declared.kind.Kind.TheVariants as k
use Rattle.q_words.specs.Words.{beside_in}
use Rattle.schema_text.specs.Kinds.{kind_names}

beside_in-plain : (entries : List (List ℕ × Kind)) (name : List ℕ) → AllByRecursion (λ (entry : List ℕ × Kind). entry.1 ≢ k.Character) entries → IfSome (beside_in entries name) (λ kind. kind ≢ k.Character)
beside_in-plain [] name plain = tt
beside_in-plain (entry ∷ entries) name plain =
    elim (bytes_eq name entry.0) as (λ b. IfSome (cond b (Some entry.1) (beside_in entries name)) (λ kind. kind ≢ k.Character))
    [ true ↦ plain.0 | false ↦ beside_in-plain entries name plain.1 ]

-- no column is of characters
pub kind_names-plain : (name : List ℕ) → IfSome (beside_in kind_names name) (λ kind. kind ≢ k.Character)
kind_names-plain name =
    beside_in-plain kind_names name
    (λ e. cc, (λ e. cc, (λ e. cc, (λ e. cc, (λ e. cc, (λ e. cc, (λ e. cc, (λ e. cc, (λ e. cc, (λ e. cc, (λ e. cc, (λ e. cc, (λ e. cc, tt)))))))))))))
