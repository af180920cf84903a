-- The tokens of a list with one more at its end.
use Rattle.std.proofs.Common.{◌≡◌, List, [], ◌∷◌, ◌++◌, map, refl, ap, ◌∙◌}
use Rattle.qsql_tokens.specs.Tokens.{Placed}
use Rattle.qsql_tokens.specs.Views.{placed_of}
use Rattle.qsql_tokens.specs.declared.token.Placed.{Placed as Lexed}

pub placed-push : (tokens new : List Lexed) (token : Lexed) → new ≡ tokens ++ token ∷ [] → map placed_of new ≡ map placed_of tokens ++ placed_of token ∷ []
placed-push tokens new token h = ap (λ (ts : List Lexed). map placed_of ts) h ∙ pushed tokens
  where
    pushed : (ts : List Lexed) → map placed_of (ts ++ token ∷ []) ≡ map placed_of ts ++ placed_of token ∷ []
    pushed [] = refl
    pushed (t ∷ ts) = ap (λ (ps : List Placed). placed_of t ∷ ps) (pushed ts)
