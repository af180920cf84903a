-- The limits on the number of tokens and on the depth of brackets.
use Rattle.std.specs.Prelude.{ℕ, ◌+◌, ◌-◌, nat_lt, ◌||◌, Bool, false, List, [], ◌∷◌, length}
use Rattle.qsql_tokens.specs.Tokens.{Token, mark}
use Rattle.qsql_tokens.specs.declared.token.Mark.{Mark}
use Rattle.qsql_tokens.specs.declared.token.Mark.TheVariants as m

-- the number of open brackets after a mark; a closing bracket closes the last open one, of either kind
abbrev pub depth_after_mark : ℕ → Mark → ℕ
depth_after_mark depth m.Left = depth + 1
depth_after_mark depth m.Open = depth + 1
depth_after_mark depth m.Right = depth - 1
depth_after_mark depth m.Close = depth - 1
depth_after_mark depth _ = depth

abbrev pub depth_after : ℕ → Token → ℕ
depth_after depth (mark which) = depth_after_mark depth which
depth_after depth _ = depth

-- whether more than 64 brackets are open after one of the tokens
abbrev pub nests : ℕ → List Token → Bool
nests depth [] = false
nests depth (t ∷ ts) = nat_lt 64 (depth_after depth t) || nests (depth_after depth t) ts

-- more than 1,024 tokens, or more than 64 open brackets
abbrev pub is_too_much : List Token → Bool
is_too_much tokens = nat_lt 1024 (length tokens) || nests 0 tokens
