use Rattle.std.specs.Prelude.{◌≡◌, ℕ, ◌+◌, map, ◌-◌, ◌≤◌, List, [], ◌∷◌, length, take, drop, slice_index, zero, suc, Some, slice_get, All}
use Rattle.q_values.specs.Bytes.{HasNoNul}

-- the bytes from a place on, cut where each piece ends
abbrev pub cut : ℕ → List ℕ → List ℕ → List (List ℕ)
cut from bytes [] = []
cut from bytes (end ∷ ends) = take (end - from) (drop from bytes) ∷ cut end bytes ends

-- the ends do not fall, and the last is the end of the bytes
abbrev pub EndsAscend : ℕ → List ℕ → List ℕ → Type 0
EndsAscend from bytes [] = from ≡ length bytes
EndsAscend from bytes (end ∷ ends) = (from ≤ end) × EndsAscend end bytes ends

pub record IsArena (bytes ends : List ℕ) : Type 0 where
  pub no_nul : HasNoNul bytes
  pub ascends : EndsAscend 0 bytes ends

-- where the piece i starts, the first at this place
abbrev pub start_of : ℕ → List ℕ → ℕ → ℕ
start_of from ends zero = from
start_of from ends (suc i) = slice_index ends i

-- the piece i lies from start to end
pub record IsPiece (from : ℕ) (bytes ends : List ℕ) (i start end : ℕ) : Type 0 where
  pub rises : start ≤ end
  pub within : end ≤ length bytes
  pub value : slice_get (cut from bytes ends) i ≡ Some (take (end - start) (drop start bytes))

-- the ends that an arena has after this many other bytes
abbrev pub moved : ℕ → List ℕ → List ℕ
moved by = map (λ end. by + end)

-- the ends that an arena has without its first bytes, of this number
abbrev pub lowered : ℕ → List ℕ → List ℕ
lowered by = map (λ end. end - by)

-- the n symbols from the index `from` on lie from start to end, and are an arena of their own
pub record IsPart (bytes ends : List ℕ) (from n start end : ℕ) : Type 0 where
  pub some : from + n ≤ length ends
  pub rises : start ≤ end
  pub within : end ≤ length bytes
  pub after : All (λ e. start ≤ e) (take n (drop from ends))
  pub below : All (λ e. e ≤ end) (take n (drop from ends))
  pub ascends : EndsAscend 0 (take (end - start) (drop start bytes)) (lowered start (take n (drop from ends)))
  pub value : cut 0 (take (end - start) (drop start bytes)) (lowered start (take n (drop from ends))) ≡ take n (drop from (cut 0 bytes ends))

-- a symbol after its first eight bytes
abbrev pub with_head : List ℕ → List ℕ × List ℕ
with_head symbol = (take 8 symbol, symbol)
