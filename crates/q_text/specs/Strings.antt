-- Text in quotes (Q for Mortals, 2.3).
use Rattle.std.specs.Prelude.{ℕ, ◌+◌, ◌-◌, ◌==◌, ◌≡◌, Bool, true, false, if◌then◌else◌, List, [], ◌∷◌, ◌++◌, Option, Some, None}
use Rattle.q_text.specs.declared.strings.Quoted.{Quoted}

-- the byte that a backslash followed by this byte stands for
abbrev pub escape : ℕ → Option ℕ
escape b =
    if b == 34 then Some 34
    else (if b == 92 then Some 92
    else (if b == 110 then Some 10
    else (if b == 116 then Some 9 else None)))

-- what is read after n bytes of the source, with the bytes before it
abbrev pub before : List ℕ → ℕ → Option (List ℕ × ℕ) → Option (List ℕ × ℕ)
before found n None = None
before found n (Some more) = Some (found ++ more.0, n + more.1)

abbrev pub escaped : Option ℕ → Option (List ℕ × ℕ) → Option (List ℕ × ℕ)
escaped None more = None
escaped (Some b) more = before (b ∷ []) 1 more

-- the bytes of a text up to its closing quote, and how many bytes of the source they take; the first argument says whether a backslash is just before
abbrev pub quoted : Bool → List ℕ → Option (List ℕ × ℕ)
quoted after_backslash [] = None
quoted true (b ∷ bs) = escaped (escape b) (quoted false bs)
quoted false (b ∷ bs) = if b == 34 then Some ([], 1) else (if b == 92 then before [] 1 (quoted true bs) else before (b ∷ []) 1 (quoted false bs))

-- what was read from an offset on is what the text has there
abbrev pub IsQuoted : ℕ → Option (List ℕ × ℕ) → Option Quoted → Type 0
IsQuoted from found None = found ≡ None
IsQuoted from found (Some q) = found ≡ Some (q.bytes.items, q.end - from)
