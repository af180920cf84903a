-- Literals: what begins one, its value, and where it ends (Q for Mortals, 2; KX, Datatypes reference).
use Rattle.std.specs.Prelude.{◌≡◌, ◌<◌, ◌≤◌, ℕ, ◌+◌, ◌==◌, ◌||◌, ◌&&◌, Bool, false, not, if◌then◌else◌, List, drop, length, map, slice_index, Option}
use Rattle.std.specs.Prelude.{Some, None, Result, Ok, Err, ℤ}
use Rattle.q_values.specs.Tree.{Tree, tree}
use Rattle.q_values.specs.declared.atom.Atom.TheVariants as a
use Rattle.q_values.specs.declared.kind.Kind.TheVariants as k
use Rattle.q_values.specs.declared.value.Value.{Value}
use Rattle.q_text.specs.Words.{is_digit, span_end, follows_operand, word_end, word_at}
use Rattle.q_text.specs.declared.words.Class.TheVariants as c
use Rattle.q_text.specs.Forms.{form_of}
use Rattle.q_text.specs.Runs.{run_of}
use Rattle.q_text.specs.Numbers.{numbers_from, vector_of, valued}
use Rattle.q_text.specs.Symbols.{names}
use Rattle.q_text.specs.Strings.{quoted}
use Rattle.q_text.specs.declared.forms.Form.{Form}
use Rattle.q_text.specs.declared.kinds.NumberKind.{NumberKind}
use Rattle.q_text.specs.declared.runs.Run.{Run}
use Rattle.q_text.specs.declared.refusal.LiteralRefusal.{LiteralRefusal}
use Rattle.q_text.specs.declared.refusal.LiteralRefusal.TheVariants as r

-- "-" just before a digit, where no operand ends just before it
abbrev pub begins_negative : List ℕ → ℕ → Bool
begins_negative text at = (slice_index text at == 45) && (is_digit (slice_index text (at + 1)) && not (follows_operand text at))

-- a digit, a backtick, a quote, or "-" just before a digit where no operand ends just before it
unfoldable pub starts_literal : List ℕ → ℕ → Bool
starts_literal text at =
    is_digit (slice_index text at) || ((slice_index text at == 96) || ((slice_index text at == 34) || begins_negative text at))

-- a literal's value, and the offset just past it
pub record Literal : Type 0 where
  pub value : Tree
  pub end : ℕ

abbrev pub some : Literal → Option Literal
some found = Some found

-- symbols; "`" alone is the null symbol
unfoldable pub symbols_at : List ℕ → ℕ → Literal
symbols_at text at =
    record { value = valued (record { kind = k.Symbol; atoms = map (λ name. a.Symbol name) (names (drop at text)) }); end = span_end c.Symbols text (at + 1) }

abbrev pub characters : ℕ → Option (List ℕ × ℕ) → Option Literal
characters at None = None
characters at (Some found) =
    Some (record { value = valued (record { kind = k.Character; atoms = map (λ b. a.Character b) found.0 }); end = at + 1 + found.1 })

-- characters between quotes
unfoldable pub characters_at : List ℕ → ℕ → Option Literal
characters_at text at = characters at (quoted false (drop (at + 1) text))

-- one number is an atom, anything else a vector
abbrev pub run_tree : NumberKind → Option (List ℤ) → Option Tree
run_tree kind None = None
run_tree kind (Some numbers) = Some (valued (vector_of kind numbers))

abbrev pub ended : ℕ → Option Tree → Option Literal
ended end None = None
ended end (Some value) = Some (record { value = value; end = end })

abbrev pub with_run : Form → Option Run → List ℕ → ℕ → Option Literal
with_run form None text at = None
with_run form (Some run) text at = ended run.end (run_tree run.kind (numbers_from run.count form run.kind text at))

abbrev pub with_form : Option Form → List ℕ → ℕ → Option Literal
with_form None text at = None
with_form (Some form) text at = with_run form (run_of form text (word_end text at)) text at

-- numbers, dates and times: the run of words that begins here, all of whose numbers are in range
unfoldable pub numbers_at : List ℕ → ℕ → Option Literal
numbers_at text at = with_form (form_of (word_at text at)) text at

-- the literal that begins at an offset, if one does
unfoldable pub literal_at : List ℕ → ℕ → Option Literal
literal_at text at =
    if starts_literal text at
    then (if slice_index text at == 96 then Some (symbols_at text at)
    else (if slice_index text at == 34 then characters_at text at
    else numbers_at text at))
    else None

-- what was read takes at least one byte, and ends within the text
abbrev pub EndsWithin : List ℕ → ℕ → Result (Value × ℕ) LiteralRefusal → Type 0
EndsWithin text at (Ok read) = (at < read.1) × (read.1 ≤ length text)
EndsWithin text at (Err e) = Unit {0}

-- reading gives the literal that begins at the offset, and is refused there where none does, unless memory ran out
abbrev pub ReadsLiteral : Option Literal → ℕ → Result (Value × ℕ) LiteralRefusal → Type 0
ReadsLiteral found at (Ok read) = found ≡ Some (record { value = tree read.0; end = read.1 })
ReadsLiteral found at (Err (r.BadLiteral offset)) = (offset ≡ at) × (found ≡ None)
ReadsLiteral found at (Err r.NoMemory) = Unit {0}
