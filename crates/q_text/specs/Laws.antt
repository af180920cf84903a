-- Laws of literals.
use Rattle.std.specs.Prelude.{◌≡◌, List, ℕ, ℤ, Some, ◌↔◌}
use Rattle.q_values.specs.Tree.{atom}
use Rattle.q_values.specs.declared.atom.Atom.TheVariants as a
use Rattle.q_text.specs.declared.forms.Form.{Form}
use Rattle.q_text.specs.Dates.{SpellsDate, IsPlantDate}
use Rattle.q_text.specs.Forms.{form_of}
use Rattle.q_text.specs.Literal.{Literal, literal_at}
use Rattle.q_text.specs.Grammar.{HasForm, IsLiteral}

-- a date that was written is read back as that date, as a literal of ten bytes
abbrev pub WrittenDatesAreRead : Type 0
WrittenDatesAreRead = (date : ℤ) (text : List ℕ) → IsPlantDate date → SpellsDate date text
    → literal_at text 0 ≡ Some (record { value = atom (a.Date date); end = 10 })

-- the form found in a word is the one form that the word has
abbrev pub WordsHaveOneForm : Type 0
WordsHaveOneForm = (form : Form) (w : List ℕ) → (form_of w ≡ Some form) ↔ HasForm form w

-- what is read at an offset is the one literal that the forms have there
abbrev pub LiteralsAreForms : Type 0
LiteralsAreForms = (text : List ℕ) (at : ℕ) (found : Literal) → (literal_at text at ≡ Some found) ↔ IsLiteral text at found
