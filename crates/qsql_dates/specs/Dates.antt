-- Phrases that look at nothing but a row's date, and the dates that they keep.
use Rattle.std.specs.Prelude.{◌≡◌, ℤ, Some, Bool, true, false, ◌&&◌, ◌||◌, if◌then◌else◌, List, [], ◌∷◌, map, codes}
use Rattle.std.specs.List.{list_all}
use Rattle.std.specs.Str.{bytes_eq}
use Rattle.q_values.specs.Contents.{Contents}
use Rattle.q_values.specs.declared.atom.Atom.TheVariants as a
use Rattle.q_values.specs.declared.kind.Kind.TheVariants as k
use Rattle.q_verbs.specs.declared.verb.Verb.{Verb}
use Rattle.qsql_request.specs.Forms.{Form, constant, column, two}
use Rattle.qsql_request.specs.Shapes.{is_atom, is_test}
use Rattle.qsql_request.specs.Unbuilt.{has_unbuilt}
use Rattle.qsql_values.specs.Frames.{Frame, frame_of, kind_beside}
use Rattle.qsql_values.specs.Kinds.{kind_in}
use Rattle.qsql_values.specs.Values.{val, truths}

-- it is the column `date`
abbrev pub names_date : Form → Bool
names_date (column name) = bytes_eq name (codes "date")
names_date _ = false

-- a literal that the verb may have at its right: an atom, or a list for a test
abbrev pub fits_verb : Verb → Form → Bool
fits_verb verb (constant value) = is_test verb || is_atom value
fits_verb verb _ = false

-- the column `date` on the left of a verb, and a literal on its right
abbrev pub is_date_phrase : Form → Bool
is_date_phrase (two verb left right) = names_date left && fits_verb verb right
is_date_phrase _ = false

-- dates as a column
abbrev pub date_column : List ℤ → Contents
date_column dates = record { kind = k.Date; atoms = map (λ (date : ℤ). a.Date date) dates }

-- one row, which has nothing but its date
abbrev pub date_frame : ℤ → Frame
date_frame date = frame_of (codes "date" ∷ []) (date_column (date ∷ []) ∷ [])

-- a phrase is built, and boolean over a date
pub record IsDateTest (date : ℤ) (phrase : Form) : Type 0 where
  pub kind : kind_in (kind_beside (date_frame date)) phrase ≡ Some k.Boolean
  pub built : has_unbuilt phrase ≡ false

-- a phrase holds at the rows of a date
abbrev pub holds_on : ℤ → Form → Bool
holds_on date phrase = list_all (λ (b : Bool). b) (truths (val (date_frame date) phrase))

-- the first phrases, as long as they are date phrases, hold at the rows of a date
abbrev pub keeps : List Form → ℤ → Bool
keeps [] date = true
keeps (phrase ∷ phrases) date = if is_date_phrase phrase then holds_on date phrase && keeps phrases date else true
