-- Runs: words of one form, with blanks between them, make one vector.
use Rattle.std.specs.Prelude.{ℕ, zero, suc, ◌+◌, ◌&&◌, Bool, true, false, nat_lt, if◌then◌else◌, List, length, Option, Some, None}
use Rattle.q_values.specs.declared.kind.LongKind.TheVariants as lk
use Rattle.q_text.specs.declared.kinds.NumberKind.{NumberKind}
use Rattle.q_text.specs.declared.kinds.NumberKind.TheVariants as nk
use Rattle.q_values.specs.Kind.{is}
use Rattle.q_text.specs.Kinds.{kind_of}
use Rattle.q_text.specs.Words.{span_end, begins_word, word_end, word_at}
use Rattle.q_text.specs.Forms.{form_of}
use Rattle.q_text.specs.declared.words.Class.TheVariants as c
use Rattle.q_text.specs.declared.forms.Form.{Form}
use Rattle.q_text.specs.declared.forms.Form.TheVariants as f
use Rattle.q_text.specs.declared.runs.Extent.{Extent}
use Rattle.q_text.specs.declared.runs.Run.{Run}

-- whether a word of the second form continues a run of the first
abbrev pub goes_on : Form → Form → Bool
goes_on f.Whole f.Whole = true
goes_on (f.Special kind) (f.Special other) = is (kind_of kind) (kind_of other)
goes_on (f.Item kind) (f.Item other) = is (kind_of kind) (kind_of other)
goes_on form other = false

abbrev pub goes_on_with : Form → Option Form → Bool
goes_on_with form None = false
goes_on_with form (Some other) = goes_on form other

-- the offset of the next word, if there is one after blanks
abbrev pub next_start : List ℕ → ℕ → ℕ
next_start text end = span_end c.Blank text end

abbrev pub next_end : List ℕ → ℕ → ℕ
next_end text end = word_end text (next_start text end)

-- the form of the word after an offset and at least one blank, if there is one
unfoldable pub next_form : List ℕ → ℕ → Option Form
next_form text end = if nat_lt end (next_start text end) && begins_word text (next_start text end) then form_of (word_at text (next_start text end)) else None

-- how many words of a form follow an offset, at most n of them, and the offset just past the last one
unfoldable pub followers : ℕ → Form → List ℕ → ℕ → Extent
followers zero form text end = record { count = 0; end = end }
followers (suc left) form text end =
    if goes_on_with form (next_form text end)
    then (let more = followers left form text (next_end text end) in record { count = more.count + 1; end = more.end })
    else record { count = 0; end = end }

-- whether a whole number follows, with a suffix or without
abbrev pub is_whole : Option Form → Bool
is_whole (Some f.Whole) = true
is_whole (Some (f.Suffixed kind)) = true
is_whole other = false

-- a run of whole numbers: only the last word has a suffix, which holds for all
abbrev pub suffixed_run : Option Form → Bool → Extent → ℕ → Run
suffixed_run (Some (f.Suffixed kind)) false plain last = record { kind = kind; count = plain.count + 2; end = last }
suffixed_run other more plain last = record { kind = (nk.Longs lk.Long); count = plain.count + 1; end = plain.end }

abbrev pub whole_run : List ℕ → Extent → Run
whole_run text plain = suffixed_run (next_form text plain.end) (is_whole (next_form text (next_end text plain.end))) plain (next_end text plain.end)

abbrev pub plain_run : NumberKind → Extent → Run
plain_run kind more = record { kind = kind; count = more.count + 1; end = more.end }

-- the run that begins with a word of the form, which ends at an offset
unfoldable pub run_of : Form → List ℕ → ℕ → Option Run
run_of f.Whole text end = Some (whole_run text (followers (length text) f.Whole text end))
run_of (f.Suffixed kind) text end = if is_whole (next_form text end) then None else Some (record { kind = kind; count = 1; end = end })
run_of (f.Special kind) text end = Some (plain_run kind (followers (length text) (f.Special kind) text end))
run_of (f.Item kind) text end = Some (plain_run kind (followers (length text) (f.Item kind) text end))
run_of (f.Row kind) text end = Some (record { kind = kind; count = 1; end = end })
