-- Why the program can't start, in words.
use Rattle.std.specs.Prelude.{◌≡◌, ◌==◌, ℕ, ℤ, if◌then◌else◌, List, ◌++◌, codes}
use Rattle.std.specs.Fmt.{decimal, signed_decimal}
use Rattle.date_loading.specs.declared.refusal.LoadRefusal.{LoadRefusal}
use Rattle.date_loading.specs.declared.refusal.LoadRefusal.TheVariants as l
use Rattle.date_logs.specs.declared.refusal.FormatRefusal.{FormatRefusal}
use Rattle.date_logs.specs.declared.refusal.FormatRefusal.TheVariants as f
use Rattle.program_outside.specs.Outside.{words_of}
use Rattle.q_text.specs.Dates.{IsPlantDate, SpellsDate}
use Rattle.schema_text.specs.declared.refusal.SchemaRefusal.{SchemaRefusal}
use Rattle.schema_text.specs.declared.refusal.SchemaRefusal.TheVariants as r
use Rattle.plant_run.specs.declared.causes.StartRefusal.{StartRefusal}
use Rattle.plant_run.specs.declared.causes.StartRefusal.TheVariants as s

-- why a text is no schema
abbrev pub schema_words : SchemaRefusal → List ℕ
schema_words (r.Parse at) = codes "it is no schema: the token can't follow at byte " ++ decimal at
schema_words (r.BadKind at) = codes "it is no schema: an unknown kind of column at byte " ++ decimal at
schema_words (r.Twice name) = codes "it is no schema: a second table or column has the name " ++ name
schema_words (r.TimeSym table) = codes "it is no schema: time, a timespan, and sym, a symbol, don't come first in the table " ++ table
schema_words (r.Reserved name) = codes "it is no schema: a reserved name: " ++ name
schema_words r.Limit = codes "it is no schema: more than 64 tables, 48 columns of a table or 64 bytes of a name"
schema_words r.NoMemory = codes "out of memory"

-- why a folder isn't formatted
abbrev pub format_words : FormatRefusal → List ℕ
format_words f.AlreadyMade = codes "it is formatted already"
format_words f.DiskFault = codes "the disk failed as it was formatted"
format_words f.NoMemory = codes "out of memory"

-- the text of a date is yyyy.mm.dd where a plant may have the date, else its number of days since 2000.01.01
pub record NamesDate (date : ℤ) (text : List ℕ) : Type 0 where
  pub within : IsPlantDate date → SpellsDate date text
  pub outside : ¬ (IsPlantDate date) → text ≡ signed_decimal date

-- where a manifest is damaged; that of a folder which was never formatted has no first byte
abbrev pub manifest_words : ℕ → List ℕ
manifest_words bytes =
    if bytes == 0
    then codes "it is not formatted, or its manifest f0 is damaged at byte 0"
    else codes "its manifest f0 is damaged at byte " ++ decimal bytes

-- where the log of a date is damaged, after this number of updates
abbrev pub log_words : List ℕ → ℕ → ℕ → List ℕ
log_words date chunks bytes =
    codes "its log of " ++ date ++ codes " is damaged at byte " ++ decimal bytes ++ codes ", after " ++ decimal chunks ++ codes " updates"

-- the words, and then a date
abbrev pub SaysDated : List ℕ → ℤ → List ℕ → Type 0
SaysDated before date words = (text : List ℕ) × NamesDate date text × (words ≡ before ++ text)

-- which log is damaged, and where
abbrev pub SaysDamagedLog : ℤ → ℕ → ℕ → List ℕ → Type 0
SaysDamagedLog date chunks bytes words = (text : List ℕ) × NamesDate date text × (words ≡ log_words text chunks bytes)

-- these words say why a plant isn't loaded
abbrev pub SaysLoad : LoadRefusal → List ℕ → Type 0
SaysLoad (l.BadManifest bytes) words = words ≡ manifest_words bytes
SaysLoad (l.SchemaDiffers table kept given) words =
    words ≡ codes "it was formatted with another schema, which differs in the table " ++ table
SaysLoad (l.EarlierDate kept) words = SaysDated (codes "it has opened a date that is later than the clock's: ") kept words
SaysLoad (l.CorruptLog date chunks bytes) words = SaysDamagedLog date chunks bytes words
SaysLoad l.DiskFault words = words ≡ codes "the disk failed as its plant was loaded"
SaysLoad l.NumbersSpent words = words ≡ codes "the numbers of its sessions are used up"
SaysLoad l.NoMemory words = words ≡ codes "out of memory"

-- these words say why the program can't start
abbrev pub Says : StartRefusal → List ℕ → Type 0
Says (s.Device cause) words = words ≡ words_of cause
Says (s.Schema why) words = words ≡ schema_words why
Says (s.Format why) words = words ≡ format_words why
Says (s.Load why) words = SaysLoad why words

-- words that say something were appended
abbrev pub Appends : (List ℕ → Type 0) → List ℕ → List ℕ → Type 0
Appends IsSo old new = (words : List ℕ) × IsSo words × (new ≡ old ++ words)
