-- Which kinds a verb takes, and the kind of its result.
use Rattle.std.specs.Prelude.{nat_lt, Bool, not, ◌&&◌, ◌||◌, if◌then◌else◌, Option, Some, None}
use Rattle.q_values.specs.declared.kind.Kind.{Kind}
use Rattle.q_values.specs.declared.kind.Kind.TheVariants as k
use Rattle.q_values.specs.Kind.{type_number, is}
use Rattle.q_verbs.specs.declared.verb.Verb.{Verb}
use Rattle.q_verbs.specs.declared.verb.Verb.TheVariants as v
use Rattle.q_verbs.specs.declared.verb.Verb1.{Verb1}
use Rattle.q_verbs.specs.declared.verb.Verb1.TheVariants as u

-- boolean, short, int, long
abbrev pub is_num : Kind → Bool
is_num x = is x k.Boolean || is x k.Short || is x k.Integer || is x k.Long

-- the num kinds and byte
abbrev pub is_whole : Kind → Bool
is_whole x = is_num x || is x k.Byte

-- the lengths of time: timespan, minute, second, time
abbrev pub is_length : Kind → Bool
is_length x = is x k.Timespan || is x k.Minute || is x k.Second || is x k.Time

-- timestamp, month, date and the lengths of time
abbrev pub is_temporal : Kind → Bool
is_temporal x = is x k.Timestamp || is x k.Month || is x k.Date || is_length x

-- every kind but symbol and char
abbrev pub is_number : Kind → Bool
is_number x = not (is x k.Symbol) && not (is x k.Character)

-- the kinds of numbers that a verb computes
abbrev pub is_computed : Kind → Bool
is_computed x = is x k.Short || is x k.Integer || is x k.Long || is_temporal x

-- the kinds of a sum
abbrev pub is_total : Kind → Bool
is_total x = is x k.Integer || is x k.Long || is x k.Timespan

-- the left side has the kind a, the right side the kind b
abbrev pub are : Kind → Kind → Kind → Kind → Bool
are a b left right = is left a && is right b

-- long where a side is long, else int
abbrev pub wide : Kind → Kind → Kind
wide left right = if is left k.Long || is right k.Long then k.Long else k.Integer

-- the wider of two num kinds, in the order boolean, short, int, long
abbrev pub wider : Kind → Kind → Kind
wider left right = if nat_lt (type_number left) (type_number right) then right else left

-- `+`
abbrev pub sum_kind : Kind → Kind → Option Kind
sum_kind left right =
    if is_num left && is_num right then Some (wide left right)
    else (if is_num left && is_temporal right then Some right
    else (if is_temporal left && is_num right then Some left
    else (if are k.Date k.Timespan left right || are k.Timespan k.Date left right then Some k.Timestamp
    else (if are k.Timestamp k.Timespan left right || are k.Timespan k.Timestamp left right then Some k.Timestamp
    else (if is_length left && is left right then Some left
    else None)))))

-- `-`
abbrev pub difference_kind : Kind → Kind → Option Kind
difference_kind left right =
    if is_num left && is_num right then Some (wide left right)
    else (if is_temporal left && is_num right then Some left
    else (if are k.Date k.Date left right || are k.Month k.Month left right then Some k.Integer
    else (if are k.Timestamp k.Timestamp left right then Some k.Timespan
    else (if are k.Timestamp k.Timespan left right then Some k.Timestamp
    else (if is_length left && is left right then Some left
    else None)))))

-- `*`
abbrev pub product_kind : Kind → Kind → Option Kind
product_kind left right =
    if is_num left && is_num right then Some (wide left right)
    else (if is_num left && is_length right then Some right
    else (if is_length left && is_num right then Some left
    else None))

-- `div`
abbrev pub quotient_kind : Kind → Kind → Option Kind
quotient_kind left right =
    if is_num left && is_num right then Some (if is left k.Long then k.Long else k.Integer)
    else None

-- `mod`
abbrev pub remainder_kind : Kind → Kind → Option Kind
remainder_kind left right = if is_num left && is_num right then Some (wide left right) else None

-- `xbar`
abbrev pub multiple_kind : Kind → Kind → Option Kind
multiple_kind left right =
    if is_num left && is_num right then Some (wide left right)
    else (if is_num left && is_temporal right then Some right
    else (if is left k.Timespan && (is right k.Timespan || is right k.Timestamp) then Some right
    else None))

-- `&` and `|`
abbrev pub choice_kind : Kind → Kind → Option Kind
choice_kind left right =
    if is left right then (if is_number left then Some left else None)
    else (if is_num left && is_num right then Some (wider left right)
    else None)

-- `= <> < > <= >= in within`
abbrev pub comparison_kind : Kind → Kind → Option Kind
comparison_kind left right =
    if is left right || (is_whole left && is_whole right) then Some k.Boolean else None

-- `like`
abbrev pub match_kind : Kind → Kind → Option Kind
match_kind left right = if are k.Symbol k.Character left right then Some k.Boolean else None

-- the kind of a verb's result, where the verb takes these kinds
abbrev pub result_kind_of : Verb → Kind → Kind → Option Kind
result_kind_of v.Add = sum_kind
result_kind_of v.Sub = difference_kind
result_kind_of v.Mul = product_kind
result_kind_of v.Div = quotient_kind
result_kind_of v.Mod = remainder_kind
result_kind_of v.Xbar = multiple_kind
result_kind_of v.Eq = comparison_kind
result_kind_of v.Ne = comparison_kind
result_kind_of v.Lt = comparison_kind
result_kind_of v.Gt = comparison_kind
result_kind_of v.Le = comparison_kind
result_kind_of v.Ge = comparison_kind
result_kind_of v.Lesser = choice_kind
result_kind_of v.Greater = choice_kind
result_kind_of v.In = comparison_kind
result_kind_of v.Within = comparison_kind
result_kind_of v.Like = match_kind

-- `neg`
abbrev pub negated_kind : Kind → Option Kind
negated_kind kind =
    if is kind k.Boolean then Some k.Integer
    else (if is_num kind || is_length kind then Some kind else None)

-- `sum`
abbrev pub total_kind : Kind → Option Kind
total_kind kind =
    if is kind k.Long || is kind k.Timespan then Some kind
    else (if is_num kind then Some k.Integer else None)

-- the kind of the result of a verb with one side
abbrev pub result_kind1_of : Verb1 → Kind → Option Kind
result_kind1_of u.Not kind = if is_whole kind then Some k.Boolean else None
result_kind1_of u.Neg kind = negated_kind kind
result_kind1_of u.Count kind = Some k.Long
result_kind1_of u.Sum kind = total_kind kind
result_kind1_of u.Min kind = if is_number kind then Some kind else None
result_kind1_of u.Max kind = if is_number kind then Some kind else None
result_kind1_of u.First kind = Some kind
result_kind1_of u.Last kind = Some kind
result_kind1_of u.Distinct kind = Some kind
