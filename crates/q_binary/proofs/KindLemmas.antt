-- The kind of a storage decides its tag.
use Rattle.std.proofs.Common.{◌≡◌, false, refl, sym, ap, ◌∙◌}
use Rattle.q_verbs.specs.Kinds.{is_computed}
use Rattle.q_values.specs.Column.{byte_kind, integer_kind, long_kind}
use Rattle.q_values.specs.declared.kind.Kind.{Kind}
use Rattle.q_values.specs.declared.kind.Kind.TheVariants as k
use Rattle.q_values.specs.declared.kind.ByteKind.{ByteKind}
use Rattle.q_values.specs.declared.kind.ByteKind.TheVariants as b
use Rattle.q_values.specs.declared.kind.IntegerKind.{IntegerKind}
use Rattle.q_values.specs.declared.kind.IntegerKind.TheVariants as i
use Rattle.q_values.specs.declared.kind.LongKind.{LongKind}
use Rattle.q_values.specs.declared.kind.LongKind.TheVariants as l

byte_tag : Kind → ByteKind
byte_tag k.Byte = b.Byte
byte_tag _ = b.Character

integer_tag : Kind → IntegerKind
integer_tag k.Month = i.Month
integer_tag k.Date = i.Date
integer_tag k.Minute = i.Minute
integer_tag k.Second = i.Second
integer_tag k.Time = i.Time
integer_tag _ = i.Integer

long_tag : Kind → LongKind
long_tag k.Timestamp = l.Timestamp
long_tag k.Timespan = l.Timespan
long_tag _ = l.Long

byte_tag-kind : (x : ByteKind) → byte_tag (byte_kind x) ≡ x
unfolding byte_tag
byte_tag-kind b.Byte = refl
byte_tag-kind b.Character = refl

integer_tag-kind : (x : IntegerKind) → integer_tag (integer_kind x) ≡ x
unfolding integer_tag
integer_tag-kind i.Integer = refl
integer_tag-kind i.Month = refl
integer_tag-kind i.Date = refl
integer_tag-kind i.Minute = refl
integer_tag-kind i.Second = refl
integer_tag-kind i.Time = refl

long_tag-kind : (x : LongKind) → long_tag (long_kind x) ≡ x
unfolding long_tag
long_tag-kind l.Long = refl
long_tag-kind l.Timestamp = refl
long_tag-kind l.Timespan = refl

pub byte_kind-same : (x y : ByteKind) → byte_kind x ≡ byte_kind y → x ≡ y
byte_kind-same x y e = sym (byte_tag-kind x) ∙ ap byte_tag e ∙ byte_tag-kind y

pub integer_kind-same : (x y : IntegerKind) → integer_kind x ≡ integer_kind y → x ≡ y
integer_kind-same x y e = sym (integer_tag-kind x) ∙ ap integer_tag e ∙ integer_tag-kind y

pub long_kind-same : (x y : LongKind) → long_kind x ≡ long_kind y → x ≡ y
long_kind-same x y e = sym (long_tag-kind x) ∙ ap long_tag e ∙ long_tag-kind y

-- no verb computes in 8 bits
pub computed_of_bytes : (kind : ByteKind) → is_computed (byte_kind kind) ≡ false
computed_of_bytes b.Byte = refl
computed_of_bytes b.Character = refl
