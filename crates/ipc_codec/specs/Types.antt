-- The type bytes of objects (KX, IPC reference).
use Rattle.std.specs.Prelude.{ℕ, ◌-◌, Option, Some, None, if◌then◌else◌, ◌==◌, ◌||◌, ◌&&◌, nat_le, Bool}
use Rattle.q_values.specs.declared.kind.Kind.{Kind}
use Rattle.q_values.specs.declared.kind.Kind.TheVariants as k
use Rattle.q_values.specs.Kind.{kind_at, type_number}
use Rattle.ipc_codec.specs.declared.form.Form.{Form}
use Rattle.ipc_codec.specs.declared.form.Form.TheVariants as f

-- the type byte of a vector of symbols, as that of a table's names
abbrev pub symbols_byte : ℕ
symbols_byte = type_number k.Symbol

-- whether vectors of this type are known to kdb+ and not supported here
abbrev pub is_unbuilt : ℕ → Bool
is_unbuilt n = n == 2 || (n == 8 || (n == 9 || (n == 15 || (nat_le 20 n && nat_le n 97))))

-- the form of a type byte that is neither a vector's nor an atom's
unfoldable pub other_form : ℕ → Form
other_form b =
    if b == 0 then f.List else (if b == 98 then f.Table else (if b == 99 || b == 127 then f.Dictionary else (if b == 101 then f.Identity else
    (if b == 128 then f.Wrong else (if is_unbuilt b || (is_unbuilt (256 - b) || (nat_le 100 b && nat_le b 112)) then f.Unbuilt else f.Unknown)))))

abbrev pub form_by : Option Kind → Option Kind → ℕ → Form
form_by (Some kind) negated b = f.Vector kind
form_by None (Some kind) b = f.Atom kind
form_by None None b = other_form b

-- the form of an object with this type byte
unfoldable pub form_of : ℕ → Form
form_of b = form_by (kind_at b) (kind_at (256 - b)) b
