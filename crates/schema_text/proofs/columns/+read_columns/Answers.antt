use Rattle.std.proofs.Common.{arith, rules, ◌≡◌, ◌∙◌, ◌<◌, sym, true, false, slice_get}
use Rattle.schema_text.specs.Tokens.{part, is_sign}
use Rattle.schema_text.proofs.Recursion.{columns_at-more}
use Rattle.schema_text.proofs.columns.+read_columns.Goals as goal

pub returns-in_err-shape-clause-value : goal.returns-in_err-shape-clause-value
returns-in_err-shape-clause-value t c =
    let some : 0 < c.args.left = omega (arith, c.if-left-eq0.false) in
    rw (columns_at-more c.args.left c.args.shape c.args.text.now c.args.at some) (search rules)

pub returns-then-has_sign-clause-value : goal.returns-then-has_sign-clause-value
returns-then-has_sign-clause-value t c =
    let some : 0 < c.args.left = omega (arith, c.if-left-eq0.false) in
    let sign : is_sign 59 (slice_get c.args.text.now (part c.args.text.now c.in_ok-shape.end)) ≡ true = rw (← c.next_part-start.ensures.value) (sym c.has_sign.ensures.value ∙ c.if-has_sign.true) in
    rw (columns_at-more c.args.left c.args.shape c.args.text.now c.args.at some, c.in_ok-shape.ensures.value, sign, ← c.next_part-start.ensures.value) c.read_columns.ensures.value

pub returns-else-has_sign-clause-value : goal.returns-else-has_sign-clause-value
returns-else-has_sign-clause-value t c =
    let some : 0 < c.args.left = omega (arith, c.if-left-eq0.false) in
    let sign : is_sign 59 (slice_get c.args.text.now (part c.args.text.now c.in_ok-shape.end)) ≡ false = rw (← c.next_part-start.ensures.value) (sym c.has_sign.ensures.value ∙ c.if-has_sign.false) in
    rw (columns_at-more c.args.left c.args.shape c.args.text.now c.args.at some, c.in_ok-shape.ensures.value, sign) c.read_closing.ensures.value
