use Rattle.std.proofs.Common.{arith, ap, ◌∙◌, ◌<◌, ◌≤◌, length}
use Rattle.day_rows.specs.Joined.{joined}
use Rattle.day_rows.proofs.BlockLemmas.{column-there, column-past}
use Rattle.day_rows.proofs.block.Block.column.Goals as goal

pub returns-then-index-len : goal.returns-then-index-len
returns-then-index-len c =
    let t_in : c.args.table < length c.self.inside.tables.items = omega (arith, c.if-index-len.true, c.len.ensures, c.self.inside.tables.ok) in
    let all = c.self.invariant.columns_are c.args.table c.args.column ∙ ap (joined c.args.table c.args.column) c.self.view_is in
    let same = column-there c.self.inside.tables.items c.args.table c.args.column c.index.result.now _ t_in c.index.ensures all in
    rw same at c.column_of.ensures

pub returns : goal.returns
returns c =
    let past : length c.self.inside.tables.items ≤ c.args.table = omega (arith, c.if-index-len.false, c.len.ensures, c.self.inside.tables.ok) in
    let all = c.self.invariant.columns_are c.args.table c.args.column ∙ ap (joined c.args.table c.args.column) c.self.view_is in
    column-past c.self.inside.tables.items c.args.table c.args.column _ past all
