use Rattle.std.proofs.Common.{arith, ap, ap₂, sym, ◌≡◌, ◌∙◌, ◌+◌, ◌*◌, ◌/◌, ◌%◌, ◌-◌, ◌<◌, length, slice_get}
use Rattle.day_rows.proofs.PieceLemmas.{got-piece, got-rest}
use Rattle.day_rows.proofs.blocks.Blocks.get.Goals as goal

pub returns-then-piece-len : goal.returns-then-piece-len
returns-then-piece-len c =
    let pieces = c.self.inside.pieces.items in
    let rest = c.self.inside.rest.items in
    let q = c.args.index / 128 in
    let r = c.args.index % 128 in
    let size : 128 * q + r ≡ c.args.index = omega arith in
    let q_in : q < length pieces = omega (arith, c.if-piece-len.true, c.len.ensures, c.self.inside.pieces.ok) in
    let few : r < 128 = omega arith in
    c.block_at.ensures ∙ ap (λ l. slice_get l r) (c.blocks-then-piece-len.ensures ∙ c.index.ensures)
    ∙ sym (got-piece pieces rest q r c.index.result.now c.self.invariant q_in few) ∙ ap₂ slice_get c.self.view_is size

pub returns : goal.returns
returns c =
    let pieces = c.self.inside.pieces.items in
    let rest = c.self.inside.rest.items in
    let i = c.args.index - c.len-2.result * 128 in
    let size : c.args.index ≡ 128 * length pieces + i = omega (arith, c.if-piece-len.false, c.len.ensures, c.len-2.ensures, c.self.inside.pieces.ok) in
    c.block_at-2.ensures ∙ ap (λ l. slice_get l i) c.deref.ensures.value ∙ sym (got-rest pieces rest c.args.index i c.self.invariant size) ∙ ap (λ l. slice_get l c.args.index) c.self.view_is
