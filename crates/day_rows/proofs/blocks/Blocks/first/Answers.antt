use Rattle.std.proofs.Common.{arith, ap, ap₂, sym, List, ◌≡◌, ◌∙◌, ◌+◌, ◌*◌, ◌/◌, ◌%◌, ◌-◌, ◌<◌, ◌≤◌, ◌++◌, length, take}
use Rattle.std.specs.List.{flat_map}
use Rattle.std.proofs.lemmas.List.{length-append, length-take}
use Rattle.day_rows.specs.declared.entry.Entry.{Entry}
use Rattle.day_rows.proofs.PieceLemmas.{take-pieces, take-rest, length-pieces}
use Rattle.day_rows.proofs.blocks.Blocks.first.Goals as goal

pub returns-then-whole-len : goal.returns-then-whole-len
returns-then-whole-len c =
    let pieces = c.self.inside.pieces.items in
    let rest = c.self.inside.rest.items in
    let q = c.args.n / 128 in
    let r = c.args.n % 128 in
    let size : 128 * q + r ≡ c.args.n = omega arith in
    let q_in : q < length pieces = omega (arith, c.if-whole-len.true, c.len.ensures, c.self.inside.pieces.ok) in
    let few : r ≤ 128 = omega arith in
    ap₂ (λ (a : List (List (List Entry))) (b : List (List Entry)). flat_map (λ p. p) a ++ b) (c.in_ok-pieces.ensures ∙ ap (take q) c.deref.ensures.value) (c.in_ok-rest.ensures ∙ ap (take r) (c.blocks-then-whole-len.ensures ∙ c.index.ensures))
    ∙ sym (take-pieces pieces rest q r c.index.result.now c.self.invariant q_in few) ∙ ap₂ take size c.self.view_is

pub slice_bounds-share_blocks-length : goal.slice_bounds-share_blocks-length
slice_bounds-share_blocks-length c =
    let pieces = c.self.inside.pieces.items in
    let rest = c.self.inside.rest.items in
    let whole : length (flat_map (λ (p : List (List Entry)). p) pieces ++ rest) ≡ length c.args.self.now = ap length c.self.view_is in
    omega (arith, c.requires, whole, length-take (c.args.n - c.len-2.result * 128) c.deref-3.result.now, length-append (flat_map (λ (p : List (List Entry)). p) pieces) rest, length-pieces pieces c.self.invariant, ap length c.deref-3.ensures.value, c.len-2.ensures, c.self.inside.pieces.ok)

pub returns : goal.returns
returns c =
    let pieces = c.self.inside.pieces.items in
    let rest = c.self.inside.rest.items in
    let i = c.args.n - c.len-2.result * 128 in
    let size : c.args.n ≡ 128 * length pieces + i = omega (arith, c.if-whole-len.false, c.len.ensures, c.len-2.ensures, c.self.inside.pieces.ok) in
    ap₂ (λ (a : List (List (List Entry))) (b : List (List Entry)). flat_map (λ p. p) a ++ b) (c.in_ok-pieces-2.ensures ∙ c.deref-2.ensures.value) (c.in_ok-rest-2.ensures ∙ ap (take i) c.deref-3.ensures.value)
    ∙ sym (take-rest pieces rest c.args.n i c.self.invariant size) ∙ ap (take c.args.n) c.self.view_is
