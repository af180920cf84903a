use Rattle.std.proofs.Common.{◌<◌, length, ap, arith}
use Rattle.taps.proofs.BoardLemmas.{taken_off, none_has, left_numbers, others_more}
use Rattle.taps.proofs.board.Board.take_off.Goals as goal

pub returns-then-index-id-clause-some : goal.returns-then-index-id-clause-some
returns-then-index-id-clause-some g c =
    let inside : c.loop-i.i < length c.loop-i.self.seats.items = omega (arith, c.loop-i-test.true, c.len-i-end.ensures, ap (λ b. length b.seats.items) c.loop-i.invariant.same) in
    taken_off _ _ c.args.self.now.seats.items c.loop-i.self.seats.items c.remove-tap.new.self.items c.loop-i.i c.remove-tap.result c.index.result.now c.args.id (ap (λ b. b.seats.items) c.loop-i.invariant.same) inside c.remove-tap.ensures.value
    c.index.ensures c.if-index-id.true c.remove-tap.ensures.items

pub returns-clause-none : goal.returns-clause-none
returns-clause-none g c = (
  none_has (λ s. s.number) c.args.self.now.seats.items c.loop-i.self.seats.items c.loop-i.i c.args.id (ap (λ b. b.seats.items) c.loop-i.invariant.same)
      (omega (arith, c.loop-i-test.false, c.len-i-end.ensures, ap (λ b. length b.seats.items) c.loop-i.invariant.same)) c.loop-i.invariant.others,
  c.loop-i.invariant.same,
)

pub invariant_of-self : goal.invariant_of-self
invariant_of-self g c =
    let inside : c.loop-i.i < length c.loop-i.self.seats.items = omega (arith, c.loop-i-test.true, c.len-i-end.ensures, ap (λ b. length b.seats.items) c.loop-i.invariant.same) in
    let left = left_numbers (λ s. s.number) c.loop-i.self.seats.items c.remove-tap.new.self.items c.loop-i.i c.loop-i.self.next inside c.remove-tap.ensures.items c.loop-i.self.given c.loop-i.self.ascend in
    record { given = left.0; ascend = left.1 }

pub loop-i-preserved : goal.loop-i-preserved
loop-i-preserved g c =
    let inside : c.loop-i.i < length c.loop-i.self.seats.items = omega (arith, c.loop-i-test.true, c.len-i-end.ensures, ap (λ b. length b.seats.items) c.loop-i.invariant.same) in
    record {
      same = c.loop-i.invariant.same;
      others = others_more (λ s. s.number) c.loop-i.self.seats.items c.loop-i.i c.index.result.now c.args.id inside c.index.ensures c.if-index-id.false c.loop-i.invariant.others;
    }
