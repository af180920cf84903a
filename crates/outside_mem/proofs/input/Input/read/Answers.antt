use Rattle.std.proofs.Common.{◌≡◌, ◌+◌, ◌≤◌, [], ◌∷◌, ◌++◌, ap, sym, ◌∙◌, refl, length, min, take, drop, arith, false, length-drop}
use Rattle.std.proofs.Math.ListN.{drop_of_length-le}
use Rattle.outside_api.specs.declared.link.Got.TheVariants as got
use Rattle.outside_mem.specs.Pieces.{Plays, is_spent, from_within}
use Rattle.outside_mem.specs.declared.input.Piece.TheVariants.{Bytes}
use Rattle.outside_mem.proofs.PiecesLemmas.{front-bytes, front-idle, front-fault, within-bytes, Plays_after, Plays-bytes, is_spent-unspent, IsWithin-bytes, from_within-bytes, gives}
use Rattle.outside_mem.proofs.input.Input.read.Goals as goal
use Rattle.outside_mem.proofs.input.Input.read.Goals.{Then-self-len, After-step, in-Idle, in-Fault}

plays_none : (c : Then-self-len) → Plays c.args.self.now c.settle.new.self c.args.buf.now c.args.buf.now got.End
plays_none c =
    let here = c.settle.new.self in
    let past = drop_of_length-le c.self.inside.pieces {i = c.self.inside.next} (omega arith) in
    let nil : here ≡ [] = sym c.self.view_is ∙ ap (from_within c.self.inside.at) past in
    Plays_after c.args.self.now here here c.args.buf.now c.args.buf.now got.End c.settle.ensures (rw nil (refl, refl, refl))

pub invariant_of-self : goal.invariant_of-self
invariant_of-self c =
    let bs = c.in-Bytes.bytes in
    let at_in = within-bytes c.self.inside.pieces c.self.inside.next c.self.inside.at c.at.result.now bs c.self.invariant c.at.ensures c.in-Bytes.is in
    let rest : c.rest_of.result.now ≡ drop c.self.inside.at bs = c.rest_of.ensures ∙ ap (drop c.self.inside.at) c.as_slice.ensures in
    let fits : c.self.inside.at + c.copy_front-count.result ≤ length bs = omega (arith, at_in, c.copy_front-count.ensures.count, ap length rest, length-drop c.self.inside.at bs) in
    IsWithin-bytes c.self.inside.pieces c.self.inside.next (c.self.inside.at + c.copy_front-count.result) c.at.result.now bs fits c.at.ensures c.in-Bytes.is

pub returns-then-self-len : goal.returns-then-self-len
returns-then-self-len c = record { plays = plays_none c; gives = gives c.args.self.now c.settle.new.self c.args.buf.now c.args.buf.now got.End (plays_none c) }

pub returns-in-Bytes : goal.returns-in-Bytes
returns-in-Bytes c =
    let bs = c.in-Bytes.bytes in
    let pieces = c.self.inside.pieces in
    let next = c.self.inside.next in
    let at = c.self.inside.at in
    let n = c.copy_front-count.result in
    let new = from_within (at + n) (drop next pieces) in
    let here = c.settle.new.self in
    let front = front-bytes pieces next at here c.at.result.now bs c.self.view_is c.at.ensures c.in-Bytes.is in
    let rest : c.rest_of.result.now ≡ drop at bs = c.rest_of.ensures ∙ ap (drop at) c.as_slice.ensures in
    let more : is_spent (Bytes (drop at bs) ∷ drop (next + 1) pieces) ≡ false =
    ap is_spent (sym front ∙ c.settle.ensures) ∙ is_spent-unspent c.args.self.now in
    let count : n ≡ min (length (drop at bs)) (length c.args.buf.now) = c.copy_front-count.ensures.count ∙ ap (λ r. min (length r) (length c.args.buf.now)) rest in
    let copied : c.copy_front-count.new.buf ≡ take n (drop at bs) ++ drop n c.args.buf.now = c.copy_front-count.ensures.copied ∙ ap (λ r. take n r ++ drop n c.args.buf.now) rest in
    let left = from_within-bytes pieces next at n c.at.result.now bs c.at.ensures c.in-Bytes.is in
    let plays = Plays-bytes (drop at bs) (drop (next + 1) pieces) new c.args.buf.now c.copy_front-count.new.buf n more count left copied in
    let all = Plays_after c.args.self.now here new c.args.buf.now c.copy_front-count.new.buf (got.Bytes n) c.settle.ensures (rw front plays) in
    record { plays = all; gives = gives c.args.self.now new c.args.buf.now c.copy_front-count.new.buf (got.Bytes n) all }

plays_step : (c : After-step) → Plays c.args.self.now c.step.new.self c.args.buf.now c.args.buf.now c.match-at.got
plays_step c = elim c.match-at.branch [
  | in-Idle w ↦
      let front = front-idle c.self.inside.pieces c.self.inside.next c.self.inside.at c.settle.new.self c.at.result.now c.self.view_is c.at.ensures w.in-Idle.is in
      Plays_after c.args.self.now c.settle.new.self c.step.new.self c.args.buf.now c.args.buf.now c.match-at.got c.settle.ensures (rw (c.step.ensures, w.got-is, front) (refl, refl, refl))
  | in-Fault w ↦
      let front = front-fault c.self.inside.pieces c.self.inside.next c.self.inside.at c.settle.new.self c.at.result.now c.self.view_is c.at.ensures w.in-Fault.is in
      Plays_after c.args.self.now c.settle.new.self c.step.new.self c.args.buf.now c.args.buf.now c.match-at.got c.settle.ensures (rw (c.step.ensures, w.got-is, front) (refl, refl, refl))
]

pub returns : goal.returns
returns c = record { plays = plays_step c; gives = gives c.args.self.now c.step.new.self c.args.buf.now c.args.buf.now c.match-at.got (plays_step c) }
