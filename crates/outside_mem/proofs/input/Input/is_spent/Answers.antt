use Rattle.std.proofs.Common.{◌+◌, drop}
use Rattle.outside_mem.proofs.PiecesLemmas.{front-bytes, spent-bytes}
use Rattle.outside_mem.proofs.input.Input.is_spent.Goals as goal

pub returns-in-Bytes : goal.returns-in-Bytes
returns-in-Bytes c =
    let pieces = c.self.inside.pieces in
    let front = front-bytes pieces c.self.inside.next c.self.inside.at c.args.self.now c.at.result.now c.in-Bytes.bytes c.self.view_is c.at.ensures c.in-Bytes.is in
    rw (front, c.len-in-Bytes.ensures) (spent-bytes c.self.inside.at c.in-Bytes.bytes (drop (c.self.inside.next + 1) pieces))
