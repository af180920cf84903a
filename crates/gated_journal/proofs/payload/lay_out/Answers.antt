use Rattle.std.proofs.Common.{◌≡◌, ℕ, ◌+◌, ◌++◌, [], ◌∷◌, List, length, drop, ap, ◌∙◌, arith}
use Rattle.std.specs.Int.{w32, to_le_bytes}
use Rattle.outside_api.specs.Disk.{put}
use Rattle.gated_journal.proofs.Layouts.{puts}
use Rattle.gated_journal.proofs.payload.lay_out.Goals as goal

pub returns : goal.returns
returns c =
    let size = to_le_bytes w32 (length c.args.bytes.now) in
    let first : c.put_at.new.buffer ≡ put c.args.buffer.now 0 size = c.put_at.ensures ∙ ap (put c.args.buffer.now 0) c.to_le_bytes.ensures in
    let second : c.put_at-2.new.buffer ≡ put (put c.args.buffer.now 0 size) 4 c.args.bytes.now = c.put_at-2.ensures ∙ ap (λ (l : List ℕ). put l 4 c.args.bytes.now) first in
    c.put_at-3.ensures ∙ ap (λ (l : List ℕ). put l (length c.args.bytes.now + 4) (0 ∷ [])) second
    ∙ puts c.args.buffer.now size c.args.bytes.now (0 ∷ [])
    ∙ (let same : length c.args.bytes.now + 4 + 1 ≡ length c.args.bytes.now + 5 = omega arith in ap (λ (k : ℕ). (size ++ c.args.bytes.now ++ 0 ∷ []) ++ drop k c.args.buffer.now) same)
