use Rattle.std.proofs.Common.{◌≡◌, ◌-◌, ◌+◌, ◌<◌, length, take, drop, arith}
use Rattle.std.proofs.lemmas.List.{take_all, length-drop}
use Rattle.ipc_codec.proofs.ReadingLemmas.{text_at-short}
use Rattle.ipc_codec.proofs.heads.short_text_of.Goals as goal

pub returns-then-bytes-end-eq0-clause-found : goal.returns-then-bytes-end-eq0-clause-found
returns-then-bytes-end-eq0-clause-found c =
    let bytes = c.args.bytes.now in
    let end = c.len-end.result in
    let all : take (length bytes - (end + 1)) (drop (end + 1) bytes) ≡ drop (end + 1) bytes = take_all _ _ (omega (arith, length-drop (end + 1) bytes)) in
    let within : end < length bytes = omega (arith, c.if-bytes-le8.false, c.len-end.ensures.value, c.len-end.ensures.short.short) in
    rw all (text_at-short bytes _ _ end c.in_ok-first_chunk.ensures.cases.same c.before_nul-symbol.ensures c.len-end.ensures.value within c.if-bytes-end-eq0.true)
