use Rattle.std.proofs.Common.{ap, ◌∙◌, take}
use Rattle.std.proofs.Math.Seq.{take-length}
use Rattle.session_requests.proofs.RequestLemmas.{symbols_wanted}
use Rattle.session_requests.proofs.request.wanted_among.Goals as goal

pub returns-in_ok-copied-in-Symbols : goal.returns-in_ok-copied-in-Symbols
returns-in_ok-copied-in-Symbols c =
    symbols_wanted c.column.result.now c.in-Symbols.symbols c.in_ok-copied-in-Symbols.copied c.args.vector.now c.column.ensures c.in-Symbols.is
    (c.in_ok-copied-in-Symbols.ensures ∙ ap (λ n. take n c.in-Symbols.symbols) c.len.ensures ∙ take-length c.in-Symbols.symbols)
