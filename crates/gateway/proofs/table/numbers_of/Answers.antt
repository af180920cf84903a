use Rattle.std.proofs.Common.{ℕ, length, sym, ap, ◌∙◌, subst}
use Rattle.std.specs.Prelude.{option_copied}
use Rattle.q_values.specs.Contents.{Contents}
use Rattle.qsql_values.specs.Frames.{AreWithin}
use Rattle.gateway.proofs.ColumnLemmas.{length-numbers_on}
use Rattle.gateway.proofs.table.numbers_of.Goals as goal

pub at_places-requires : goal.at_places-requires
at_places-requires c =
    let part = c.args.part.now in
    let size = ap (λ (column : Contents). length column.atoms) c.in_ok-numbers.ensures ∙ length-numbers_on part.dates.now c.args.snapshot.now.frame.first c.args.snapshot.now.entries part.index in
    subst (λ (n : ℕ). AreWithin n (option_copied part.places)) (sym size) c.requires.places
