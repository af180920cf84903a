use Rattle.std.proofs.Common.{sym, ap, ◌∙◌}
use Rattle.q_values.specs.Kind.{kind_at}
use Rattle.ipc_codec.proofs.CanonicalLemmas.{no_kind, too_short, with_attribute}
use Rattle.ipc_codec.proofs.vectors.kind_at_front.Goals as goal

pub returns-then-bytes-lt2-clause-none : goal.returns-then-bytes-lt2-clause-none
returns-then-bytes-lt2-clause-none c = too_short c.args.bytes.now c.if-bytes-lt2.true

pub returns-then-bytes-ne0-clause-none : goal.returns-then-bytes-ne0-clause-none
returns-then-bytes-ne0-clause-none c = with_attribute c.args.bytes.now c.if-bytes-ne0.true

pub returns-in_err-kind-clause-none : goal.returns-in_err-kind-clause-none
returns-in_err-kind-clause-none c = rw c.from_residual.ensures (no_kind c.args.bytes.now (ap kind_at (sym c.from.ensures) ∙ sym c.in_err-kind.ensures))
