use Rattle.std.proofs.Common.{◌≡◌, length, subst}
use Rattle.ipc_codec.specs.Decoded.{Reads}
use Rattle.partition_set.specs.Records.{shape_tree}
use Rattle.partition_set.proofs.EncodingLemmas.{read-written}
use Rattle.partition_set.proofs.encoding.value_encoded.Goals as goal

pub returns-in-Ok-clause-some : goal.returns-in-Ok-clause-some
returns-in-Ok-clause-some c = λ shape is same.
    (subst (Reads (shape_tree shape) (length c.args.bytes.now)) c.in-Ok.is (read-written c.args.bytes.now c.decode.result c.written_spells.ensures c.decode.ensures.only shape is same)).0

pub returns-in_ok-is_no_encoding-in-Err-clause-none : goal.returns-in_ok-is_no_encoding-in-Err-clause-none
returns-in_ok-is_no_encoding-in-Err-clause-none c = λ shape is same.
    c.in_ok-is_no_encoding-in-Err.ensures (subst (Reads (shape_tree shape) (length c.args.bytes.now)) c.in-Err.is (read-written c.args.bytes.now c.decode.result c.written_spells.ensures c.decode.ensures.only shape is same))
