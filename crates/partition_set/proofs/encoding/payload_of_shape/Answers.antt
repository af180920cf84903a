use Rattle.std.proofs.Common.{◌≤◌, length, ap, arith}
use Rattle.partition_set.proofs.EncodingLemmas.{payload-short}
use Rattle.partition_set.proofs.encoding.payload_of_shape.Goals as goal

pub returns-clause-short : goal.returns-clause-short
returns-clause-short c = omega (arith, ap length c.in_ok-bytes.ensures, payload-short c.args.shape.now c.requires)
