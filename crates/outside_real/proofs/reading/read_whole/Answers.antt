use Rattle.std.proofs.Common.{◌<◌, length, arith}
use Rattle.outside_real.proofs.ReadingLemmas.{short_read}
use Rattle.outside_real.proofs.reading.read_whole.Goals as goal

pub returns-clause-whole : goal.returns-clause-whole
returns-clause-whole g c =
    let few : length c.read_to_end.new.buf.items < c.saturating_add.result = omega arith in
    short_read g.I.Read.remaining c.take.result c.args.input c.saturating_add.result c.new-bytes.result.items c.read_to_end.new.buf.items c.in_ok-read_to_end.ensures.bytes c.new-bytes.ensures.items c.take.ensures.limit c.take.ensures.inner few
