use Rattle.std.proofs.Common.{◌≡◌, ◌++◌, List, ℕ, ap, ◌∙◌, arith}
use Rattle.byteorder.specs.Endian.{little_bytes}
use Rattle.q_values.specs.Tree.{atom}
use Rattle.q_values.specs.declared.atom.Atom.TheVariants as a
use Rattle.ipc_codec.specs.Written.{written}
use Rattle.ipc_codec.proofs.WritingLemmas.{ok_then}
use Rattle.tick_log.proofs.Made.{length-chunk, columns_few, atoms_within, pieces}
use Rattle.tick_log.proofs.chunk.put_chunk.Goals as goal

pub encode_list_head-requires-2 : goal.encode_list_head-requires-2
encode_list_head-requires-2 c = omega (arith, c.requires, length-chunk c.args.by c.args.table.now c.args.columns.now, columns_few c.args.columns.now)

pub put_columns-requires : goal.put_columns-requires
put_columns-requires c = atoms_within 2147483647 c.args.columns.now (omega (arith, c.requires, length-chunk c.args.by c.args.table.now c.args.columns.now))

pub returns : goal.returns
returns c =
    let first : c.extend_from_slice.new.self.items ≡ c.args.out.now.items ++ little_bytes 8 c.args.by = c.in_ok-extend_from_slice.ensures.items ∙ ap (λ (b : List ℕ). c.args.out.now.items ++ b) c.to_le_bytes.ensures in
    let fourth = c.in_ok-encode_symbol-2.ensures.ok ∙ ap (λ (b : List ℕ). c.encode_symbol.new.out.items ++ written (atom (a.Symbol b))) c.bytes.ensures.value in
    ok_then c.put_columns.result
    (pieces c.args.out.now.items c.extend_from_slice.new.self.items c.encode_list_head.new.out.items c.encode_symbol.new.out.items c.encode_symbol-2.new.out.items c.encode_list_head-2.new.out.items c.put_columns.new.out.items c.args.by c.args.table.now c.args.columns.now first c.in_ok-encode_list_head.ensures.ok c.in_ok-encode_symbol.ensures.ok fourth c.in_ok-encode_list_head-2.ensures.ok)
    c.put_columns.ensures.ok
