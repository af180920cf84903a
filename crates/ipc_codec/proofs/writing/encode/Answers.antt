use Rattle.q_values.specs.Tree.{tree}
use Rattle.std.proofs.Common.{◌∙◌, ◌++◌, ap}
use Rattle.ipc_codec.specs.Written.{written}
use Rattle.ipc_codec.proofs.WritingLemmas.{ok_then}
use Rattle.ipc_codec.proofs.WrittenLemmas.{spelled-appended}
use Rattle.ipc_codec.proofs.writing.encode.Goals as goal

pub returns-clause-spelled : goal.returns-clause-spelled
returns-clause-spelled c =
    ok_then c.put_whole.result (λ e. spelled-appended c.args.out.now.items c.put_whole.new.out.items (tree c.args.value.now) (e ∙ ap (λ xs. xs ++ written (tree c.args.value.now)) c.in_ok-reserve.ensures.items) c.requires c.encoded_length.ensures.fit) c.put_whole.ensures.ok
