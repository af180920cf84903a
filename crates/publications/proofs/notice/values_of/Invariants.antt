use Rattle.std.proofs.Common.{◌≡◌, ◌++◌, map}
use Rattle.q_values.specs.Tree.{trees}
use Rattle.pubsub.specs.Told.{publication}
use Rattle.publications.specs.Notice.{publication_tree}
use Rattle.publications.proofs.notice.values_of.Given as goal

abbrev pub invariant-loop-message : goal.invariant-loop-message
invariant-loop-message l = record {
  all : l.yielded ++ l.message-iterator.rest.items ≡ l.fn.messages;
  put : trees l.values ≡ map publication_tree (map publication l.yielded);
}
