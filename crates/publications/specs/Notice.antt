-- The bytes of publications (KX, IPC reference; u.q).
use Rattle.std.specs.Prelude.{ℕ, ◌+◌, ◌≤◌, List, [], ◌∷◌, ◌++◌, length, codes}
use Rattle.std.specs.Int.{w32, to_le_bytes}
use Rattle.std.specs.List.{flat_map}
use Rattle.ipc_codec.specs.Written.{written}
use Rattle.q_values.specs.Tree.{Tree, atom, list, table, items_of}
use Rattle.q_values.specs.declared.atom.Atom.TheVariants as a
use Rattle.pubsub.specs.Told.{Publication, upd, end}

-- an async message with a value
abbrev pub notice : Tree → List ℕ
notice value = (1 ∷ 0 ∷ 0 ∷ 0 ∷ to_le_bytes w32 (8 + length (written value))) ++ written value

-- the value of a publication: `upd`, the table's name and its rows, or `.u.end` and the date that ended
abbrev pub publication_tree : Publication → Tree
publication_tree (upd name rows) = list (items_of (atom (a.Symbol (codes "upd")) ∷ atom (a.Symbol name) ∷ table rows ∷ []))
publication_tree (end date) = list (items_of (atom (a.Symbol (codes ".u.end")) ∷ atom (a.Date date) ∷ []))

-- the message of a publication
abbrev pub sent : Publication → List ℕ
sent publication = notice (publication_tree publication)

-- the messages of all publications, joined
abbrev pub sent_for : List Publication → List ℕ
sent_for = flat_map sent

-- the length of the message fits its header
abbrev pub Fits : Publication → Type 0
Fits publication = length (sent publication) ≤ 4294967295
