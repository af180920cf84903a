-- What the link of a connection shows.
use Rattle.std.specs.Prelude.{ℕ, List, Option, None}
use Rattle.outside_api.specs.Link.{LinkView}
use Rattle.outside_real.specs.declared.socket.SocketLink.{SocketLink}

-- its counts, and no bytes
abbrev pub socket_shown : {R S : Type 0} → SocketLink R S → LinkView
socket_shown link = record {
  given = None;
  input = None;
  taken = None;
  ended = link.ended;
  read_faults = link.read_faults;
  write_faults = link.write_faults;
  idles = link.idles;
}

-- what its connection has left, or holds, by a way to look at it
abbrev pub bytes_by : {R S : Type 0} → (S → Option (List ℕ)) → SocketLink R S → Option (List ℕ)
bytes_by bytes link = bytes link.stream
