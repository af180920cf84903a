-- What the links of a program show.
use Rattle.std.specs.Prelude.{ℕ, List, Option, None}
use Rattle.outside_api.specs.Link.{LinkView}
use Rattle.outside_real.specs.Socket.{socket_shown}
use Rattle.plant_edge.specs.declared.link.StandardLink.{StandardLink}
use Rattle.plant_edge.specs.declared.machine_link.MachineLink.{MachineLink}
use Rattle.plant_edge.specs.declared.machine_link.MachineLink.TheVariants.{Standard, Socket}

-- its counts, and no bytes
abbrev pub link_shown : {R I O : Type 0} → StandardLink R I O → LinkView
link_shown link = record {
  given = None;
  input = None;
  taken = None;
  ended = link.ended;
  read_faults = link.read_faults;
  write_faults = link.write_faults;
  idles = link.idles;
}

-- the bytes that its writer holds, where the writer reports them
abbrev pub sent_by : {R I O : Type 0} → (O → Option (List ℕ)) → StandardLink R I O → Option (List ℕ)
sent_by contents link = contents link.output

-- the bytes that its reader has left, where the reader reports them
abbrev pub coming_by : {R I O : Type 0} → (I → Option (List ℕ)) → StandardLink R I O → Option (List ℕ)
coming_by remaining link = remaining link.input

-- what the links of a program show
abbrev pub machine_shown : {R I O S : Type 0} → MachineLink R I O S → LinkView
machine_shown (Standard link) = link_shown link
machine_shown (Socket link) = socket_shown link
