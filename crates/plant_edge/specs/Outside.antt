-- What devices show that keep nothing.
use Rattle.std.specs.Prelude.{List, Option, None}
use Rattle.std.specs.Option.{option_map}
use Rattle.outside_real.specs.Port.{port_of}
use Rattle.program_outside.specs.Outside.{OutsideView}
use Rattle.q_values.specs.declared.turn.Turn.{Turn}
use Rattle.plant_edge.specs.declared.outside.StandardOutside.{StandardOutside}
use Rattle.plant_edge.specs.declared.recorder.SilentRecorder.{SilentRecorder}

-- its counts of faults and the port that it listens on; nothing else is told
abbrev pub silent_outside : {R E : Type 0} → StandardOutside R E → OutsideView
silent_outside outside = record {
  make_faults = outside.faults;
  listen_faults = outside.listen_faults;
  say_faults = outside.say_faults;
  listening = option_map port_of outside.port;
  links = None;
  opened = None;
  files = None;
  said = None;
  warned = None;
  backs = None;
  kept = None;
}

-- the writer that its warnings go to
abbrev pub warnings_of : {R E : Type 0} → StandardOutside R E → E
warnings_of outside = outside.errors

-- an outside that has made nothing and tells nothing
abbrev pub unused_outside : OutsideView
unused_outside = record {
  make_faults = 0;
  listen_faults = 0;
  say_faults = 0;
  listening = None;
  links = None;
  opened = None;
  files = None;
  said = None;
  warned = None;
  backs = None;
  kept = None;
}

-- no turn is told
abbrev pub silent_recorder : SilentRecorder → Option (List Turn)
silent_recorder recorder = None
