-- A port that is listened on.
use Rattle.std.specs.Prelude.{ℕ}
use Rattle.std.specs.declared.io.ErrorKind.{ErrorKind}
use Rattle.std.specs.declared.io.ErrorKind.TheVariants.{AddrInUse}
use Rattle.outside_real.specs.declared.port.OpenPort.{OpenPort}
use Rattle.outside_real.specs.declared.port.PortRefusal.{PortRefusal}
use Rattle.outside_real.specs.declared.port.PortRefusal.TheVariants.{InUse, Failed}

-- its number
abbrev pub port_of : OpenPort → ℕ
port_of it = it.port

-- what an error of this kind means where a port is listened on
abbrev pub port_refused : ErrorKind → PortRefusal
port_refused AddrInUse = InUse
port_refused kind = Failed kind
