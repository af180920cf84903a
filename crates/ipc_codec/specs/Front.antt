-- What is read after what was read before.
use Rattle.std.specs.Prelude.{ℕ, List, ◌++◌, Result, Ok, Err}
use Rattle.ipc_codec.specs.declared.fault.Fault.{Fault}

-- a list of which these are the first items, and the others are read; and the bytes after them
abbrev pub with_front : {X : Type 0} → List X → Result (List X × List ℕ) Fault → Result (List X × List ℕ) Fault
with_front front (Ok x) = Ok (front ++ x.0, x.1)
with_front front (Err e) = Err e
