-- What a link in memory is seen as, and how its script decides its reads and writes.
use Rattle.std.specs.Prelude.{◌≡◌, ◌⊎◌, ℕ, false, List, [], ◌∷◌, drop, take, Option, Some, None, Result, Ok, Err}
use Rattle.outside_api.specs.Counts.{counted}
use Rattle.outside_api.specs.Told.{told}
use Rattle.outside_api.specs.Link.{LinkView}
use Rattle.outside_api.specs.declared.link.LinkFault.{LinkFault}
use Rattle.outside_mem.specs.Pieces.{bytes_of}
use Rattle.outside_mem.specs.declared.input.Piece.{Piece}
use Rattle.outside_mem.specs.declared.taking.Taking.{Taking}
use Rattle.outside_mem.specs.declared.taking.Taking.TheVariants.{All, Front}

pub record MemLinkView : Type 0 where
  pub shown : LinkView
  -- all bytes of its input
  pub input : List ℕ
  -- the pieces that it has not given yet
  pub left : List Piece
  -- how its next writes go
  pub takings : List Taking
  -- how many writes were out of memory
  pub short : ℕ

-- a link that has given and taken nothing
abbrev pub new_link : List Piece → List Taking → MemLinkView
new_link pieces takings = record {
  shown = record { given = Some []; input = Some (bytes_of pieces); taken = Some []; ended = false; read_faults = 0; write_faults = 0; idles = 0 };
  input = bytes_of pieces;
  left = pieces;
  takings = takings;
  short = 0;
}

-- how many bytes the next write takes, if it is to fail
abbrev pub planned_fault : List Taking → Option ℕ
planned_fault [] = None
planned_fault (All ∷ takings) = None
planned_fault (Front n ∷ takings) = Some n

-- after a write that took these bytes
abbrev pub after_write : MemLinkView → List ℕ → MemLinkView
after_write old bytes = record old { shown = record old.shown { taken = told old.shown.taken bytes }; takings = drop 1 old.takings }

-- after a write that took these bytes and failed
abbrev pub after_fault : MemLinkView → List ℕ → MemLinkView
after_fault old bytes = record old {
  shown = record old.shown { taken = told old.shown.taken bytes; write_faults = counted old.shown.write_faults 1 };
  takings = drop 1 old.takings;
}

-- after a write that was out of memory
abbrev pub after_short : MemLinkView → MemLinkView
after_short old = record old {
  shown = record old.shown { write_faults = counted old.shown.write_faults 1 };
  takings = drop 1 old.takings;
  short = counted old.short 1;
}

-- a write fails where it is to fail, or where it is out of memory, and nowhere else
abbrev pub Takes : {T : Type 0} → MemLinkView → MemLinkView → List ℕ → Result T LinkFault → Type 0
Takes old new bytes (Ok _) = (planned_fault old.takings ≡ None) × (new ≡ after_write old bytes)
Takes old new bytes (Err _) = ((n : ℕ) × (planned_fault old.takings ≡ Some n) × (new ≡ after_fault old (take n bytes))) ⊎ (new ≡ after_short old)
