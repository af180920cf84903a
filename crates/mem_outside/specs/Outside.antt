-- What an outside in memory is seen as.
use Rattle.std.specs.Prelude.{◌≡◌, ℕ, List, [], ◌∷◌, ◌++◌, map, Option, Some, None, IfSome}
use Rattle.std.specs.List.{flat_map}
use Rattle.std.specs.Option.{option_map}
use Rattle.outside_api.specs.Link.{IsFresh}
use Rattle.outside_api.specs.Told.{HasToldNothing}
use Rattle.outside_mem.specs.Link.{MemLinkView}
use Rattle.outside_mem.specs.MemDisk.{MemDiskView, shown_by}
use Rattle.outside_mem.specs.Recorder.{noted_by}
use Rattle.program_outside.specs.Outside.{OutsideView, Back, Opened, FileRead}
use Rattle.mem_outside.specs.declared.devices.Handed.{Handed}
use Rattle.mem_outside.specs.declared.devices.MemDevices.{MemDevices}
use Rattle.mem_outside.specs.declared.devices.MemLeft.{MemLeft}
use Rattle.mem_outside.specs.declared.outside.OpenedFolder.{OpenedFolder}
use Rattle.mem_outside.specs.declared.outside.ReadFile.{ReadFile}

-- nothing has passed through these devices
abbrev pub AreUnused : MemDevices → Type 0
AreUnused devices = IfSome devices.link (λ l. IsFresh l.shown) × IfSome devices.recorder (λ r. HasToldNothing (noted_by r))

-- the last item of a list, or none where it has none
abbrev pub IsLast : {T : Type 0} → Option T → List T → Type 0
IsLast None items = items ≡ []
IsLast {T} (Some item) items = (front : List T) × (items ≡ front ++ item ∷ [])

-- the bytes of lines, each with a line feed at its end
abbrev pub lines_of : List (List ℕ) → List ℕ
lines_of = flat_map (λ line. line ++ 10 ∷ [])

-- what is shown of what was handed back
abbrev pub back_of : Handed → Back
back_of handed = record {
  link = option_map (λ l. l.shown) handed.link;
  readings = option_map (λ c. Some c.given) handed.clock;
  noted = option_map noted_by handed.recorder;
}

-- a folder that was opened, with its disk as it was then
pub record MemOpened : Type 0 where
  pub path : List ℕ
  pub disk : MemDiskView

abbrev pub opened_of : OpenedFolder → MemOpened
opened_of folder = record { path = folder.path; disk = folder.disk.value }

-- what is shown of a file that was read
abbrev pub file_of : ReadFile → FileRead
file_of file = record { path = file.path; bytes = file.bytes }

-- an outside in memory: how often something couldn't be made or read, it couldn't accept a connection, and a line couldn't be
-- printed; the port that it listens on; and all that it made, read, printed and took back
pub record MemOutsideView : Type 0 where
  pub make_faults : ℕ
  pub listen_faults : ℕ
  pub listening : Option ℕ
  pub say_faults : ℕ
  pub links : List MemLinkView
  pub opened : List MemOpened
  pub files : List FileRead
  pub said : List (List ℕ)
  pub warned : List (List ℕ)
  pub backs : List Handed
  pub kept : List MemDiskView

-- one that made, read, printed and took back nothing yet
abbrev pub new_outside : MemOutsideView
new_outside = record {
  make_faults = 0;
  listen_faults = 0;
  listening = None;
  say_faults = 0;
  links = [];
  opened = [];
  files = [];
  said = [];
  warned = [];
  backs = [];
  kept = [];
}

-- what such an outside is left with: its lines, and what was handed back last
pub record IsLeft (o : MemOutsideView) (left : MemLeft) : Type 0 where
  pub output : IfSome left.output (λ bytes. bytes.items ≡ lines_of o.said)
  pub errors : IfSome left.errors (λ bytes. bytes.items ≡ lines_of o.warned)
  pub handed : IsLast left.handed o.backs
  pub disk : IsLast left.disk o.kept

-- what is shown of a folder that was opened
abbrev pub shown_opened : MemOpened → Opened
shown_opened folder = record { path = folder.path; disk = shown_by folder.disk }

-- it reports all of it
abbrev pub outside_shown : MemOutsideView → OutsideView
outside_shown o = record {
  make_faults = o.make_faults;
  listen_faults = o.listen_faults;
  say_faults = o.say_faults;
  listening = o.listening;
  links = Some (map (λ l. l.shown) o.links);
  opened = Some (map shown_opened o.opened);
  files = Some o.files;
  said = Some o.said;
  warned = Some o.warned;
  backs = Some (map back_of o.backs);
  kept = Some (map shown_by o.kept);
}
