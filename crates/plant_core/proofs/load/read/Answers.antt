use Rattle.std.proofs.Common.{◌≡◌, [], ap, rules, w32, to_z, of_z}
use Rattle.date_logs.specs.Restart.{Dated}
use Rattle.date_loading.specs.Loading.{dated}
use Rattle.plant_memory.specs.Frame.{Frame}
use Rattle.plant_core.proofs.ReadLemmas.{opened-read, has-same, has-more, loading-first, next-refused, reads-on, leaves-any}
use Rattle.plant_core.proofs.load.read.Goals as goal

pub begin-requires-clause-read : goal.begin-requires-clause-read
begin-requires-clause-read g c =
    let day : to_z w32 (of_z w32 c.args.date) ≡ c.args.date = search rules in
    let begun = opened-read (g.D.Disk.shown c.args.disk.now) (g.D.Disk.shown c.open.new.disk) c.args.date c.in-Ok.loading c.args.schema c.in-Ok.ensures.counts.0 c.in-Ok.ensures.counts.1 c.open.ensures.bytes c.in-Ok.ensures.read c.in-Ok.ensures.loaded
    c.in-Ok.ensures.gates c.in-Ok.ensures.begun.tables (rw day at c.in-Ok.ensures.not_after) c.in-Ok.ensures.under_way c.in-Ok.ensures.clean in
    let ends = rw c.in-Ok-None.field-0-is at c.in-Ok-None.ensures.goes_on in
    rw (c.requires.origin, day) (has-same (g.D.Disk.shown c.args.disk.now) (g.D.Disk.shown c.open.new.disk) (g.D.Disk.shown c.next_day.new.disk) c.args.date c.in-Ok.loading c.next_day.new.self c.args.schema [] begun ends.2 ends.0)

pub returns-in-Err-next_day-clause-refused : goal.returns-in-Err-next_day-clause-refused
returns-in-Err-next_day-clause-refused g c =
    let day : to_z w32 (of_z w32 c.args.date) ≡ c.args.date = search rules in
    let begun = opened-read (g.D.Disk.shown c.args.disk.now) (g.D.Disk.shown c.open.new.disk) c.args.date c.in-Ok.loading c.args.schema c.in-Ok.ensures.counts.0 c.in-Ok.ensures.counts.1 c.open.ensures.bytes c.in-Ok.ensures.read c.in-Ok.ensures.loaded
    c.in-Ok.ensures.gates c.in-Ok.ensures.begun.tables (rw day at c.in-Ok.ensures.not_after) c.in-Ok.ensures.under_way c.in-Ok.ensures.clean in
    next-refused (g.D.Disk.shown c.args.disk.now) (g.D.Disk.shown c.open.new.disk) c.args.date c.in-Ok.loading c.args.schema [] begun c.in-Err-next_day.why c.in-Err-next_day.ensures.refused

pub read_from-requires-clause-loading : goal.read_from-requires-clause-loading
read_from-requires-clause-loading g c =
    let day : to_z w32 (of_z w32 c.args.date) ≡ c.args.date = search rules in
    let begun = opened-read (g.D.Disk.shown c.args.disk.now) (g.D.Disk.shown c.open.new.disk) c.args.date c.in-Ok.loading c.args.schema c.in-Ok.ensures.counts.0 c.in-Ok.ensures.counts.1 c.open.ensures.bytes c.in-Ok.ensures.read c.in-Ok.ensures.loaded
    c.in-Ok.ensures.gates c.in-Ok.ensures.begun.tables (rw day at c.in-Ok.ensures.not_after) c.in-Ok.ensures.under_way c.in-Ok.ensures.clean in
    let x : Dated = dated c.in-Ok-Some.first in
    let further = rw c.in-Ok-Some.field-0-is at c.in-Ok-Some.ensures.goes_on in
    let tables = ap (λ (f : Frame). f.schema) c.in-Ok-first_day.ensures.frame in
    let more = has-more (g.D.Disk.shown c.args.disk.now) (g.D.Disk.shown c.open.new.disk) (g.D.Disk.shown c.next_day.new.disk) c.args.date c.in-Ok.loading c.next_day.new.self c.args.schema [] x begun c.in-Ok-Some.ensures.counts.0 c.in-Ok-Some.ensures.counts.1
    c.next_day.ensures.bytes (rw c.in-Ok-Some.field-0-is at c.in-Ok-Some.ensures.read) (rw c.in-Ok-Some.field-0-is at c.in-Ok-Some.ensures.loaded) c.in-Ok-Some.ensures.gates further.manifest c.next_day.ensures.under_way in
    rw (c.requires.origin, day)
    (loading-first c.in-Ok-Some.first.day.day.kinds (g.D.Disk.shown c.args.disk.now) (g.D.Disk.shown c.next_day.new.disk) c.args.date c.next_day.new.self c.in-Ok-first_day.memory x (rw tables more) further.last
    (ap (λ (f : Frame). f.first) c.in-Ok-first_day.ensures.frame) c.in-Ok-first_day.ensures.entries c.in-Ok-first_day.ensures.updates)

pub returns-in-Ok-first_day-clause-refused : goal.returns-in-Ok-first_day-clause-refused
returns-in-Ok-first_day-clause-refused g c =
    let day : to_z w32 (of_z w32 c.args.date) ≡ c.args.date = search rules in
    let tables = ap (λ (f : Frame). f.schema) c.in-Ok-first_day.ensures.frame in
    rw (c.requires.origin, tables, day) at c.read_from.ensures.refused

pub returns-in-Err-clause-unchanged : goal.returns-in-Err-clause-unchanged
returns-in-Err-clause-unchanged g c = leaves-any (g.D.Disk.shown c.args.disk.now) (g.D.Disk.shown c.open.new.disk) c.in-Err.why c.open.ensures.bytes

pub returns-in-Err-next_day-clause-unchanged : goal.returns-in-Err-next_day-clause-unchanged
returns-in-Err-next_day-clause-unchanged g c =
    let day : to_z w32 (of_z w32 c.args.date) ≡ c.args.date = search rules in
    let begun = opened-read (g.D.Disk.shown c.args.disk.now) (g.D.Disk.shown c.open.new.disk) c.args.date c.in-Ok.loading c.args.schema c.in-Ok.ensures.counts.0 c.in-Ok.ensures.counts.1 c.open.ensures.bytes c.in-Ok.ensures.read c.in-Ok.ensures.loaded
    c.in-Ok.ensures.gates c.in-Ok.ensures.begun.tables (rw day at c.in-Ok.ensures.not_after) c.in-Ok.ensures.under_way c.in-Ok.ensures.clean in
    leaves-any (g.D.Disk.shown c.args.disk.now) (g.D.Disk.shown c.next_day.new.disk) c.in-Err-next_day.why
    (reads-on (g.D.Disk.shown c.args.disk.now) (g.D.Disk.shown c.open.new.disk) (g.D.Disk.shown c.next_day.new.disk) begun.same c.next_day.ensures.bytes)

pub returns-in-Err-first_day-clause-unchanged : goal.returns-in-Err-first_day-clause-unchanged
returns-in-Err-first_day-clause-unchanged g c =
    let day : to_z w32 (of_z w32 c.args.date) ≡ c.args.date = search rules in
    let begun = opened-read (g.D.Disk.shown c.args.disk.now) (g.D.Disk.shown c.open.new.disk) c.args.date c.in-Ok.loading c.args.schema c.in-Ok.ensures.counts.0 c.in-Ok.ensures.counts.1 c.open.ensures.bytes c.in-Ok.ensures.read c.in-Ok.ensures.loaded
    c.in-Ok.ensures.gates c.in-Ok.ensures.begun.tables (rw day at c.in-Ok.ensures.not_after) c.in-Ok.ensures.under_way c.in-Ok.ensures.clean in
    reads-on (g.D.Disk.shown c.args.disk.now) (g.D.Disk.shown c.open.new.disk) (g.D.Disk.shown c.next_day.new.disk) begun.same c.next_day.ensures.bytes

pub returns-in-Ok-first_day-clause-unchanged : goal.returns-in-Ok-first_day-clause-unchanged
returns-in-Ok-first_day-clause-unchanged g c = rw c.requires.origin at c.read_from.ensures.unchanged
