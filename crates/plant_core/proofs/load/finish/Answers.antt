use Rattle.std.proofs.Common.{◌≡◌, ◌<◌, ◌+◌, ◌^◌, ◌++◌, arith, rules, w32, to_z, of_z}
use Rattle.day_rows.specs.Chronicle.{date_of}
use Rattle.date_logs.specs.Stores.{DateLogsView}
use Rattle.plant_memory.specs.Chronicle.{top_by}
use Rattle.plant_memory.specs.Memory.{MemoryView}
use Rattle.plant_core.specs.Load.{roll_to}
use Rattle.plant_core.specs.Progress.{IsWhole, IsReadPlant}
use Rattle.plant_core.proofs.LoadLemmas.{whole-of, loaded-of, spent-of, opened-of, ok-three, top-loaded}
use Rattle.plant_core.proofs.ReadLemmas.{all-leave}
use Rattle.plant_core.proofs.load.finish.Goals as goal

pub roll_to-requires-clause-whole : goal.roll_to-requires-clause-whole
roll_to-requires-clause-whole g c = whole-of _ _ c.args.date c.args.loading c.args.memory c.requires.loading c.requires.all c.in-Dated.logs c.in-Dated.ensures.finished

pub returns-then-next_by-clause-refused : goal.returns-then-next_by-clause-refused
returns-then-next_by-clause-refused g c =
    let is : c.next_by.result ≡ 18446744073709551615 = search rules in
    λ told. spent-of _ _ c.args.date c.args.loading c.args.memory c.requires.loading c.requires.all c.finish.ensures.restarts told (omega (arith, c.next_by.ensures, is))

pub returns-clause-unchanged : goal.returns-clause-unchanged
returns-clause-unchanged g c =
    all-leave c.roll_to.result (g.D.Disk.shown c.args.origin.now.value) (g.D.Disk.shown c.args.disk.now) (g.D.Disk.shown c.roll_to.new.disk) c.requires.loading.read.same c.roll_to.ensures.unchanged

pub returns-clause-read : goal.returns-clause-read
returns-clause-read g c =
    let few : top_by c.args.memory.entries + 2 < 2 ^ 64 = search rules in
    ok-three c.roll_to.result
    (λ (x : MemoryView × DateLogsView). IsWhole (g.D.Disk.shown c.args.origin.now.value) (g.D.Disk.shown c.roll_to.new.disk) x.0 x.1)
    (λ (x : MemoryView × DateLogsView). x.0.frame ≡ c.args.memory.frame)
    (λ (x : MemoryView × DateLogsView). x.0.entries ≡ c.args.memory.entries ++ roll_to (date_of c.args.memory.frame.first c.args.memory.entries) c.args.date)
    (λ (x : MemoryView × DateLogsView). IsReadPlant (g.D.Disk.shown c.args.origin.now.value) (g.D.Disk.shown c.roll_to.new.disk) c.args.date x.0 x.1)
    (λ x whole frame entries. record {
      whole = whole;
      opened = opened-of (g.D.Disk.shown c.args.origin.now.value) (g.D.Disk.shown c.args.disk.now) c.args.date c.args.loading c.args.memory c.requires.loading c.requires.all x.0 frame entries;
      loaded = λ told. loaded-of (g.D.Disk.shown c.args.origin.now.value) (g.D.Disk.shown c.args.disk.now) c.args.date c.args.loading c.args.memory c.requires.loading c.requires.all c.finish.ensures.restarts told c.reads_in_one_way.ensures.once x.0 frame entries few;
    })
    c.roll_to.ensures.whole c.roll_to.ensures.frame (let day : to_z w32 (of_z w32 c.args.date) ≡ c.args.date = search rules in rw day at c.roll_to.ensures.entries)

pub returns-clause-numbers : goal.returns-clause-numbers
returns-clause-numbers g c =
    let day : to_z w32 (of_z w32 c.args.date) ≡ c.args.date = search rules in
    let few : top_by c.args.memory.entries + 2 < 2 ^ 64 = search rules in
    top-loaded c.roll_to.result c.args.memory c.args.date few (rw day at c.roll_to.ensures.entries)
