use Rattle.plant_run.proofs.TablesLemmas.{found-in}
use Rattle.plant_run.proofs.tables.find_tables.Goals as goal

pub returns-in-Ok-read_file : goal.returns-in-Ok-read_file
returns-in-Ok-read_file g c =
    rw c.in-Some.is (found-in c.in-Some.path.now c.in-Ok-read_file.text.items (g.O.Outside.seen c.args.outside.now)
    (g.O.Outside.seen c.read_file.new.self) (g.O.Outside.seen c.tables_in.new.outside) c.tables_in.result
    (rw c.in-Ok-read_file.text-is at c.in-Ok-read_file.ensures) (rw c.deref.ensures.value at c.tables_in.ensures))
