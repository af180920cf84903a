use Rattle.schema_text.proofs.reading.+read_tables.Given as goal

abbrev pub decreases-read_tables : goal.decreases-read_tables
decreases-read_tables l = l.left
