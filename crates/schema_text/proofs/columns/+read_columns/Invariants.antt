use Rattle.schema_text.proofs.columns.+read_columns.Given as goal

abbrev pub decreases-read_columns : goal.decreases-read_columns
decreases-read_columns l = l.left
