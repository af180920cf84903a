-- What is known of a schema's tables, for the functions that look one up.
use Rattle.qsql_eval.proofs.TableLemmas.{table_here, table_next}

pub ruleset tables = (table_here, table_next)
