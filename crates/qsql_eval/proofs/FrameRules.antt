-- What is known of rows as columns, for the functions that read them.
use Rattle.qsql_values.proofs.FrameLemmas.{even_columns, columns_even, kind_some, kind_none}

pub ruleset evenness = (even_columns, columns_even)

pub ruleset kinds = (kind_some, kind_none)
