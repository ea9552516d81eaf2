-- The table whose rounds are under way.
use Rattle.meaning.specs.Table.{Table}
use Rattle.table.specs.Rows.{table_in}
use Rattle.rounds.specs.declared.given.Given.{Given}

abbrev pub table_given : Given → Table
table_given g = table_in g.seen.layout.looks.rows.now
