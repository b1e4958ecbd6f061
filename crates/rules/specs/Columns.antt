-- What the code's answer on columns stands for.
-- Assumes nothing.
use Rattle.memory.specs.Rows.{Columns, columns}
use Rattle.rules.specs.declared.columns.Used.{Used}

-- the columns that a row may use
unfoldable pub columns_of : Used → Columns
columns_of u = columns u.guard u.addr u.value u.old u.time u.version
