-- The numbers of the statuses: each has its own.
use Rattle.std.proofs.Common.{ℕ}
use Rattle.aql_run.specs.declared.status.Status.{Status}
use Rattle.aql_run.specs.declared.status.Status.TheVariants as status

-- the number of a status
abbrev pub code_of : Status → ℕ
code_of status.Done = 0
code_of status.Memory = 1
code_of status.Usage = 2
code_of status.Text = 3
code_of status.Syntax = 4
code_of status.Type = 5
code_of status.Deep = 6
code_of status.Large = 7
code_of status.Long = 8
code_of status.File = 9
code_of status.Input = 10
code_of status.Output = 11
code_of status.Spent = 12
code_of status.Files = 13
