-- The number that each status ends the program with.
use Rattle.std.specs.Prelude.{ℕ}
use Rattle.sut_check.specs.declared.statuses.CheckStatus.{CheckStatus}
use Rattle.sut_check.specs.declared.statuses.CheckStatus.TheVariants as status

abbrev pub code : CheckStatus → ℕ
code status.Least = 0
code status.NoMemory = 1
code status.Usage = 2
code status.NoTable = 3
code (status.Refused r) = 4
code (status.BadSettings e) = 5
code (status.BadClasses e) = 6
code (status.BadSource e) = 7
code (status.BadCertificate e) = 8
code (status.BadTable e) = 9
code (status.ReadFault n) = 10
code (status.Missing n) = 12
code status.SinkFault = 13
code (status.TooLong n) = 14
