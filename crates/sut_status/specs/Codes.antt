-- The number that each status ends a program with.
use Rattle.std.specs.Prelude.{ℕ}
use Rattle.sut_status.specs.declared.statuses.Status.{Status}
use Rattle.sut_status.specs.declared.statuses.Status.TheVariants as status

abbrev pub code : Status → ℕ
code status.Balanced = 0
code status.Generated = 0
code status.Migrated = 0
code status.Published = 0
code status.Ranged = 0
code status.Series = 0
code status.Shared = 0
code status.NoMemory = 1
code status.Usage = 2
code status.Infeasible = 3
code (status.BadSettings e) = 5
code (status.BadClasses e) = 6
code (status.BadSource e) = 7
code (status.BadEdits e) = 8
code (status.ReadFault n) = 10
code (status.WriteFault n) = 11
code (status.Missing n) = 12
code status.SinkFault = 13
code (status.TooLong n) = 14
code (status.BadTable e) = 15
code (status.NotAdmissible b) = 16
code (status.BadAsks e) = 17
code (status.BadDismiss e) = 18
code (status.TooManyPairs n) = 19
code (status.BadYear y e) = 20
