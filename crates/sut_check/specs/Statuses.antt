-- Faults and verdicts, as statuses.
use Rattle.sut_cert.specs.declared.faults.CertCause.{CertCause}
use Rattle.sut_cert.specs.declared.faults.CertCause.TheVariants as cert
use Rattle.sut_cert.specs.declared.faults.CertFault.{CertFault}
use Rattle.sut_readback.specs.declared.faults.BalancedCause.{BalancedCause}
use Rattle.sut_readback.specs.declared.faults.BalancedCause.TheVariants as table
use Rattle.sut_readback.specs.declared.faults.BalancedFault.{BalancedFault}
use Rattle.sut_input.specs.declared.faults.InputFault.{InputFault}
use Rattle.sut_input.specs.declared.faults.InputFault.TheVariants as input
use Rattle.sut_verify.specs.declared.verdicts.Verdict.{Verdict}
use Rattle.sut_verify.specs.declared.verdicts.Verdict.TheVariants as verdict
use Rattle.sut_check.specs.declared.statuses.CheckStatus.{CheckStatus}
use Rattle.sut_check.specs.declared.statuses.CheckStatus.TheVariants as status
use Rattle.sut_check.specs.declared.faults.CheckFault.{CheckFault}
use Rattle.sut_check.specs.declared.faults.CheckFault.TheVariants.{Input, BadCertificate, BadTable}

-- a reader's fault; want of memory is no fault of a file
abbrev pub certificate_unless_no_memory : CertCause → CertFault → CheckFault
certificate_unless_no_memory cert.NoMemory fault = Input input.NoMemory
certificate_unless_no_memory _ fault = BadCertificate fault

abbrev pub certificate_fault : CertFault → CheckFault
certificate_fault fault = certificate_unless_no_memory fault.cause fault

abbrev pub table_unless_no_memory : BalancedCause → BalancedFault → CheckFault
table_unless_no_memory table.NoMemory fault = Input input.NoMemory
table_unless_no_memory _ fault = BadTable fault

abbrev pub table_fault : BalancedFault → CheckFault
table_fault fault = table_unless_no_memory fault.cause fault

-- the status of a check of files that give no problem
abbrev pub input_status : InputFault → CheckStatus
input_status (input.Missing name) = status.Missing name
input_status (input.TooLong name) = status.TooLong name
input_status (input.ReadFault name) = status.ReadFault name
input_status (input.BadSettings e) = status.BadSettings e
input_status (input.BadClasses e) = status.BadClasses e
input_status (input.BadSource e) = status.BadSource e
input_status input.NoMemory = status.NoMemory

-- the status of a check that is refused
abbrev pub status_of : CheckFault → CheckStatus
status_of (Input e) = input_status e
status_of (BadCertificate e) = status.BadCertificate e
status_of (BadTable e) = status.BadTable e

-- the status of a check with this verdict
abbrev pub status_for : Verdict → CheckStatus
status_for verdict.Least = status.Least
status_for (verdict.NoTable entering leaving) = status.NoTable
status_for (verdict.Refused reason) = status.Refused reason
