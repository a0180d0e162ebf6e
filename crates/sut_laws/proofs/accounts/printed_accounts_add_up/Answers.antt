use Rattle.sut_laws.proofs.PrintedLines.{expenditure-adds, income-adds, production-adds}
use Rattle.sut_laws.proofs.accounts.printed_accounts_add_up.Goals as goal

pub returns : goal.returns
returns c = λ p t kept of ranges. (production-adds p t kept of ranges, income-adds p t kept of ranges, expenditure-adds p t kept of ranges)
