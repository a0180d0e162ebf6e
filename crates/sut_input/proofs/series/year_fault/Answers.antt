use Rattle.sut_input.proofs.SeriesSteps.{year-named}
use Rattle.sut_input.proofs.series.year_fault.Goals as goal

pub returns-in_default : goal.returns-in_default
returns-in_default c = year-named c.args.year c.args.fault c.in_default.not-NoMemory
