use Rattle.sut_review.proofs.Histories.{dismissed-first, standing-stands}
use Rattle.sut_review.proofs.laws.first_with_label.Goals as goal

pub returns-clause-stands : goal.returns-clause-stands
returns-clause-stands c = λ label seats k e. standing-stands label seats k e

pub returns-clause-ends : goal.returns-clause-ends
returns-clause-ends c = λ label seats k e. dismissed-first label seats k e
