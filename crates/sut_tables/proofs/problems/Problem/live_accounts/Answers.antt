use Rattle.std.proofs.Common.{◌∙◌, ap}
use Rattle.sut_tables.specs.Problems.{live_accounts}
use Rattle.sut_tables.specs.ProblemView.{problem_of}
use Rattle.sut_tables.proofs.TallyRows.{account-keys}
use Rattle.sut_tables.proofs.problems.Problem.live_accounts.Goals as goal

pub returns : goal.returns
returns c = account-keys (problem_of c.self.inside) c.self.inside.live c.self.invariant.live c.kept.ensures.ordered c.kept.ensures.counted ∙ ap (λ p. live_accounts p) c.self.view_is
