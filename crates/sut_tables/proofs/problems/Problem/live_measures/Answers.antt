use Rattle.std.proofs.Common.{◌∙◌, ap}
use Rattle.sut_tables.specs.Problems.{live_measures}
use Rattle.sut_tables.specs.ProblemView.{problem_of}
use Rattle.sut_tables.proofs.TallyRows.{live-keys}
use Rattle.sut_tables.proofs.problems.Problem.live_measures.Goals as goal

pub returns : goal.returns
returns c = live-keys (problem_of c.self.inside) c.self.inside.live c.self.invariant.live c.kept.ensures.ordered c.kept.ensures.counted ∙ ap (λ p. live_measures p) c.self.view_is
