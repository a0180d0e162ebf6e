use Rattle.std.proofs.Common.{IsNone, ◌↔◌, sym, subst}
use Rattle.sut_tables.specs.Costs.{IsAdmissible}
use Rattle.sut_tables.proofs.FirstBreak.{first_break-admissible}
use Rattle.sut_tables.proofs.breaks.first_open.Goals as goal

pub returns-clause-admissible : goal.returns-clause-admissible
returns-clause-admissible c =
    subst (λ o. IsNone o ↔ IsAdmissible c.args.p.now c.args.t.now) (sym c.first_broken.ensures) (first_break-admissible c.args.p.now c.args.t.now c.kept.ensures.problem c.requires)
