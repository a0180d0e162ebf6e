use Rattle.std.proofs.Common.{◌∙◌, sym, arith}
use Rattle.sut_source.proofs.GradeLemmas.{colon-found, colon-missing, colon-within}
use Rattle.sut_source.proofs.grades.colon_in.Goals as goal

pub returns-in-Some-clause-place : goal.returns-in-Some-clause-place
returns-in-Some-clause-place c = colon-found c.args.text.now c.in-Some.place (sym c.find_colon.ensures ∙ c.in-Some.is)

pub returns-in-Some-clause-within : goal.returns-in-Some-clause-within
returns-in-Some-clause-within c =
    let first = colon-found c.args.text.now c.in-Some.place (sym c.find_colon.ensures ∙ c.in-Some.is) in
    omega (arith, first, colon-within c.args.text.now)

pub returns-in-None-clause-place : goal.returns-in-None-clause-place
returns-in-None-clause-place c = colon-missing c.args.text.now (sym c.find_colon.ensures ∙ c.in-None.is)
