use Rattle.std.proofs.Common.{◌≡◌, ◌∙◌, sym, subst}
use Rattle.std.specs.Prelude.{◌↔◌}
use Rattle.sut_cert.specs.Certificates.{ShowsLeast}
use Rattle.sut_cert.proofs.Least.{shown-least}
use Rattle.sut_verify.specs.declared.verdicts.Verdict.TheVariants as verdict
use Rattle.sut_verify.proofs.Shown.{verdict-shown}
use Rattle.sut_verify.proofs.potentials.verify.Goals as goal

pub returns-clause-shown : goal.returns-clause-shown
returns-clause-shown c =
    let p = c.args.p.now in
    subst (λ v. (v ≡ verdict.Least) ↔ ShowsLeast p c.args.t.now c.args.c.now) (sym c.judge.ensures) (verdict-shown p c.args.t.now c.args.c.now c.kept.ensures.problem c.requires)

pub returns-clause-least : goal.returns-clause-least
returns-clause-least c =
    let p = c.args.p.now in
    λ e. shown-least p c.kept.ensures.problem c.args.t.now c.args.c.now ((verdict-shown p c.args.t.now c.args.c.now c.kept.ensures.problem c.requires).0 (sym c.judge.ensures ∙ e))
