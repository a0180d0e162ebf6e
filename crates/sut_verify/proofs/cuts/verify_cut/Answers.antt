use Rattle.std.proofs.Common.{◌≡◌, ◌∙◌, sym, subst}
use Rattle.std.specs.Prelude.{◌↔◌}
use Rattle.sut_cert.specs.Certificates.{Contradicts, entering, leaving}
use Rattle.sut_cert.proofs.Cuts.{contradiction-impossible}
use Rattle.sut_verify.specs.declared.verdicts.Verdict.TheVariants as verdict
use Rattle.sut_verify.proofs.Shown.{same-sums, verdict_on_cut-contradicts}
use Rattle.sut_verify.proofs.cuts.verify_cut.Goals as goal

pub returns-clause-shown : goal.returns-clause-shown
returns-clause-shown c =
    let p = c.args.p.now in
    let s = c.args.s.now in
    subst (λ v. (v ≡ verdict.NoTable (entering p s) (leaving p s)) ↔ Contradicts p s) (sym c.judge.ensures) (verdict_on_cut-contradicts p s)

pub returns-clause-sums : goal.returns-clause-sums
returns-clause-sums c =
    let p = c.args.p.now in
    let s = c.args.s.now in
    λ enter leave e.
    let sums = same-sums p s enter leave (sym c.judge.ensures ∙ e) in
    (sums.0, sums.1, contradiction-impossible p c.kept.ensures.problem s ((verdict_on_cut-contradicts p s).0 (sym c.judge.ensures ∙ e ∙ (λ i. verdict.NoTable (sums.0 i) (sums.1 i)))))

pub returns-clause-impossible : goal.returns-clause-impossible
returns-clause-impossible c =
    let p = c.args.p.now in
    let s = c.args.s.now in
    λ e. contradiction-impossible p c.kept.ensures.problem s ((verdict_on_cut-contradicts p s).0 (sym c.judge.ensures ∙ e))
