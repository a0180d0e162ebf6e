use Rattle.std.proofs.Common.{◌≡◌, IfOk, subst, sym}
use Rattle.sut_write.specs.Reports.{report_text}
use Rattle.sut_write.proofs.report.report_text.Goals as goal

pub returns-in-Balanced : goal.returns-in-Balanced
unfolding report_text
returns-in-Balanced c =
    subst (λ a. IfOk c.balanced_report.result (λ v. v.items ≡ report_text c.args.p.now a)) (sym c.in-Balanced.is) c.balanced_report.ensures

pub returns-in-Infeasible : goal.returns-in-Infeasible
unfolding report_text
returns-in-Infeasible c =
    subst (λ a. IfOk c.infeasible_report.result (λ v. v.items ≡ report_text c.args.p.now a)) (sym c.in-Infeasible.is) c.infeasible_report.ensures
