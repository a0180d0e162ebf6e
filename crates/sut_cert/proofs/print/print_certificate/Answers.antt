use Rattle.std.proofs.Common.{◌≡◌, ◌≤◌, ◌∙◌, Ok, length, sym, ap, subst}
use Rattle.std.proofs.lemmas.Result.{IfOk-weaker}
use Rattle.sut_classes.specs.Kept.{IsClasses}
use Rattle.sut_cert.specs.CertificateFile.{certificate_of}
use Rattle.sut_cert.specs.CertificateText.{NamesLiveAccounts, cut_text, potentials_text}
use Rattle.sut_cert.proofs.ReadBack.{cut-read-back, potentials-read-back}
use Rattle.sut_cert.proofs.TextLength.{cut-short, potentials-short}
use Rattle.sut_cert.proofs.print.print_certificate.Goals as goal

pub returns-in-Potentials-clause-reads_back : goal.returns-in-Potentials-clause-reads_back
returns-in-Potentials-clause-reads_back c =
    let p = c.args.p.now in
    let ps = c.in-Potentials.potentials in
    let names = subst (NamesLiveAccounts p) c.in-Potentials.is c.requires in
    let kept = subst IsClasses c.classes-classes.ensures c.kept-2.ensures in
    IfOk-weaker c.print_potentials.result (λ t. t.items ≡ potentials_text c.classes-classes.result.now ps) (λ t. certificate_of p t.items ≡ Ok c.args.c.now)
    (λ t text. ap (certificate_of p) (text ∙ ap (λ cs. potentials_text cs ps) c.classes-classes.ensures) ∙ potentials-read-back p c.kept.ensures.problem kept ps c.print_potentials.ensures.kept names ∙ ap Ok (sym c.in-Potentials.is))
    c.print_potentials.ensures.text

pub returns-in-Cut-clause-reads_back : goal.returns-in-Cut-clause-reads_back
returns-in-Cut-clause-reads_back c =
    let p = c.args.p.now in
    let set = c.in-Cut.set in
    let names = subst (NamesLiveAccounts p) c.in-Cut.is c.requires in
    let kept = subst IsClasses c.classes-classes.ensures c.kept-2.ensures in
    IfOk-weaker c.print_cut.result (λ t. t.items ≡ cut_text c.classes-classes.result.now set) (λ t. certificate_of p t.items ≡ Ok c.args.c.now)
    (λ t text. ap (certificate_of p) (text ∙ ap (λ cs. cut_text cs set) c.classes-classes.ensures) ∙ cut-read-back p c.kept.ensures.problem kept set c.print_cut.ensures.kept names ∙ ap Ok (sym c.in-Cut.is))
    c.print_cut.ensures.text

pub returns-in-Potentials-clause-size : goal.returns-in-Potentials-clause-size
returns-in-Potentials-clause-size c =
    let p = c.args.p.now in
    let ps = c.in-Potentials.potentials in
    let names = subst (NamesLiveAccounts p) c.in-Potentials.is c.requires in
    let kept = subst IsClasses c.classes-classes.ensures c.kept-2.ensures in
    IfOk-weaker c.print_potentials.result (λ t. t.items ≡ potentials_text c.classes-classes.result.now ps) (λ t. length t.items ≤ 67108864)
    (λ t text. subst (λ l. length l ≤ 67108864) (sym (text ∙ ap (λ cs. potentials_text cs ps) c.classes-classes.ensures)) (potentials-short p c.kept.ensures.problem kept ps c.print_potentials.ensures.kept names))
    c.print_potentials.ensures.text

pub returns-in-Cut-clause-size : goal.returns-in-Cut-clause-size
returns-in-Cut-clause-size c =
    let p = c.args.p.now in
    let set = c.in-Cut.set in
    let names = subst (NamesLiveAccounts p) c.in-Cut.is c.requires in
    let kept = subst IsClasses c.classes-classes.ensures c.kept-2.ensures in
    IfOk-weaker c.print_cut.result (λ t. t.items ≡ cut_text c.classes-classes.result.now set) (λ t. length t.items ≤ 67108864)
    (λ t text. subst (λ l. length l ≤ 67108864) (sym (text ∙ ap (λ cs. cut_text cs set) c.classes-classes.ensures)) (cut-short p c.kept.ensures.problem kept set c.print_cut.ensures.kept names))
    c.print_cut.ensures.text
