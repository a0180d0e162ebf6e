use Rattle.std.proofs.Common.{◌≡◌, ◌∙◌, ℕ, List, Some, Contains, IfSome, sym, subst}
use Rattle.sut_outside.specs.declared.names.FileName.{FileName}
use Rattle.sut_outside.specs.Files.{Files, Told}
use Rattle.sut_outside.specs.Causes.{Rose}
use Rattle.sut_check.specs.declared.statuses.CheckStatus.{CheckStatus}
use Rattle.sut_check.specs.CheckWords.{checked_names}
use Rattle.sut_check.specs.Findings.{check_text}
use Rattle.sut_check.specs.CheckEnds.{AnswersCheck, AreLines, IfReadFault, IsReadFault, Prints}
use Rattle.sut_check.proofs.Ended.{IsRefusal, claim-answers-told, claim-lines, claim-reads, claim-used, is-refusal, refused-answers-told, refused-failed, refused-prints, refused-reads, told-prints-as}
use Rattle.sut_check.proofs.checks.check_source.Goals as goal

pub returns-in-Ok-clause-answers : goal.returns-in-Ok-clause-answers
returns-in-Ok-clause-answers g c =
    claim-answers-told c.args.source (g.F.Shelf.files c.args.shelf.now) c.in-Ok.claim.input.problem c.in-Ok.claim.answer c.check_claim.result c.check_claim.ensures.answers c.in-Ok.ensures.ok

pub returns-in-Ok-clause-printed : goal.returns-in-Ok-clause-printed
returns-in-Ok-clause-printed g c =
    told-prints-as (λ (lines : List ℕ). lines ≡ check_text c.in-Ok.claim.input.problem c.in-Ok.claim.answer) (λ (lines : List ℕ). IfSome (g.F.Shelf.files c.args.shelf.now) (λ (files : Files). AreLines c.args.source files lines))
    (claim-lines c.args.source (g.F.Shelf.files c.args.shelf.now) c.in-Ok.claim.input.problem c.in-Ok.claim.answer c.in-Ok.ensures.ok) c.check_claim.result _ _ c.check_claim.ensures.printed

pub returns-in-Ok-clause-read_fault : goal.returns-in-Ok-clause-read_fault
returns-in-Ok-clause-read_fault g c = claim-reads c.in-Ok.claim.input.problem c.in-Ok.claim.answer c.check_claim.result _ c.check_claim.ensures.answers

pub returns-in-Ok-clause-used : goal.returns-in-Ok-clause-used
returns-in-Ok-clause-used g c e = claim-used c.in-Ok.claim.input.problem c.in-Ok.claim.answer c.check_claim.result c.check_claim.ensures.answers e

pub returns-in-Err-clause-answers : goal.returns-in-Err-clause-answers
returns-in-Err-clause-answers g c =
    let P : CheckStatus → Type 0 = λ s. IfSome (g.F.Shelf.files c.args.shelf.now) (λ (files : Files). AnswersCheck c.args.source files s) in
    subst P (sym c.status_of.ensures) (refused-answers-told c.args.source (g.F.Shelf.files c.args.shelf.now) c.in-Err.fault c.in-Err.ensures.err)

pub returns-in-Err-clause-printed : goal.returns-in-Err-clause-printed
returns-in-Err-clause-printed g c =
    let L : List ℕ → Type 0 = λ lines. IfSome (g.F.Shelf.files c.args.shelf.now) (λ (files : Files). AreLines c.args.source files lines) in
    let P : CheckStatus → Type 0 = λ s. Told (g.K.Sink.sent c.args.out.now) (g.K.Sink.sent c.args.out.now) (Prints L s) in
    subst P (sym c.status_of.ensures) (refused-prints L c.in-Err.fault (g.K.Sink.sent c.args.out.now))

pub returns-in-Err-clause-read_fault : goal.returns-in-Err-clause-read_fault
returns-in-Err-clause-read_fault g c =
    let P : CheckStatus → Type 0 = λ s. IfReadFault s (λ (failed : FileName). Rose (g.F.Shelf.faults c.args.shelf.now) (g.F.Shelf.faults c.read_claim.new.shelf) × (g.F.Shelf.last_failed c.read_claim.new.shelf ≡ Some failed) × Contains (checked_names c.args.source) failed) in
    subst P (sym c.status_of.ensures) (refused-reads (checked_names c.args.source) c.in-Err.fault _ _ _ c.in-Err.ensures.cause)

pub returns-in-Err-clause-sink_fault : goal.returns-in-Err-clause-sink_fault
returns-in-Err-clause-sink_fault g c e = absurd (subst IsRefusal (sym c.status_of.ensures ∙ e) (is-refusal c.in-Err.fault))

pub returns-in-Err-clause-used : goal.returns-in-Err-clause-used
returns-in-Err-clause-used g c e = subst IsRefusal (sym c.status_of.ensures ∙ e) (is-refusal c.in-Err.fault)

pub returns-in-Err-clause-shelf_stays : goal.returns-in-Err-clause-shelf_stays
returns-in-Err-clause-shelf_stays g c other =
    c.in-Err.ensures.stays (λ is. other (subst IsReadFault (sym c.status_of.ensures) (refused-failed c.in-Err.fault is)))
