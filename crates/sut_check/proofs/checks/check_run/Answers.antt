use Rattle.std.proofs.Common.{◌≡◌, ◌⊎◌, ℕ, List, None, Some, IfSome, Contains, map, string_bytes, refl, sym}
use Rattle.std.specs.Prelude.{IfOk}
use Rattle.sut_outside.specs.declared.names.FileName.{FileName}
use Rattle.sut_outside.specs.Files.{Files}
use Rattle.sut_outside.specs.Causes.{Rose}
use Rattle.sut_check.specs.declared.statuses.CheckStatus.TheVariants.{NoMemory, Usage}
use Rattle.sut_check.specs.CheckWords.{checked_names, checked_source}
use Rattle.sut_check.specs.Statuses.{status_for}
use Rattle.sut_check.specs.Claims.{claim_in}
use Rattle.sut_check.specs.Findings.{verdict_of}
use Rattle.sut_check.specs.CheckEnds.{AnswersCheck, AreLines}
use Rattle.sut_check.proofs.Asked.{complete-told, for-none, for-source, is-there, read-as, same-told}
use Rattle.sut_check.proofs.Ended.{nothing-sent, told-prints-as}
use Rattle.sut_check.proofs.checks.check_run.Goals as goal

pub check_source-requires : goal.check_source-requires
check_source-requires g c = c.in-Some.ensures.source

pub returns-in-Some-clause-usage : goal.returns-in-Some-clause-usage
returns-in-Some-clause-usage g c = ((λ e. absurd (c.check_source.ensures.used e)), (λ e. absurd (is-there (checked_source (map string_bytes c.args.words.now)) c.in-Some.source c.in-Some.ensures.named e)))

pub returns-in-Some-clause-answers : goal.returns-in-Some-clause-answers
returns-in-Some-clause-answers g c =
    for-source (checked_source (map string_bytes c.args.words.now)) c.in-Some.source c.in-Some.ensures.named (λ (source : FileName). IfSome (g.F.Shelf.files c.args.shelf.now) (λ (files : Files). AnswersCheck source files c.check_source.result)) c.check_source.ensures.answers

pub returns-in-Some-clause-printed : goal.returns-in-Some-clause-printed
returns-in-Some-clause-printed g c =
    let held = g.F.Shelf.files c.args.shelf.now in
    let o = checked_source (map string_bytes c.args.words.now) in
    told-prints-as (λ (lines : List ℕ). IfSome held (λ (files : Files). AreLines c.in-Some.source files lines)) (λ (lines : List ℕ). IfSome o (λ (source : FileName). IfSome held (λ (files : Files). AreLines source files lines)))
    (λ lines h. for-source o c.in-Some.source c.in-Some.ensures.named (λ (source : FileName). IfSome held (λ (files : Files). AreLines source files lines)) h) c.check_source.result _ _ c.check_source.ensures.printed

pub returns-in-Some-clause-read_fault : goal.returns-in-Some-clause-read_fault
returns-in-Some-clause-read_fault g c =
    let o = checked_source (map string_bytes c.args.words.now) in
    let R : Type 0 = Rose (g.F.Shelf.faults c.args.shelf.now) (g.F.Shelf.faults c.check_source.new.shelf) in
    let last = g.F.Shelf.last_failed c.check_source.new.shelf in
    read-as c.check_source.result (λ (failed : FileName). R × (last ≡ Some failed) × Contains (checked_names c.in-Some.source) failed) (λ (failed : FileName). R × (last ≡ Some failed) × IfSome o (λ (source : FileName). Contains (checked_names source) failed))
    (λ n q. (q.0, q.1, for-source o c.in-Some.source c.in-Some.ensures.named (λ (source : FileName). Contains (checked_names source) n) q.2)) c.check_source.ensures.read_fault

pub returns-in-Some-clause-complete : goal.returns-in-Some-clause-complete
returns-in-Some-clause-complete g c =
    for-source (checked_source (map string_bytes c.args.words.now)) c.in-Some.source c.in-Some.ensures.named
    (λ (source : FileName). IfSome (g.F.Shelf.files c.args.shelf.now) (λ (files : Files). ¬ Rose (g.F.Shelf.faults c.args.shelf.now) (g.F.Shelf.faults c.check_source.new.shelf) → ¬ Rose (g.K.Sink.faults c.args.out.now) (g.K.Sink.faults c.check_source.new.out)
    → IfOk (claim_in source None files) (λ claim. (c.check_source.result ≡ NoMemory) ⊎ (c.check_source.result ≡ status_for (verdict_of claim.0 claim.1)))))
    (complete-told c.in-Some.source (g.F.Shelf.files c.args.shelf.now) c.check_source.result _ _ _ _ c.check_source.ensures.answers c.check_source.ensures.read_fault c.check_source.ensures.sink_fault)

pub returns-in-None-clause-usage : goal.returns-in-None-clause-usage
returns-in-None-clause-usage g c = ((λ e. sym c.in-None.ensures.named), (λ e. refl))

pub returns-in-None-clause-files : goal.returns-in-None-clause-files
returns-in-None-clause-files g c = same-told (g.F.Shelf.files c.args.shelf.now)

pub returns-in-None-clause-answers : goal.returns-in-None-clause-answers
returns-in-None-clause-answers g c =
    for-none (checked_source (map string_bytes c.args.words.now)) c.in-None.ensures.named (λ (source : FileName). IfSome (g.F.Shelf.files c.args.shelf.now) (λ (files : Files). AnswersCheck source files Usage))

pub returns-in-None-clause-printed : goal.returns-in-None-clause-printed
returns-in-None-clause-printed g c = nothing-sent (g.K.Sink.sent c.args.out.now)

pub returns-in-None-clause-complete : goal.returns-in-None-clause-complete
returns-in-None-clause-complete g c =
    for-none (checked_source (map string_bytes c.args.words.now)) c.in-None.ensures.named
    (λ (source : FileName). IfSome (g.F.Shelf.files c.args.shelf.now) (λ (files : Files). ¬ Rose (g.F.Shelf.faults c.args.shelf.now) (g.F.Shelf.faults c.args.shelf.now) → ¬ Rose (g.K.Sink.faults c.args.out.now) (g.K.Sink.faults c.args.out.now)
    → IfOk (claim_in source None files) (λ claim. (Usage ≡ NoMemory) ⊎ (Usage ≡ status_for (verdict_of claim.0 claim.1)))))
