-- How a check ends.
use Rattle.std.proofs.Common.{◌≡◌, ◌⊎◌, ◌∙◌, ◌++◌, ℕ, List, [], Option, Some, None, Ok, Contains, IfSome, inl, inr, refl, sym, subst}
use Rattle.std.specs.Prelude.{IsOkAnd}
use Rattle.sut_outside.specs.declared.names.FileName.{FileName}
use Rattle.sut_outside.specs.Files.{Files, Told}
use Rattle.sut_outside.specs.Causes.{Rose}
use Rattle.sut_outside.specs.Sent.{AppendsPart}
use Rattle.sut_outside.proofs.Told.{told_as}
use Rattle.sut_tables.specs.ProblemFacts.{ProblemFacts}
use Rattle.sut_cert.specs.declared.answers.Answer.{Answer}
use Rattle.sut_input.specs.declared.faults.InputFault.TheVariants as input
use Rattle.sut_verify.specs.declared.verdicts.Verdict.TheVariants as verdict
use Rattle.sut_check.specs.declared.statuses.CheckStatus.{CheckStatus}
use Rattle.sut_check.specs.declared.statuses.CheckStatus.TheVariants.{Least, NoTable, Refused, NoMemory, Usage, BadSettings, BadClasses, BadSource, ReadFault, Missing, SinkFault, TooLong}
use Rattle.sut_check.specs.declared.statuses.CheckStatus.TheVariants as status
use Rattle.sut_check.specs.declared.faults.CheckFault.{CheckFault}
use Rattle.sut_check.specs.declared.faults.CheckFault.TheVariants as fault
use Rattle.sut_check.specs.Statuses.{status_of}
use Rattle.sut_check.specs.Claims as claims
use Rattle.sut_check.specs.Claims.{FailsIn, Refuses, claim_in}
use Rattle.sut_check.specs.Findings.{FindsLeast, FindsNoTable, check_text, verdict_of}
use Rattle.sut_check.specs.declared.judging.Judged.{Judged}
use Rattle.sut_check.specs.declared.judging.Judged.TheVariants as judged
use Rattle.sut_check.specs.Judged.{EndsAs, IsJudged, lines_in}
use Rattle.sut_check.specs.CheckEnds.{AnswersCheck, AnswersClaim, AreLines, IfReadFault, IsReadFault, Prints}

-- ---- printing

-- the same for lines with another property
pub prints-as : (L M : List ℕ → Type 0) → ((lines : List ℕ) → L lines → M lines) → (s : CheckStatus) (old new : List ℕ) → Prints L s old new → Prints M s old new
prints-as L M f Least old new h = record { lines = h.lines; spelled = f h.lines h.spelled; sent = h.sent }
prints-as L M f NoTable old new h = record { lines = h.lines; spelled = f h.lines h.spelled; sent = h.sent }
prints-as L M f SinkFault old new h = record { lines = h.lines; spelled = f h.lines h.spelled; part = h.part }
prints-as L M f (Refused r) old new h = h
prints-as L M f (status.BadCertificate e) old new h = h
prints-as L M f (status.BadTable e) old new h = h
prints-as L M f NoMemory old new h = h
prints-as L M f Usage old new h = h
prints-as L M f (BadSettings e) old new h = h
prints-as L M f (BadClasses e) old new h = h
prints-as L M f (BadSource e) old new h = h
prints-as L M f (ReadFault n) old new h = h
prints-as L M f (Missing n) old new h = h
prints-as L M f (TooLong n) old new h = h

pub told-prints-as : (L M : List ℕ → Type 0) → ((lines : List ℕ) → L lines → M lines) → (s : CheckStatus) (before after : Option (List ℕ)) → Told before after (Prints L s) → Told before after (Prints M s)
told-prints-as L M f s before after h = told_as (Prints L s) (Prints M s) (prints-as L M f s) before after h

-- nothing went out
pub nothing-sent : (sent : Option (List ℕ)) → Told sent sent (λ old new. new ≡ old)
nothing-sent None = tt
nothing-sent (Some bytes) = refl

-- all lines went out, and a part of them
all-printed : (ends : CheckStatus) → (ends ≡ Least) ⊎ (ends ≡ NoTable) → (lines old new : List ℕ) → new ≡ old ++ lines → Prints (λ text. text ≡ lines) ends old new
all-printed ends (inl e) lines old new h = subst (λ s. Prints (λ text. text ≡ lines) s old new) (sym e) (record { lines = lines; spelled = refl; sent = h })
all-printed ends (inr e) lines old new h = subst (λ s. Prints (λ text. text ≡ lines) s old new) (sym e) (record { lines = lines; spelled = refl; sent = h })

pub told-all : (ends : CheckStatus) → (ends ≡ Least) ⊎ (ends ≡ NoTable) → (lines : List ℕ) (before after : Option (List ℕ)) → Told before after (λ old new. new ≡ old ++ lines) → Told before after (Prints (λ text. text ≡ lines) ends)
told-all ends which lines before after h = told_as (λ old new. new ≡ old ++ lines) (Prints (λ text. text ≡ lines) ends) (λ old new e. all-printed ends which lines old new e) before after h

pub told-part : (lines : List ℕ) (before after : Option (List ℕ)) → Told before after (AppendsPart lines) → Told before after (Prints (λ text. text ≡ lines) SinkFault)
told-part lines before after h = told_as (AppendsPart lines) (Prints (λ text. text ≡ lines) SinkFault) (λ old new part. record { lines = lines; spelled = refl; part = part }) before after h

-- ---- a claim

least-ended : (p : ProblemFacts) (a : Answer) (s : CheckStatus) → FindsLeast p a → (s ≡ Least) ⊎ (s ≡ SinkFault) → AnswersClaim p a s
least-ended p a s found (inl e) = subst (AnswersClaim p a) (sym e) found
least-ended p a s found (inr e) = subst (AnswersClaim p a) (sym e) (inl found)

no-table-ended : (p : ProblemFacts) (a : Answer) (s : CheckStatus) → FindsNoTable p a → (s ≡ NoTable) ⊎ (s ≡ SinkFault) → AnswersClaim p a s
no-table-ended p a s found (inl e) = subst (AnswersClaim p a) (sym e) found
no-table-ended p a s found (inr e) = subst (AnswersClaim p a) (sym e) (inr found)

pub judged-answers : (p : ProblemFacts) (a : Answer) (j : Judged) (s : CheckStatus) → IsJudged p a j → EndsAs j s → AnswersClaim p a s
judged-answers p a (judged.Least lines) s is ends = least-ended p a s is.0 ends
judged-answers p a (judged.NoTable lines) s is ends = no-table-ended p a s is.0 ends
judged-answers p a (judged.Refused r) s is ends = subst (AnswersClaim p a) (sym ends) is

-- the lines of a judged claim are those of the claim
pub judged-prints : (p : ProblemFacts) (a : Answer) (j : Judged) (s : CheckStatus) → IsJudged p a j → EndsAs j s → (before after : Option (List ℕ)) → Told before after (Prints (λ text. text ≡ lines_in j) s)
    → Told before after (Prints (λ text. text ≡ check_text p a) s)
judged-prints p a (judged.Least lines) s is ends before after h = told-prints-as (λ text. text ≡ lines.items) (λ text. text ≡ check_text p a) (λ text e. e ∙ is.1) s before after h
judged-prints p a (judged.NoTable lines) s is ends before after h = told-prints-as (λ text. text ≡ lines.items) (λ text. text ≡ check_text p a) (λ text e. e ∙ is.1) s before after h
judged-prints p a (judged.Refused r) s is ends before after h =
    let L : List ℕ → Type 0 = λ text. text ≡ [] in
    let M : List ℕ → Type 0 = λ text. text ≡ check_text p a in
    subst (λ x. Told before after (Prints M x)) (sym ends) (subst (λ x. Told before after (Prints L x)) ends h)

-- what an answer says of a claim that the files spell, it says of the files
spelled : (source : FileName) (files : Files) (p : ProblemFacts) (a : Answer) (P : ProblemFacts × Answer → Type 0) → claim_in source None files ≡ Ok (p, a) → P (p, a) → IsOkAnd (claim_in source None files) P
spelled source files p a P e h = subst (λ r. IsOkAnd r P) (sym e) h

claim-answers : (source : FileName) (files : Files) (p : ProblemFacts) (a : Answer) (s : CheckStatus) → AnswersClaim p a s → claim_in source None files ≡ Ok (p, a) → AnswersCheck source files s
claim-answers source files p a NoMemory h e = tt
claim-answers source files p a Least h e = spelled source files p a (λ claim. FindsLeast claim.0 claim.1) e h
claim-answers source files p a NoTable h e = spelled source files p a (λ claim. FindsNoTable claim.0 claim.1) e h
claim-answers source files p a (Refused r) h e = spelled source files p a (λ claim. verdict_of claim.0 claim.1 ≡ verdict.Refused r) e h
claim-answers source files p a SinkFault h e = spelled source files p a (λ claim. FindsLeast claim.0 claim.1 ⊎ FindsNoTable claim.0 claim.1) e h
claim-answers source files p a (status.BadCertificate f) h e = absurd h
claim-answers source files p a (status.BadTable f) h e = absurd h
claim-answers source files p a Usage h e = absurd h
claim-answers source files p a (BadSettings f) h e = absurd h
claim-answers source files p a (BadClasses f) h e = absurd h
claim-answers source files p a (BadSource f) h e = absurd h
claim-answers source files p a (ReadFault n) h e = absurd h
claim-answers source files p a (Missing n) h e = absurd h
claim-answers source files p a (TooLong n) h e = absurd h

pub claim-answers-told : (source : FileName) (held : Option Files) (p : ProblemFacts) (a : Answer) (s : CheckStatus) → AnswersClaim p a s → IfSome held (λ files. claim_in source None files ≡ Ok (p, a))
    → IfSome held (λ files. AnswersCheck source files s)
claim-answers-told source None p a s h e = tt
claim-answers-told source (Some files) p a s h e = claim-answers source files p a s h e

-- the lines of a claim are those of the files
pub claim-lines : (source : FileName) (held : Option Files) (p : ProblemFacts) (a : Answer) → IfSome held (λ files. claim_in source None files ≡ Ok (p, a)) → (lines : List ℕ) → lines ≡ check_text p a
    → IfSome held (λ files. AreLines source files lines)
claim-lines source None p a e lines h = tt
claim-lines source (Some files) p a e lines h = spelled source files p a (λ claim. lines ≡ check_text claim.0 claim.1) e h

-- a judged claim is no failed read, and its words were accepted
pub claim-reads : (p : ProblemFacts) (a : Answer) (s : CheckStatus) (P : FileName → Type 0) → AnswersClaim p a s → IfReadFault s P
claim-reads p a NoMemory P h = tt
claim-reads p a Least P h = tt
claim-reads p a NoTable P h = tt
claim-reads p a (Refused r) P h = tt
claim-reads p a SinkFault P h = tt
claim-reads p a (status.BadCertificate f) P h = tt
claim-reads p a (status.BadTable f) P h = tt
claim-reads p a Usage P h = tt
claim-reads p a (BadSettings f) P h = tt
claim-reads p a (BadClasses f) P h = tt
claim-reads p a (BadSource f) P h = tt
claim-reads p a (ReadFault n) P h = absurd h
claim-reads p a (Missing n) P h = tt
claim-reads p a (TooLong n) P h = tt

pub claim-used : (p : ProblemFacts) (a : Answer) (s : CheckStatus) → AnswersClaim p a s → s ≡ Usage → ⊥
claim-used p a s h e = subst (AnswersClaim p a) e h

-- ---- a refusal

refused-answers : (source : FileName) (files : Files) (f : CheckFault) → Refuses (claim_in source) files f → AnswersCheck source files (status_of f)
refused-answers source files (fault.Input input.NoMemory) h = tt
refused-answers source files (fault.Input (input.Missing n)) h = h
refused-answers source files (fault.Input (input.TooLong n)) h = h
refused-answers source files (fault.Input (input.ReadFault n)) h = h
refused-answers source files (fault.Input (input.BadSettings e)) h = h
refused-answers source files (fault.Input (input.BadClasses e)) h = h
refused-answers source files (fault.Input (input.BadSource e)) h = h
refused-answers source files (fault.BadCertificate e) h = h
refused-answers source files (fault.BadTable e) h = h

pub refused-answers-told : (source : FileName) (held : Option Files) (f : CheckFault) → IfSome held (λ files. Refuses (claim_in source) files f) → IfSome held (λ files. AnswersCheck source files (status_of f))
refused-answers-told source None f h = tt
refused-answers-told source (Some files) f h = refused-answers source files f h

pub refused-prints : (L : List ℕ → Type 0) (f : CheckFault) (sent : Option (List ℕ)) → Told sent sent (Prints L (status_of f))
refused-prints L (fault.Input input.NoMemory) sent = nothing-sent sent
refused-prints L (fault.Input (input.Missing n)) sent = nothing-sent sent
refused-prints L (fault.Input (input.TooLong n)) sent = nothing-sent sent
refused-prints L (fault.Input (input.ReadFault n)) sent = nothing-sent sent
refused-prints L (fault.Input (input.BadSettings e)) sent = nothing-sent sent
refused-prints L (fault.Input (input.BadClasses e)) sent = nothing-sent sent
refused-prints L (fault.Input (input.BadSource e)) sent = nothing-sent sent
refused-prints L (fault.BadCertificate e) sent = nothing-sent sent
refused-prints L (fault.BadTable e) sent = nothing-sent sent

pub refused-reads : (names : List FileName) (f : CheckFault) (before now : ℕ) (last : Option FileName) → FailsIn names before now last f
    → IfReadFault (status_of f) (λ failed. Rose before now × (last ≡ Some failed) × Contains names failed)
refused-reads names (fault.Input input.NoMemory) before now last h = tt
refused-reads names (fault.Input (input.Missing n)) before now last h = tt
refused-reads names (fault.Input (input.TooLong n)) before now last h = tt
refused-reads names (fault.Input (input.ReadFault n)) before now last h = h
refused-reads names (fault.Input (input.BadSettings e)) before now last h = tt
refused-reads names (fault.Input (input.BadClasses e)) before now last h = tt
refused-reads names (fault.Input (input.BadSource e)) before now last h = tt
refused-reads names (fault.BadCertificate e) before now last h = tt
refused-reads names (fault.BadTable e) before now last h = tt

-- a test that refusals pass
abbrev pub IsRefusal : CheckStatus → Type 0
IsRefusal SinkFault = ⊥
IsRefusal Usage = ⊥
IsRefusal _ = Unit {0}

pub is-refusal : (f : CheckFault) → IsRefusal (status_of f)
is-refusal (fault.Input input.NoMemory) = tt
is-refusal (fault.Input (input.Missing n)) = tt
is-refusal (fault.Input (input.TooLong n)) = tt
is-refusal (fault.Input (input.ReadFault n)) = tt
is-refusal (fault.Input (input.BadSettings e)) = tt
is-refusal (fault.Input (input.BadClasses e)) = tt
is-refusal (fault.Input (input.BadSource e)) = tt
is-refusal (fault.BadCertificate e) = tt
is-refusal (fault.BadTable e) = tt

-- a refusal that is a failed read
pub refused-failed : (f : CheckFault) → claims.IsReadFault f → IsReadFault (status_of f)
refused-failed (fault.Input input.NoMemory) is = absurd is
refused-failed (fault.Input (input.Missing n)) is = absurd is
refused-failed (fault.Input (input.TooLong n)) is = absurd is
refused-failed (fault.Input (input.ReadFault n)) is = tt
refused-failed (fault.Input (input.BadSettings e)) is = absurd is
refused-failed (fault.Input (input.BadClasses e)) is = absurd is
refused-failed (fault.Input (input.BadSource e)) is = absurd is
refused-failed (fault.BadCertificate e) is = absurd is
refused-failed (fault.BadTable e) is = absurd is
