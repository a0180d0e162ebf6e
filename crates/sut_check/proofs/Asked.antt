-- What is said of the source that the words ask for.
use Rattle.std.proofs.Common.{◌≡◌, ◌⊎◌, ◌≤◌, ◌<◌, ℕ, List, [], ◌∷◌, Option, Some, None, Result, Ok, Err, Contains, IfSome, length, get_or, inl, inr, refl, sym, ap, subst, arith}
use Rattle.std.specs.Prelude.{IfOk, IsOkAnd}
use Rattle.sut_outside.specs.declared.names.FileName.{FileName}
use Rattle.sut_outside.specs.Files.{Files, SameFiles, Told}
use Rattle.sut_outside.specs.Causes.{Rose}
use Rattle.sut_tables.specs.ProblemFacts.{ProblemFacts}
use Rattle.sut_cert.specs.declared.answers.Answer.{Answer}
use Rattle.sut_verify.specs.declared.verdicts.Verdict.TheVariants as verdict
use Rattle.sut_check.specs.declared.statuses.CheckStatus.{CheckStatus}
use Rattle.sut_check.specs.declared.statuses.CheckStatus.TheVariants.{Least, NoTable, Refused, NoMemory, Usage, BadSettings, BadClasses, BadSource, ReadFault, Missing, SinkFault, TooLong}
use Rattle.sut_check.specs.declared.statuses.CheckStatus.TheVariants as status
use Rattle.sut_check.specs.declared.faults.CheckFault.{CheckFault}
use Rattle.sut_check.specs.CheckWords.{checked_names, checked_source}
use Rattle.sut_check.specs.Statuses.{status_for}
use Rattle.sut_check.specs.Claims.{claim_in}
use Rattle.sut_check.specs.Findings.{FindsLeast, FindsNoTable, verdict_of}
use Rattle.sut_check.specs.CheckEnds.{AnswersCheck, IfReadFault}

-- ---- words

-- a list of one
pub one_item : {X : Type 0} (xs : List X) (x : X) → 1 ≤ length xs → length xs < 2 → x ≡ get_or xs 0 x → xs ≡ x ∷ []
one_item [] x some few is = absurd (omega arith)
one_item (y ∷ []) x some few is = ap (λ z. z ∷ []) (sym is)
one_item (y ∷ z ∷ zs) x some few is = absurd (omega arith)

-- several words name no source
pub no-source : (words : List (List ℕ)) → 2 ≤ length words → checked_source words ≡ None
no-source [] h = absurd (omega arith)
no-source (w ∷ []) h = absurd (omega arith)
no-source (w ∷ v ∷ rest) h = refl

-- ---- the source that they name

pub for-source : (o : Option FileName) (source : FileName) → Some source ≡ o → (P : FileName → Type 0) → P source → IfSome o P
for-source o source e P h = subst (λ x. IfSome x P) e h

pub for-none : (o : Option FileName) → None ≡ o → (P : FileName → Type 0) → IfSome o P
for-none o e P = subst (λ x. IfSome x P) e tt

pub is-there : (o : Option FileName) (source : FileName) → Some source ≡ o → o ≡ None → ⊥
is-there None source e n = cc
is-there (Some other) source e n = cc

pub read-as : (s : CheckStatus) (P Q : FileName → Type 0) → ((n : FileName) → P n → Q n) → IfReadFault s P → IfReadFault s Q
read-as Least P Q f h = tt
read-as NoTable P Q f h = tt
read-as (Refused r) P Q f h = tt
read-as (status.BadCertificate e) P Q f h = tt
read-as (status.BadTable e) P Q f h = tt
read-as NoMemory P Q f h = tt
read-as Usage P Q f h = tt
read-as (BadSettings e) P Q f h = tt
read-as (BadClasses e) P Q f h = tt
read-as (BadSource e) P Q f h = tt
read-as (ReadFault n) P Q f h = f n h
read-as (Missing n) P Q f h = tt
read-as SinkFault P Q f h = tt
read-as (TooLong n) P Q f h = tt

pub same-told : (held : Option Files) → Told held held SameFiles
same-told None = tt
same-told (Some files) = λ name. refl

-- ---- completeness follows from what each answer says

decided : (r : Result (ProblemFacts × Answer) CheckFault) (s : CheckStatus) (P : ProblemFacts × Answer → Type 0) → ((claim : ProblemFacts × Answer) → P claim → s ≡ status_for (verdict_of claim.0 claim.1)) → IsOkAnd r P
    → IfOk r (λ claim. (s ≡ NoMemory) ⊎ (s ≡ status_for (verdict_of claim.0 claim.1)))
decided (Ok claim) s P f h = inr (f claim h)
decided (Err e) s P f h = absurd h

not-given : (r : Result (ProblemFacts × Answer) CheckFault) (e : CheckFault) (P : ProblemFacts × Answer → Type 0) → r ≡ Err e → IfOk r P
not-given r e P q = subst (λ x. IfOk x P) (sym q) tt

ran-out : (r : Result (ProblemFacts × Answer) CheckFault) → IfOk r (λ claim. (NoMemory ≡ NoMemory) ⊎ (NoMemory ≡ status_for (verdict_of claim.0 claim.1)))
ran-out (Ok claim) = inl refl
ran-out (Err e) = tt

complete-from : (source : FileName) (files : Files) (s : CheckStatus) (R K : Type 0) → AnswersCheck source files s → IfReadFault s (λ n. R) → (s ≡ SinkFault → K) → ¬ R → ¬ K
    → IfOk (claim_in source None files) (λ claim. (s ≡ NoMemory) ⊎ (s ≡ status_for (verdict_of claim.0 claim.1)))
complete-from source files NoMemory R K says read sink no_r no_k = ran-out (claim_in source None files)
complete-from source files Least R K says read sink no_r no_k = decided (claim_in source None files) Least (λ claim. FindsLeast claim.0 claim.1) (λ claim found. sym (ap status_for found.accepted)) says
complete-from source files NoTable R K says read sink no_r no_k = decided (claim_in source None files) NoTable (λ claim. FindsNoTable claim.0 claim.1) (λ claim found. sym (ap status_for found.accepted)) says
complete-from source files (Refused r) R K says read sink no_r no_k = decided (claim_in source None files) (Refused r) (λ claim. verdict_of claim.0 claim.1 ≡ verdict.Refused r) (λ claim first. sym (ap status_for first)) says
complete-from source files SinkFault R K says read sink no_r no_k = absurd (no_k (sink refl))
complete-from source files (ReadFault n) R K says read sink no_r no_k = absurd (no_r read)
complete-from source files Usage R K says read sink no_r no_k = absurd says
complete-from source files (status.BadCertificate e) R K says read sink no_r no_k = not-given _ _ _ says
complete-from source files (status.BadTable e) R K says read sink no_r no_k = not-given _ _ _ says
complete-from source files (BadSettings e) R K says read sink no_r no_k = not-given _ _ _ says
complete-from source files (BadClasses e) R K says read sink no_r no_k = not-given _ _ _ says
complete-from source files (BadSource e) R K says read sink no_r no_k = not-given _ _ _ says
complete-from source files (Missing n) R K says read sink no_r no_k = not-given _ _ _ says
complete-from source files (TooLong n) R K says read sink no_r no_k = not-given _ _ _ says

pub complete-told : (source : FileName) (held : Option Files) (s : CheckStatus) (before now : ℕ) (last : Option FileName) (K : Type 0) → IfSome held (λ files. AnswersCheck source files s)
    → IfReadFault s (λ failed. Rose before now × (last ≡ Some failed) × Contains (checked_names source) failed) → (s ≡ SinkFault → K)
    → IfSome held (λ files. ¬ Rose before now → ¬ K → IfOk (claim_in source None files) (λ claim. (s ≡ NoMemory) ⊎ (s ≡ status_for (verdict_of claim.0 claim.1))))
complete-told source None s before now last K says read sink = tt
complete-told source (Some files) s before now last K says read sink =
    λ no_r no_k. complete-from source files s (Rose before now) K says (read-as s (λ failed. Rose before now × (last ≡ Some failed) × Contains (checked_names source) failed) (λ n. Rose before now) (λ n q. q.0) read) sink no_r no_k
