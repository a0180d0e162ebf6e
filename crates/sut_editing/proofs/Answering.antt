-- Facts on what a call answers, and counts of rebalances.
use Rattle.std.proofs.Common.{◌≡◌, ◌≤◌, ◌<◌, ◌∙◌, ℕ, ◌+◌, List, [], ◌∷◌, Bool, true, false, Option, Some, None, Result, Ok, Err, get_or, length, take, refl, sym, ap, subst, arith}
use Rattle.std.specs.Prelude.{IfErr, IsSome, IsSomeAnd, OnOk, count_by, if◌then◌else◌}
use Rattle.std.proofs.lemmas.List.Sums.{count_by_more_no, count_by_more_yes}
use Rattle.sut_edits.specs.EditsFile.{is_balance}
use Rattle.sut_edits.specs.declared.edits.EditLine.{EditLine}
use Rattle.sut_edits.specs.declared.faults.EditsFault.{EditsFault}
use Rattle.sut_editing.specs.Moments.{IfRefused}
use Rattle.sut_editing.specs.declared.faults.EditingFault.{EditingFault}
use Rattle.sut_editing.specs.declared.faults.EditingFault.TheVariants.{Refused, NoMemory}

pub on-ok : {T E : Type 0} (r : Result T E) {P Q : Type 0} → (P → Q) → OnOk r P → OnOk r Q
on-ok (Ok x) f h = f h
on-ok (Err e) f h = tt

pub on-both : {T E : Type 0} (r : Result T E) {P Q R : Type 0} → (P → Q → R) → OnOk r P → OnOk r Q → OnOk r R
on-both (Ok x) f h k = f h k
on-both (Err e) f h k = tt

pub if-err : {T E : Type 0} (r : Result T E) {P Q : E → Type 0} → ((e : E) → P e → Q e) → IfErr r P → IfErr r Q
if-err (Ok x) f h = tt
if-err (Err e) f h = f e h

-- the value of an option that is there
pub some-there : {A : Type 0} (P : A → Type 0) (o : Option A) (a : A) → Some a ≡ o → IsSomeAnd o P → P a
some-there P o a e h = subst (λ x. IsSomeAnd x P) (sym e) h

pub is-there : {A : Type 0} (P : A → Type 0) (o : Option A) → IsSomeAnd o P → IsSome o
is-there P (Some a) h = refl
is-there P None h = absurd h

no-more : (m n : ℕ) → m ≡ n → m ≡ n + 0
no-more m n e = omega (arith, e)

-- one line more
pub counted-next : (lines : List EditLine) (i : ℕ) (l : EditLine) → i < length lines → l ≡ get_or lines i l
    → count_by (λ (x : EditLine). is_balance x.edit) (take (i + 1) lines) ≡ count_by (λ (x : EditLine). is_balance x.edit) (take i lines) + (if is_balance l.edit then 1 else 0)
counted-next lines i l below is = by (is_balance l.edit) refl
  where
    by : (b : Bool) → is_balance l.edit ≡ b → count_by (λ (x : EditLine). is_balance x.edit) (take (i + 1) lines) ≡ count_by (λ (x : EditLine). is_balance x.edit) (take i lines) + (if b then 1 else 0)
    by true e = count_by_more_yes (λ (x : EditLine). is_balance x.edit) lines i l below (ap (λ (x : EditLine). is_balance x.edit) (sym is) ∙ e)
    by false e = no-more _ _ (count_by_more_no (λ (x : EditLine). is_balance x.edit) lines i l below (ap (λ (x : EditLine). is_balance x.edit) (sym is) ∙ e))

pub added-up : (new old f n m b : ℕ) → new ≡ old + b → old ≡ f + n → m ≡ n + b → new ≡ f + m
added-up new old f n m b e h k = omega (arith, e, h, k)

pub few-so-far : (r f n m : ℕ) → r ≡ f + n → n ≤ m → f + m ≤ 15 → r ≤ 15
few-so-far r f n m e h k = omega (arith, e, h, k)

pub if-refused : (fault : EditingFault) {P Q : EditsFault → Type 0} → ((f : EditsFault) → P f → Q f) → IfRefused fault P → IfRefused fault Q
if-refused (Refused f) h x = h f x
if-refused NoMemory h x = tt
