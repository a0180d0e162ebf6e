use Rattle.std.proofs.Common.{◌≡◌, ◌∙◌, ◌++◌, ◌∷◌, [], ℕ, List, Result, Ok, Err, OnOk, ap, sym, subst, append_assoc}
use Rattle.std.specs.Prelude.{codes}
use Rattle.sut_text.specs.Text.{spaced}
use Rattle.sut_measures.specs.Words.{account_words}
use Rattle.sut_verify.specs.declared.verdicts.Reason.{Reason}
use Rattle.sut_check.specs.ReasonTexts.{reason_text}
use Rattle.sut_check.proofs.reasons.put_reason.Goals as goal

-- words, and then others
then-words : {T E : Type 0} (r : Result T E) (old mid new a b : List ℕ) → mid ≡ old ++ a → OnOk r (new ≡ mid ++ b) → OnOk r (new ≡ old ++ (a ++ b))
then-words (Ok x) old mid new a b e h = h ∙ ap (λ t. t ++ b) e ∙ append_assoc old a b
then-words (Err x) old mid new a b e h = tt

pub returns-in_ok-put_words-in-NoPotential-clause-done :
    goal.returns-in_ok-put_words-in-NoPotential-clause-done
returns-in_ok-put_words-in-NoPotential-clause-done c =
    let P : Reason → Type 0 = λ r. OnOk c.put_account_words.result (c.put_account_words.new.out.items ≡ c.args.out.now.items ++ reason_text r) in
    subst P (sym c.in-NoPotential.is)
    (then-words c.put_account_words.result c.args.out.now.items c.put_words-in-NoPotential.new.out.items c.put_account_words.new.out.items
    (spaced (codes "no-potential" ∷ [])) (spaced (account_words c.in-NoPotential.account)) c.in_ok-put_words-in-NoPotential.ensures.done c.put_account_words.ensures.done)
