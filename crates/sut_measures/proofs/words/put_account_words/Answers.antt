use Rattle.std.proofs.Common.{◌≡◌, ◌∙◌, ◌++◌, ℕ, List, ap, subst}
use Rattle.std.specs.Prelude.{OnOk}
use Rattle.sut_text.specs.Text.{spaced}
use Rattle.sut_measures.specs.Shapes.{shape_words}
use Rattle.sut_measures.proofs.ShapeLemmas.{account-words}
use Rattle.sut_measures.proofs.words.put_account_words.Goals as goal

pub returns-clause-done : goal.returns-clause-done
returns-clause-done c =
    let P : List (List ℕ) → Type 0 = λ words. OnOk c.put_shape.result (c.put_shape.new.out.items ≡ c.args.out.now.items ++ spaced words) in
    subst P (ap shape_words c.account_shape.ensures ∙ account-words c.args.a) c.put_shape.ensures.done

pub returns-clause-kept : goal.returns-clause-kept
returns-clause-kept c = c.put_shape.ensures.kept
