-- What the verifier says of a claim.
use Rattle.std.proofs.Common.{◌≡◌, ◌∙◌, ℕ, ℤ, List, Option, Some, None, refl, sym}
use Rattle.std.specs.Prelude.{◌↔◌}
use Rattle.sut_text.specs.Text.{printed_text}
use Rattle.sut_measures.specs.declared.accounts.Account.{Account}
use Rattle.sut_tables.specs.ProblemFacts.{ProblemFacts}
use Rattle.sut_tables.specs.TableFacts.{TableFacts}
use Rattle.sut_tables.specs.Breaks.{first_of}
use Rattle.sut_tables.specs.Costs.{IsImpossible, IsLeast}
use Rattle.sut_cert.specs.Certificates.{Contradicts, ShowsLeast, entering, leaving}
use Rattle.sut_cert.specs.declared.answers.Answer.TheVariants as answer
use Rattle.sut_verify.specs.Verdicts.{cut_reasons, reasons, refused_or, verdict_on, verdict_on_cut}
use Rattle.sut_verify.specs.declared.verdicts.Reason.{Reason}
use Rattle.sut_verify.specs.declared.verdicts.Verdict.{Verdict}
use Rattle.sut_verify.specs.declared.verdicts.Verdict.TheVariants as verdict
use Rattle.sut_check.specs.Findings.{FindsLeast, FindsNoTable, check_text, least_words, no_table_words, verdict_of}

-- potentials are answered `Least` or a reason, and sets `NoTable` or a reason
least-or : (o : Option Reason) (enter leave : ℤ) → verdict.NoTable enter leave ≡ refused_or verdict.Least o → ⊥
least-or None enter leave e = cc
least-or (Some r) enter leave e = cc

no-table-or : (o : Option Reason) (enter leave : ℤ) → verdict.Least ≡ refused_or (verdict.NoTable enter leave) o → ⊥
no-table-or None enter leave e = cc
no-table-or (Some r) enter leave e = cc

same-sums : (o : Option Reason) (enter leave a b : ℤ) → verdict.NoTable a b ≡ refused_or (verdict.NoTable enter leave) o → verdict.NoTable a b ≡ verdict.NoTable enter leave
same-sums None enter leave a b e = e
same-sums (Some r) enter leave a b e = absurd cc

pub no-cut-verdict : (p : ProblemFacts) (t : TableFacts) (ps : List (Account × ℤ)) (enter leave : ℤ) → verdict.NoTable enter leave ≡ verdict_on p t ps → ⊥
no-cut-verdict p t ps enter leave e = least-or (first_of (reasons p t ps)) enter leave e

pub no-table-verdict : (p : ProblemFacts) (set : List Account) → verdict.Least ≡ verdict_on_cut p set → ⊥
no-table-verdict p set e = no-table-or (first_of (cut_reasons p set)) (entering p set) (leaving p set) e

pub sums-are : (p : ProblemFacts) (set : List Account) (a b : ℤ) → verdict.NoTable a b ≡ verdict_on_cut p set → verdict.NoTable a b ≡ verdict.NoTable (entering p set) (leaving p set)
sums-are p set a b e = same-sums (first_of (cut_reasons p set)) (entering p set) (leaving p set) a b e

-- what was found

on-table : (p : ProblemFacts) (t : TableFacts) (ps : List (Account × ℤ)) (v : Verdict) → v ≡ verdict_on p t ps → verdict_of p (answer.Balanced t ps) ≡ v
unfolding verdict_of
on-table p t ps v e = sym e

on-cut : (p : ProblemFacts) (set : List Account) (v : Verdict) → v ≡ verdict_on_cut p set → verdict_of p (answer.Infeasible set) ≡ v
unfolding verdict_of
on-cut p set v e = sym e

least-lines : (p : ProblemFacts) (t : TableFacts) (ps : List (Account × ℤ)) → check_text p (answer.Balanced t ps) ≡ printed_text (least_words p t)
unfolding check_text
least-lines p t ps = refl

no-table-lines : (p : ProblemFacts) (set : List Account) → check_text p (answer.Infeasible set) ≡ printed_text (no_table_words (entering p set) (leaving p set))
unfolding check_text
no-table-lines p set = refl

pub found-least : (p : ProblemFacts) (t : TableFacts) (ps : List (Account × ℤ)) → verdict.Least ≡ verdict_on p t ps → (verdict.Least ≡ verdict.Least) ↔ ShowsLeast p t ps → (verdict.Least ≡ verdict.Least → IsLeast p t)
    → (lines : List ℕ) → lines ≡ printed_text (least_words p t) → FindsLeast p (answer.Balanced t ps) × (lines ≡ check_text p (answer.Balanced t ps))
found-least p t ps first shown least lines is =
    (record { table = t; shown_by = ps; claimed = refl; shown = shown.0 refl; least = least refl; accepted = on-table p t ps verdict.Least first }, is ∙ sym (least-lines p t ps))

pub refused-table : (p : ProblemFacts) (t : TableFacts) (ps : List (Account × ℤ)) (r : Reason) → verdict.Refused r ≡ verdict_on p t ps → verdict_of p (answer.Balanced t ps) ≡ verdict.Refused r
refused-table p t ps r first = on-table p t ps (verdict.Refused r) first

pub found-no-table : (p : ProblemFacts) (set : List Account) (a b : ℤ) → verdict.NoTable a b ≡ verdict_on_cut p set → (verdict.NoTable a b ≡ verdict.NoTable (entering p set) (leaving p set)) ↔ Contradicts p set
    → (verdict.NoTable a b ≡ verdict.NoTable (entering p set) (leaving p set) → IsImpossible p)
    → (lines : List ℕ) → lines ≡ printed_text (no_table_words (entering p set) (leaving p set)) → FindsNoTable p (answer.Infeasible set) × (lines ≡ check_text p (answer.Infeasible set))
found-no-table p set a b first shown impossible lines is =
    let same : verdict.NoTable a b ≡ verdict.NoTable (entering p set) (leaving p set) = sums-are p set a b first in (
      record { set = set; claimed = refl; contradicts = shown.0 same; impossible = impossible same; accepted = on-cut p set (verdict.NoTable a b) first ∙ same },
      is ∙ sym (no-table-lines p set),
    )

pub refused-cut : (p : ProblemFacts) (set : List Account) (r : Reason) → verdict.Refused r ≡ verdict_on_cut p set → verdict_of p (answer.Infeasible set) ≡ verdict.Refused r
refused-cut p set r first = on-cut p set (verdict.Refused r) first
