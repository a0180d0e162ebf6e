-- Worked files of certificates, computed from their bytes.
use Rattle.std.proofs.Common.{◌≡◌, ◌∷◌, ◌++◌, [], List, ℕ, pos, Ok, Err, Some, None, refl}
use Rattle.std.specs.Prelude.{codes}
use Rattle.csv.proofs.OnLiterals.{csv_on_literals}
use Rattle.sut_records.specs.FirstFault.{read_lines}
use Rattle.sut_measures.specs.ReadNames.{account_of}
use Rattle.sut_classes.specs.declared.ids.Column.TheVariants as column
use Rattle.sut_measures.specs.declared.accounts.Account.TheVariants as account
use Rattle.sut_measures.specs.declared.measures.Cell.TheVariants as cell
use Rattle.sut_measures.specs.declared.measures.Measure.{Measure}
use Rattle.sut_measures.specs.declared.measures.Measure.TheVariants as measure
use Rattle.sut_tables.specs.RowFacts.{RowFacts}
use Rattle.sut_tables.specs.ProblemFacts.{ProblemFacts}
use Rattle.sut_tables.specs.declared.rows.Penalty.TheVariants.{Square}
use Rattle.sut_cert.specs.CertificateFile.{certificate_in, certificate_of, cut_in, cut_line, cut_read, potential_line, potential_read, potentials_in}
use Rattle.sut_cert.specs.declared.certificates.Certificate.TheVariants as certificate
use Rattle.sut_cert.specs.declared.faults.CertCause.TheVariants as fault

abbrev row : Measure → RowFacts
row m = record { measure = m; target = Some (pos 100); penalty = Square; grade = 0; weight = 1; lower = pos 0; upper = pos 1000000000000 }

-- product X, industry A, final use F, item V
abbrev small : ProblemFacts
small = record {
  classes = record {
    format = 1;
    products = record { code = codes "X"; kind = None; group = None } ∷ [];
    industries = record { code = codes "A"; group = None } ∷ [];
    finals = codes "F" ∷ [];
    items = codes "V" ∷ [];
    margins = [];
    taxes = [];
    product_groups = [];
    industry_groups = [];
  };
  rows = row (measure.Cell (cell.Make (record { 0 = 0 }) (record { 0 = 0 })))
      ∷ row (measure.Cell (cell.Basic (record { 0 = 0 }) (column.Final (record { 0 = 0 }))))
      ∷ row (measure.Cell (cell.Added (record { 0 = 0 }) (record { 0 = 0 }))) ∷ [];
}

abbrev front : List ℕ
front = codes "account,a,b,potential\nsupplied,X,,4\nused,X,,4\nbought,X,F,0\nadding,A,,0\nindustry,A,,0\nmaking,A,,0\nfinal,F,,0\nitem,V,,0\n"

shown : certificate_of small (front ++ codes "spending,,,0\nincome,,,0\n") ≡ Ok (certificate.Potentials (
    (account.Supplied (record { 0 = 0 }), pos 4) ∷ (account.Used (record { 0 = 0 }), pos 4)
    ∷ (account.Bought (record { 0 = 0 }) (column.Final (record { 0 = 0 })), pos 0)
    ∷ (account.Adding (record { 0 = 0 }), pos 0) ∷ (account.Industry (record { 0 = 0 }), pos 0)
    ∷ (account.Making (record { 0 = 0 }), pos 0) ∷ (account.Final (record { 0 = 0 }), pos 0)
    ∷ (account.Item (record { 0 = 0 }), pos 0) ∷ (account.Spending, pos 0) ∷ (account.Income, pos 0) ∷ []))
unfolding csv_on_literals read_lines certificate_in potentials_in potential_line potential_read account_of
shown = refl

account-left-out : certificate_of small (front ++ codes "income,,,0\n") ≡ Err (record { line = 10; cause = fault.WrongAccount })
unfolding csv_on_literals read_lines certificate_in potentials_in potential_line potential_read account_of
account-left-out = refl

last-line-left-out : certificate_of small (front ++ codes "spending,,,0\n") ≡ Err (record { line = 11; cause = fault.Short })
unfolding csv_on_literals read_lines certificate_in potentials_in potential_line potential_read account_of
last-line-left-out = refl

leading-zero : certificate_of small (codes "account,a,b,potential\nsupplied,X,,04\n") ≡ Err (record { line = 2; cause = fault.NotNumber })
unfolding csv_on_literals read_lines certificate_in potentials_in potential_line potential_read account_of
leading-zero = refl

too-large : certificate_of small (codes "account,a,b,potential\nsupplied,X,,1000000000000000000000001\n") ≡ Err (record { line = 2; cause = fault.OutOfRange })
unfolding csv_on_literals read_lines certificate_in potentials_in potential_line potential_read account_of
too-large = refl

cut : certificate_of small (codes "account,a,b\nbought,X,F\nincome,,\n") ≡ Ok (certificate.Cut (account.Bought (record { 0 = 0 }) (column.Final (record { 0 = 0 })) ∷ account.Income ∷ []))
unfolding csv_on_literals read_lines certificate_in cut_in cut_line cut_read account_of
cut = refl

out-of-order : certificate_of small (codes "account,a,b\nincome,,\nbought,X,F\n") ≡ Err (record { line = 3; cause = fault.WrongAccount })
unfolding csv_on_literals read_lines certificate_in cut_in cut_line cut_read account_of
out-of-order = refl

no-header : certificate_of small [] ≡ Err (record { line = 1; cause = fault.Header })
unfolding csv_on_literals read_lines certificate_in
no-header = refl
