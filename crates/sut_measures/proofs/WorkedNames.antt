-- Names read, computed.
use Rattle.std.proofs.Common.{◌≡◌, [], ◌∷◌, None, refl}
use Rattle.std.specs.List.{IsDistinct}
use Rattle.std.specs.Str.{bytes_eq}
use Rattle.std.proofs.lemmas.List.Elements.{All-cons, All-nil}
use Rattle.std.specs.Prelude.{codes, Ok, Err}
use Rattle.sut_classes.specs.ClassLists.{ClassLists}
use Rattle.sut_classes.specs.declared.ids.Column.TheVariants as column
use Rattle.sut_classes.specs.Places.{codes_of, place_of}
use Rattle.sut_classes.specs.declared.ids.Axis.{Axis}
use Rattle.sut_classes.specs.declared.ids.Axis.TheVariants as axis
use Rattle.sut_measures.specs.DistinctCodes.{HasDistinctCodes}
use Rattle.sut_measures.specs.Names.{measure_name}
use Rattle.sut_measures.specs.ReadNames.{account_of, measure_of}
use Rattle.sut_measures.specs.declared.accounts.Account.TheVariants as account
use Rattle.sut_measures.specs.declared.faults.Field.TheVariants as field
use Rattle.sut_measures.specs.declared.faults.NameFault.TheVariants as fault
use Rattle.sut_measures.specs.declared.measures.Cell.TheVariants as cell
use Rattle.sut_measures.specs.declared.measures.Measure.{Measure}
use Rattle.sut_measures.specs.declared.measures.Measure.TheVariants as measure
use Rattle.sut_measures.proofs.RoundTrip.{measure_of-name}

-- product X, industry A, final use F, item V
abbrev small : ClassLists
small = record {
  format = 1;
  products = record { code = codes "X"; kind = None; group = None } ∷ [];
  industries = record { code = codes "A"; group = None } ∷ [];
  finals = codes "F" ∷ [];
  items = codes "V" ∷ [];
  margins = [];
  taxes = [];
  product_groups = [];
  industry_groups = [];
}

abbrev basic : Measure
basic = measure.Cell (cell.Basic (record { 0 = 0 }) (column.Final (record { 0 = 0 })))

final-column : measure_of small (codes "basic") (codes "X") (codes "F") [] ≡ Ok basic
unfolding measure_of
final-column = refl

no-such-kind : measure_of small (codes "make_group") (codes "X") (codes "A") [] ≡ Err fault.UnknownKind
unfolding measure_of
no-such-kind = refl

no-such-code : measure_of small (codes "make") (codes "Z") (codes "A") [] ≡ Err (fault.UnknownCode field.A)
unfolding measure_of
no-such-code = refl

not-used : measure_of small (codes "supply") (codes "X") (codes "A") [] ≡ Err (fault.NotEmpty field.B)
unfolding measure_of
not-used = refl

name-of-basic : measure_name small basic ≡ record { kind = codes "basic"; a = codes "X"; b = codes "F"; c = [] }
name-of-basic = refl

bought : account_of small (codes "bought") (codes "X") (codes "F") ≡ Ok (account.Bought (record { 0 = 0 }) (column.Final (record { 0 = 0 })))
unfolding account_of
bought = refl

no-group-word : account_of small (codes "importing") (codes "X") [] ≡ Err fault.UnknownKind
unfolding account_of
no-group-word = refl

-- these lists tell a code's place
small-distinct : (a : Axis) → IsDistinct bytes_eq (codes_of small a)
unfolding IsDistinct
small-distinct axis.Product = (tt, tt)
small-distinct axis.Industry = (tt, tt)
small-distinct axis.Final = (tt, tt)
small-distinct axis.Item = (tt, tt)
small-distinct axis.Margin = tt
small-distinct axis.Tax = tt
small-distinct axis.ProductGroup = tt
small-distinct axis.IndustryGroup = tt

small-has-distinct : HasDistinctCodes small
small-has-distinct = record {
  distinct = small-distinct;
  apart = All-cons (λ code. place_of small axis.Industry code ≡ None) (codes "F") [] refl (All-nil (λ code. place_of small axis.Industry code ≡ None));
  groups = λ h. (refl, refl);
}

basic-back : measure_of small (codes "basic") (codes "X") (codes "F") [] ≡ Ok basic
basic-back = measure_of-name small small-has-distinct basic refl
