-- What the lists of classes keep, so that a code tells its place: no code stands twice on an axis, no final use's code
-- is an industry's, since both name columns, and only format 2 has groups.
use Rattle.std.specs.Prelude.{◌≡◌, ◌≢◌, [], None}
use Rattle.std.specs.List.{All, IsDistinct}
use Rattle.std.specs.Str.{bytes_eq}
use Rattle.sut_classes.specs.ClassLists.{ClassLists}
use Rattle.sut_classes.specs.Places.{codes_of, place_of}
use Rattle.sut_classes.specs.declared.ids.Axis.{Axis}
use Rattle.sut_classes.specs.declared.ids.Axis.TheVariants as axis

pub record HasDistinctCodes (cs : ClassLists) : Type 0 where
  pub distinct : (a : Axis) → IsDistinct bytes_eq (codes_of cs a)
  pub apart : All (λ code. place_of cs axis.Industry code ≡ None) cs.finals
  pub groups : cs.format ≢ 2 → (cs.product_groups ≡ []) × (cs.industry_groups ≡ [])
