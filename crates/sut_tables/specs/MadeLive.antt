-- The measures that a row makes live, where the groups are given.
use Rattle.std.specs.Prelude.{List, [], ◌∷◌, map, Option}
use Rattle.sut_classes.specs.declared.ids.ProductGroupId.{ProductGroupId}
use Rattle.sut_classes.specs.declared.ids.IndustryGroupId.{IndustryGroupId}
use Rattle.sut_measures.specs.Sums.{totals_by}
use Rattle.sut_measures.specs.declared.measures.Measure.{Measure}
use Rattle.sut_measures.specs.declared.measures.Measure.TheVariants as measure

-- by the group of a cell's product, and by that of an added item's industry
abbrev pub made_by : Option ProductGroupId → Option IndustryGroupId → Measure → List Measure
made_by product_group industry_group (measure.Cell c) =
    measure.Cell c ∷ map measure.Total (totals_by product_group industry_group c)
made_by product_group industry_group (measure.Total t) = measure.Total t ∷ []
