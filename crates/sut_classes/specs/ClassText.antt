-- The text of classes in format 2: each axis in its order, and each kind and group on a line before the lines that name it.
use Rattle.std.specs.Prelude.{ℕ, Option, Some, None, List, [], ◌∷◌, ◌++◌, map, codes, unwrap_or}
use Rattle.sut_text.specs.Text.{file_text}
use Rattle.sut_records.specs.RecordList.{Fields}
use Rattle.sut_classes.specs.ClassLists.{ClassLists, Code, ProductClass, IndustryClass}
use Rattle.sut_classes.specs.Places.{code_at}
use Rattle.sut_classes.specs.declared.ids.MarginId.{MarginId}
use Rattle.sut_classes.specs.declared.ids.ProductGroupId.{ProductGroupId}
use Rattle.sut_classes.specs.declared.ids.IndustryGroupId.{IndustryGroupId}
use Rattle.sut_classes.specs.declared.ids.Axis.{Axis}
use Rattle.sut_classes.specs.declared.ids.Axis.TheVariants as axis

-- the word of an axis
abbrev pub axis_word : Axis → List ℕ
axis_word axis.Product = codes "product"
axis_word axis.Industry = codes "industry"
axis_word axis.Final = codes "final"
axis_word axis.Item = codes "item"
axis_word axis.Margin = codes "margin"
axis_word axis.Tax = codes "tax"
axis_word axis.ProductGroup = codes "product_group"
axis_word axis.IndustryGroup = codes "industry_group"

-- the code at a place; empty where the place isn't there
abbrev pub code_text : ClassLists → Axis → ℕ → List ℕ
code_text cs a n = unwrap_or (code_at cs a n) []

abbrev pub kind_text : ClassLists → Option MarginId → List ℕ
kind_text cs None = codes "plain"
kind_text cs (Some k) = code_text cs axis.Margin k.0

abbrev pub group_text : ClassLists → Option ProductGroupId → List ℕ
group_text cs None = []
group_text cs (Some g) = code_text cs axis.ProductGroup g.0

abbrev pub industry_group_text : ClassLists → Option IndustryGroupId → List ℕ
industry_group_text cs None = []
industry_group_text cs (Some h) = code_text cs axis.IndustryGroup h.0

-- the line of a code with nothing beside it
abbrev pub plain_line : Axis → Code → Fields
plain_line a code = axis_word a ∷ code ∷ [] ∷ [] ∷ []

abbrev pub product_line : ClassLists → ProductClass → Fields
product_line cs i = axis_word axis.Product ∷ i.code ∷ kind_text cs i.kind ∷ group_text cs i.group ∷ []

abbrev pub industry_line : ClassLists → IndustryClass → Fields
industry_line cs j = axis_word axis.Industry ∷ j.code ∷ [] ∷ industry_group_text cs j.group ∷ []

abbrev pub class_header : Fields
class_header = codes "axis" ∷ codes "code" ∷ codes "kind" ∷ codes "group" ∷ []

abbrev pub class_lines : ClassLists → List Fields
class_lines cs =
    map (plain_line axis.Margin) cs.margins
    ++ map (plain_line axis.ProductGroup) cs.product_groups
    ++ map (product_line cs) cs.products
    ++ map (plain_line axis.IndustryGroup) cs.industry_groups
    ++ map (industry_line cs) cs.industries
    ++ map (plain_line axis.Final) cs.finals
    ++ map (plain_line axis.Item) cs.items
    ++ map (plain_line axis.Tax) cs.taxes

unfoldable pub classes_text : ClassLists → List ℕ
classes_text cs = file_text class_header (class_lines cs)
