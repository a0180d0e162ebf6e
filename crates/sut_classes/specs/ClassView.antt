-- The lists that the fields of products, of industries and of `Classes` stand for.
use Rattle.std.specs.Prelude.{List, [], ◌∷◌, Option}
use Rattle.sut_classes.specs.ClassLists.{Code, ProductClass, IndustryClass}
use Rattle.sut_classes.specs.declared.lists.ProductFacts.{ProductFacts}
use Rattle.sut_classes.specs.declared.ids.IndustryGroupId.{IndustryGroupId}

abbrev pub products_of : List Code → List ProductFacts → List ProductClass
products_of [] facts = []
products_of (code ∷ rest) [] = []
products_of (code ∷ rest) (fact ∷ facts) = record { code = code; kind = fact.kind; group = fact.group } ∷ products_of rest facts

abbrev pub industries_of : List Code → List (Option IndustryGroupId) → List IndustryClass
industries_of [] groups = []
industries_of (code ∷ rest) [] = []
industries_of (code ∷ rest) (group ∷ groups) = record { code = code; group = group } ∷ industries_of rest groups

-- what is kept of a product beside its code
abbrev pub facts_of : ProductClass → ProductFacts
facts_of p = record { kind = p.kind; group = p.group }
