-- The lists that the fields of `Classes` stand for.
use Rattle.sut_classes.specs.ClassLists.{ClassLists}
use Rattle.sut_classes.specs.Kept.{IsClasses}
use Rattle.sut_classes.specs.declared.classes.Classes.TheInside.{Inside}

abbrev pub lists_of : Inside → ClassLists
lists_of c = record {
  format = c.file_format;
  products = c.all_products;
  industries = c.all_industries;
  finals = c.others.finals;
  items = c.others.items;
  margins = c.others.margins;
  taxes = c.others.taxes;
  product_groups = c.others.product_groups;
  industry_groups = c.others.industry_groups;
}

-- the lists keep what all classes keep
abbrev pub AreKept : Inside → Type 0
AreKept c = IsClasses (lists_of c)
