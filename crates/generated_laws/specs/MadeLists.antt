-- The settings and the classes that the files of a made year spell.
use Rattle.std.specs.Prelude.{◌==◌, ℕ, false, [], ◌∷◌, map, codes, if◌then◌else◌, None, Some}
use Rattle.sut_settings.specs.SettingsFacts.{SettingsFacts}
use Rattle.sut_classes.specs.ClassLists.{ClassLists, IndustryClass, ProductClass}
use Rattle.sut_generate.specs.Generator.{final_code, industry_code, one_to, product_code}

-- flat, without grades
abbrev pub made_facts : SettingsFacts
made_facts = record { relative = false; grades = [] }

-- the first product is of the one margin kind, and the others are plain
abbrev pub product_class : ℕ → ProductClass
product_class i = record { code = product_code i; kind = if i == 1 then Some (record { 0 = 0 }) else None; group = None }

abbrev pub industry_class : ℕ → IndustryClass
industry_class j = record { code = industry_code j; group = None }

-- p products and n industries, three final uses, and one item, margin kind and tax
abbrev pub made_lists : ℕ → ℕ → ClassLists
made_lists p n = record {
  format = 1;
  products = map product_class (one_to p);
  industries = map industry_class (one_to n);
  finals = map final_code (one_to 3);
  items = codes "V1" ∷ [];
  margins = codes "T" ∷ [];
  taxes = codes "X" ∷ [];
  product_groups = [];
  industry_groups = [];
}
