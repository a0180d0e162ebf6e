-- What all classes keep.
use Rattle.std.specs.Prelude.{◌≡◌, ◌<◌, ◌≤◌, ◌==◌, ◌||◌, ℕ, nat_lt, Bool, true, false, [], length, All, IfSome, IsTrue, Option, None, Some}
use Rattle.sut_classes.specs.ClassLists.{ClassLists, Code, ProductClass, IndustryClass}
use Rattle.sut_classes.specs.Places.{code_at, count_of, place_of}
use Rattle.sut_classes.specs.ClassFile.{is_code_of, is_taken, limit_of}
use Rattle.sut_classes.specs.declared.ids.Axis.{Axis}
use Rattle.sut_classes.specs.declared.ids.Axis.TheVariants as axis

-- The format is 1 or 2, and format 1 has no groups. No list is longer than its limit, each code of a list is a code of
-- its axis, and none stands twice: the place of a code is where it stands. No final use has the code of an industry.
-- Each kind and each group is there.
pub record IsClasses (cs : ClassLists) : Type 0 where
  pub format : IsTrue ((cs.format == 1) || (cs.format == 2))
  pub ungrouped : cs.format ≡ 1 → (cs.product_groups ≡ []) × (cs.industry_groups ≡ [])
  pub few : (a : Axis) → count_of cs a ≤ limit_of a
  pub lawful : (a : Axis) (n : ℕ) (code : Code) → code_at cs a n ≡ Some code → is_code_of a code ≡ true
  pub distinct : (a : Axis) (n : ℕ) (code : Code) → code_at cs a n ≡ Some code → place_of cs a code ≡ Some n
  pub apart : (n : ℕ) (code : Code) → code_at cs axis.Final n ≡ Some code → place_of cs axis.Industry code ≡ None
  pub kinds : All (λ (i : ProductClass). IfSome i.kind (λ k. IsTrue (nat_lt k.0 (length cs.margins)))) cs.products
  pub products : All (λ (i : ProductClass). IfSome i.group (λ g. IsTrue (nat_lt g.0 (length cs.product_groups)))) cs.products
  pub industries : All (λ (j : IndustryClass). IfSome j.group (λ h. IsTrue (nat_lt h.0 (length cs.industry_groups)))) cs.industries

-- how many groups a code of an axis may be in
abbrev pub group_count : ClassLists → Axis → ℕ
group_count cs axis.Product = length cs.product_groups
group_count cs axis.Industry = length cs.industry_groups
group_count cs _ = 0

-- whether the codes of an axis are groups
abbrev pub is_grouping : Axis → Bool
is_grouping axis.ProductGroup = true
is_grouping axis.IndustryGroup = true
is_grouping _ = false

-- a code that may be added, with its kind and its group
pub record MayAdd (cs : ClassLists) (a : Axis) (code : Code) (of_kind in_group : Option ℕ) : Type 0 where
  pub format : is_grouping a ≡ true → cs.format ≡ 2
  pub lawful : is_code_of a code ≡ true
  pub free : is_taken cs a code ≡ false
  pub room : count_of cs a < limit_of a
  pub kind : IfSome of_kind (λ k. k < length cs.margins)
  pub group : IfSome in_group (λ g. g < group_count cs a)
