-- How many codes each axis may have, and what numbers of fitting codes weigh.
use Rattle.std.proofs.Common.{◌≡◌, ℕ, ◌+◌, ◌*◌, ◌<◌, ◌≤◌, [], ◌∷◌, length, arith, true}
use Rattle.std.proofs.Math.Nat.{mul-le-mul, le_refl}
use Rattle.std.proofs.lemmas.Bool.{ltb-true}
use Rattle.std.proofs.lemmas.List.{length-map}
use Rattle.std.specs.Prelude.{nat_lt}
use Rattle.sut_classes.specs.ClassLists.{ClassLists, ProductClass, IndustryClass}
use Rattle.sut_classes.specs.Kept.{IsClasses}
use Rattle.sut_classes.specs.declared.ids.Axis.TheVariants as axis
use Rattle.sut_classes.specs.declared.ids.Column.{Column}
use Rattle.sut_classes.specs.declared.ids.Column.TheVariants as column
use Rattle.sut_measures.specs.Fits.{has_column}
use Rattle.sut_classes.specs.Columns.{column_key}
use Rattle.sut_circuit.proofs.Ranks.{IsWeighed, weigh}

pub record AreFew (cs : ClassLists) : Type 0 where
  pub products : length cs.products ≤ 512
  pub industries : length cs.industries ≤ 256
  pub finals : length cs.finals ≤ 32
  pub items : length cs.items ≤ 16
  pub margins : length cs.margins ≤ 4
  pub taxes : length cs.taxes ≤ 8
  pub product_groups : length cs.product_groups ≤ 64
  pub industry_groups : length cs.industry_groups ≤ 32

pub classes-few : (cs : ClassLists) → IsClasses cs → AreFew cs
classes-few cs k = record {
  products = omega (arith, length-map cs.products (λ (i : ProductClass). i.code), k.few axis.Product);
  industries = omega (arith, length-map cs.industries (λ (j : IndustryClass). j.code), k.few axis.Industry);
  finals = k.few axis.Final;
  items = k.few axis.Item;
  margins = k.few axis.Margin;
  taxes = k.few axis.Tax;
  product_groups = k.few axis.ProductGroup;
  industry_groups = k.few axis.IndustryGroup;
}

pub below : (n count top : ℕ) → nat_lt n count ≡ true → count ≤ top → n < top
below n count top h l = let m : n < count = ltb-true n count h in omega (arith, m)

-- one number
pub one : (n top : ℕ) → n < top → IsWeighed (1 ∷ []) (n ∷ []) × (weigh (1 ∷ []) (n ∷ []) < top)
one n top h = ((omega arith, tt), omega arith)

-- two numbers
pub two : (w top n m : ℕ) → n < top → m < w → IsWeighed (w ∷ 1 ∷ []) (n ∷ m ∷ []) × (weigh (w ∷ 1 ∷ []) (n ∷ m ∷ []) < top * w)
two w top n m h l =
    let k : (n + 1) * w ≤ top * w = mul-le-mul (omega arith) (le_refl w) in
    ((omega arith, (omega arith, tt)), omega (arith, k))

-- a number, and the numbers of a column
pub beside_column : (cs : ClassLists) → AreFew cs → (top n : ℕ) (q : Column) → n < top → has_column cs q ≡ true
    → IsWeighed (288 ∷ 256 ∷ 1 ∷ []) (n ∷ column_key q) × (weigh (288 ∷ 256 ∷ 1 ∷ []) (n ∷ column_key q) < top * 288)
beside_column cs few top n (column.Industry j) h e =
    let l : j.0 < 256 = below j.0 (length cs.industries) 256 e few.industries in
    ((omega arith, (omega arith, (omega arith, tt))), omega arith)
beside_column cs few top n (column.Final f) h e =
    let l : f.0 < 32 = below f.0 (length cs.finals) 32 e few.finals in
    ((omega arith, (omega arith, (omega arith, tt))), omega arith)
