use Rattle.std.proofs.Common.{◌≡◌, ◌++◌, ◌∷◌, [], rules}
use Rattle.std.specs.Prelude.{option_map}
use Rattle.sut_classes.specs.ClassFields.{lists_of}
use Rattle.sut_classes.specs.Kept.{IsClasses}
use Rattle.sut_classes.specs.declared.ids.Axis.TheVariants as axis
use Rattle.sut_classes.proofs.KeptLemmas.{IsClasses-added, either-kept}
use Rattle.sut_classes.proofs.classes.Classes.add.Goals as goal

pub invariant_of-self : goal.invariant_of-self
invariant_of-self c =
    let may = rw (← c.self.view_is, c.in-Product.is) at c.requires in
    let kind : c.map.result ≡ option_map (λ k. record { 0 = k }) c.args.kind = search rules in
    let group : c.map-in-Product.result ≡ option_map (λ g. record { 0 = g }) c.args.group = search rules in
    either-kept (λ ps. IsClasses (record (lists_of c.self.inside) { products = ps })) c.push.result c.self.inside.all_products
    (c.self.inside.all_products ++ record { code = c.args.code.items; kind = c.map.result; group = c.map-in-Product.result } ∷ []) c.push.new.self c.push.ensures.ok c.push.ensures.err
    c.self.invariant (rw (kind, group) (IsClasses-added (lists_of c.self.inside) axis.Product c.args.code.items c.args.kind c.args.group c.self.invariant may))

pub invariant_of-self-in-Industry : goal.invariant_of-self-in-Industry
invariant_of-self-in-Industry c =
    let may = rw (← c.self.view_is, c.in-Industry.is) at c.requires in
    let group : c.map-in-Industry.result ≡ option_map (λ g. record { 0 = g }) c.args.group = search rules in
    either-kept (λ js. IsClasses (record (lists_of c.self.inside) { industries = js })) c.push-in-Industry.result c.self.inside.all_industries
    (c.self.inside.all_industries ++ record { code = c.args.code.items; group = c.map-in-Industry.result } ∷ []) c.push-in-Industry.new.self c.push-in-Industry.ensures.ok c.push-in-Industry.ensures.err
    c.self.invariant (rw group (IsClasses-added (lists_of c.self.inside) axis.Industry c.args.code.items c.args.kind c.args.group c.self.invariant may))

pub invariant_of-self-in-Final : goal.invariant_of-self-in-Final
invariant_of-self-in-Final c =
    let may = rw (← c.self.view_is, c.in-Final.is) at c.requires in
    either-kept (λ cs. IsClasses (record (lists_of c.self.inside) { finals = cs })) c.push-in-Final.result c.self.inside.others.finals
    (c.self.inside.others.finals ++ c.args.code.items ∷ []) c.push-in-Final.new.self c.push-in-Final.ensures.ok c.push-in-Final.ensures.err
    c.self.invariant (IsClasses-added (lists_of c.self.inside) axis.Final c.args.code.items c.args.kind c.args.group c.self.invariant may)

pub invariant_of-self-in-Item : goal.invariant_of-self-in-Item
invariant_of-self-in-Item c =
    let may = rw (← c.self.view_is, c.in-Item.is) at c.requires in
    either-kept (λ cs. IsClasses (record (lists_of c.self.inside) { items = cs })) c.push-in-Item.result c.self.inside.others.items
    (c.self.inside.others.items ++ c.args.code.items ∷ []) c.push-in-Item.new.self c.push-in-Item.ensures.ok c.push-in-Item.ensures.err
    c.self.invariant (IsClasses-added (lists_of c.self.inside) axis.Item c.args.code.items c.args.kind c.args.group c.self.invariant may)

pub invariant_of-self-in-Margin : goal.invariant_of-self-in-Margin
invariant_of-self-in-Margin c =
    let may = rw (← c.self.view_is, c.in-Margin.is) at c.requires in
    either-kept (λ cs. IsClasses (record (lists_of c.self.inside) { margins = cs })) c.push-in-Margin.result c.self.inside.others.margins
    (c.self.inside.others.margins ++ c.args.code.items ∷ []) c.push-in-Margin.new.self c.push-in-Margin.ensures.ok c.push-in-Margin.ensures.err
    c.self.invariant (IsClasses-added (lists_of c.self.inside) axis.Margin c.args.code.items c.args.kind c.args.group c.self.invariant may)

pub invariant_of-self-in-Tax : goal.invariant_of-self-in-Tax
invariant_of-self-in-Tax c =
    let may = rw (← c.self.view_is, c.in-Tax.is) at c.requires in
    either-kept (λ cs. IsClasses (record (lists_of c.self.inside) { taxes = cs })) c.push-in-Tax.result c.self.inside.others.taxes
    (c.self.inside.others.taxes ++ c.args.code.items ∷ []) c.push-in-Tax.new.self c.push-in-Tax.ensures.ok c.push-in-Tax.ensures.err
    c.self.invariant (IsClasses-added (lists_of c.self.inside) axis.Tax c.args.code.items c.args.kind c.args.group c.self.invariant may)

pub invariant_of-self-in-ProductGroup : goal.invariant_of-self-in-ProductGroup
invariant_of-self-in-ProductGroup c =
    let may = rw (← c.self.view_is, c.in-ProductGroup.is) at c.requires in
    either-kept (λ cs. IsClasses (record (lists_of c.self.inside) { product_groups = cs })) c.push-in-ProductGroup.result c.self.inside.others.product_groups
    (c.self.inside.others.product_groups ++ c.args.code.items ∷ []) c.push-in-ProductGroup.new.self c.push-in-ProductGroup.ensures.ok c.push-in-ProductGroup.ensures.err
    c.self.invariant (IsClasses-added (lists_of c.self.inside) axis.ProductGroup c.args.code.items c.args.kind c.args.group c.self.invariant may)

pub invariant_of-self-in-IndustryGroup : goal.invariant_of-self-in-IndustryGroup
invariant_of-self-in-IndustryGroup c =
    let may = rw (← c.self.view_is, c.in-IndustryGroup.is) at c.requires in
    either-kept (λ cs. IsClasses (record (lists_of c.self.inside) { industry_groups = cs })) c.push-in-IndustryGroup.result c.self.inside.others.industry_groups
    (c.self.inside.others.industry_groups ++ c.args.code.items ∷ []) c.push-in-IndustryGroup.new.self c.push-in-IndustryGroup.ensures.ok c.push-in-IndustryGroup.ensures.err
    c.self.invariant (IsClasses-added (lists_of c.self.inside) axis.IndustryGroup c.args.code.items c.args.kind c.args.group c.self.invariant may)
