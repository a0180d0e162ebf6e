use Rattle.std.proofs.Common.{◌∷◌, [], codes}
use Rattle.std.specs.List.{flat_map}
use Rattle.sut_write.specs.Accounts.{accounts_text, expenditure_entries, income_entries, industry_entries, product_entries, production_entries}
use Rattle.sut_write.specs.Places.{industries, products}
use Rattle.sut_write.proofs.AccountLines.{five-blocks}
use Rattle.sut_write.proofs.accounts.accounts_text.Goals as goal

pub returns : goal.returns
unfolding accounts_text
returns c =
    let cs = c.args.p.now.classes in
    let t = c.args.t.now in
    five-blocks (codes "account" ∷ codes "entry" ∷ codes "value" ∷ []) (production_entries cs t) (income_entries cs t) (expenditure_entries cs t) (flat_map (industry_entries cs t) (industries cs)) (flat_map (product_entries cs t) (products cs))
    c.new-out.result.items c.put_bytes.new.out.items c.put_production.new.out.items c.put_income.new.out.items c.put_expenditure.new.out.items c.put_industries.new.out.items c.put_products.new.out.items
    c.new-out.ensures.items c.in_ok-put_bytes.ensures c.in_ok-put_production.ensures c.in_ok-put_income.ensures c.in_ok-put_expenditure.ensures c.in_ok-put_industries.ensures c.in_ok-put_products.ensures
