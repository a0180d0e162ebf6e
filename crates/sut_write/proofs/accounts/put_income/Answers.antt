use Rattle.std.proofs.Common.{◌≡◌, ◌++◌, codes, map, rules}
use Rattle.sut_text.specs.Text.{line_text}
use Rattle.sut_tables.specs.Gdp.{income}
use Rattle.sut_write.specs.Accounts.{entry, item_entry}
use Rattle.sut_write.specs.Numbers.{all_taxes}
use Rattle.sut_write.specs.Places.{items}
use Rattle.sut_write.proofs.AccountLines.{two-after}
use Rattle.sut_write.proofs.accounts.put_income.Goals as goal

pub returns : goal.returns
returns c =
    let cs = c.args.p.now.classes in
    let t = c.args.t.now in
    let taxes_line = entry (codes "income") (codes "taxes") (all_taxes cs t) in
    let last = entry (codes "income") (codes "gdp") (income t) in
    let first : c.put_entry.new.out.items ≡ c.put_items.new.out.items ++ line_text taxes_line = search rules in
    let second : c.put_entry-2.new.out.items ≡ c.put_entry.new.out.items ++ line_text last = search rules in
    two-after (map (item_entry cs t) (items cs)) taxes_line last c.args.out.now.items c.put_items.new.out.items c.put_entry.new.out.items _ c.in_ok-put_items.ensures first second
