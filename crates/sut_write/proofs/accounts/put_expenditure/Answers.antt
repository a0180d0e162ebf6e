use Rattle.std.proofs.Common.{◌≡◌, ◌++◌, codes, map, rules}
use Rattle.sut_text.specs.Text.{line_text}
use Rattle.sut_measures.specs.declared.measures.Total.TheVariants as total
use Rattle.sut_tables.specs.Gdp.{expenditure}
use Rattle.sut_write.specs.Accounts.{entry, final_entry}
use Rattle.sut_write.specs.Numbers.{total_of}
use Rattle.sut_write.specs.Places.{finals}
use Rattle.sut_write.proofs.AccountLines.{two-after}
use Rattle.sut_write.proofs.accounts.put_expenditure.Goals as goal

pub returns : goal.returns
returns c =
    let cs = c.args.p.now.classes in
    let t = c.args.t.now in
    let imports_line = entry (codes "expenditure") (codes "imports") (total_of t total.ImportTotal) in
    let last = entry (codes "expenditure") (codes "gdp") (expenditure t) in
    let first : c.put_entry.new.out.items ≡ c.put_finals.new.out.items ++ line_text imports_line = search rules in
    let second : c.put_entry-2.new.out.items ≡ c.put_entry.new.out.items ++ line_text last = search rules in
    two-after (map (final_entry cs t) (finals cs)) imports_line last c.args.out.now.items c.put_finals.new.out.items c.put_entry.new.out.items _ c.in_ok-put_finals.ensures first second
