use Rattle.std.proofs.Common.{◌≡◌, ◌++◌, codes, rules}
use Rattle.sut_text.specs.Text.{line_text, tagged}
use Rattle.sut_measures.specs.Names.{industry_code}
use Rattle.sut_measures.specs.declared.measures.Total.TheVariants as total
use Rattle.sut_write.specs.Accounts.{entry}
use Rattle.sut_write.specs.Numbers.{total_of}
use Rattle.sut_write.proofs.AccountLines.{three-entries}
use Rattle.sut_write.proofs.accounts.put_industry.Goals as goal

pub returns : goal.returns
returns c =
    let cs = c.args.p.now.classes in
    let t = c.args.t.now in
    let j = c.args.j in
    let output = entry (tagged (codes "industry") (industry_code cs j)) (codes "output") (total_of t (total.Output j)) in
    let inputs = entry (tagged (codes "industry") (industry_code cs j)) (codes "inputs") (total_of t (total.Inputs j)) in
    let added = entry (tagged (codes "industry") (industry_code cs j)) (codes "value_added") (total_of t (total.ValueAdded j)) in
    let first : c.put_entry.new.out.items ≡ c.args.out.now.items ++ line_text output = search rules in
    let second : c.put_entry-2.new.out.items ≡ c.put_entry.new.out.items ++ line_text inputs = search rules in
    let third : c.put_entry-3.new.out.items ≡ c.put_entry-2.new.out.items ++ line_text added = search rules in
    three-entries output inputs added c.args.out.now.items c.put_entry.new.out.items c.put_entry-2.new.out.items _ first second third
