use Rattle.std.proofs.Common.{◌≡◌, ◌++◌, ◌∷◌, [], codes, rules}
use Rattle.sut_text.specs.Text.{line_text}
use Rattle.sut_tables.specs.Gdp.{production}
use Rattle.sut_write.specs.Accounts.{entry}
use Rattle.sut_write.specs.Numbers.{all_inputs, all_outputs, all_taxes}
use Rattle.sut_write.proofs.AccountLines.{entry-after, three-entries}
use Rattle.sut_write.proofs.accounts.put_production.Goals as goal

pub returns : goal.returns
returns c =
    let cs = c.args.p.now.classes in
    let t = c.args.t.now in
    let output = entry (codes "production") (codes "output") (all_outputs cs t) in
    let inputs = entry (codes "production") (codes "intermediate") (all_inputs cs t) in
    let taxes = entry (codes "production") (codes "taxes") (all_taxes cs t) in
    let last = entry (codes "production") (codes "gdp") (production t) in
    let first : c.put_entry.new.out.items ≡ c.args.out.now.items ++ line_text output = search rules in
    let second : c.put_entry-2.new.out.items ≡ c.put_entry.new.out.items ++ line_text inputs = search rules in
    let third : c.put_entry-3.new.out.items ≡ c.put_entry-2.new.out.items ++ line_text taxes = search rules in
    let fourth : c.put_entry-4.new.out.items ≡ c.put_entry-3.new.out.items ++ line_text last = search rules in
    entry-after (output ∷ inputs ∷ taxes ∷ []) last c.args.out.now.items c.put_entry-3.new.out.items _
    (three-entries output inputs taxes c.args.out.now.items c.put_entry.new.out.items c.put_entry-2.new.out.items c.put_entry-3.new.out.items first second third) fourth
