use Rattle.std.proofs.Common.{◌≡◌, rules}
use Rattle.sut_write.specs.Places.{columns}
use Rattle.sut_write.proofs.UseLines.{columns-few}
use Rattle.sut_write.proofs.use_table.all_columns.Goals as goal

pub returns-clause-few : goal.returns-clause-few
returns-clause-few c =
    let all : c.push_finals.new.columns.items ≡ columns c.args.classes.now = search rules in
    columns-few c.args.classes.now c.kept.ensures c.push_finals.new.columns.items all
