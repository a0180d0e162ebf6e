use Rattle.std.proofs.Common.{List, ◌≤◌, length}
use Rattle.std.specs.Prelude.{All, IsTrue}
use Rattle.sut_measures.specs.declared.measures.Measure.{Measure}
use Rattle.sut_tables.specs.LiveRule.{is_live}
use Rattle.sut_asks.proofs.AskLemmas.{asks-few, asks-live, some-keeps}
use Rattle.sut_asks.proofs.read.read_asks.Goals as goal

pub returns-in-Ok-read_lines_left-clause-live : goal.returns-in-Ok-read_lines_left-clause-live
returns-in-Ok-read_lines_left-clause-live c =
    let asks = c.read_lines_left.new.asks.items in
    some-keeps c.some_ask.result (λ v. v.items) (λ (ms : List Measure). All (λ m. IsTrue (is_live c.args.p.now m)) ms) asks c.some_ask.ensures
    (asks-live c.args.p.now c.read_header.new.records asks (c.in-Ok-read_lines_left.ensures tt))

pub returns-in-Ok-read_lines_left-clause-few : goal.returns-in-Ok-read_lines_left-clause-few
returns-in-Ok-read_lines_left-clause-few c =
    let asks = c.read_lines_left.new.asks.items in
    some-keeps c.some_ask.result (λ v. v.items) (λ (ms : List Measure). length ms ≤ 64) asks c.some_ask.ensures
    (asks-few c.args.p.now c.read_header.new.records asks (c.in-Ok-read_lines_left.ensures tt))
