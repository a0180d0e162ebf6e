use Rattle.csv.specs.Records.{fields_of}
use Rattle.sut_readback.proofs.LineLemmas.{line-fault, line-good}
use Rattle.sut_readback.proofs.read.read_line.Goals as goal

pub returns-in-Ok : goal.returns-in-Ok
returns-in-Ok c = line-good c.args.p.now c.args.line c.args.reading.now c.take_line.new.reading (fields_of c.args.row.now) c.in-Ok.ensures

pub returns-in-Err : goal.returns-in-Err
returns-in-Err c = line-fault c.args.p.now c.args.line c.args.reading.now (fields_of c.args.row.now) c.in-Err.cause c.in-Err.ensures
