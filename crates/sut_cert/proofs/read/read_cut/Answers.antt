use Rattle.sut_cert.proofs.FileLemmas.{cut-fault, cut-whole}
use Rattle.sut_cert.proofs.Spelled.{cut-kept}
use Rattle.sut_cert.proofs.read.read_cut.Goals as goal

pub returns-in-Err : goal.returns-in-Err
returns-in-Err c lack = cut-fault c.args.classes.now c.args.live.now c.args.records.now c.in-Err.fault (c.in-Err.ensures lack)

pub unreachable-requires : goal.unreachable-requires
unreachable-requires c =
    c.in-None.ensures.bad (cut-kept c.args.classes.now c.args.live.now c.read_account_lines.new.set.items c.args.records.now (c.in-Ok.ensures tt))

pub returns : goal.returns
returns c lack =
    cut-whole c.args.classes.now c.args.live.now c.args.records.now c.read_account_lines.new.set.items c.in-Some.accounts (c.in-Ok.ensures tt) c.in-Some.ensures.made
