use Rattle.std.proofs.Common.{◌<◌, ◌≤◌, length, arith}
use Rattle.sut_cert.proofs.FileLemmas.{potentials-fault, potentials-short, potentials-whole}
use Rattle.sut_cert.proofs.Spelled.{potentials-kept}
use Rattle.sut_cert.proofs.read.read_potentials.Goals as goal

pub returns-in-Err : goal.returns-in-Err
returns-in-Err c lack = potentials-fault c.args.classes.now c.args.live.now c.args.records.now c.in-Err.fault (c.in-Err.ensures.value lack)

pub returns-then-len-live : goal.returns-then-len-live
returns-then-len-live c lack =
    let given = c.read_potential_lines.new.given in
    let short : length given.items < length c.args.live.now = omega (arith, given.ok.0) in
    potentials-short c.args.classes.now c.args.live.now c.args.records.now given.items c.in-Ok.line (c.in-Ok.ensures.value tt) c.in-Ok.ensures.end short

pub unreachable-requires : goal.unreachable-requires
unreachable-requires c =
    let given = c.read_potential_lines.new.given in
    let whole : length c.args.live.now ≤ length given.items = omega (arith, given.ok.0) in
    c.in-None.ensures.bad (potentials-kept c.args.classes.now c.args.live.now given.items c.args.records.now c.requires.ascending (c.in-Ok.ensures.value tt) whole)

pub returns : goal.returns
returns c lack =
    let given = c.read_potential_lines.new.given in
    let whole : length c.args.live.now ≤ length given.items = omega (arith, given.ok.0) in
    potentials-whole c.args.classes.now c.args.live.now c.args.records.now given.items c.in-Some.potentials (c.in-Ok.ensures.value tt) whole c.in-Some.ensures.made
