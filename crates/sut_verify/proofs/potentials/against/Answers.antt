use Rattle.std.proofs.Common.{◌∙◌, sym, subst}
use Rattle.sut_tables.specs.Breaks.{first_of}
use Rattle.sut_tables.specs.Problems.{groups}
use Rattle.sut_tables.specs.Rows.{InRange}
use Rattle.sut_tables.specs.Values.{value_of}
use Rattle.sut_tables.proofs.CostSteps.{narrowed}
use Rattle.sut_cert.specs.Certificates.{rise}
use Rattle.sut_verify.specs.Verdicts.{measure_reasons}
use Rattle.sut_verify.proofs.FoundRows.{value-in_range}
use Rattle.sut_verify.proofs.SlopeSigns.{cast-fits, wide-is}
use Rattle.sut_verify.proofs.potentials.against.Goals as goal

pub overflow_cast-value : goal.overflow_cast-value
overflow_cast-value c =
    let range = value-in_range c.args.p.now c.args.t.now c.args.m c.in-Some.row.now c.kept.ensures.problem c.requires (sym c.in-Some.ensures) in
    cast-fits c.value.result (value_of c.args.t.now c.args.m) c.value.ensures range

pub against_row-requires : goal.against_row-requires
against_row-requires c =
    let range = value-in_range c.args.p.now c.args.t.now c.args.m c.in-Some.row.now c.kept.ensures.problem c.requires (sym c.in-Some.ensures) in
    subst InRange (sym (narrowed c.value.result (value_of c.args.t.now c.args.m) c.value.ensures range)) range

pub returns-in-Some : goal.returns-in-Some
returns-in-Some c =
    let p = c.args.p.now in
    let range = value-in_range p c.args.t.now c.args.m c.in-Some.row.now c.kept.ensures.problem c.requires (sym c.in-Some.ensures) in
    let x = narrowed c.value.result (value_of c.args.t.now c.args.m) c.value.ensures range in
    let brings = wide-is c.rise-rise.result (rise (groups p) c.args.c.now c.args.m) c.rise-rise.ensures c.rise-rise.type_inv in
    c.against_row.ensures ∙ (λ i. first_of (measure_reasons (c.in-Some.ensures i) c.args.m (x i) (brings i)))
