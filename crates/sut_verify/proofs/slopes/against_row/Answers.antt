use Rattle.std.proofs.Common.{◌≡◌, ◌∙◌, to_z, of_z}
use mir.Syntax.{w64, w128}
use Rattle.std.proofs.lemmas.Int.{to_z-of_z}
use Rattle.sut_tables.specs.Breaks.{first_of}
use Rattle.sut_tables.proofs.FirstOf.{first-left}
use Rattle.sut_verify.specs.Verdicts.{down_reason, up_reason}
use Rattle.sut_verify.proofs.slopes.against_row.Goals as goal

pub returns-in-Some : goal.returns-in-Some
returns-in-Some c =
    let x : to_z w64 (of_z w64 c.args.x) ≡ c.args.x = to_z-of_z w64 c.args.x c.ranges.x in
    let rise : to_z w128 (of_z w128 c.args.rise) ≡ c.args.rise = to_z-of_z w128 c.args.rise c.ranges.rise in
    first-left (up_reason c.args.measure c.args.row.now c.args.x c.args.rise) (down_reason c.args.measure c.args.row.now c.args.x c.args.rise) c.in-Some.reason
    (c.in-Some.ensures ∙ (λ i. first_of (up_reason c.args.measure c.args.row.now (x i) (rise i))))
