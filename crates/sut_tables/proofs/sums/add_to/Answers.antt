use Rattle.std.proofs.Common.{◌≡◌, sym, ap, ◌∙◌, rules, arith, ◌+ℤ◌, to_z, of_z, Some, ℤ, ◌^◌}
use mir.Syntax.{w128}
use mir.Val.{SFits}
use Rattle.std.specs.Option.{is_some, option_copied_mut}
use Rattle.std.proofs.lemmas.Int.{ints}
use Rattle.sut_tables.specs.CellSums.{IsUpTo, kept_for}
use Rattle.sut_tables.proofs.SumMaps.{kept-written, kept-absent, lookup-kept, sum-fits, sum-is}
use Rattle.sut_tables.proofs.sums.add_to.Goals as goal

pub overflow_add-number : goal.overflow_add-number
overflow_add-number c =
    let found = sym c.get_mut.ensures.value ∙ ap option_copied_mut c.in-Some.is in
    let bound = c.requires.numbers c.args.s c.in-Some.number.now (sym (lookup-kept c.args.s c.args.sums.now.entries) ∙ found) in
    sum-fits c.in-Some.number.now c.args.amount bound c.requires.amount

pub returns-in-Some : goal.returns-in-Some
returns-in-Some c =
    let found = sym c.get_mut.ensures.value ∙ ap option_copied_mut c.in-Some.is in
    let bound = c.requires.numbers c.args.s c.in-Some.number.now (sym (lookup-kept c.args.s c.args.sums.now.entries) ∙ found) in
    let y = to_z w128 (of_z w128 (to_z w128 (of_z w128 c.in-Some.number.now) +ℤ to_z w128 (of_z w128 c.args.amount))) in
    kept-written c.args.sums.now (c.get_mut.follows.lender y) c.args.s c.in-Some.number.now y c.args.amount found
    (sum-is c.in-Some.number.now c.args.amount bound c.requires.amount) ((c.get_mut.follows.holds y).3 (ap is_some found))

pub returns-in_default : goal.returns-in_default
returns-in_default c = rw c.get_mut.follows.holds-at-none (kept-absent c.args.sums.now c.args.s c.args.amount (sym c.get_mut.ensures.value ∙ ap option_copied_mut c.in_default.is))
