use Rattle.std.proofs.Common.{◌+◌, ◌<◌, ◌^◌, ◌∙◌, All, ap, sym, subst, arith}
use Rattle.std.specs.Prelude.{sum_by}
use Rattle.std.proofs.lemmas.List.Elements.{All-head, All-tail}
use Rattle.sut_tables.specs.RowFacts.{RowFacts}
use Rattle.sut_tables.specs.Rows.{InRange}
use Rattle.sut_tables.specs.Values.{value_of}
use Rattle.sut_tables.specs.Costs.{cost, term}
use Rattle.sut_tables.proofs.CostBound.{cost-below}
use Rattle.sut_tables.proofs.CostSteps.{cost-more, part-below, term-is}
use Rattle.sut_tables.proofs.costs.cost.Goals as goal

pub overflow_add-sum : goal.overflow_add-sum
overflow_add-sum c =
    let p = c.args.p.now in
    let t = c.args.t.now in
    let r = c.in-Some.row.now in
    let rest = c.next.new.self in
    let terms = λ (r : RowFacts). term r (value_of t r.measure) in
    let left = subst (All (λ (r : RowFacts). InRange (value_of t r.measure))) c.in-Some.ensures.steps c.loop-row.invariant.in_range in
    let here = All-head (λ (r : RowFacts). InRange (value_of t r.measure)) r rest left in
    let is = term-is r c.value-x.result (value_of t r.measure) c.term.result (c.value-x.ensures ∙ ap (value_of t) c.measure.ensures) here c.term.ensures c.term.type_inv in
    let whole = cost-more terms c.loop-row.sum (cost p t) r rest c.loop-row.row-iterator c.in-Some.ensures.steps c.loop-row.invariant.counted in
    record { fits = subst (λ n. c.loop-row.sum + n < 2 ^ 128) (sym is) (part-below c.loop-row.sum (terms r) (sum_by terms rest) (cost p t) whole (cost-below p t c.kept.ensures.problem c.kept.ensures.limits c.requires)) }

pub loop-row-preserved : goal.loop-row-preserved
loop-row-preserved c =
    let p = c.args.p.now in
    let t = c.args.t.now in
    let r = c.in-Some.row.now in
    let rest = c.next.new.self in
    let terms = λ (r : RowFacts). term r (value_of t r.measure) in
    let left = subst (All (λ (r : RowFacts). InRange (value_of t r.measure))) c.in-Some.ensures.steps c.loop-row.invariant.in_range in
    let here = All-head (λ (r : RowFacts). InRange (value_of t r.measure)) r rest left in
    let is = term-is r c.value-x.result (value_of t r.measure) c.term.result (c.value-x.ensures ∙ ap (value_of t) c.measure.ensures) here c.term.ensures c.term.type_inv in
    let whole = cost-more terms c.loop-row.sum (cost p t) r rest c.loop-row.row-iterator c.in-Some.ensures.steps c.loop-row.invariant.counted in
    record {
      counted = ap (λ n. c.loop-row.sum + n + sum_by terms rest) is ∙ whole;
      in_range = All-tail (λ (r : RowFacts). InRange (value_of t r.measure)) r rest left;
    }
