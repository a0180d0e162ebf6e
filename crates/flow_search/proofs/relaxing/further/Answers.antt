use Rattle.std.proofs.Common.{ap, ◌∙◌, ◌+ℤ◌, ◌-ℤ◌}
use Rattle.flow_residual.specs.Edges.{potential_at}
use Rattle.flow_residual.proofs.Casts.{summed}
use Rattle.flow_search.proofs.Sums.{rise_fits, length_fits, further_fits}
use Rattle.flow_search.proofs.Ways.{small_potential}
use Rattle.flow_search.proofs.relaxing.further.Goals as goal

pub overflow_sub-result : goal.overflow_sub-result
overflow_sub-result g c =
    let a = small_potential c.args.s.now c.args.v.0 c.potential-there.result c.requires.potentials c.requires.to c.potential-there.ensures in
    let b = small_potential c.args.s.now c.args.u.0 c.potential-here.result c.requires.potentials c.requires.from c.potential-here.ensures in
    rise_fits c.potential-there.result c.potential-here.result a.0 b.0

pub overflow_sub-result-2 : goal.overflow_sub-result-2
overflow_sub-result-2 g c =
    let a = small_potential c.args.s.now c.args.v.0 c.potential-there.result c.requires.potentials c.requires.to c.potential-there.ensures in
    let b = small_potential c.args.s.now c.args.u.0 c.potential-here.result c.requires.potentials c.requires.from c.potential-here.ensures in
    length_fits c.potential-there.result c.potential-here.result a.0 b.0 c.args.price c.requires.price

pub overflow_add-result : goal.overflow_add-result
overflow_add-result g c =
    let a = small_potential c.args.s.now c.args.v.0 c.potential-there.result c.requires.potentials c.requires.to c.potential-there.ensures in
    let b = small_potential c.args.s.now c.args.u.0 c.potential-here.result c.requires.potentials c.requires.from c.potential-here.ensures in
    further_fits c.potential-there.result c.potential-here.result a.0 b.0 c.args.price c.requires.price c.args.at c.requires.at

pub returns : goal.returns
returns g c =
    let a = small_potential c.args.s.now c.args.v.0 c.potential-there.result c.requires.potentials c.requires.to c.potential-there.ensures in
    let b = small_potential c.args.s.now c.args.u.0 c.potential-here.result c.requires.potentials c.requires.from c.potential-here.ensures in
    summed c.args.at c.args.price c.potential-there.result c.potential-here.result c.requires.at c.requires.price a.0 b.0
    ∙ ap (λ z. c.args.at +ℤ (c.args.price -ℤ z)) (ap (λ z. z -ℤ c.potential-here.result) a.1 ∙ ap (λ z. potential_at c.args.s.now c.args.v.0 -ℤ z) b.1)
