use Rattle.std.proofs.Common.{◌-◌, ◌≤ℤ◌, get_or, negsuc, inl, inr, ap, sym, subst, ◌∙◌, arith}
use Rattle.std.proofs.lemmas.Bool.{cases_eq}
use Rattle.flow_residual.specs.Gaps.{node_at}
use Rattle.flow_search.specs.Heap.{key_at, Sifts}
use Rattle.flow_search.proofs.Heaps.{exchanged, first_least, now_b}
use Rattle.flow_search.proofs.heap.take_first.Goals as goal

pub returns-clause-nearest : goal.returns-clause-nearest
returns-clause-nearest c = λ v m.
    subst (λ z. get_or c.args.dist.now (node_at c.args.nodes.now 0) (negsuc 0) ≤ℤ get_or c.args.dist.now z (negsuc 0)) m.2
    (first_least (key_at c.args.dist.now c.args.nodes.now) c.args.count.now c.requires.queue.heap m.0 m.1)

pub returns-clause-kept : goal.returns-clause-kept
returns-clause-kept c = λ v m.
    let s : Sifts c.args.nodes.now c.args.place.now c.exchange.new.nodes c.exchange.new.place c.args.count.now =
    exchanged c.args.nodes.now c.exchange.new.nodes c.args.place.now c.exchange.new.place 0 (c.args.count.now - 1) c.args.count.now c.exchange.ensures.nodes c.exchange.ensures.places c.requires.some (omega arith) in
    let k = s.reordered.kept v m in
    elim (cases_eq k.0 (c.args.count.now - 1)) [
      | inl q ↦ inr (sym k.2 ∙ ap (node_at c.exchange.new.nodes) q ∙ now_b c.args.nodes.now c.exchange.new.nodes 0 (c.args.count.now - 1) c.exchange.ensures.nodes)
      | inr q ↦ inl (c.sift_down.ensures.nodes.kept v (k.0, (let l = k.1 in omega (arith, l, q)), k.2))
    ]

pub returns-clause-no_more : goal.returns-clause-no_more
returns-clause-no_more c = λ v m.
    let s : Sifts c.args.nodes.now c.args.place.now c.exchange.new.nodes c.exchange.new.place c.args.count.now =
    exchanged c.args.nodes.now c.exchange.new.nodes c.args.place.now c.exchange.new.place 0 (c.args.count.now - 1) c.args.count.now c.exchange.ensures.nodes c.exchange.ensures.places c.requires.some (omega arith) in
    let k = c.sift_down.ensures.nodes.no_more v m in
    s.reordered.no_more v (k.0, (let l = k.1 in omega (arith, l)), k.2)
