use Rattle.std.proofs.Common.{rules, ◌≡◌, length, Some, refl, sym, ◌∙◌, ap, arith, to_z, of_z}
use mir.Syntax.{w128}
use Rattle.std.proofs.lemmas.Int.{ints}
use Rattle.std.proofs.lemmas.Option.{slice_get_read}
use Rattle.sut_network.proofs.ByAccount.{potentials-more}
use Rattle.sut_network.proofs.network_tables.potentials_of.Goals as goal

pub loop-k-preserved : goal.loop-k-preserved
loop-k-preserved g c =
    let same : to_z w128 (of_z w128 c.potential-potential.result) ≡ c.potential-potential.result = omega (arith, ints, c.potential-potential.type_inv) in
    let nodes = c.args.n.now.accounts.items in
    let pushed = c.in_ok-push.ensures.items in
    potentials-more nodes c.args.n.now.state.potentials c.loop-k.k _ (to_z w128 (of_z w128 c.potential-potential.result)) c.loop-k.pairs.items c.push.new.self.items
    (slice_get_read nodes (length nodes) c.loop-k.k _ refl (omega (arith, c.deref-account-items.ensures.len)) (search rules))
    (c.potential-potential.ensures ∙ ap Some (sym same)) c.loop-k.invariant pushed
