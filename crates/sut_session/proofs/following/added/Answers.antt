use Rattle.std.proofs.Common.{◌≡◌, true, ap, arith}
use Rattle.std.specs.Prelude.{is_some}
use Rattle.sut_measures.specs.declared.accounts.Account.{Account}
use Rattle.sut_measures.specs.declared.measures.Measure.{Measure}
use Rattle.flow_graph.specs.Network.{Network as Graph}
use Rattle.sut_session.proofs.Steps.{found-live-arc}
use Rattle.sut_session.proofs.following.added.Goals as goal

pub put-requires : goal.put-requires
put-requires c =
    let q = c.requires.0 in
    let is = c.requires.1 in
    let some : is_some c.arc.result ≡ true = grind (arith, c.is_none.ensures, c.if-is_none.false) in
    (q, is, found-live-arc q c.args.n.circuit is.circuit c.graph.result.now.names c.measure.result c.args.row.now.measure c.arc.result (ap (λ (g : Graph Account Measure). g.names) c.graph.ensures.value) c.measure.ensures c.arc.ensures some)

pub returns : goal.returns
returns c = λ q is.
    let some : is_some c.arc.result ≡ true = grind (arith, c.is_none.ensures, c.if-is_none.false) in
    c.put.ensures.network q is
    (found-live-arc q c.args.n.circuit is.circuit c.graph.result.now.names c.measure.result c.args.row.now.measure c.arc.result (ap (λ (g : Graph Account Measure). g.names) c.graph.ensures.value) c.measure.ensures c.arc.ensures some)
