use Rattle.std.proofs.Common.{◌∙◌, ap, sym, subst}
use Rattle.sut_edits.specs.Edits.{edited}
use Rattle.sut_session.specs.SessionView.{IsNetworkOf}
use Rattle.sut_session.proofs.Steps.{set-step}
use Rattle.sut_session.proofs.following.followed.Goals as goal

pub put-requires : goal.put-requires
put-requires c =
    let q = c.requires.before.0 in
    (q, c.requires.before.1, (set-step q c.args.p.now c.in-Set.row (ap (edited q) (sym c.in-Set.is) ∙ c.requires.before.2)).0)

pub returns-in-Set-clause-network : goal.returns-in-Set-clause-network
returns-in-Set-clause-network c =
    let q = c.requires.before.0 in
    let step = set-step q c.args.p.now c.in-Set.row (ap (edited q) (sym c.in-Set.is) ∙ c.requires.before.2) in
    subst (λ p. IsNetworkOf p c.put.new.n) step.1 (c.put.ensures.network q c.requires.before.1 step.0)
