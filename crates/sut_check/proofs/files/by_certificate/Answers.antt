use Rattle.sut_check.proofs.Asked.{same-told}
use Rattle.sut_check.proofs.ReadAnswers.{cut-there}
use Rattle.sut_check.proofs.files.by_certificate.Goals as goal

pub returns-in-Cut-clause-kept : goal.returns-in-Cut-clause-kept
returns-in-Cut-clause-kept g c = same-told (g.F.Shelf.files c.args.shelf.now)

pub returns-in-Cut-clause-ok : goal.returns-in-Cut-clause-ok
returns-in-Cut-clause-ok g c = cut-there c.args.p.now (g.F.Shelf.files c.args.shelf.now) c.args.certificate c.in-Cut.set c.in-Cut.is
