use Rattle.sut_review.proofs.panel.Panel.review_all.Goals as goal

pub returns-clause-seats : goal.returns-clause-seats
returns-clause-seats g c = c.show_all.ensures.seats c.args.self.now.shown
