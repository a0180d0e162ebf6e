use Rattle.std.proofs.Common.{◌∙◌, ◌++◌, ◌∷◌, [], ap}
use Rattle.sut_run.specs.Deliveries.{certificate_file}
use Rattle.sut_run.proofs.outputs.balanced_outputs.Goals as goal

pub returns-clause-texts : goal.returns-clause-texts
returns-clause-texts c = c.in_ok-push_certificate.ensures.text ∙ ap (λ texts. texts ++ certificate_file c.args.p.now c.args.c.now ∷ []) c.in_ok-outputs.ensures.texts
