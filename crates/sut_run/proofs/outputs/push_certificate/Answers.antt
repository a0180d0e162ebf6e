use Rattle.std.proofs.Common.{◌∙◌, ◌++◌, ◌∷◌, [], List, ℕ, ap}
use Rattle.sut_outside.specs.declared.names.FileName.TheVariants.{CertificateCsv}
use Rattle.sut_cert.specs.CertificateFile.{certificate_of}
use Rattle.sut_cert.specs.CertificateText.{certificate_text}
use Rattle.sut_run.specs.Outputs.{texts_in}
use Rattle.sut_run.proofs.Delivered.{by-text, short-text}
use Rattle.sut_run.proofs.outputs.push_certificate.Goals as goal

pub returns-clause-text : goal.returns-clause-text
returns-clause-text c =
    c.in_ok-push_text.ensures ∙ ap (λ (t : List ℕ). texts_in c.args.outputs.now.items ++ (CertificateCsv, t) ∷ []) c.in_ok-text.ensures.text

pub returns-clause-spells : goal.returns-clause-spells
returns-clause-spells c = record {
  short = short-text _ (certificate_text c.args.p.now.classes c.args.c.now) c.in_ok-text.ensures.text c.in_ok-text.ensures.size;
  read = by-text (certificate_of c.args.p.now) c.args.c.now _ (certificate_text c.args.p.now.classes c.args.c.now) c.in_ok-text.ensures.text c.in_ok-text.ensures.reads_back;
}
