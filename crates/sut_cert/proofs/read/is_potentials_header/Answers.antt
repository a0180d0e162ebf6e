use Rattle.std.proofs.Common.{◌∙◌, ◌∷◌, []}
use Rattle.csv.specs.Records.{fields_of}
use Rattle.sut_records.specs.RecordList.{same_fields}
use Rattle.sut_cert.proofs.read.is_potentials_header.Goals as goal

pub returns : goal.returns
returns c =
    c.has_fields.ensures
    ∙ (λ i. same_fields (fields_of c.args.row.now) (c.as_slice.ensures i ∷ c.as_slice-2.ensures i ∷ c.as_slice-3.ensures i ∷ c.as_slice-4.ensures i ∷ []))
