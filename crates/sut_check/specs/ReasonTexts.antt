-- Why a certificate is refused, in words, each behind a space: the variant's name in lower case with dashes, and then what it
-- carries. Places are counted from 1.
use Rattle.std.specs.Prelude.{ℕ, List, [], ◌∷◌, ◌++◌, codes}
use Rattle.sut_text.specs.Text.{spaced, whole_text}
use Rattle.sut_measures.specs.Words.{account_words, measure_words}
use Rattle.sut_status.specs.BrokenTexts.{broken_text}
use Rattle.sut_verify.specs.declared.verdicts.Reason.{Reason}
use Rattle.sut_verify.specs.declared.verdicts.Reason.TheVariants as reason

-- why a certificate is refused
abbrev pub reason_text : Reason → List ℕ
reason_text (reason.Open b) = spaced (codes "open" ∷ []) ++ broken_text b
reason_text (reason.NoPotential a) = spaced (codes "no-potential" ∷ account_words a)
reason_text (reason.Bent m rise) = spaced (codes "bent" ∷ measure_words m) ++ spaced (whole_text rise ∷ [])
reason_text (reason.Up m slope rise) = spaced (codes "up" ∷ measure_words m) ++ spaced (whole_text slope ∷ whole_text rise ∷ [])
reason_text (reason.Down m slope rise) = spaced (codes "down" ∷ measure_words m) ++ spaced (whole_text slope ∷ whole_text rise ∷ [])
reason_text (reason.Crosses m) = spaced (codes "crosses" ∷ measure_words m)
reason_text (reason.NoGap entering leaving) = spaced (codes "no-gap" ∷ whole_text entering ∷ whole_text leaving ∷ [])
