-- Lists of names and texts.
use Rattle.std.proofs.Common.{◌≡◌, ◌∙◌, List, [], ◌∷◌, ◌++◌, ap}
use Rattle.std.proofs.lemmas.List.{map-append}
use Rattle.sut_run.specs.declared.writing.Output.{Output}
use Rattle.sut_run.specs.Outputs.{named_text, texts_in}

-- one output more
pub texts-pushed : (outputs new : List Output) (o : Output) → new ≡ outputs ++ o ∷ [] → texts_in new ≡ texts_in outputs ++ named_text o ∷ []
texts-pushed outputs new o e = ap texts_in e ∙ map-append named_text outputs (o ∷ [])
