-- What the edits of a file keep.
use Rattle.std.specs.Prelude.{◌≤◌, IsTrue, All, List}
use Rattle.sut_classes.specs.ClassLists.{ClassLists}
use Rattle.sut_measures.specs.Fits.{fits}
use Rattle.sut_settings.specs.SettingsFacts.{SettingsFacts}
use Rattle.sut_source.specs.SourceText.{HasGrade}
use Rattle.sut_edits.specs.declared.edits.Edit.{Edit}
use Rattle.sut_edits.specs.declared.edits.Edit.TheVariants as edit
use Rattle.sut_edits.specs.declared.edits.EditLine.{EditLine}
use Rattle.sut_edits.specs.EditsFile.{balances_in}

-- an edit's measure fits
abbrev pub FitsClasses : ClassLists → Edit → Type 0
FitsClasses cs (edit.Set r) = IsTrue (fits cs r.measure)
FitsClasses cs (edit.Add r) = IsTrue (fits cs r.measure)
FitsClasses cs (edit.Drop m) = IsTrue (fits cs m)
FitsClasses cs edit.Balance = Unit {0}
FitsClasses cs (edit.Dismiss label) = Unit {0}

-- an edit's row has a grade of the settings
abbrev pub IsGraded : SettingsFacts → Edit → Type 0
IsGraded s (edit.Set r) = HasGrade s r
IsGraded s (edit.Add r) = HasGrade s r
IsGraded s (edit.Drop m) = Unit {0}
IsGraded s edit.Balance = Unit {0}
IsGraded s (edit.Dismiss label) = Unit {0}

pub record IsEditOf (s : SettingsFacts) (cs : ClassLists) (e : Edit) : Type 0 where
  pub fitting : FitsClasses cs e
  pub graded : IsGraded s e

-- edits of a file: at most 15 of them are rebalances
pub record AreEditsOf (s : SettingsFacts) (cs : ClassLists) (edits : List EditLine) : Type 0 where
  pub each : All (λ (l : EditLine). IsEditOf s cs l.edit) edits
  pub few : balances_in edits ≤ 15
