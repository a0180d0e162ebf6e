-- Which edits change rows.
use Rattle.sut_edits.specs.declared.edits.Edit.{Edit}
use Rattle.sut_edits.specs.declared.edits.Edit.TheVariants as edit

-- a set, an add or a drop
abbrev pub ChangesRows : Edit → Type 0
ChangesRows (edit.Set r) = Unit {0}
ChangesRows (edit.Add r) = Unit {0}
ChangesRows (edit.Drop m) = Unit {0}
ChangesRows edit.Balance = ⊥
ChangesRows (edit.Dismiss label) = ⊥
