-- What the parts of a row keep.
use Rattle.std.specs.Prelude.{◌≡◌, ◌≤◌, length, ℤ, Option, Some, None}
use Rattle.sut_tables.specs.Rows.{InRange, IsPenalty}
use Rattle.sut_tables.specs.declared.rows.Penalty.TheVariants.{Square}
use Rattle.sut_settings.specs.SettingsFacts.{SettingsFacts}
use Rattle.sut_source.specs.RowFile.{RowFields}
use Rattle.sut_source.specs.declared.grades.GradeField.{GradeField}
use Rattle.sut_source.specs.declared.rows.RowText.{RowText}

-- a grade and a penalty that a row with this target, or none, may have
abbrev pub IsGradeFor : SettingsFacts → Option ℤ → GradeField → Type 0
IsGradeFor s None g = (g.penalty ≡ Square) × (g.place ≡ 0)
IsGradeFor s (Some target) g = InRange target × IsPenalty g.penalty × (g.place ≤ length s.grades)

-- the bytes of a row's fields
abbrev pub spelled_fields : RowText → RowFields
spelled_fields t = record {
  kind = t.kind.now;
  a = t.a.now;
  b = t.b.now;
  c = t.c.now;
  target = t.target.now;
  grade = t.grade.now;
  lower = t.lower.now;
  upper = t.upper.now;
}
