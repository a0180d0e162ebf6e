use Rattle.std.proofs.Common.{◌≡◌, ◌∙◌, ◌==◌, length, false, position, Some, None, sym}
use Rattle.std.specs.Str.{bytes_eq}
use Rattle.sut_settings.specs.declared.settings.Grade.{Grade}
use Rattle.sut_settings.specs.SettingsView.{is_relative}
use Rattle.sut_settings.proofs.GradeLemmas.{placed}
use Rattle.sut_settings.proofs.lookups.grade_place.Goals as goal

pub returns-in-Some : goal.returns-in-Some
returns-in-Some c =
    let filled : (length c.args.grade.now == 0) ≡ false = sym c.is_empty.ensures ∙ c.if-is_empty.false in
    let found : position (λ (g : Grade). bytes_eq c.args.grade.now g.name.items) c.s.inside.grades.items ≡ Some c.in-Some.k =
    rw (← c.deref.ensures.value) (sym c.find_grade.ensures ∙ c.in-Some.is) in
    rw (← c.s.view_is) (sym (placed (is_relative c.s.inside.scheme) c.args.grade.now c.s.inside.grades.items _ filled found))

pub returns-in-None : goal.returns-in-None
returns-in-None c =
    let filled : (length c.args.grade.now == 0) ≡ false = sym c.is_empty.ensures ∙ c.if-is_empty.false in
    let found : position (λ (g : Grade). bytes_eq c.args.grade.now g.name.items) c.s.inside.grades.items ≡ None =
    rw (← c.deref.ensures.value) (sym c.find_grade.ensures ∙ c.in-None.is) in
    rw (← c.s.view_is) (sym (placed (is_relative c.s.inside.scheme) c.args.grade.now c.s.inside.grades.items _ filled found))
