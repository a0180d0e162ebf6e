use Rattle.std.proofs.Common.{◌≡◌, ◌∙◌, ◌-◌, suc, length, unsigned_abs, refl, ap, rules, arith}
use Rattle.std.proofs.lemmas.Option.{slice_get_read}
use Rattle.sut_settings.specs.IsSettings.{IsGrade}
use Rattle.sut_settings.specs.SettingsFacts.{weight_from}
use Rattle.sut_settings.specs.SettingsView.{is_relative, grade_facts}
use Rattle.sut_settings.proofs.GradeLemmas.{grade-there, number-there}
use Rattle.sut_settings.proofs.lookups.weight_at.Goals as goal

pub weight_for-requires-in-Some : goal.weight_for-requires-in-Some
weight_for-requires-in-Some c =
    let (_, same, _, inside, _) = c.in-Some.ensures.lookup in
    let g : IsGrade (is_relative c.s.inside.scheme) (grade_facts c.in-Some.g.now) =
    grade-there _ c.s.inside.grades.items (c.args.place - 1) c.in-Some.g.now c.s.invariant.grades (rw (← c.deref.ensures.value) inside.0) (rw (← c.deref.ensures.value) same) in
    record { some = g.some; most = g.most }

pub returns-in-Some-clause-value : goal.returns-in-Some-clause-value
returns-in-Some-clause-value c =
    let from_one : c.args.place ≡ suc (c.args.place - 1) = omega (arith, c.if-place-eq0.false) in
    let (_, same, _, inside, _) = c.in-Some.ensures.lookup in
    let read = slice_get_read c.deref.result.now (length c.deref.result.now) (c.args.place - 1) c.in-Some.g.now refl inside.0 same in
    let there = rw c.deref.ensures.value at read in
    let size : c.unsigned_abs-in-Some.result ≡ unsigned_abs c.args.target = search rules in
    rw (← c.s.view_is, number-there c.s.inside.grades.items c.args.place (c.args.place - 1) c.in-Some.g.now from_one there)
    (c.weight_for-in-Some.ensures.value ∙ ap (weight_from (is_relative c.s.inside.scheme) c.in-Some.g.now.number) size)
