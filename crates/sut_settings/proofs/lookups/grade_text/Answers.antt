use Rattle.std.proofs.Common.{◌≡◌, ◌∙◌, ◌-◌, suc, length, Some, None, refl, ap, arith}
use Rattle.std.proofs.lemmas.Option.{slice_get_read, slice_get_past}
use Rattle.sut_settings.proofs.GradeLemmas.{name-at}
use Rattle.sut_settings.proofs.lookups.grade_text.Goals as goal

pub returns-in-Some : goal.returns-in-Some
returns-in-Some c =
    let from_one : c.args.place ≡ suc (c.args.place - 1) = omega (arith, c.if-place-eq0.false) in
    let (_, same, _, inside, _) = c.in-Some.ensures.lookup in
    let read = slice_get_read c.deref.result.now (length c.deref.result.now) (c.args.place - 1) c.in-Some.g.now refl inside.0 same in
    let there = rw c.deref.ensures.value at read in
    rw (← c.s.view_is) (ap Some c.as_slice.ensures.value ∙ name-at c.s.inside.grades.items c.args.place (c.args.place - 1) (Some c.in-Some.g.now) from_one there)

pub returns-in-None : goal.returns-in-None
returns-in-None c =
    let from_one : c.args.place ≡ suc (c.args.place - 1) = omega (arith, c.if-place-eq0.false) in
    let (_, _, _, past, _) = c.in-None.ensures.lookup in
    let none = slice_get_past c.deref.result.now (c.args.place - 1) past in
    let there = rw c.deref.ensures.value at none in
    rw (← c.s.view_is) (name-at c.s.inside.grades.items c.args.place (c.args.place - 1) None from_one there)
