use Rattle.std.proofs.Common.{◌≡◌, ◌∙◌, ◌≤◌, ◌<◌, ◌++◌, ◌∷◌, [], cond, length, map, append-nil, None, Some, Ok, Err, string_bytes, sym, ap, arith}
use Rattle.toml.specs.View.{members_view, view}
use Rattle.sut_classes.proofs.CodeLemmas.{on-ok}
use Rattle.sut_classes.specs.ClassFile.{is_code}
use Rattle.sut_settings.specs.SettingsFile.{grades_of, number_of, settings_from}
use Rattle.sut_settings.specs.SettingsView.{grade_facts, is_relative}
use Rattle.sut_settings.specs.declared.SettingsFault.TheVariants as fault
use Rattle.sut_settings.proofs.ReadLemmas.{bad-grade, few-grades, many-grades, one-grade, read-settings, after}
use Rattle.sut_settings.proofs.read.read_grades.Goals as goal

pub returns-then-len-gt-MOST_GRADES : goal.returns-then-len-gt-MOST_GRADES
returns-then-len-gt-MOST_GRADES c = λ _.
    let many : 64 < length c.args.table.now.entries = omega (arith, c.len.ensures.len, c.if-len-gt-MOST_GRADES.true) in
    sym (many-grades c.args.table.now.entries _ many)

pub returns-in_default : goal.returns-in_default
returns-in_default c = λ _.
    let few : length c.args.table.now.entries ≤ 64 = omega (arith, c.len.ensures.len, c.if-len-gt-MOST_GRADES.false) in
    let none : cond (is_code (string_bytes c.in-Some.name.now)) (number_of (is_relative c.args.scheme) (view c.in-Some.value.now)) None ≡ None =
    rw (← c.as_bytes.ensures.value) (sym c.grade_number.ensures ∙ c.in_default.is) in
    let left = rw c.in-Some.ensures.steps at c.grades.invariant.read in
    let bad : grades_of (is_relative c.args.scheme) 1 (members_view c.args.table.now.entries) ≡ Err (fault.BadGrade c.grades.entry) =
    left ∙ ap (after (map grade_facts c.grades.grades.items)) (bad-grade (is_relative c.args.scheme) c.grades.entry (string_bytes c.in-Some.name.now) (view c.in-Some.value.now) (members_view c.next.new.self) none) in
    sym (few-grades c.args.table.now.entries _ few ∙ ap (settings_from (is_relative c.args.scheme)) bad)

pub grades-preserved : goal.grades-preserved
grades-preserved c =
    let number : cond (is_code (string_bytes c.in-Some.name.now)) (number_of (is_relative c.args.scheme) (view c.in-Some.value.now)) None ≡ Some c.in-Some-grade_number.number =
    rw (← c.as_bytes.ensures.value) (sym c.grade_number.ensures ∙ c.in-Some-grade_number.is) in
    let left = rw c.in-Some.ensures.steps at c.grades.invariant.read in
    let counted = rw c.in-Some.ensures.steps at c.grades.invariant.counted in
    let grown : map grade_facts c.add_grade.new.grades.items ≡ map grade_facts c.grades.grades.items ++ (record { name = string_bytes c.in-Some.name.now; number = c.in-Some-grade_number.number }) ∷ [] =
    rw (← c.as_bytes-in-grades.ensures.value) (on-ok c.add_grade.result (sym c.if-is_err.ensures.value) c.add_grade.ensures) in
    record {
      read = rw grown (left ∙ one-grade (is_relative c.args.scheme) c.grades.entry (string_bytes c.in-Some.name.now) (view c.in-Some.value.now) (members_view c.next.new.self) (map grade_facts c.grades.grades.items) _ number);
      counted = omega (arith, counted);
    }

all-read : (c : goal.In-None) → grades_of (is_relative c.args.scheme) 1 (members_view c.args.table.now.entries) ≡ Ok (map grade_facts c.grades.grades.items)
all-read c = let left = rw c.in-None.ensures.steps.0 at c.grades.invariant.read in left ∙ ap Ok (append-nil (map grade_facts c.grades.grades.items))

pub invariant_of-result : goal.invariant_of-result
invariant_of-result c =
    let few : length c.args.table.now.entries ≤ 64 = omega (arith, c.len.ensures.len, c.if-len-gt-MOST_GRADES.false) in
    read-settings (is_relative c.args.scheme) c.args.table.now.entries (map grade_facts c.grades.grades.items) few c.len.ensures.ordered (all-read c)

pub returns : goal.returns
returns c = λ _.
    let few : length c.args.table.now.entries ≤ 64 = omega (arith, c.len.ensures.len, c.if-len-gt-MOST_GRADES.false) in
    sym (few-grades c.args.table.now.entries _ few ∙ ap (settings_from (is_relative c.args.scheme)) (all-read c))
