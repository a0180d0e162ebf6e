use Rattle.std.proofs.Common.{◌∙◌, ap, sym}
use Rattle.sut_measures.proofs.KindLemmas.{measure_of-none}
use Rattle.sut_measures.proofs.ReadLemmas.{with_c, cell-read, total-read, group-read, fits-read}
use Rattle.sut_measures.proofs.read_names.read_name.Goals as goal

pub returns-in-Some-clause-value : goal.returns-in-Some-clause-value
returns-in-Some-clause-value c =
    c.read_cell.ensures ∙ cell-read c.args.classes.now c.args.kind.now c.args.a.now c.args.b.now c.args.c.now c.in-Some.kind (sym c.in-Some.ensures)

pub returns-in-Some-clause-fitting : goal.returns-in-Some-clause-fitting
returns-in-Some-clause-fitting c =
    fits-read c.args.classes.now c.args.kind.now c.args.a.now c.args.b.now c.args.c.now c.read_cell.result (returns-in-Some-clause-value c)

pub returns-in-Some-total_kind-clause-value : goal.returns-in-Some-total_kind-clause-value
returns-in-Some-total_kind-clause-value c =
    c.then_nothing_in_c.ensures ∙ ap (with_c c.args.c.now) c.read_total.ensures
    ∙ total-read c.args.classes.now c.args.kind.now c.args.a.now c.args.b.now c.args.c.now c.in-Some-total_kind.kind (sym c.in-Some-total_kind.ensures)

pub returns-in-Some-total_kind-clause-fitting : goal.returns-in-Some-total_kind-clause-fitting
returns-in-Some-total_kind-clause-fitting c =
    fits-read c.args.classes.now c.args.kind.now c.args.a.now c.args.b.now c.args.c.now c.then_nothing_in_c.result
    (returns-in-Some-total_kind-clause-value c)

pub returns-in-Some-group_kind_of-clause-value : goal.returns-in-Some-group_kind_of-clause-value
returns-in-Some-group_kind_of-clause-value c =
    c.then_nothing_in_c-in-Some-group_kind_of.ensures ∙ ap (with_c c.args.c.now) c.read_group_total.ensures
    ∙ group-read c.args.classes.now c.args.kind.now c.args.a.now c.args.b.now c.args.c.now c.in-Some-group_kind_of.kind (sym c.in-Some-group_kind_of.ensures)

pub returns-in-Some-group_kind_of-clause-fitting : goal.returns-in-Some-group_kind_of-clause-fitting
returns-in-Some-group_kind_of-clause-fitting c =
    fits-read c.args.classes.now c.args.kind.now c.args.a.now c.args.b.now c.args.c.now c.then_nothing_in_c-in-Some-group_kind_of.result
    (returns-in-Some-group_kind_of-clause-value c)

pub returns-in-None-clause-value : goal.returns-in-None-clause-value
returns-in-None-clause-value c =
    sym (measure_of-none c.args.classes.now c.args.kind.now c.args.a.now c.args.b.now c.args.c.now
    (sym c.cell_kind.ensures ∙ c.in_default.is) (sym c.total_kind.ensures ∙ c.in_default-total_kind.is) (sym c.in-None.ensures))
