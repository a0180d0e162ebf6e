-- What an edit does to a problem: the rows after it, or the need that isn't met.
use Rattle.std.specs.Prelude.{is_some, Result, Ok, Err, if◌then◌else◌}
use Rattle.sut_tables.specs.ProblemFacts.{ProblemFacts}
use Rattle.sut_tables.specs.Problems.{row_at}
use Rattle.sut_tables.specs.Changes.{with_row, row_replaced, row_removed, has_room}
use Rattle.sut_edits.specs.declared.edits.Edit.{Edit}
use Rattle.sut_edits.specs.declared.edits.Edit.TheVariants as edit
use Rattle.sut_edits.specs.declared.faults.EditFault.{EditFault}
use Rattle.sut_edits.specs.declared.faults.EditFault.TheVariants as fault

-- A set or drop needs the measure's row; an add needs that there is none, and room for it. Other edits change no row.
abbrev pub edited : ProblemFacts → Edit → Result ProblemFacts EditFault
edited p (edit.Set r) = if is_some (row_at p r.measure) then Ok (row_replaced p r) else Err fault.NoRow
edited p (edit.Add r) =
    if is_some (row_at p r.measure) then Err fault.RowThere
    else if has_room p r.measure then Ok (with_row p r)
    else Err fault.Full
edited p (edit.Drop m) = if is_some (row_at p m) then Ok (row_removed p m) else Err fault.NoRow
edited p edit.Balance = Ok p
edited p (edit.Dismiss label) = Ok p
