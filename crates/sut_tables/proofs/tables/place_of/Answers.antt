use Rattle.std.proofs.Common.{rules, subst, Result, ℕ, MatchResult, length, ◌<◌, ◌≡◌, false}
use Rattle.std.specs.List.{HoldsAt}
use Rattle.std.proofs.lemmas.List.Sorted.{answers_always}
use Rattle.sut_tables.specs.declared.tables.Held.{Held}
use Rattle.sut_tables.specs.Tables.{holds}
use Rattle.sut_tables.proofs.HeldCells.{searched}
use Rattle.sut_tables.proofs.tables.place_of.Goals as goal

pub returns-in-Ok-clause-held : goal.returns-in-Ok-clause-held
returns-in-Ok-clause-held c =
    let facts = c.binary_search_by_key.ensures in
    let by_key = facts.position (λ (h : Held). h.cell) (answers_always _ _ _ (λ f a r g called. search rules)) in
    let found = searched c.args.cells.now c.requires c.args.c c.binary_search_by_key.result facts.bound by_key in
    rw c.in-Ok.is at found

pub returns-in-Err-clause-absent : goal.returns-in-Err-clause-absent
returns-in-Err-clause-absent c =
    let facts = c.binary_search_by_key.ensures in
    let by_key = facts.position (λ (h : Held). h.cell) (answers_always _ _ _ (λ f a r g called. search rules)) in
    let found = searched c.args.cells.now c.requires c.args.c c.binary_search_by_key.result facts.bound by_key in
    rw c.in-Err.is at found
