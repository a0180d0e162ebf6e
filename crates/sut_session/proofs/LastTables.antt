-- The last table after an answer was taken away, and after an edit.
use Rattle.std.proofs.Common.{◌≡◌, List, [], ◌∷◌, Bool, true, false, Option, None, Some, Ok, Err, refl, sym, ◌∙◌, ap, subst, map}
use Rattle.std.specs.Prelude.{if◌then◌else◌, is_some, IfSome}
use Rattle.std.specs.List.{filter_map}
use Rattle.sut_measures.specs.Keys.{measure_key}
use Rattle.sut_measures.proofs.KeyLemmas.{measure_key-injective}
use Rattle.sut_tables.specs.Changes.{is_of, row_replaced}
use Rattle.sut_tables.specs.ProblemFacts.{ProblemFacts}
use Rattle.sut_tables.specs.Problems.{IsTableOf, cell_of, row_at}
use Rattle.sut_tables.specs.RowFacts.{RowFacts}
use Rattle.sut_tables.specs.TableFacts.{TableFacts}
use Rattle.sut_tables.proofs.Ordered.{same-eq}
use Rattle.sut_edits.specs.Edits.{edited}
use Rattle.sut_edits.specs.declared.edits.Edit.TheVariants as edit
use Rattle.sut_edits.specs.declared.faults.EditFault.TheVariants as fault
use Rattle.sut_session.proofs.Steps.{ok-same}

-- a row in place of that of its measure has the same cell
row-cell : (r s : RowFacts) → cell_of (if is_of r.measure s then r else s).measure ≡ cell_of s.measure
row-cell r s = by (is_of r.measure s) refl
  where
    by : (b : Bool) → is_of r.measure s ≡ b → cell_of (if b then r else s).measure ≡ cell_of s.measure
    by true e = ap cell_of (measure_key-injective r.measure s.measure (sym (same-eq (measure_key s.measure) (measure_key r.measure) e)))
    by false e = refl

replaced-cells : (r : RowFacts) (rows : List RowFacts)
    → filter_map (λ (s : RowFacts). cell_of s.measure) (map (λ s. if is_of r.measure s then r else s) rows) ≡ filter_map (λ (s : RowFacts). cell_of s.measure) rows
replaced-cells r [] = refl
replaced-cells r (s ∷ rows) = rw (row-cell r s, replaced-cells r rows) refl

-- a table of a problem is one of it after a set
pub table-after_set : (last : Option TableFacts) (q p : ProblemFacts) (r : RowFacts) → IfSome last (IsTableOf q) → edited q (edit.Set r) ≡ Ok p → IfSome last (IsTableOf p)
table-after_set last q p r of e = by (is_some (row_at q r.measure)) e
  where
    replaced : (l : Option TableFacts) → IfSome l (IsTableOf q) → IfSome l (IsTableOf (row_replaced q r))
    replaced None h = h
    replaced (Some t) h = record { cells = h.cells ∙ sym (replaced-cells r q.rows); groups = h.groups }

    by : (b : Bool) → (if b then Ok (row_replaced q r) else Err fault.NoRow) ≡ Ok p → IfSome last (IsTableOf p)
    by true same = subst (λ z. IfSome last (IsTableOf z)) (ok-same (row_replaced q r) p (Ok (row_replaced q r)) refl same) (replaced last of)
    by false same = absurd cc
