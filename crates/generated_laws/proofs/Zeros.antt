-- A table of zeros is admissible where 0 lies within the bounds of each row.
use Rattle.std.proofs.Common.{◌≡◌, ◌∷◌, ◌∙◌, pos, List, [], Bool, true, false, map, refl, sym, subst}
use Rattle.std.specs.Prelude.{All, if◌then◌else◌, ◌≤ℤ◌, ◌*ℤ◌}
use Rattle.std.proofs.lemmas.List.Elements.{All-weaker}
use Rattle.std.proofs.Math.IntN.{*ℤ-zero}
use Rattle.sut_measures.specs.Sums.{factor, same_cell}
use Rattle.sut_measures.specs.declared.measures.Cell.{Cell}
use Rattle.sut_measures.specs.declared.measures.Measure.{Measure}
use Rattle.sut_measures.specs.declared.measures.Measure.TheVariants as measure
use Rattle.sut_classes.specs.Groups.{Groups}
use Rattle.sut_measures.specs.declared.measures.Total.{Total}
use Rattle.sut_tables.specs.Costs.{IsAdmissible, IsWithin}
use Rattle.sut_tables.specs.ProblemFacts.{ProblemFacts}
use Rattle.sut_tables.specs.Problems.{cell_rows}
use Rattle.sut_tables.specs.RowFacts.{RowFacts}
use Rattle.sut_tables.specs.Tables.{zeros}
use Rattle.sut_tables.specs.Values.{int_sum_by, number_at, sum_where, value_of}
use Rattle.sut_tables.specs.declared.tables.Held.{Held}
use Rattle.sut_tables.proofs.ZeroTables.{cells-zeros, zero_held}

-- 0 lies within the row's bounds
pub record HoldsZero (r : RowFacts) : Type 0 where
  pub lower : r.lower ≤ℤ pos 0
  pub upper : pos 0 ≤ℤ r.upper

either : (b : Bool) → (if b then pos 0 else pos 0) ≡ pos 0
either true = refl
either false = refl

sum-zero : (q : Cell → Bool) (cs : List Cell) → sum_where q (map zero_held cs) ≡ pos 0
sum-zero q [] = refl
sum-zero q (c ∷ cs) = rw (either (q c), sum-zero q cs) refl

number-zero : (cs : List Cell) (c : Cell) → number_at (map zero_held cs) c ≡ pos 0
number-zero [] c = refl
number-zero (d ∷ cs) c = rw (number-zero cs c) (either (same_cell d c))

total-zero : (gs : Groups) (u : Total) (cs : List Cell) → int_sum_by (λ (h : Held). factor gs h.cell u *ℤ h.number) (map zero_held cs) ≡ pos 0
total-zero gs u [] = refl
total-zero gs u (c ∷ cs) = rw (*ℤ-zero (factor gs c u), total-zero gs u cs) refl

value-zero : (p : ProblemFacts) (m : Measure) → value_of (zeros p) m ≡ pos 0
value-zero p (measure.Cell c) = number-zero (cell_rows p) c
value-zero p (measure.Total u) = total-zero ((zeros p).groups) u (cell_rows p)

pub zeros-admissible : (p : ProblemFacts) → All HoldsZero p.rows → IsAdmissible p (zeros p)
zeros-admissible p holds =
    let cs = cell_rows p in
    record {
      of_problem = record { cells = cells-zeros cs; groups = refl };
      identities = record {
        products = λ i. sum-zero _ cs ∙ sym (sum-zero _ cs);
        industries = λ j. sum-zero _ cs ∙ sym (sum-zero _ cs);
        margins = λ k. sum-zero _ cs ∙ sym (sum-zero _ cs);
      };
      bounds = All-weaker HoldsZero (IsWithin (zeros p))
          (λ r h. record { above = subst (λ x. r.lower ≤ℤ x) (sym (value-zero p r.measure)) h.lower; below = subst (λ x. x ≤ℤ r.upper) (sym (value-zero p r.measure)) h.upper }) p.rows holds;
    }
