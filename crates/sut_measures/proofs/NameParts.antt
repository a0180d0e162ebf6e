-- What a read field says of what is read: a code or a column that is there, or nothing.
use Rattle.std.proofs.Common.{◌≡◌, ℕ, Bool, true, false, List, [], ◌∷◌, Option, Some, None, Result, length, refl, arith}
use Rattle.std.specs.Prelude.{IsTrue, IfOk, nat_lt, ◌==◌, ◌&&◌}
use Rattle.std.proofs.lemmas.Bool.{eqb-true}
use Rattle.sut_records.specs.FirstFault.{only_if, or_fault}
use Rattle.sut_classes.specs.ClassLists.{ClassLists}
use Rattle.sut_classes.specs.Places.{column_of, place_of}
use Rattle.sut_classes.specs.declared.ids.Axis.{Axis}
use Rattle.sut_classes.specs.declared.ids.Column.{Column}
use Rattle.sut_measures.specs.Fits.{has_column}
use Rattle.sut_measures.specs.Names.{code, column_code}
use Rattle.sut_measures.specs.Shapes.{length_of}
use Rattle.sut_measures.specs.ReadNames.{code_in, column_in, nothing_in}
use Rattle.sut_measures.specs.declared.faults.Field.{Field}
use Rattle.sut_measures.specs.declared.faults.NameFault.{NameFault}
use Rattle.sut_measures.proofs.CodePlaces.{code-place_of, column-column_of}

or_fault-parts : {A R F : Type 0} (o : Option A) (fault : F) (next : A → Result R F) (P : R → Type 0)
    → ((x : A) → o ≡ Some x → IfOk (next x) P) → IfOk (or_fault o fault next) P
or_fault-parts (Some x) fault next P each = each x refl
or_fault-parts None fault next P each = tt

pub code_in-parts : {R : Type 0} (cs : ClassLists) (a : Axis) (at : Field) (text : List ℕ) (next : ℕ → Result R NameFault) (P : R → Type 0)
    → ((n : ℕ) → IsTrue (nat_lt n (length_of cs a)) → code cs a n ≡ text → IfOk (next n) P)
    → IfOk (code_in cs a at text next) P
code_in-parts cs a at text next P each =
    or_fault-parts (place_of cs a text) _ next P (λ n e. let h = code-place_of cs a text n e in each n h.0 h.1)

pub column_in-parts : {R : Type 0} (cs : ClassLists) (at : Field) (text : List ℕ) (next : Column → Result R NameFault) (P : R → Type 0)
    → ((q : Column) → IsTrue (has_column cs q) → column_code cs q ≡ text → IfOk (next q) P)
    → IfOk (column_in cs at text next) P
column_in-parts cs at text next P each =
    or_fault-parts (column_of cs text) _ next P (λ q e. let h = column-column_of cs text q e in each q h.0 h.1)

pub only_if-parts : {R F : Type 0} (b : Bool) (fault : F) (next : Result R F) (P : R → Type 0)
    → (b ≡ true → IfOk next P) → IfOk (only_if b fault next) P
only_if-parts true fault next P each = each refl
only_if-parts false fault next P each = tt

no-length : (text : List ℕ) → (length text == 0) ≡ true → [] ≡ text
no-length [] e = refl
no-length (x ∷ xs) e = absurd (omega (arith, eqb-true (length (x ∷ xs)) 0 e))

pub nothing_in-parts : {R : Type 0} (at : Field) (text : List ℕ) (next : Result R NameFault) (P : R → Type 0)
    → ([] ≡ text → IfOk next P) → IfOk (nothing_in at text next) P
nothing_in-parts at text next P each = only_if-parts (length text == 0) _ next P (λ e. each (no-length text e))

pub both : {x y : Bool} → IsTrue x → IsTrue y → IsTrue (x && y)
both {x} {y} hx hy = rw (hx, hy)
