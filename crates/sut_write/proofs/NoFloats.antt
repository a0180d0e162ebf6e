-- A report has no float in it.
use Rattle.std.proofs.Common.{◌≡◌, ℕ, ℤ, pos, negsuc, List, false, refl}
use Rattle.serde_json.specs.Find.{is_float, of_integer}
use Rattle.serde_json.specs.Written.{has_float}
use Rattle.sut_write.specs.Reports.{balanced_data, infeasible_data}

is_float-of_integer : (z : ℤ) → is_float (of_integer z) ≡ false
is_float-of_integer (pos n) = refl
is_float-of_integer (negsuc n) = refl

pub has_float-balanced : (cost : List ℕ) (e i p : ℤ) (rows : ℕ) → has_float (balanced_data cost e i p rows) ≡ false
has_float-balanced cost e i p rows = simp is_float-of_integer

pub has_float-infeasible : (m n : ℤ) (rows : ℕ) → has_float (infeasible_data m n rows) ≡ false
has_float-infeasible m n rows = simp is_float-of_integer
