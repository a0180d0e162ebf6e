-- What a result that is no fault says of each step.
use Rattle.std.proofs.Common.{◌≡◌, Bool, true, false, Result, Ok, Err, refl}
use Rattle.sut_records.specs.FirstFault.{and_then, fault_as, only_if}

pub only_if-passed : {B F : Type 0} (test : Bool) (fault : F) (next : Result B F) (b : B) → only_if test fault next ≡ Ok b → (test ≡ true) × (next ≡ Ok b)
only_if-passed true fault next b e = (refl, e)
only_if-passed false fault next b e = absurd cc

pub and_then-passed : {A B F : Type 0} (r : Result A F) (next : A → Result B F) (b : B) → and_then r next ≡ Ok b → (a : A) × (r ≡ Ok a) × (next a ≡ Ok b)
and_then-passed (Ok a) next b e = (a, refl, e)
and_then-passed (Err f) next b e = absurd cc

pub fault_as-passed : {A F G : Type 0} (name : F → G) (r : Result A F) (a : A) → fault_as name r ≡ Ok a → r ≡ Ok a
fault_as-passed name (Ok x) a e = cc
fault_as-passed name (Err f) a e = absurd cc
