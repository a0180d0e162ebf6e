-- The names of the files of a series.
use Rattle.std.proofs.Common.{◌≡◌, ◌<◌, ◌≤◌, ◌∙◌, ℕ, zero, suc, false, List, [], ◌∷◌, ◌++◌, Some, Contains, All, length, take, get_or, ap, sym, refl, subst, arith}
use Rattle.std.specs.Prelude.{slice_get}
use Rattle.std.specs.List.{AllByRecursion}
use Rattle.std.proofs.lemmas.List.{get_or-take, length-take, length-take-le}
use Rattle.std.proofs.lemmas.List.Elements.{All-contains, All-from_recursion}
use Rattle.std.proofs.lemmas.Option.{get_or_from_slice_get, slice_get_within}
use Rattle.sut_outside.specs.declared.names.FileName.{FileName}
use Rattle.sut_outside.specs.declared.names.FileName.TheVariants.{SettingsToml, ClassesCsv, Year2Csv, Year3Csv, Year4Csv, Year5Csv, Year6Csv, Year7Csv, Year8Csv, Year9Csv, DismissCsv}
use Rattle.sut_outside.specs.Deliveries.{same_name}
use Rattle.sut_input.specs.SeriesInputs.{year_names}
use Rattle.sut_input.proofs.FollowingSteps.{only-one}

-- ---- lists

same-value : {X : Type 0} (x y : X) → Some x ≡ Some y → x ≡ y
same-value x y h = cc

-- the elements before one, that one, and those that follow it
pub split-at : {X : Type 0} (xs : List X) (i n : ℕ) (x : X) → i < n → slice_get xs i ≡ Some x → (rest : List X) × (take n xs ≡ take i xs ++ x ∷ rest)
split-at [] i n x below h = absurd cc
split-at (y ∷ ys) i zero x below h = absurd (omega arith)
split-at (y ∷ ys) zero (suc n) x below h = (take n ys, ap (λ z. z ∷ take n ys) (same-value y x h))
split-at (y ∷ ys) (suc i) (suc n) x below h =
    let rest = split-at ys i n x (omega arith) h in
    (rest.0, ap (λ zs. y ∷ zs) rest.1)

-- the elements up to one
pub take-one : {X : Type 0} (xs : List X) (i : ℕ) (x : X) → slice_get xs i ≡ Some x → take (suc i) xs ≡ take i xs ++ x ∷ []
take-one [] i x h = absurd cc
take-one (y ∷ ys) zero x h = ap (λ z. z ∷ []) (same-value y x h)
take-one (y ∷ ys) (suc i) x h = ap (λ zs. y ∷ zs) (take-one ys i x h)

pub taken : {X : Type 0} (P : X → Type 0) (xs : List X) (n : ℕ) → AllByRecursion P xs → AllByRecursion P (take n xs)
taken P [] zero h = tt
taken P [] (suc n) h = tt
taken P (x ∷ xs) zero h = tt
taken P (x ∷ xs) (suc n) h = (h.0, taken P xs n h.1)

-- ---- names in a list

pub tail-name : (name : FileName) (names : List FileName) (n : FileName) → Contains names n → Contains (name ∷ names) n
tail-name name names n (k, below, is) = (suc k, omega arith, is)

pub front-name : (names more : List FileName) (n : FileName) → Contains names n → Contains (names ++ more) n
front-name [] more n (k, below, is) = absurd (omega arith)
front-name (name ∷ names) more n (zero, below, is) = (0, omega arith, is)
front-name (name ∷ names) more n (suc k, below, is) = tail-name name (names ++ more) n (front-name names more n (k, omega arith, is))

pub back-name : (names more : List FileName) (n : FileName) → Contains more n → Contains (names ++ more) n
back-name [] more n h = h
back-name (name ∷ names) more n h = tail-name name (names ++ more) n (back-name names more n h)

-- ---- the names of the years

-- the file of a year is one of the files of the first years
pub year-among : (years before : ℕ) (name : FileName) → before < years → slice_get year_names before ≡ Some name → (n : FileName) → Contains (name ∷ []) n → Contains (take years year_names) n
year-among years before name below is n h =
    let within : before < length year_names = slice_get_within year_names before name is in
    let there : before < length (take years year_names) = omega (arith, length-take years year_names) in
    let at : get_or (take years year_names) before name ≡ name = get_or-take years year_names before name below ∙ get_or_from_slice_get year_names before name name is in
    subst (Contains (take years year_names)) (sym (only-one name n h)) (before, there, at)

-- so many names
pub so-many : (years : ℕ) → years ≤ 9 → length (take years year_names) ≡ years
so-many years few = length-take-le years year_names few

-- the file of a year is none of those before it
pub others-before : (before : ℕ) (name : FileName) → slice_get year_names before ≡ Some name → AllByRecursion (λ n. same_name name n ≡ false) (take before year_names)
others-before zero name h = tt
others-before (suc zero) name h = subst (λ (m : FileName). AllByRecursion (λ n. same_name m n ≡ false) (take 1 year_names)) (same-value Year2Csv name h) (refl, tt)
others-before (suc (suc zero)) name h = subst (λ (m : FileName). AllByRecursion (λ n. same_name m n ≡ false) (take 2 year_names)) (same-value Year3Csv name h) (refl, (refl, tt))
others-before (suc (suc (suc zero))) name h = subst (λ (m : FileName). AllByRecursion (λ n. same_name m n ≡ false) (take 3 year_names)) (same-value Year4Csv name h) (refl, (refl, (refl, tt)))
others-before (suc (suc (suc (suc zero)))) name h = subst (λ (m : FileName). AllByRecursion (λ n. same_name m n ≡ false) (take 4 year_names)) (same-value Year5Csv name h) (refl, (refl, (refl, (refl, tt))))
others-before (suc (suc (suc (suc (suc zero))))) name h =
    subst (λ (m : FileName). AllByRecursion (λ n. same_name m n ≡ false) (take 5 year_names)) (same-value Year6Csv name h) (refl, (refl, (refl, (refl, (refl, tt)))))
others-before (suc (suc (suc (suc (suc (suc zero)))))) name h =
    subst (λ (m : FileName). AllByRecursion (λ n. same_name m n ≡ false) (take 6 year_names)) (same-value Year7Csv name h) (refl, (refl, (refl, (refl, (refl, (refl, tt))))))
others-before (suc (suc (suc (suc (suc (suc (suc zero))))))) name h =
    subst (λ (m : FileName). AllByRecursion (λ n. same_name m n ≡ false) (take 7 year_names)) (same-value Year8Csv name h) (refl, (refl, (refl, (refl, (refl, (refl, (refl, tt)))))))
others-before (suc (suc (suc (suc (suc (suc (suc (suc zero)))))))) name h =
    subst (λ (m : FileName). AllByRecursion (λ n. same_name m n ≡ false) (take 8 year_names)) (same-value Year9Csv name h) (refl, (refl, (refl, (refl, (refl, (refl, (refl, (refl, tt))))))))
others-before (suc (suc (suc (suc (suc (suc (suc (suc (suc k))))))))) name h = absurd cc

-- that of the dismissals is none of them
pub not-dismissals : (years : ℕ) → AllByRecursion (λ n. same_name DismissCsv n ≡ false) (take years year_names)
not-dismissals years = taken (λ n. same_name DismissCsv n ≡ false) year_names years (refl, (refl, (refl, (refl, (refl, (refl, (refl, (refl, (refl, tt)))))))))

-- none of them is that of the classes
pub not-classes : (years : ℕ) (n : FileName) → Contains (take years year_names) n → same_name n ClassesCsv ≡ false
not-classes years n h =
    let each : All (λ m. same_name m ClassesCsv ≡ false) (take years year_names) = All-from_recursion (λ m. same_name m ClassesCsv ≡ false) (take years year_names) (taken (λ m. same_name m ClassesCsv ≡ false) year_names years (refl, (refl, (refl, (refl, (refl, (refl, (refl, (refl, (refl, tt)))))))))) in
    All-contains (λ m. same_name m ClassesCsv ≡ false) (take years year_names) n each h

-- none of them, and not that of the classes, is that of the settings
pub not-settings : (years : ℕ) (n : FileName) → Contains (ClassesCsv ∷ take years year_names) n → same_name n SettingsToml ≡ false
not-settings years n h =
    let each : All (λ m. same_name m SettingsToml ≡ false) (ClassesCsv ∷ take years year_names) = All-from_recursion (λ m. same_name m SettingsToml ≡ false) (ClassesCsv ∷ take years year_names) (refl, taken (λ m. same_name m SettingsToml ≡ false) year_names years (refl, (refl, (refl, (refl, (refl, (refl, (refl, (refl, (refl, tt)))))))))) in
    All-contains (λ m. same_name m SettingsToml ≡ false) (ClassesCsv ∷ take years year_names) n each h
