-- What is read of any word: the kind's reading where the word is a kind's, and then it fits and is the name read.
use Rattle.std.proofs.Common.{◌≡◌, ℕ, Bool, true, false, List, [], Option, Some, None, Result, Ok, refl, sym, ◌∙◌, ap, subst}
use Rattle.std.specs.Prelude.{IsTrue, IfOk, ◌==◌, if◌then◌else◌}
use Rattle.std.proofs.lemmas.Result.{IfOk-weaker}
use Rattle.sut_records.specs.FirstFault.{and_then, only_if, or_fault}
use Rattle.sut_classes.specs.ClassLists.{ClassLists}
use Rattle.sut_measures.specs.Fits.{fits, account_fits}
use Rattle.sut_measures.specs.Kinds.{kind_named, cell_kinds, cell_word, total_kinds, total_word, group_kinds, group_word, account_kinds, account_word, group_account_kinds, group_account_word}
use Rattle.sut_measures.specs.Names.{name3, account2}
use Rattle.sut_measures.specs.ReadNames.{account_of, measure_of, nothing_in}
use Rattle.sut_measures.specs.declared.accounts.Account.{Account}
use Rattle.sut_measures.specs.declared.faults.Field.TheVariants as field
use Rattle.sut_measures.specs.declared.faults.NameFault.{NameFault}
use Rattle.sut_measures.specs.declared.kinds.AccountKind.{AccountKind}
use Rattle.sut_measures.specs.declared.kinds.CellKind.{CellKind}
use Rattle.sut_measures.specs.declared.kinds.GroupAccountKind.{GroupAccountKind}
use Rattle.sut_measures.specs.declared.kinds.GroupKind.{GroupKind}
use Rattle.sut_measures.specs.declared.kinds.GroupKind.TheVariants as group
use Rattle.sut_measures.specs.declared.kinds.TotalKind.{TotalKind}
use Rattle.sut_measures.specs.declared.kinds.TotalKind.TheVariants as total
use Rattle.sut_measures.specs.declared.measures.Measure.{Measure}
use Rattle.sut_measures.proofs.KindLemmas.{word-named, measure_of-none, account_of-none}
use Rattle.sut_measures.proofs.NamedLemmas.{IsNamed, IsAccountNamed, cell-named, total-named, group-named, account-named, group_account-named}

pub and_then-or_fault : {A B C F : Type 0} (o : Option A) (fault : F) (next : A → Result B F) (more : B → Result C F)
    → and_then (or_fault o fault next) more ≡ or_fault o fault (λ x. and_then (next x) more)
and_then-or_fault (Some x) fault next more = refl
and_then-or_fault None fault next more = refl

pub and_then-only_if : {B C F : Type 0} (b : Bool) (fault : F) (next : Result B F) (more : B → Result C F)
    → and_then (only_if b fault next) more ≡ only_if b fault (and_then next more)
and_then-only_if true fault next more = refl
and_then-only_if false fault next more = refl

-- what is read of a and b alone, and then of c
abbrev pub with_c : List ℕ → Result Measure NameFault → Result Measure NameFault
with_c c read = and_then read (λ m. nothing_in field.C c (Ok m))

total-then_c : (cs : ClassLists) (kind : TotalKind) (a b c : List ℕ) → with_c c (measure_of cs (total_word kind) a b []) ≡ measure_of cs (total_word kind) a b c
unfolding measure_of
total-then_c cs total.Purchase a b c = simp (and_then-or_fault, and_then-only_if)
total-then_c cs total.Supply a b c = simp (and_then-or_fault, and_then-only_if)
total-then_c cs total.Output a b c = simp (and_then-or_fault, and_then-only_if)
total-then_c cs total.Inputs a b c = simp (and_then-or_fault, and_then-only_if)
total-then_c cs total.ValueAdded a b c = simp (and_then-or_fault, and_then-only_if)
total-then_c cs total.ItemTotal a b c = simp (and_then-or_fault, and_then-only_if)
total-then_c cs total.FinalTotal a b c = simp (and_then-or_fault, and_then-only_if)
total-then_c cs total.ImportTotal a b c = simp and_then-only_if
total-then_c cs total.MarginTotal a b c = simp (and_then-or_fault, and_then-only_if)
total-then_c cs total.MarginProduct a b c = simp (and_then-or_fault, and_then-only_if)
total-then_c cs total.TaxTotal a b c = simp (and_then-or_fault, and_then-only_if)
total-then_c cs total.TaxProduct a b c = simp (and_then-or_fault, and_then-only_if)
total-then_c cs total.Gdp a b c = simp and_then-only_if

group-then_c : (cs : ClassLists) (kind : GroupKind) (a b c : List ℕ) → with_c c (measure_of cs (group_word kind) a b []) ≡ measure_of cs (group_word kind) a b c
unfolding measure_of
group-then_c cs group.Make a b c = simp (and_then-or_fault, and_then-only_if)
group-then_c cs group.Import a b c = simp (and_then-or_fault, and_then-only_if)
group-then_c cs group.Purchase a b c = simp (and_then-or_fault, and_then-only_if)
group-then_c cs group.Margin a b c = simp (and_then-or_fault, and_then-only_if)
group-then_c cs group.Tax a b c = simp (and_then-or_fault, and_then-only_if)
group-then_c cs group.Item a b c = simp (and_then-or_fault, and_then-only_if)

pub cell-read : (cs : ClassLists) (word a b c : List ℕ) (kind : CellKind) → kind_named cell_word cell_kinds word ≡ Some kind
    → measure_of cs (cell_word kind) a b c ≡ measure_of cs word a b c
cell-read cs word a b c kind h = ap (λ w. measure_of cs w a b c) (sym (word-named cell_word cell_kinds word kind h))

pub total-read : (cs : ClassLists) (word a b c : List ℕ) (kind : TotalKind) → kind_named total_word total_kinds word ≡ Some kind
    → and_then (measure_of cs (total_word kind) a b []) (λ m. nothing_in field.C c (Ok m)) ≡ measure_of cs word a b c
total-read cs word a b c kind h =
    total-then_c cs kind a b c ∙ ap (λ w. measure_of cs w a b c) (sym (word-named total_word total_kinds word kind h))

pub group_named : {K : Type 0} (b : Bool) (found : Option K) (kind : K) → (if b then found else None) ≡ Some kind → (b ≡ true) × (found ≡ Some kind)
group_named true found kind h = (refl, h)
group_named false found kind h = absurd cc

pub group-read : (cs : ClassLists) (word a b c : List ℕ) (kind : GroupKind) → (if cs.format == 2 then kind_named group_word group_kinds word else None) ≡ Some kind
    → and_then (measure_of cs (group_word kind) a b []) (λ m. nothing_in field.C c (Ok m)) ≡ measure_of cs word a b c
group-read cs word a b c kind h =
    let found = group_named (cs.format == 2) (kind_named group_word group_kinds word) kind h in
    group-then_c cs kind a b c ∙ ap (λ w. measure_of cs w a b c) (sym (word-named group_word group_kinds word kind found.1))

pub account-read : (cs : ClassLists) (word a b : List ℕ) (kind : AccountKind) → kind_named account_word account_kinds word ≡ Some kind
    → account_of cs (account_word kind) a b ≡ account_of cs word a b
account-read cs word a b kind h = ap (λ w. account_of cs w a b) (sym (word-named account_word account_kinds word kind h))

pub group_account-read : (cs : ClassLists) (word a b : List ℕ) (kind : GroupAccountKind)
    → (if cs.format == 2 then kind_named group_account_word group_account_kinds word else None) ≡ Some kind
    → account_of cs (group_account_word kind) a b ≡ account_of cs word a b
group_account-read cs word a b kind h =
    let found = group_named (cs.format == 2) (kind_named group_account_word group_account_kinds word) kind h in
    ap (λ w. account_of cs w a b) (sym (word-named group_account_word group_account_kinds word kind found.1))

-- ---- what is read fits, and its name is the one that was read

named-by : (cs : ClassLists) (word a b c : List ℕ) (cell : Option CellKind) (total : Option TotalKind) (group : Option GroupKind)
    → kind_named cell_word cell_kinds word ≡ cell → kind_named total_word total_kinds word ≡ total
    → (if cs.format == 2 then kind_named group_word group_kinds word else None) ≡ group
    → IfOk (measure_of cs word a b c) (IsNamed cs (name3 word a b c))
named-by cs word a b c (Some k) total group ec et eg =
    let P : List ℕ → Type 0 = λ w. IfOk (measure_of cs w a b c) (IsNamed cs (name3 w a b c)) in
    subst P (sym (word-named cell_word cell_kinds word k ec)) (cell-named cs k a b c)
named-by cs word a b c None (Some k) group ec et eg =
    let P : List ℕ → Type 0 = λ w. IfOk (measure_of cs w a b c) (IsNamed cs (name3 w a b c)) in
    subst P (sym (word-named total_word total_kinds word k et)) (total-named cs k a b c)
named-by cs word a b c None None (Some k) ec et eg =
    let P : List ℕ → Type 0 = λ w. IfOk (measure_of cs w a b c) (IsNamed cs (name3 w a b c)) in
    let found = group_named (cs.format == 2) (kind_named group_word group_kinds word) k eg in
    subst P (sym (word-named group_word group_kinds word k found.1)) (group-named cs k a b c)
named-by cs word a b c None None None ec et eg = rw (measure_of-none cs word a b c ec et eg) tt

pub measure_of-named : (cs : ClassLists) (word a b c : List ℕ) → IfOk (measure_of cs word a b c) (IsNamed cs (name3 word a b c))
measure_of-named cs word a b c =
    named-by cs word a b c (kind_named cell_word cell_kinds word) (kind_named total_word total_kinds word)
    (if cs.format == 2 then kind_named group_word group_kinds word else None) refl refl refl

account-named-by : (cs : ClassLists) (word a b : List ℕ) (plain : Option AccountKind) (group : Option GroupAccountKind)
    → kind_named account_word account_kinds word ≡ plain
    → (if cs.format == 2 then kind_named group_account_word group_account_kinds word else None) ≡ group
    → IfOk (account_of cs word a b) (IsAccountNamed cs (account2 word a b))
account-named-by cs word a b (Some k) group ep eg =
    let P : List ℕ → Type 0 = λ w. IfOk (account_of cs w a b) (IsAccountNamed cs (account2 w a b)) in
    subst P (sym (word-named account_word account_kinds word k ep)) (account-named cs k a b)
account-named-by cs word a b None (Some k) ep eg =
    let P : List ℕ → Type 0 = λ w. IfOk (account_of cs w a b) (IsAccountNamed cs (account2 w a b)) in
    let found = group_named (cs.format == 2) (kind_named group_account_word group_account_kinds word) k eg in
    subst P (sym (word-named group_account_word group_account_kinds word k found.1)) (group_account-named cs k a b)
account-named-by cs word a b None None ep eg = rw (account_of-none cs word a b ep eg) tt

pub account_of-named : (cs : ClassLists) (word a b : List ℕ) → IfOk (account_of cs word a b) (IsAccountNamed cs (account2 word a b))
account_of-named cs word a b =
    account-named-by cs word a b (kind_named account_word account_kinds word)
    (if cs.format == 2 then kind_named group_account_word group_account_kinds word else None) refl refl

pub fits-read : (cs : ClassLists) (word a b c : List ℕ) (r : Result Measure NameFault) → r ≡ measure_of cs word a b c → IfOk r (λ m. IsTrue (fits cs m))
fits-read cs word a b c r e =
    let P : Result Measure NameFault → Type 0 = λ s. IfOk s (λ m. IsTrue (fits cs m)) in
    subst P (sym e) (IfOk-weaker (measure_of cs word a b c) (IsNamed cs (name3 word a b c)) (λ m. IsTrue (fits cs m)) (λ m h. h.0) (measure_of-named cs word a b c))

pub account_fits-read : (cs : ClassLists) (word a b : List ℕ) (r : Result Account NameFault) → r ≡ account_of cs word a b → IfOk r (λ x. IsTrue (account_fits cs x))
account_fits-read cs word a b r e =
    let P : Result Account NameFault → Type 0 = λ s. IfOk s (λ x. IsTrue (account_fits cs x)) in
    subst P (sym e) (IfOk-weaker (account_of cs word a b) (IsAccountNamed cs (account2 word a b)) (λ x. IsTrue (account_fits cs x)) (λ x h. h.0) (account_of-named cs word a b))
