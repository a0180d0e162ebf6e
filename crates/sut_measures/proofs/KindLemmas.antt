-- A word is that of one kind, or of none, and then names nothing.
use Rattle.std.proofs.Common.{◌≡◌, ℕ, Bool, true, false, List, [], ◌∷◌, Option, Some, None, Result, Err, cond, refl, ◌∙◌, ap}
use Rattle.std.specs.Prelude.{◌==◌, if◌then◌else◌, codes}
use Rattle.std.specs.Str.{bytes_eq}
use Rattle.std.proofs.lemmas.Slice.Eq.{bytes_eq-Decides}
use Rattle.sut_records.specs.FirstFault.{only_if}
use Rattle.sut_classes.specs.ClassLists.{ClassLists}
use Rattle.sut_measures.specs.Kinds.{kind_named, cell_kinds, cell_word, total_kinds, total_word, group_kinds, group_word, account_kinds, account_word, group_account_kinds, group_account_word}
use Rattle.sut_measures.specs.ReadNames.{account_of, measure_of}
use Rattle.sut_measures.specs.declared.faults.NameFault.TheVariants as fault

-- the kind named has this word
named-step : {K : Type 0} (word_of : K → List ℕ) (word : List ℕ) (k x : K) (rest : Option K) (b : Bool) → bytes_eq word (word_of x) ≡ b
    → cond b (Some x) rest ≡ Some k → (rest ≡ Some k → word ≡ word_of k) → word ≡ word_of k
named-step word_of word k x rest true e h next = let same : x ≡ k = cc in (bytes_eq-Decides word (word_of x)).0 e ∙ ap word_of same
named-step word_of word k x rest false e h next = next h

pub word-named : {K : Type 0} (word_of : K → List ℕ) (kinds : List K) (word : List ℕ) (k : K) → kind_named word_of kinds word ≡ Some k → word ≡ word_of k
word-named word_of [] word k h = absurd cc
word-named word_of (x ∷ xs) word k h = named-step word_of word k x (kind_named word_of xs word) (bytes_eq word (word_of x)) refl h (word-named word_of xs word k)

-- a test that names no kind: what is chosen is what the other tests choose
skip : {K R : Type 0} (b : Bool) (k : K) (rest : Option K) (x y r : R) → cond b (Some k) rest ≡ None → (rest ≡ None → y ≡ r) → cond b x y ≡ r
skip true k rest x y r none next = absurd cc
skip false k rest x y r none next = next none

only_in : {K R F : Type 0} (b : Bool) (fault : F) (kind : Option K) (next : Result R F) → (if b then kind else None) ≡ None → (kind ≡ None → next ≡ Err fault)
    → only_if b fault next ≡ Err fault
only_in true fault kind next none rest = rest none
only_in false fault kind next none rest = refl

pub measure_of-none : (cs : ClassLists) (word a b c : List ℕ) → kind_named cell_word cell_kinds word ≡ None → kind_named total_word total_kinds word ≡ None
    → (if cs.format == 2 then kind_named group_word group_kinds word else None) ≡ None → measure_of cs word a b c ≡ Err fault.UnknownKind
unfolding measure_of
measure_of-none cs word a b c cell total group =
    skip (bytes_eq word (codes "make")) _ _ _ _ _ cell (λ n.
    skip (bytes_eq word (codes "import")) _ _ _ _ _ n (λ n.
    skip (bytes_eq word (codes "basic")) _ _ _ _ _ n (λ n.
    skip (bytes_eq word (codes "margin")) _ _ _ _ _ n (λ n.
    skip (bytes_eq word (codes "tax")) _ _ _ _ _ n (λ n.
    skip (bytes_eq word (codes "service")) _ _ _ _ _ n (λ n.
    skip (bytes_eq word (codes "added")) _ _ _ _ _ n (λ n.
    skip (bytes_eq word (codes "purchase")) _ _ _ _ _ total (λ n.
    skip (bytes_eq word (codes "supply")) _ _ _ _ _ n (λ n.
    skip (bytes_eq word (codes "output")) _ _ _ _ _ n (λ n.
    skip (bytes_eq word (codes "inputs")) _ _ _ _ _ n (λ n.
    skip (bytes_eq word (codes "value_added")) _ _ _ _ _ n (λ n.
    skip (bytes_eq word (codes "item_total")) _ _ _ _ _ n (λ n.
    skip (bytes_eq word (codes "final_total")) _ _ _ _ _ n (λ n.
    skip (bytes_eq word (codes "import_total")) _ _ _ _ _ n (λ n.
    skip (bytes_eq word (codes "margin_total")) _ _ _ _ _ n (λ n.
    skip (bytes_eq word (codes "margin_product")) _ _ _ _ _ n (λ n.
    skip (bytes_eq word (codes "tax_total")) _ _ _ _ _ n (λ n.
    skip (bytes_eq word (codes "tax_product")) _ _ _ _ _ n (λ n.
    skip (bytes_eq word (codes "gdp")) _ _ _ _ _ n (λ n.
    only_in (cs.format == 2) _ (kind_named group_word group_kinds word) _ group (λ n.
    skip (bytes_eq word (codes "make_group")) _ _ _ _ _ n (λ n.
    skip (bytes_eq word (codes "import_group")) _ _ _ _ _ n (λ n.
    skip (bytes_eq word (codes "purchase_group")) _ _ _ _ _ n (λ n.
    skip (bytes_eq word (codes "margin_group")) _ _ _ _ _ n (λ n.
    skip (bytes_eq word (codes "tax_group")) _ _ _ _ _ n (λ n.
    skip (bytes_eq word (codes "item_group")) _ _ _ _ _ n (λ n.
    refl)))))))))))))))))))))))))))

pub account_of-none : (cs : ClassLists) (word a b : List ℕ) → kind_named account_word account_kinds word ≡ None
    → (if cs.format == 2 then kind_named group_account_word group_account_kinds word else None) ≡ None → account_of cs word a b ≡ Err fault.UnknownKind
unfolding account_of
account_of-none cs word a b plain group =
    skip (bytes_eq word (codes "supplied")) _ _ _ _ _ plain (λ n.
    skip (bytes_eq word (codes "used")) _ _ _ _ _ n (λ n.
    skip (bytes_eq word (codes "bought")) _ _ _ _ _ n (λ n.
    skip (bytes_eq word (codes "buying")) _ _ _ _ _ n (λ n.
    skip (bytes_eq word (codes "adding")) _ _ _ _ _ n (λ n.
    skip (bytes_eq word (codes "industry")) _ _ _ _ _ n (λ n.
    skip (bytes_eq word (codes "making")) _ _ _ _ _ n (λ n.
    skip (bytes_eq word (codes "final")) _ _ _ _ _ n (λ n.
    skip (bytes_eq word (codes "item")) _ _ _ _ _ n (λ n.
    skip (bytes_eq word (codes "imports")) _ _ _ _ _ n (λ n.
    skip (bytes_eq word (codes "services")) _ _ _ _ _ n (λ n.
    skip (bytes_eq word (codes "margins")) _ _ _ _ _ n (λ n.
    skip (bytes_eq word (codes "margin_of")) _ _ _ _ _ n (λ n.
    skip (bytes_eq word (codes "taxes")) _ _ _ _ _ n (λ n.
    skip (bytes_eq word (codes "tax_of")) _ _ _ _ _ n (λ n.
    skip (bytes_eq word (codes "spending")) _ _ _ _ _ n (λ n.
    skip (bytes_eq word (codes "income")) _ _ _ _ _ n (λ n.
    only_in (cs.format == 2) _ (kind_named group_account_word group_account_kinds word) _ group (λ n.
    skip (bytes_eq word (codes "making_in")) _ _ _ _ _ n (λ n.
    skip (bytes_eq word (codes "importing")) _ _ _ _ _ n (λ n.
    skip (bytes_eq word (codes "buying_in")) _ _ _ _ _ n (λ n.
    skip (bytes_eq word (codes "margin_in")) _ _ _ _ _ n (λ n.
    skip (bytes_eq word (codes "tax_in")) _ _ _ _ _ n (λ n.
    skip (bytes_eq word (codes "item_in")) _ _ _ _ _ n (λ n.
    refl))))))))))))))))))))))))
