-- A problem has at most 191,875 live accounts: as many as there are accounts that fit the largest classes.
use Rattle.std.proofs.Common.{◌≡◌, ◌≤◌, List, [], ◌∷◌, length, arith, true}
use Rattle.std.proofs.lemmas.Bool.{and_parts}
use Rattle.std.proofs.lemmas.List.Elements.{All-weaker}
use Rattle.sut_classes.specs.ClassLists.{ClassLists}
use Rattle.sut_classes.specs.Kept.{IsClasses}
use Rattle.sut_measures.specs.Fits.{account_fits}
use Rattle.sut_measures.specs.Keys.{account_key}
use Rattle.sut_measures.specs.declared.accounts.Account.{Account}
use Rattle.sut_measures.specs.declared.accounts.Account.TheVariants as account
use Rattle.sut_tables.specs.ProblemFacts.{ProblemFacts}
use Rattle.sut_tables.specs.Problems.{IsProblem, live_accounts}
use Rattle.sut_tables.proofs.LiveFits.{live-accounts-fit}
use Rattle.sut_circuit.proofs.Circulations.{accounts-sorted}
use Rattle.sut_circuit.proofs.FewClasses.{AreFew, classes-few, below, one, two, beside_column}
use Rattle.sut_circuit.proofs.Ranks.{Kind, kind, IsOfKind, few-keys}

-- by the first number of their keys
abbrev account_kinds : List Kind
account_kinds =
    kind 512 (1 ∷ [])
    ∷ kind 512 (1 ∷ [])
    ∷ kind 147456 (288 ∷ 256 ∷ 1 ∷ [])
    ∷ kind 256 (1 ∷ [])
    ∷ kind 256 (1 ∷ [])
    ∷ kind 256 (1 ∷ [])
    ∷ kind 256 (1 ∷ [])
    ∷ kind 32 (1 ∷ [])
    ∷ kind 16 (1 ∷ [])
    ∷ kind 1 []
    ∷ kind 4 (1 ∷ [])
    ∷ kind 4 (1 ∷ [])
    ∷ kind 2048 (512 ∷ 1 ∷ [])
    ∷ kind 8 (1 ∷ [])
    ∷ kind 4096 (512 ∷ 1 ∷ [])
    ∷ kind 1 []
    ∷ kind 1 []
    ∷ kind 16384 (256 ∷ 1 ∷ [])
    ∷ kind 64 (1 ∷ [])
    ∷ kind 18432 (288 ∷ 256 ∷ 1 ∷ [])
    ∷ kind 256 (64 ∷ 1 ∷ [])
    ∷ kind 512 (64 ∷ 1 ∷ [])
    ∷ kind 512 (32 ∷ 1 ∷ [])
    ∷ []

module _ (cs : ClassLists) (few : AreFew cs) where
  account-kind : (a : Account) → account_fits cs a ≡ true → IsOfKind account_kinds (account_key a)
  account-kind (account.Supplied i) h = one i.0 512 (below i.0 (length cs.products) 512 h few.products)
  account-kind (account.Used i) h = one i.0 512 (below i.0 (length cs.products) 512 h few.products)
  account-kind (account.Bought i q) h =
      let b = and_parts _ _ h in beside_column cs few 512 i.0 q (below i.0 (length cs.products) 512 b.0 few.products) b.1
  account-kind (account.Buying j) h = one j.0 256 (below j.0 (length cs.industries) 256 h few.industries)
  account-kind (account.Adding j) h = one j.0 256 (below j.0 (length cs.industries) 256 h few.industries)
  account-kind (account.Industry j) h = one j.0 256 (below j.0 (length cs.industries) 256 h few.industries)
  account-kind (account.Making j) h = one j.0 256 (below j.0 (length cs.industries) 256 h few.industries)
  account-kind (account.Final f) h = one f.0 32 (below f.0 (length cs.finals) 32 h few.finals)
  account-kind (account.Item v) h = one v.0 16 (below v.0 (length cs.items) 16 h few.items)
  account-kind account.Imports h = (tt, omega arith)
  account-kind (account.Services k) h = one k.0 4 (below k.0 (length cs.margins) 4 h few.margins)
  account-kind (account.Margins k) h = one k.0 4 (below k.0 (length cs.margins) 4 h few.margins)
  account-kind (account.MarginOf k i) h =
      let b = and_parts _ _ h in two 512 4 k.0 i.0 (below k.0 (length cs.margins) 4 b.0 few.margins) (below i.0 (length cs.products) 512 b.1 few.products)
  account-kind (account.Taxes t) h = one t.0 8 (below t.0 (length cs.taxes) 8 h few.taxes)
  account-kind (account.TaxOf t i) h =
      let b = and_parts _ _ h in two 512 8 t.0 i.0 (below t.0 (length cs.taxes) 8 b.0 few.taxes) (below i.0 (length cs.products) 512 b.1 few.products)
  account-kind account.Spending h = (tt, omega arith)
  account-kind account.Income h = (tt, omega arith)
  account-kind (account.MakingIn g j) h =
      let b = and_parts _ _ h in two 256 64 g.0 j.0 (below g.0 (length cs.product_groups) 64 b.0 few.product_groups) (below j.0 (length cs.industries) 256 b.1 few.industries)
  account-kind (account.Importing g) h = one g.0 64 (below g.0 (length cs.product_groups) 64 h few.product_groups)
  account-kind (account.BuyingIn g q) h =
      let b = and_parts _ _ h in beside_column cs few 64 g.0 q (below g.0 (length cs.product_groups) 64 b.0 few.product_groups) b.1
  account-kind (account.MarginIn k g) h =
      let b = and_parts _ _ h in two 64 4 k.0 g.0 (below k.0 (length cs.margins) 4 b.0 few.margins) (below g.0 (length cs.product_groups) 64 b.1 few.product_groups)
  account-kind (account.TaxIn t g) h =
      let b = and_parts _ _ h in two 64 8 t.0 g.0 (below t.0 (length cs.taxes) 8 b.0 few.taxes) (below g.0 (length cs.product_groups) 64 b.1 few.product_groups)
  account-kind (account.ItemIn v g) h =
      let b = and_parts _ _ h in two 32 16 v.0 g.0 (below v.0 (length cs.items) 16 b.0 few.items) (below g.0 (length cs.industry_groups) 32 b.1 few.industry_groups)

pub accounts-few : (p : ProblemFacts) → IsProblem p → IsClasses p.classes → length (live_accounts p) ≤ 191875
accounts-few p ok k =
    few-keys account_key account_kinds (live_accounts p) (accounts-sorted p)
    (All-weaker (λ a. account_fits p.classes a ≡ true) (λ a. IsOfKind account_kinds (account_key a)) (account-kind p.classes (classes-few p.classes k)) (live_accounts p)
    (live-accounts-fit p ok (record { products = k.products; industries = k.industries })))
