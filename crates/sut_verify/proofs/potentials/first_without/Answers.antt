use Rattle.std.proofs.Common.{◌≡◌, ◌<◌, length, refl, sym, ap, subst}
use Rattle.std.specs.Prelude.{Some, true}
use Rattle.std.specs.List.{flat_map}
use Rattle.sut_measures.specs.Keys.{account_key}
use Rattle.sut_measures.proofs.KeyLemmas.{account_key-injective}
use Rattle.sut_tables.specs.Breaks.{first_of}
use Rattle.sut_tables.specs.Problems.{live_accounts}
use Rattle.sut_tables.specs.Tables.{first_above}
use Rattle.sut_tables.proofs.Ascending.{accounts-ascending}
use Rattle.sut_tables.proofs.Conservation.{Sorted-from_ascending}
use Rattle.sut_tables.proofs.Ordered.{among}
use Rattle.sut_verify.specs.Verdicts.{account_reasons}
use Rattle.sut_verify.proofs.Walks.{IsAmong, fewer, found-here, left_of, not-here, started, stepped}
use Rattle.sut_verify.proofs.potentials.first_without.Goals as goal

pub accounts-init : goal.accounts-init
accounts-init c =
    let start = started account_key c.next_live_account-next.result (live_accounts c.args.p.now) c.next_live_account-next.ensures in
    record { among = start.0; same = ap (λ l. first_of (flat_map (account_reasons c.args.c.now) l)) start.1 }

pub accounts-preserved : goal.accounts-preserved
accounts-preserved c =
    let live = live_accounts c.args.p.now in
    let here : among account_key (account_key c.in-Some.account) live ≡ true = subst (λ o. IsAmong account_key o live) c.in-Some.is c.accounts.invariant.among in
    let step = stepped account_key account_key-injective live (Sorted-from_ascending account_key (live_accounts c.args.p.now) (accounts-ascending c.args.p.now)) c.in-Some.account here c.next_live_account-next-in-Some.result c.next_live_account-next-in-Some.ensures in
    let same = subst (λ o. first_of (flat_map (account_reasons c.args.c.now) (left_of account_key o live)) ≡ first_of (flat_map (account_reasons c.args.c.now) live)) c.in-Some.is c.accounts.invariant.same in
    record {
      among = step.0;
      same = not-here account_key ((account_reasons c.args.c.now)) live c.in-Some.account (left_of account_key c.next_live_account-next-in-Some.result live) (first_of (flat_map (account_reasons c.args.c.now) live)) step.1 same c.in_default-without_potential.ensures;
    }

pub accounts-smaller : goal.accounts-smaller
accounts-smaller c =
    let live = live_accounts c.args.p.now in
    let here : among account_key (account_key c.in-Some.account) live ≡ true = subst (λ o. IsAmong account_key o live) c.in-Some.is c.accounts.invariant.among in
    let step = stepped account_key account_key-injective live (Sorted-from_ascending account_key (live_accounts c.args.p.now) (accounts-ascending c.args.p.now)) c.in-Some.account here c.next_live_account-next-in-Some.result c.next_live_account-next-in-Some.ensures in
    subst (λ o. length (left_of account_key c.next_live_account-next-in-Some.result live) < length (left_of account_key o live)) (sym c.in-Some.is) (fewer account_key live c.in-Some.account (left_of account_key c.next_live_account-next-in-Some.result live) step.1)

pub returns-in-Some-without_potential : goal.returns-in-Some-without_potential
returns-in-Some-without_potential c =
    let live = live_accounts c.args.p.now in
    let here : among account_key (account_key c.in-Some.account) live ≡ true = subst (λ o. IsAmong account_key o live) c.in-Some.is c.accounts.invariant.among in
    let after = first_above account_key (Some c.in-Some.account) live in
    let step = stepped account_key account_key-injective live (Sorted-from_ascending account_key (live_accounts c.args.p.now) (accounts-ascending c.args.p.now)) c.in-Some.account here after refl in
    let same = subst (λ o. first_of (flat_map (account_reasons c.args.c.now) (left_of account_key o live)) ≡ first_of (flat_map (account_reasons c.args.c.now) live)) c.in-Some.is c.accounts.invariant.same in
    found-here account_key ((account_reasons c.args.c.now)) live c.in-Some.account (left_of account_key after live) (first_of (flat_map (account_reasons c.args.c.now) live)) c.in-Some-without_potential.reason step.1 same c.in-Some-without_potential.ensures
