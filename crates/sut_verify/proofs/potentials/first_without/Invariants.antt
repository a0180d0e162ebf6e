use Rattle.std.proofs.Common.{◌≡◌, length}
use Rattle.std.specs.List.{flat_map}
use Rattle.sut_measures.specs.Keys.{account_key}
use Rattle.sut_tables.specs.Breaks.{first_of}
use Rattle.sut_tables.specs.Problems.{live_accounts}
use Rattle.sut_verify.specs.Verdicts.{account_reasons}
use Rattle.sut_verify.proofs.Walks.{IsAmong, left_of}
use Rattle.sut_verify.proofs.potentials.first_without.Given as goal

-- the first reason is one of what is left
abbrev pub invariant-accounts : goal.invariant-accounts
invariant-accounts l = record {
  among : IsAmong account_key l.next (live_accounts l.p);
  same : first_of (flat_map (account_reasons l.c) (left_of account_key l.next (live_accounts l.p))) ≡ first_of (flat_map (account_reasons l.c) (live_accounts l.p));
}

abbrev pub decreases-accounts : goal.decreases-accounts
decreases-accounts l = length (left_of account_key l.next (live_accounts l.p))
