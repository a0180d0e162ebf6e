use Rattle.std.proofs.Common.{◌≡◌, ◌++◌, map, take}
use Rattle.std.specs.List.{flat_map}
use Rattle.sut_text.specs.Text.{line_text}
use Rattle.sut_measures.specs.Names.{account_fields}
use Rattle.sut_cert.proofs.print.put_accounts.Given as goal

abbrev pub invariant-loop-account : goal.invariant-loop-account
invariant-loop-account l = l.out.items ≡ l.fn.out.items ++ flat_map line_text (map (account_fields l.classes) (take l.account-index l.accounts))
