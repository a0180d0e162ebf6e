use Rattle.std.proofs.Common.{◌∙◌, ap}
use Rattle.sut_measures.specs.Keys.{account_key}
use Rattle.sut_measures.proofs.OrderLemmas.{account_order}
use Rattle.sut_tables.specs.LiveTallies.{account_cmp}
use Rattle.sut_tables.specs.Tables.{first_above}
use Rattle.sut_tables.proofs.TallyKeys.{key_above-is}
use Rattle.sut_tables.proofs.live_lists.next_live_account.Goals as goal

pub returns : goal.returns
returns c = c.next_above.ensures ∙ key_above-is account_cmp account_key account_order c.args.after _ ∙ ap (first_above account_key c.args.after) c.live_accounts.ensures
