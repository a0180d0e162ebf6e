use Rattle.std.proofs.Common.{◌∙◌, sym}
use Rattle.sut_measures.proofs.KindLemmas.{account_of-none}
use Rattle.sut_measures.proofs.ReadLemmas.{account-read, group_account-read, account_fits-read}
use Rattle.sut_measures.proofs.read_accounts.read_account.Goals as goal

pub returns-in-Some-clause-value : goal.returns-in-Some-clause-value
returns-in-Some-clause-value c =
    c.read_plain_account.ensures ∙ account-read c.args.classes.now c.args.word.now c.args.a.now c.args.b.now c.in-Some.kind (sym c.in-Some.ensures)

pub returns-in-Some-clause-fitting : goal.returns-in-Some-clause-fitting
returns-in-Some-clause-fitting c =
    account_fits-read c.args.classes.now c.args.word.now c.args.a.now c.args.b.now c.read_plain_account.result (returns-in-Some-clause-value c)

pub returns-in-Some-group_account_kind_of-clause-value : goal.returns-in-Some-group_account_kind_of-clause-value
returns-in-Some-group_account_kind_of-clause-value c =
    c.read_group_account.ensures
    ∙ group_account-read c.args.classes.now c.args.word.now c.args.a.now c.args.b.now c.in-Some-group_account_kind_of.kind (sym c.in-Some-group_account_kind_of.ensures)

pub returns-in-Some-group_account_kind_of-clause-fitting : goal.returns-in-Some-group_account_kind_of-clause-fitting
returns-in-Some-group_account_kind_of-clause-fitting c =
    account_fits-read c.args.classes.now c.args.word.now c.args.a.now c.args.b.now c.read_group_account.result
    (returns-in-Some-group_account_kind_of-clause-value c)

pub returns-in-None-clause-value : goal.returns-in-None-clause-value
returns-in-None-clause-value c =
    sym (account_of-none c.args.classes.now c.args.word.now c.args.a.now c.args.b.now
    (sym c.account_kind.ensures ∙ c.in_default.is) (sym c.in-None.ensures))
