use Rattle.std.proofs.Common.{◌∙◌, ap, sym, Some}
use Rattle.std.specs.Map.{keys_of}
use Rattle.sut_tables.specs.Tallies.{key_above}
use Rattle.sut_tables.proofs.Counts.{key-above, no-key-above}
use Rattle.sut_tables.proofs.tally.Tally.first_above.Goals as goal

pub returns-in-Some : goal.returns-in-Some
returns-in-Some g c =
    key-above g.K.Ord.cmp c.args.k c.self.inside.counts.entries _ (c.in-Some.first.now, c.in-Some.field-0-1.now) (sym (c.range.ensures.between tt) ∙ c.in-Some.ensures.steps)
    ∙ ap (λ es. key_above g.K.Ord.cmp (Some c.args.k) (keys_of es)) c.self.view_is

pub returns-in-None : goal.returns-in-None
returns-in-None g c =
    no-key-above g.K.Ord.cmp c.args.k c.self.inside.counts.entries (sym (c.range.ensures.between tt) ∙ c.in-None.ensures.steps.0)
    ∙ ap (λ es. key_above g.K.Ord.cmp (Some c.args.k) (keys_of es)) c.self.view_is
