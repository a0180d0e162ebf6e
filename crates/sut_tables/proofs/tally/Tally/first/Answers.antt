use Rattle.std.proofs.Common.{◌∙◌, ap, None}
use Rattle.std.specs.Map.{keys_of}
use Rattle.sut_tables.specs.Tallies.{key_above}
use Rattle.sut_tables.proofs.Counts.{first-key}
use Rattle.sut_tables.proofs.tally.Tally.first.Goals as goal

pub returns-in-Some : goal.returns-in-Some
returns-in-Some g c =
    first-key g.K.Ord.cmp c.self.inside.counts.entries c.in-Some.first.now c.in-Some.field-0-1.now c.in-Some.ensures.first
    ∙ ap (λ es. key_above g.K.Ord.cmp None (keys_of es)) c.self.view_is
