use Rattle.std.specs.Str.{bytes_eq}
use Rattle.sut_classes.proofs.CodeLemmas.{mapped-position}
use Rattle.sut_classes.proofs.codes.Codes.find.Goals as goal

pub returns-in-Some : goal.returns-in-Some
returns-in-Some c = rw (← c.self.view_is) (rw (mapped-position (λ v. v.items) (bytes_eq c.args.code.now) c.self.inside.set.keys) c.in-Some.ensures.index)

pub returns-in-None : goal.returns-in-None
returns-in-None c = rw (← c.self.view_is) (rw (mapped-position (λ v. v.items) (bytes_eq c.args.code.now) c.self.inside.set.keys) c.in-None.ensures.index)
