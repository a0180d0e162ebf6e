-- The laws of certificates, stated.
use Rattle.std.specs.Prelude.{List, ℤ}
use Rattle.sut_measures.specs.declared.accounts.Account.{Account}
use Rattle.sut_tables.specs.ProblemFacts.{ProblemFacts}
use Rattle.sut_tables.specs.TableFacts.{TableFacts}
use Rattle.sut_tables.specs.Problems.{IsProblem}
use Rattle.sut_tables.specs.Costs.{IsImpossible, IsLeast}
use Rattle.sut_cert.specs.Certificates.{Contradicts, ShowsLeast}

-- Where potentials show a table of a problem, no admissible table of it costs less.
abbrev pub ShownLeast : Type 0
ShownLeast = (p : ProblemFacts) (t : TableFacts) (ps : List (Account × ℤ)) → IsProblem p → ShowsLeast p t ps → IsLeast p t

-- Where a set of accounts contradicts a problem's bounds, no table of it is admissible (after Hoffman's condition).
abbrev pub ContradictionImpossible : Type 0
ContradictionImpossible = (p : ProblemFacts) (set : List Account) → IsProblem p → Contradicts p set → IsImpossible p
