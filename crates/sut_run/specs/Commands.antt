-- The commands, their words, and the files that each reads and may write.
use Rattle.std.specs.Prelude.{◌≡◌, true, ⊤, ℕ, ℤ, pos, int_lt, unsigned_abs, List, [], ◌∷◌, ◌++◌, Option, Some, None, Result, Ok, Err, codes, if◌then◌else◌}
use Rattle.std.specs.Str.{bytes_eq}
use Rattle.sut_outside.specs.declared.names.FileName.{FileName}
use Rattle.sut_outside.specs.declared.names.FileName.TheVariants.{ClassesCsv, SourceCsv, BalancedCsv, SupplyCsv, UseCsv, AccountsCsv, CertificateCsv, ReportJson, ReviewCsv, EditedCsv, TrailCsv, MadeSettingsToml, MadeClassesCsv, MadeSourceCsv, Classes2Csv}
use Rattle.sut_text.specs.Number.{whole_of}
use Rattle.sut_text.specs.declared.numbers.NumberFault.{NumberFault}
use Rattle.sut_generate.specs.Generator.{is_size}
use Rattle.sut_input.specs.Inputs.{problem_names}
use Rattle.sut_input.specs.EditInputs.{edit_names}
use Rattle.sut_run.specs.declared.commands.Command.{Command}
use Rattle.sut_run.specs.declared.commands.Command.TheVariants.{Balance, Edit, Migrate, Generate}

-- a number, where it is not below 0
abbrev pub natural_of : Result ℤ NumberFault → Option ℕ
natural_of (Ok z) = if int_lt z (pos 0) then None else Some (unsigned_abs z)
natural_of (Err e) = None

-- the number that a word spells in shortest decimal, without a sign
abbrev pub natural : List ℕ → Option ℕ
natural word = natural_of (whole_of word)

-- a command of one word
abbrev pub named : List ℕ → Option Command
named word =
    if bytes_eq word (codes "balance") then Some Balance
    else if bytes_eq word (codes "edit") then Some Edit
    else if bytes_eq word (codes "migrate") then Some Migrate
    else None

-- a made year of this seed and size, where the generator makes one
abbrev pub generate_of : Option ℕ → Option ℕ → Option ℕ → Option Command
generate_of (Some seed) (Some products) (Some industries) =
    if is_size seed products industries then Some (Generate seed products industries) else None
generate_of (Some seed) (Some products) None = None
generate_of (Some seed) None industries = None
generate_of None products industries = None

-- a command of a word and three numbers
abbrev pub sized : List ℕ → List ℕ → List ℕ → List ℕ → Option Command
sized word seed products industries =
    if bytes_eq word (codes "generate") then generate_of (natural seed) (natural products) (natural industries) else None

-- the command of these words; they are accepted exactly where there is one
abbrev pub command_of : List (List ℕ) → Option Command
command_of (word ∷ []) = named word
command_of (word ∷ seed ∷ products ∷ industries ∷ []) = sized word seed products industries
command_of _ = None

-- a year that is named is of a size that is made
abbrev pub IsSized : Command → Type 0
IsSized (Generate seed products industries) = is_size seed products industries ≡ true
IsSized _ = ⊤

-- the files that a command reads, in order
abbrev pub read_names : Command → List FileName
read_names Balance = problem_names SourceCsv
read_names Edit = edit_names
read_names Migrate = ClassesCsv ∷ []
read_names (Generate seed products industries) = []

-- the files of an answer
abbrev pub answer_names : List FileName
answer_names = BalancedCsv ∷ SupplyCsv ∷ UseCsv ∷ AccountsCsv ∷ CertificateCsv ∷ ReportJson ∷ ReviewCsv ∷ []

-- the files that a command may write, in order
abbrev pub written_names : Command → List FileName
written_names Balance = answer_names
written_names Edit = EditedCsv ∷ TrailCsv ∷ answer_names
written_names Migrate = Classes2Csv ∷ []
written_names (Generate seed products industries) = MadeSettingsToml ∷ MadeClassesCsv ∷ MadeSourceCsv ∷ []
