-- Reading settings: the members of a document, in byte order of their keys.
use Rattle.std.specs.Prelude.{ℕ, ◌+◌, ◌==◌, ◌&&◌, ◌||◌, nat_le, Bool, true, false, if◌then◌else◌, List, [], ◌∷◌, codes, length, Option, Some, None, pos, Result, Ok, Err}
use Rattle.std.specs.Str.{bytes_eq}
use Rattle.std.specs.Str.Lossy.{utf8_valid_len}
use Rattle.csv.specs.Reading.{strip_bom}
use Rattle.toml.specs.Data.{Data, string, integer, table, Members, no_members, member}
use Rattle.toml.specs.Parse.{parse_document}
use Rattle.sut_records.specs.FirstFault.{only_if, or_fault}
use Rattle.sut_classes.specs.ClassFile.{is_code}
use Rattle.sut_settings.specs.SettingsFacts.{GradeFacts, SettingsFacts}
use Rattle.sut_settings.specs.declared.SettingsFault.{SettingsFault}
use Rattle.sut_settings.specs.declared.SettingsFault.TheVariants as fault

-- the place, from n on, of the first key that is neither `grades` nor `scheme`
abbrev pub first_unknown : ℕ → Members → Option ℕ
first_unknown n no_members = None
first_unknown n (member key value rest) =
    if bytes_eq key (codes "grades") || bytes_eq key (codes "scheme") then first_unknown (n + 1) rest else Some n

abbrev pub value_at : List ℕ → Members → Option Data
value_at key no_members = None
value_at key (member k value rest) = if bytes_eq key k then Some value else value_at key rest

-- whether the scheme is `relative`, where it is one of the two
abbrev pub scheme_of : Data → Option Bool
scheme_of (string text) = if bytes_eq text (codes "flat") then Some false else if bytes_eq text (codes "relative") then Some true else None
scheme_of _ = None

-- the members of `grades`; none where the key is absent
abbrev pub grades_at : Option Data → Option Members
grades_at None = Some no_members
grades_at (Some (table members)) = Some members
grades_at (Some _) = None

abbrev pub count_of_members : Members → ℕ
count_of_members no_members = 0
count_of_members (member key value rest) = count_of_members rest + 1

-- a grade's number: 1 to 10,000, and 1 to 100 in the relative scheme
abbrev pub number_of : Bool → Data → Option ℕ
number_of relative (integer (pos n)) = if nat_le 1 n && nat_le n (if relative then 100 else 10000) then Some n else None
number_of relative _ = None

abbrev pub with_grade : List ℕ → ℕ → Result (List GradeFacts) SettingsFault → Result (List GradeFacts) SettingsFault
with_grade name number (Ok rest) = Ok (record { name = name; number = number } ∷ rest)
with_grade name number (Err e) = Err e

-- the grades, the first of them entry n, or the first entry that is none
abbrev pub grades_of : Bool → ℕ → Members → Result (List GradeFacts) SettingsFault
grades_of relative n no_members = Ok []
grades_of relative n (member name value rest) =
    only_if (is_code name) (fault.BadGrade n)
    (or_fault (number_of relative value) (fault.BadGrade n) (λ number. with_grade name number (grades_of relative (n + 1) rest)))

abbrev pub unless_unknown : {A : Type 0} → Option ℕ → Result A SettingsFault → Result A SettingsFault
unless_unknown (Some n) next = Err (fault.UnknownKey n)
unless_unknown None next = next

abbrev pub settings_from : Bool → Result (List GradeFacts) SettingsFault → Result SettingsFacts SettingsFault
settings_from relative (Ok grades) = Ok (record { relative = relative; grades = grades })
settings_from relative (Err e) = Err e

unfoldable pub settings_in : Option Members → Result SettingsFacts SettingsFault
settings_in None = Err fault.Toml
settings_in (Some members) =
    unless_unknown (first_unknown 1 members)
    (or_fault (value_at (codes "scheme") members) fault.NoScheme (λ scheme.
    or_fault (scheme_of scheme) fault.BadScheme (λ relative.
    or_fault (grades_at (value_at (codes "grades") members)) fault.BadGrades (λ grades.
    only_if (nat_le (count_of_members grades) 64) fault.TooMany
    (settings_from relative (grades_of relative 1 grades))))))

-- the bytes after three leading bytes EF BB BF, where they are UTF-8, read as a document
abbrev pub settings_of : List ℕ → Result SettingsFacts SettingsFault
settings_of bytes =
    if utf8_valid_len (strip_bom bytes) == length (strip_bom bytes) then settings_in (parse_document (strip_bom bytes)) else Err fault.Toml
