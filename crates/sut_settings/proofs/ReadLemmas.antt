-- What the keys and values of a document give, an entry at a time.
use Rattle.std.proofs.Common.{◌≡◌, ◌∙◌, ◌+◌, ◌++◌, ◌&&◌, ◌==◌, ◌≤◌, ◌<◌, ℕ, nat_eq, nat_le, Bool, true, false, cond, List, [], ◌∷◌, map, length, take, drop, All, Option, Some, None, Result, Ok, Err, pos, negsuc, codes, IsUtf8, String, Global, string_bytes, refl, sym, ap, append_assoc, eq-eqb, le-leb, Ordering, Less, Equal, Greater, arith}
use Rattle.std.proofs.lemmas.Bool.{and_parts}
use Rattle.std.proofs.lemmas.Bool.Decides.{nat_tests}
use Rattle.std.proofs.lemmas.List.{length-map}
use Rattle.std.proofs.lemmas.List.Elements.{All-cons, All-nil}
use Rattle.std.proofs.lemmas.Str.{utf8_valid_len-IsUtf8}
use Rattle.std.proofs.lemmas.Map.Text.{is_eq-slice_cmp}
use Rattle.std.specs.Cmp.Lexicographic.{pointwise, slice_cmp}
use Rattle.std.specs.List.{AllByRecursion}
use Rattle.std.specs.List.Sorted.{IsStrictlySortedBy}
use Rattle.std.specs.Map.{keys_of}
use Rattle.std.specs.Ordering.{is_eq, match_ordering, nat_cmp}
use Rattle.std.specs.Str.Lossy.{utf8_valid_len}
use Rattle.std.specs.String.{string_cmp}
use Rattle.csv.specs.Reading.{is_bom, strip_bom}
use Rattle.toml.proofs.Views.{Entry}
use Rattle.toml.specs.Data.{Data, string, integer, float, boolean, datetime, array, table, Members, no_members, member, as_table, get_member}
use Rattle.toml.specs.Parse.{parse_document}
use Rattle.toml.specs.View.{members_view, view}
use Rattle.sut_records.specs.FirstFault.{only_if, or_fault}
use Rattle.sut_classes.specs.ClassFile.{is_code}
use Rattle.sut_settings.specs.SettingsFacts.{GradeFacts, SettingsFacts}
use Rattle.sut_settings.specs.SettingsFile.{count_of_members, first_unknown, grades_at, grades_of, number_of, scheme_of, settings_from, settings_in, settings_of, value_at, with_grade}
use Rattle.sut_settings.specs.IsSettings.{greatest, IsGrade, IsSettings}
use Rattle.sut_settings.specs.declared.SettingsFault.{SettingsFault}
use Rattle.sut_settings.specs.declared.SettingsFault.TheVariants as fault
use Rattle.sut_settings.proofs.GradeLemmas.{names}

-- ---- the mark before a text

mark_test : (a b c : Bool) → (a && (b && (c && true))) ≡ ((a && b) && c)
mark_test true true true = refl
mark_test true true false = refl
mark_test true false c = refl
mark_test false b c = refl

pub marked : (bytes : List ℕ) → pointwise nat_eq (take 3 bytes) (0xEF ∷ 0xBB ∷ 0xBF ∷ []) ≡ true → drop 3 bytes ≡ strip_bom bytes
unfolding strip_bom
marked [] h = cc
marked (a ∷ []) h = absurd (grind (arith, nat_tests))
marked (a ∷ b ∷ []) h = absurd (grind (arith, nat_tests))
marked (a ∷ b ∷ c ∷ rest) h =
    let test : is_bom a b c ≡ true = sym (mark_test (nat_eq a 0xEF) (nat_eq b 0xBB) (nat_eq c 0xBF)) ∙ h in
    rw test

pub unmarked : (bytes : List ℕ) → pointwise nat_eq (take 3 bytes) (0xEF ∷ 0xBB ∷ 0xBF ∷ []) ≡ false → bytes ≡ strip_bom bytes
unfolding strip_bom
unmarked [] h = refl
unmarked (a ∷ []) h = refl
unmarked (a ∷ b ∷ []) h = refl
unmarked (a ∷ b ∷ c ∷ rest) h =
    let test : is_bom a b c ≡ false = sym (mark_test (nat_eq a 0xEF) (nat_eq b 0xBB) (nat_eq c 0xBF)) ∙ h in
    rw test

-- ---- the value at a key

found : (o : Ordering) (d : Data) (rest other : Option Data) → rest ≡ other → match_ordering o rest (Some d) rest ≡ cond (is_eq o) (Some d) other
found Less d rest other e = e
found Equal d rest other e = refl
found Greater d rest other e = e

pub value-at : (key : List ℕ) (ms : Members) → get_member key ms ≡ value_at key ms
value-at key no_members = refl
value-at key (member k d ms) =
    found (slice_cmp nat_cmp key k) d _ _ (value-at key ms) ∙ ap (λ b. cond b (Some d) (value_at key ms)) (is_eq-slice_cmp key k)

-- ---- the grades

pub count-is : (es : List Entry) → count_of_members (members_view es) ≡ length es
count-is [] = refl
count-is (e ∷ es) = omega (arith, count-is es)

pub few-grades : {A : Type 0} (es : List Entry) (r : Result A SettingsFault) → length es ≤ 64 → only_if (nat_le (count_of_members (members_view es)) 64) fault.TooMany r ≡ r
few-grades es r few = rw (count-is es, le-leb (length es) 64 few)

pub many-grades : {A : Type 0} (es : List Entry) (r : Result A SettingsFault) → 64 < length es → only_if (nat_le (count_of_members (members_view es)) 64) fault.TooMany r ≡ Err fault.TooMany
many-grades es r many =
    let more : nat_le (length es) 64 ≡ false = grind (arith, nat_tests) in
    rw (count-is es, more)

-- these grades, and then those of the entries that are left
abbrev pub after : List GradeFacts → Result (List GradeFacts) SettingsFault → Result (List GradeFacts) SettingsFault
after gs (Ok rest) = Ok (gs ++ rest)
after gs (Err e) = Err e

pub after-none : (r : Result (List GradeFacts) SettingsFault) → r ≡ after [] r
after-none (Ok rest) = refl
after-none (Err e) = refl

after-one : (gs : List GradeFacts) (name : List ℕ) (k : ℕ) (r : Result (List GradeFacts) SettingsFault) → after gs (with_grade name k r) ≡ after (gs ++ (record { name = name; number = k }) ∷ []) r
after-one gs name k (Ok rest) = ap Ok (sym (append_assoc gs ((record { name = name; number = k }) ∷ []) rest))
after-one gs name k (Err e) = refl

entry-bad : (b : Bool) (o : Option ℕ) (f : SettingsFault) (next : ℕ → Result (List GradeFacts) SettingsFault) → cond b o None ≡ None → only_if b f (or_fault o f next) ≡ Err f
entry-bad true None f next h = refl
entry-bad true (Some k) f next h = cc
entry-bad false o f next h = refl

entry-good : (b : Bool) (o : Option ℕ) (k : ℕ) (f : SettingsFault) (next : ℕ → Result (List GradeFacts) SettingsFault) → cond b o None ≡ Some k → only_if b f (or_fault o f next) ≡ next k
entry-good true None k f next h = cc
entry-good true (Some j) k f next h = ap (λ o. or_fault o f next) h
entry-good false o k f next h = cc

-- an entry that is no grade ends the reading
pub bad-grade : (relative : Bool) (n : ℕ) (name : List ℕ) (d : Data) (ms : Members) → cond (is_code name) (number_of relative d) None ≡ None
    → grades_of relative n (member name d ms) ≡ Err (fault.BadGrade n)
bad-grade relative n name d ms h = entry-bad (is_code name) (number_of relative d) _ _ h

-- an entry that is a grade joins those before it
pub one-grade : (relative : Bool) (n : ℕ) (name : List ℕ) (d : Data) (ms : Members) (gs : List GradeFacts) (k : ℕ) → cond (is_code name) (number_of relative d) None ≡ Some k
    → after gs (grades_of relative n (member name d ms)) ≡ after (gs ++ (record { name = name; number = k }) ∷ []) (grades_of relative (n + 1) ms)
one-grade relative n name d ms gs k h =
    ap (after gs) (entry-good (is_code name) (number_of relative d) k _ _ h) ∙ after-one gs name k _

-- ---- what is read are settings

in-test : (b : Bool) (n k : ℕ) → cond b (Some n) None ≡ Some k → (b ≡ true) × (n ≡ k)
in-test true n k h = (refl, grind arith)
in-test false n k h = cc

in-range : (relative : Bool) (d : Data) (k : ℕ) → number_of relative d ≡ Some k → (1 ≤ k) × (k ≤ greatest relative)
in-range relative (integer (pos n)) k h =
    let (test, same) = in-test (nat_le 1 n && nat_le n (greatest relative)) n k h in
    let (some, most) = and_parts (nat_le 1 n) (nat_le n (greatest relative)) test in
    (grind (arith, nat_tests), grind (arith, nat_tests))
in-range relative (integer (negsuc n)) k h = cc
in-range relative (string t) k h = cc
in-range relative (float x) k h = cc
in-range relative (boolean b) k h = cc
in-range relative (datetime t) k h = cc
in-range relative (array ds) k h = cc
in-range relative (table ms) k h = cc

-- the keys of entries, as bytes
abbrev pub key_texts : List Entry → List (List ℕ)
key_texts = map (λ (e : Entry). string_bytes e.0)

grades-or : List GradeFacts → Result (List GradeFacts) SettingsFault → List GradeFacts
grades-or hs (Ok gs) = gs
grades-or hs (Err e) = hs

same_Ok : (gs hs : List GradeFacts) (r : Result (List GradeFacts) SettingsFault) → r ≡ Ok gs → r ≡ Ok hs → gs ≡ hs
unfolding grades-or
same_Ok gs hs r a b = ap (grades-or gs) (sym a ∙ b)

entry-read : (b : Bool) (o : Option ℕ) (r : Result (List GradeFacts) SettingsFault) (name : List ℕ) (f : SettingsFault) (gs : List GradeFacts) → only_if b f (or_fault o f (λ k. with_grade name k r)) ≡ Ok gs
    → (k : ℕ) × (rest : List GradeFacts) × (b ≡ true) × (o ≡ Some k) × (r ≡ Ok rest) × (gs ≡ (record { name = name; number = k }) ∷ rest)
entry-read true (Some k) (Ok rest) name f gs h = (k, rest, refl, refl, refl, same_Ok gs _ _ h refl)
entry-read true (Some k) (Err e) name f gs h = cc
entry-read true None r name f gs h = cc
entry-read false o r name f gs h = cc

-- grades that are read keep what settings keep, and their names are the keys
pub read-kept : (relative : Bool) (n : ℕ) (es : List Entry) (gs : List GradeFacts) → grades_of relative n (members_view es) ≡ Ok gs → All (IsGrade relative) gs × (names gs ≡ key_texts es)
read-kept relative n [] gs h = rw (same_Ok gs [] _ h refl) (All-nil _, refl)
read-kept relative n (e ∷ es) gs h =
    let (k, rest, code, number, more, whole) = entry-read (is_code (string_bytes e.0)) (number_of relative (view e.1)) (grades_of relative (n + 1) (members_view es)) (string_bytes e.0) _ gs h in
    let (all, same) = read-kept relative (n + 1) es rest more in
    let (some, most) = in-range relative (view e.1) k number in
    let g : IsGrade relative (record { name = string_bytes e.0; number = k }) = record { name = code; some = some; most = most } in
    rw whole (All-cons (IsGrade relative) _ _ g all, ap (λ ns. string_bytes e.0 ∷ ns) same)

below-bytes : (k : String Global) (es : List Entry) → AllByRecursion (λ y. string_cmp k y ≡ Less) (keys_of es) → AllByRecursion (λ y. slice_cmp nat_cmp (string_bytes k) y ≡ Less) (key_texts es)
below-bytes k [] h = tt
below-bytes k (e ∷ es) h = (h.0, below-bytes k es h.1)

rising-bytes : (es : List Entry) → IsStrictlySortedBy string_cmp (keys_of es) → IsStrictlySortedBy (slice_cmp nat_cmp) (key_texts es)
unfolding IsStrictlySortedBy
rising-bytes [] h = tt
rising-bytes (e ∷ es) h = (below-bytes e.0 es h.0, rising-bytes es h.1)

pub read-settings : (relative : Bool) (es : List Entry) (gs : List GradeFacts) → length es ≤ 64 → IsStrictlySortedBy string_cmp (keys_of es) → grades_of relative 1 (members_view es) ≡ Ok gs
    → IsSettings (record { relative = relative; grades = gs })
read-settings relative es gs few sorted read =
    let (all, same) = read-kept relative 1 es gs read in
    let as_many : length gs ≡ length es = sym (length-map gs (λ (g : GradeFacts). g.name)) ∙ ap length same ∙ length-map es (λ (e : Entry). string_bytes e.0) in
    record { few = rw as_many few; grades = all; rising = rw same (rising-bytes es sorted) }

pub no-grades : (relative : Bool) → IsSettings (record { relative = relative; grades = [] })
unfolding IsStrictlySortedBy
no-grades relative = record { few = omega arith; grades = All-nil _; rising = tt }

-- ---- the keys of a document

pub unknown-key : (ms : Members) (n : ℕ) → first_unknown 1 ms ≡ Some n → settings_in (Some ms) ≡ Err (fault.UnknownKey n)
unfolding settings_in
unknown-key ms n unknown = rw unknown

pub no-scheme : (ms : Members) → first_unknown 1 ms ≡ None → value_at (codes "scheme") ms ≡ None → settings_in (Some ms) ≡ Err fault.NoScheme
unfolding settings_in
no-scheme ms known scheme = rw (known, scheme)

pub bad-scheme : (ms : Members) (d : Data) → first_unknown 1 ms ≡ None → value_at (codes "scheme") ms ≡ Some d → scheme_of d ≡ None → settings_in (Some ms) ≡ Err fault.BadScheme
unfolding settings_in
bad-scheme ms d known scheme bad = rw (known, scheme, bad)

table-at : (d : Data) → grades_at (Some d) ≡ as_table d
table-at (string t) = refl
table-at (integer z) = refl
table-at (float x) = refl
table-at (boolean b) = refl
table-at (datetime t) = refl
table-at (array ds) = refl
table-at (table ms) = refl

-- what the members of `grades` give, where the scheme is known
abbrev pub grades_read : Bool → Option Members → Result SettingsFacts SettingsFault
grades_read relative members =
    or_fault members fault.BadGrades (λ grades. only_if (nat_le (count_of_members grades) 64) fault.TooMany (settings_from relative (grades_of relative 1 grades)))

scheme-known : (ms : Members) (d : Data) (relative : Bool) → first_unknown 1 ms ≡ None → value_at (codes "scheme") ms ≡ Some d → scheme_of d ≡ Some relative
    → settings_in (Some ms) ≡ grades_read relative (grades_at (value_at (codes "grades") ms))
unfolding settings_in
scheme-known ms d relative known scheme is = rw (known, scheme, is)

pub grades-absent : (ms : Members) (d : Data) (relative : Bool) → first_unknown 1 ms ≡ None → value_at (codes "scheme") ms ≡ Some d → scheme_of d ≡ Some relative → value_at (codes "grades") ms ≡ None
    → settings_in (Some ms) ≡ Ok (record { relative = relative; grades = [] })
grades-absent ms d relative known scheme is none = scheme-known ms d relative known scheme is ∙ rw none

pub grades-there : (ms : Members) (d : Data) (relative : Bool) (v : Data) → first_unknown 1 ms ≡ None → value_at (codes "scheme") ms ≡ Some d → scheme_of d ≡ Some relative → value_at (codes "grades") ms ≡ Some v
    → settings_in (Some ms) ≡ grades_read relative (as_table v)
grades-there ms d relative v known scheme is there = scheme-known ms d relative known scheme is ∙ rw (there, table-at v)

-- ---- the bytes of a document

pub whole-text : (bytes : List ℕ) → IsUtf8 (strip_bom bytes) → settings_of bytes ≡ settings_in (parse_document (strip_bom bytes))
whole-text bytes utf8 =
    let test : (utf8_valid_len (strip_bom bytes) == length (strip_bom bytes)) ≡ true = eq-eqb _ _ (utf8_valid_len-IsUtf8 (strip_bom bytes) utf8) in
    rw test

pub no-document : settings_in None ≡ Err fault.Toml
unfolding settings_in
no-document = refl
