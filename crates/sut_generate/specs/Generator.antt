-- The three files of a generated year, as functions of a seed, the number of products and the number of industries.
-- The generator is this project's own.
use Rattle.std.specs.Prelude.{◌==◌, ◌+◌, ◌-◌, ◌*◌, ◌/◌, ◌%◌, ◌^◌, ℕ, List, [], ◌∷◌, ◌++◌, map, codes, decimal, if◌then◌else◌, Bool, ◌&&◌, nat_le}
use Rattle.std.specs.List.{flat_map, range_with_len}
use Rattle.sut_text.specs.Fields.{numbered}
use Rattle.sut_text.specs.Text.{file_text}

-- whether a year of this size is made: a seed below 2^31, 1 to 512 products, 1 to 256 industries, at most 131,072 rows
abbrev pub is_size : ℕ → ℕ → ℕ → Bool
is_size seed p n =
    nat_le seed 2147483647 && (nat_le 1 p && (nat_le p 512 && (nat_le 1 n && (nat_le n 256 && nat_le (p * (n + 7) + n) 131072))))

-- ---- draws

-- the state that follows a state; the first state is the seed
abbrev pub next_state : ℕ → ℕ
next_state s = (s * 1103515245 + 12345) % 2 ^ 31

-- the number below n that is drawn at a state
abbrev pub drawn : ℕ → ℕ → ℕ
drawn s n = (s / 65536) % n

-- ---- codes: a letter and a number from 1

abbrev pub product_code : ℕ → List ℕ
product_code i = numbered 80 i

abbrev pub industry_code : ℕ → List ℕ
industry_code j = numbered 73 j

abbrev pub final_code : ℕ → List ℕ
final_code k = numbered 70 k

-- the numbers from 1 to n
abbrev pub one_to : ℕ → List ℕ
one_to n = range_with_len 1 n

-- ---- rows with a target

-- a row whose target is `base` plus a number below `span` that is drawn for it
pub record Drawn : Type 0 where
  pub kind : List ℕ
  pub a : List ℕ
  pub b : List ℕ
  pub c : List ℕ
  pub base : ℕ
  pub span : ℕ

-- product i of n industries is made by one of them, each in turn
abbrev pub make_row : ℕ → ℕ → Drawn
make_row n i = record { kind = codes "make"; a = product_code i; b = industry_code ((i - 1) % n + 1); c = []; base = 1000; span = 9000 }

abbrev pub import_row : ℕ → Drawn
import_row i = record { kind = codes "import"; a = product_code i; b = []; c = []; base = 0; span = 1000 }

-- the use of product i by industry j
abbrev pub industry_row : ℕ → ℕ → Drawn
industry_row i j = record { kind = codes "basic"; a = product_code i; b = industry_code j; c = []; base = 0; span = 200 }

-- the use of product i by final use k
abbrev pub final_row : ℕ → ℕ → Drawn
final_row i k = record { kind = codes "basic"; a = product_code i; b = final_code k; c = []; base = 0; span = 2000 }

abbrev pub margin_row : ℕ → Drawn
margin_row i = record { kind = codes "margin"; a = codes "T"; b = product_code i; c = codes "F1"; base = 0; span = 100 }

abbrev pub tax_row : ℕ → Drawn
tax_row i = record { kind = codes "tax"; a = codes "X"; b = product_code i; c = codes "F1"; base = 0; span = 100 }

-- the first product is the trade service, and bears no margin
abbrev pub margin_rows : ℕ → List Drawn
margin_rows i = if i == 1 then [] else margin_row i ∷ []

-- the rows of product i, in order
abbrev pub rows_of_product : ℕ → ℕ → List Drawn
rows_of_product n i =
    make_row n i ∷ import_row i ∷ (map (industry_row i) (one_to n) ++ map (final_row i) (one_to 3) ++ margin_rows i ++ tax_row i ∷ [])

-- the rows of all products
abbrev pub drawn_rows : ℕ → ℕ → List Drawn
drawn_rows p n = flat_map (rows_of_product n) (one_to p)

-- ---- lines

-- the line of such a row, at the state that its draw led to
abbrev pub drawn_line : ℕ → Drawn → List (List ℕ)
drawn_line s r = r.kind ∷ r.a ∷ r.b ∷ r.c ∷ decimal (r.base + drawn s r.span) ∷ [] ∷ [] ∷ [] ∷ []

-- the lines of rows, one draw each, from the state s on
abbrev pub drawn_lines : ℕ → List Drawn → List (List (List ℕ))
drawn_lines s [] = []
drawn_lines s (r ∷ rs) = drawn_line (next_state s) r ∷ drawn_lines (next_state s) rs

-- the service of the trade product, and the value added of industry j: no target, and the widest bounds
abbrev pub service_line : List (List ℕ)
service_line = codes "service" ∷ codes "P1" ∷ codes "T" ∷ [] ∷ [] ∷ [] ∷ codes "0" ∷ codes "1000000000000" ∷ []

abbrev pub added_line : ℕ → List (List ℕ)
added_line j = codes "added" ∷ codes "V1" ∷ industry_code j ∷ [] ∷ [] ∷ [] ∷ codes "-1000000000000" ∷ codes "1000000000000" ∷ []

-- the lines of n industries without a target
abbrev pub free_lines : ℕ → List (List (List ℕ))
free_lines n = service_line ∷ map added_line (one_to n)

abbrev pub source_header : List (List ℕ)
source_header = codes "kind" ∷ codes "a" ∷ codes "b" ∷ codes "c" ∷ codes "target" ∷ codes "grade" ∷ codes "lower" ∷ codes "upper" ∷ []

-- ---- classes

abbrev pub class_header : List (List ℕ)
class_header = codes "axis" ∷ codes "code" ∷ codes "kind" ∷ []

abbrev pub product_line : ℕ → List (List ℕ)
product_line i = codes "product" ∷ product_code i ∷ (if i == 1 then codes "T" else codes "plain") ∷ []

abbrev pub industry_line : ℕ → List (List ℕ)
industry_line j = codes "industry" ∷ industry_code j ∷ [] ∷ []

abbrev pub final_line : ℕ → List (List ℕ)
final_line k = codes "final" ∷ final_code k ∷ [] ∷ []

abbrev pub margin_line : List (List ℕ)
margin_line = codes "margin" ∷ codes "T" ∷ [] ∷ []

abbrev pub item_line : List (List ℕ)
item_line = codes "item" ∷ codes "V1" ∷ [] ∷ []

abbrev pub tax_line : List (List ℕ)
tax_line = codes "tax" ∷ codes "X" ∷ [] ∷ []

abbrev pub class_lines : ℕ → ℕ → List (List (List ℕ))
class_lines p n =
    margin_line ∷ (map product_line (one_to p) ++ map industry_line (one_to n) ++ map final_line (one_to 3) ++ item_line ∷ tax_line ∷ [])

-- ---- the files

-- `made_settings.toml`
abbrev pub made_settings : List ℕ
made_settings = codes "scheme = \"flat\"\n"

-- `made_classes.csv`
unfoldable pub made_classes : ℕ → ℕ → List ℕ
made_classes p n = file_text class_header (class_lines p n)

-- `made_source.csv`
unfoldable pub made_source : ℕ → ℕ → ℕ → List ℕ
made_source seed p n = file_text source_header (drawn_lines seed (drawn_rows p n) ++ free_lines n)
