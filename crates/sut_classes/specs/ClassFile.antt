-- Reading `classes.csv`: how a line is judged by the lists that the lines before it gave.
use Rattle.std.specs.Prelude.{ℕ, ◌+◌, ◌==◌, ◌&&◌, ◌||◌, not, nat_le, nat_lt, Bool, true, false, if◌then◌else◌, List, [], ◌∷◌, ◌++◌, codes, length, Option, Some, None, is_some, option_map, Result, Ok, Err}
use Rattle.std.specs.Char.{is_ascii_alphanumeric}
use Rattle.std.specs.List.{list_all}
use Rattle.std.specs.Str.{bytes_eq}
use Rattle.sut_records.specs.RecordList.{Fields, field, records_of, same_fields}
use Rattle.sut_records.specs.FirstFault.{only_if, or_fault, read_lines}
use Rattle.sut_classes.specs.ClassLists.{ClassLists, Code}
use Rattle.sut_classes.specs.Places.{count_of, place_of}
use Rattle.sut_classes.specs.declared.ids.Axis.{Axis}
use Rattle.sut_classes.specs.declared.ids.Axis.TheVariants as axis
use Rattle.sut_classes.specs.declared.faults.ClassFault.{ClassFault}
use Rattle.sut_classes.specs.declared.faults.ClassFault.TheVariants as fault

-- a code: 1 to 32 letters, digits, `_`, `.` and `-`
abbrev pub is_code_byte : ℕ → Bool
is_code_byte b = is_ascii_alphanumeric b || (b == 95) || (b == 46) || (b == 45)

abbrev pub is_code : List ℕ → Bool
is_code text = nat_le 1 (length text) && nat_le (length text) 32 && list_all is_code_byte text

-- the word of each axis; the groups have one in format 2 alone
abbrev pub axis_named : ℕ → List ℕ → Option Axis
axis_named format word =
    if bytes_eq word (codes "product") then Some axis.Product
    else if bytes_eq word (codes "industry") then Some axis.Industry
    else if bytes_eq word (codes "final") then Some axis.Final
    else if bytes_eq word (codes "item") then Some axis.Item
    else if bytes_eq word (codes "margin") then Some axis.Margin
    else if bytes_eq word (codes "tax") then Some axis.Tax
    else if (format == 2) && bytes_eq word (codes "product_group") then Some axis.ProductGroup
    else if (format == 2) && bytes_eq word (codes "industry_group") then Some axis.IndustryGroup
    else None

-- the greatest number of codes of each axis
abbrev pub limit_of : Axis → ℕ
limit_of axis.Product = 512
limit_of axis.Industry = 256
limit_of axis.Final = 32
limit_of axis.Item = 16
limit_of axis.Margin = 4
limit_of axis.Tax = 8
limit_of axis.ProductGroup = 64
limit_of axis.IndustryGroup = 32

-- a code of an axis: any code, but of margins not `plain`
abbrev pub is_margin : Axis → Bool
is_margin axis.Margin = true
is_margin _ = false

abbrev pub is_code_of : Axis → List ℕ → Bool
is_code_of a text = is_code text && not (is_margin a && bytes_eq text (codes "plain"))

-- an industry's and a final use's code stand for a column, so neither is a code of the other
abbrev pub is_taken : ClassLists → Axis → List ℕ → Bool
is_taken cs axis.Industry code = is_some (place_of cs axis.Industry code) || is_some (place_of cs axis.Final code)
is_taken cs axis.Final code = is_some (place_of cs axis.Industry code) || is_some (place_of cs axis.Final code)
is_taken cs a code = is_some (place_of cs a code)

-- what a kind field says of a product: plain, or a margin kind of an earlier line; on another axis it is empty
abbrev pub kind_read : ClassLists → Axis → List ℕ → Option (Option ℕ)
kind_read cs axis.Product word =
    if bytes_eq word (codes "plain") then Some None else option_map Some (place_of cs axis.Margin word)
kind_read cs _ word = if length word == 0 then Some None else None

-- what a group field says: nothing, or a group of an earlier line
abbrev pub group_read : ClassLists → Axis → List ℕ → Option (Option ℕ)
group_read cs axis.Product word =
    if length word == 0 then Some None else option_map Some (place_of cs axis.ProductGroup word)
group_read cs axis.Industry word =
    if length word == 0 then Some None else option_map Some (place_of cs axis.IndustryGroup word)
group_read cs _ word = if length word == 0 then Some None else None

-- the lists with one code more
abbrev pub with_code : ClassLists → Axis → Code → Option ℕ → Option ℕ → ClassLists
with_code cs axis.Product code kind group = record cs { products = cs.products ++ record { code = code; kind = option_map (λ k. record { 0 = k }) kind; group = option_map (λ g. record { 0 = g }) group } ∷ [] }
with_code cs axis.Industry code kind group = record cs { industries = cs.industries ++ record { code = code; group = option_map (λ g. record { 0 = g }) group } ∷ [] }
with_code cs axis.Final code kind group = record cs { finals = cs.finals ++ code ∷ [] }
with_code cs axis.Item code kind group = record cs { items = cs.items ++ code ∷ [] }
with_code cs axis.Margin code kind group = record cs { margins = cs.margins ++ code ∷ [] }
with_code cs axis.Tax code kind group = record cs { taxes = cs.taxes ++ code ∷ [] }
with_code cs axis.ProductGroup code kind group = record cs { product_groups = cs.product_groups ++ code ∷ [] }
with_code cs axis.IndustryGroup code kind group = record cs { industry_groups = cs.industry_groups ++ code ∷ [] }

-- line n, after the lists that the lines before it gave: the lists with its code, or its first fault
unfoldable pub class_line : ℕ → ClassLists → Fields → Result ClassLists ClassFault
class_line n cs line =
    only_if (length line == cs.format + 2) (fault.Csv n)
    (or_fault (axis_named cs.format (field line 0)) (fault.UnknownAxis n) (λ a.
    only_if (is_code_of a (field line 1)) (fault.BadCode n)
    (or_fault (kind_read cs a (field line 2)) (fault.UnknownKind n) (λ kind.
    or_fault (group_read cs a (field line 3)) (fault.UnknownGroup n) (λ group.
    only_if (not (is_taken cs a (field line 1))) (fault.Duplicate n)
    (only_if (nat_lt (count_of cs a) (limit_of a)) (fault.TooMany a)
    (Ok (with_code cs a (field line 1) kind group))))))))

-- the lists of a file without lines
abbrev pub no_classes : ℕ → ClassLists
no_classes format = record { format = format; products = []; industries = []; finals = []; items = []; margins = []; taxes = []; product_groups = []; industry_groups = [] }

-- the format that a header chooses
abbrev pub format_of : Fields → Option ℕ
format_of header =
    if same_fields header (codes "axis" ∷ codes "code" ∷ codes "kind" ∷ []) then Some 1
    else if same_fields header (codes "axis" ∷ codes "code" ∷ codes "kind" ∷ codes "group" ∷ []) then Some 2
    else None

-- what the records of a file give: the classes, or the first fault
unfoldable pub classes_in : List Fields → Result ClassLists ClassFault
classes_in [] = Err fault.Header
classes_in (header ∷ lines) = or_fault (format_of header) fault.Header (λ format. read_lines class_line 2 (no_classes format) lines)

abbrev pub classes_of : List ℕ → Result ClassLists ClassFault
classes_of bytes = classes_in (records_of bytes)
