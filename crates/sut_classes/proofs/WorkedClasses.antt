-- Worked files of classes, computed.
use Rattle.std.proofs.Common.{◌≡◌, ◌∷◌, [], Ok, Err, Some, None, refl}
use Rattle.std.specs.Prelude.{codes}
use Rattle.csv.proofs.OnLiterals.{csv_on_literals}
use Rattle.sut_records.specs.FirstFault.{read_lines}
use Rattle.sut_classes.specs.ClassFile.{class_line, classes_in, classes_of}
use Rattle.sut_classes.specs.declared.faults.ClassFault.TheVariants as fault

-- a kind whose margin comes only later
kind-too-early : classes_of (codes "axis,code,kind\nproduct,T,TR\nmargin,TR,\n") ≡ Err (fault.UnknownKind 2)
unfolding csv_on_literals read_lines class_line classes_in
kind-too-early = refl

-- a group that there is not
no-such-group : classes_of (codes "axis,code,kind,group\nproduct,X,plain,G\n") ≡ Err (fault.UnknownGroup 2)
unfolding csv_on_literals read_lines class_line classes_in
no-such-group = refl

no-record : classes_of [] ≡ Err fault.Header
unfolding csv_on_literals read_lines class_line classes_in
no-record = refl

cut-line : classes_of (codes "axis,code,kind\nproduct,X") ≡ Err (fault.Csv 2)
unfolding csv_on_literals read_lines class_line classes_in
cut-line = refl

two-axes : classes_of (codes "axis,code,kind\nindustry,A,\nfinal,A,\n") ≡ Err (fault.Duplicate 3)
unfolding csv_on_literals read_lines class_line classes_in
two-axes = refl

group-axis-in-old-format : classes_of (codes "axis,code,kind\nproduct_group,G,\n") ≡ Err (fault.UnknownAxis 2)
unfolding csv_on_literals read_lines class_line classes_in
group-axis-in-old-format = refl

small : classes_of (codes "axis,code,kind\nmargin,TR,\nproduct,X,plain\nproduct,T,TR\nindustry,A,\n") ≡ Ok (record {
  format = 1;
  products = record { code = codes "X"; kind = None; group = None } ∷ record { code = codes "T"; kind = Some (record { 0 = 0 }); group = None } ∷ [];
  industries = record { code = codes "A"; group = None } ∷ [];
  finals = [];
  items = [];
  margins = codes "TR" ∷ [];
  taxes = [];
  product_groups = [];
  industry_groups = [];
})
unfolding csv_on_literals read_lines class_line classes_in
small = refl
