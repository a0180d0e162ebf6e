-- Rows and lines that are kept apart, as rows with their lines.
use Rattle.std.proofs.Common.{◌≡◌, ◌∙◌, ℕ, List, [], ◌∷◌, map, Bool, true, false, Option, Some, None, Ok, Err, cond, option_map, find, refl, sym, ap, ap₂, subst}
use Rattle.std.specs.Prelude.{IsSome}
use Rattle.std.specs.declared.cmp.Ordering.{Ordering}
use Rattle.std.specs.declared.cmp.Ordering.TheVariants.{Less, Equal, Greater}
use Rattle.std.specs.Ordering.{is_eq, match_ordering, nat_cmp}
use Rattle.std.specs.Cmp.Lexicographic.{slice_cmp}
use Rattle.std.specs.Map.{keys_of, lookup}
use Rattle.std.specs.BTreeMap.{insert_entry, is_at}
use Rattle.sut_classes.specs.ClassLists.{ClassLists}
use Rattle.sut_measures.specs.Keys.{measure_key}
use Rattle.sut_measures.specs.declared.measures.Measure.{Measure}
use Rattle.sut_measures.proofs.OrderLemmas.{measure_order}
use Rattle.sut_tables.specs.InOrder.{by_order, put_in_order, same_key}
use Rattle.sut_tables.specs.Changes.{has_room, with_row as with_problem_row}
use Rattle.sut_tables.specs.LiveTallies.{measure_cmp}
use Rattle.sut_tables.specs.RowFacts.{RowFacts}
use Rattle.sut_tables.specs.ProblemFacts.{ProblemFacts}
use Rattle.sut_tables.proofs.Ordered.{same-flip}
use Rattle.sut_tables.proofs.TallyKeys.{eq-same}
use Rattle.sut_source.specs.SourceFile.{RowLine, first_line, row_added, rows_of, with_row}
use Rattle.sut_source.specs.LinedRows.{KeepsLines, lined_rows}
use Rattle.sut_source.specs.declared.faults.RowFault.TheVariants as fault

head-of : {A : Type 0} (x y : A) (xs ys : List A) → x ∷ xs ≡ y ∷ ys → x ≡ y
head-of x y xs ys h = cc

tail-of : {A : Type 0} (x y : A) (xs ys : List A) → x ∷ xs ≡ y ∷ ys → xs ≡ ys
tail-of x y xs ys h = cc

abbrev row_key : RowFacts → List ℕ
row_key r = measure_key r.measure

at-measure : (m q : Measure) → is_at (measure_cmp m) q ≡ same_key (measure_key q) (measure_key m)
at-measure m q = ap is_eq (measure_order m q) ∙ eq-same (measure_key m) (measure_key q) ∙ same-flip (measure_key m) (measure_key q)

-- ---- the rows and the lines of them

pub lined-rows-of : (rows : List RowFacts) (lines : List (Measure × ℕ)) → KeepsLines rows lines → rows_of (lined_rows rows lines) ≡ rows
lined-rows-of [] [] k = refl
lined-rows-of [] (l ∷ ls) k = refl
lined-rows-of (r ∷ rs) [] k = cc
lined-rows-of (r ∷ rs) (l ∷ ls) k = ap (λ xs. r ∷ xs) (lined-rows-of rs ls (tail-of l.0 r.measure (keys_of ls) (map (λ (r : RowFacts). r.measure) rs) k))

pub lined-empty : (rows : List RowFacts) (lines : List (Measure × ℕ)) → rows ≡ [] → lined_rows rows lines ≡ []
lined-empty [] lines e = refl
lined-empty (r ∷ rs) lines e = cc

-- the line under a measure is that of its row
pub lined-first : (m : Measure) (rows : List RowFacts) (lines : List (Measure × ℕ)) → KeepsLines rows lines → first_line (lined_rows rows lines) m ≡ lookup (is_at (measure_cmp m)) lines
lined-first m [] [] k = refl
lined-first m [] (l ∷ ls) k = cc
lined-first m (r ∷ rs) [] k = cc
lined-first m (r ∷ rs) ((q, n) ∷ ls) k =
    let at : is_at (measure_cmp m) q ≡ same_key (measure_key r.measure) (measure_key m) =
    ap (is_at (measure_cmp m)) (head-of q r.measure (keys_of ls) (map (λ (r : RowFacts). r.measure) rs) k) ∙ at-measure m r.measure in
    by (same_key (measure_key r.measure) (measure_key m)) (lined-first m rs ls (tail-of q r.measure (keys_of ls) (map (λ (r : RowFacts). r.measure) rs) k))
    ∙ ap (λ b. cond b (Some n) (lookup (is_at (measure_cmp m)) ls)) (sym at)
  where
    by : (b : Bool) → first_line (lined_rows rs ls) m ≡ lookup (is_at (measure_cmp m)) ls
        → option_map (λ (x : RowLine). x.line) (cond b (Some (record { row = r; line = n })) (find (λ (x : RowLine). same_key (measure_key x.row.measure) (measure_key m)) (lined_rows rs ls)))
        ≡ cond b (Some n) (lookup (is_at (measure_cmp m)) ls)
    by true h = refl
    by false h = h

passed-by : {V : Type 0} (b : Bool) (v : V) (rest : Option V) → cond b (Some v) rest ≡ None → (b ≡ false) × (rest ≡ None)
passed-by true v rest e = absurd cc
passed-by false v rest e = (refl, e)

-- where a measure has no line it has no row
pub lined-absent : (m : Measure) (rows : List RowFacts) (lines : List (Measure × ℕ)) → KeepsLines rows lines → lookup (is_at (measure_cmp m)) lines ≡ None
    → find (λ (r : RowFacts). same_key (measure_key r.measure) (measure_key m)) rows ≡ None
lined-absent m [] lines k none = refl
lined-absent m (r ∷ rs) [] k none = absurd cc
lined-absent m (r ∷ rs) ((q, n) ∷ ls) k none =
    let at : is_at (measure_cmp m) q ≡ same_key (measure_key r.measure) (measure_key m) =
    ap (is_at (measure_cmp m)) (head-of q r.measure (keys_of ls) (map (λ (r : RowFacts). r.measure) rs) k) ∙ at-measure m r.measure in
    let past = passed-by (is_at (measure_cmp m) q) n (lookup (is_at (measure_cmp m)) ls) none in
    ap (λ b. cond b (Some r) (find (λ (r : RowFacts). same_key (measure_key r.measure) (measure_key m)) rs)) (sym at ∙ past.0)
    ∙ lined-absent m rs ls (tail-of q r.measure (keys_of ls) (map (λ (r : RowFacts). r.measure) rs) k) past.1

pub absent-some : (o : Option RowFacts) → o ≡ None → IsSome o → ⊥
absent-some None e h = cc
absent-some (Some r) e h = cc

-- ---- a row and its line put in their places

not-equal : {V : Type 0} (o : Ordering) (v : V) (rest : Option V) → cond (is_eq o) (Some v) rest ≡ None → (o ≡ Equal → ⊥) × (rest ≡ None)
not-equal Less v rest h = ((λ e. cc), h)
not-equal Equal v rest h = absurd cc
not-equal Greater v rest h = ((λ e. cc), h)

lined-put : (r : RowFacts) (n : ℕ) (rows : List RowFacts) (lines : List (Measure × ℕ)) → KeepsLines rows lines → lookup (is_at (measure_cmp r.measure)) lines ≡ None
    → lined_rows (put_in_order row_key r rows) (insert_entry measure_cmp lines r.measure n) ≡ with_row (record { row = r; line = n }) (lined_rows rows lines)
lined-put r n [] [] k none = refl
lined-put r n [] (l ∷ ls) k none = cc
lined-put r n (q ∷ rs) [] k none = cc
lined-put r n (q ∷ rs) ((p, j) ∷ ls) k none =
    let head : p ≡ q.measure = head-of p q.measure (keys_of ls) (map (λ (r : RowFacts). r.measure) rs) k in
    let tail = tail-of p q.measure (keys_of ls) (map (λ (r : RowFacts). r.measure) rs) k in
    let past = not-equal (measure_cmp r.measure p) j (lookup (is_at (measure_cmp r.measure)) ls) none in
    let same : measure_cmp r.measure p ≡ slice_cmp nat_cmp (row_key r) (row_key q) = ap (measure_cmp r.measure) head ∙ measure_order r.measure q.measure in
    let P : Ordering → Type 0 = λ o.
    lined_rows (by_order o (r ∷ q ∷ rs) (q ∷ rs) (q ∷ put_in_order row_key r rs)) (match_ordering (measure_cmp r.measure p) ((r.measure, n) ∷ (p, j) ∷ ls) ((p, n) ∷ ls) ((p, j) ∷ insert_entry measure_cmp ls r.measure n))
    ≡ by_order o (record { row = r; line = n } ∷ record { row = q; line = j } ∷ lined_rows rs ls) (record { row = q; line = j } ∷ lined_rows rs ls) (record { row = q; line = j } ∷ with_row (record { row = r; line = n }) (lined_rows rs ls)) in
    subst P same (by (measure_cmp r.measure p) past.0 (lined-put r n rs ls tail past.1))
  where
    by : (o : Ordering) → (o ≡ Equal → ⊥)
        → lined_rows (put_in_order row_key r rs) (insert_entry measure_cmp ls r.measure n) ≡ with_row (record { row = r; line = n }) (lined_rows rs ls)
        → lined_rows (by_order o (r ∷ q ∷ rs) (q ∷ rs) (q ∷ put_in_order row_key r rs)) (match_ordering o ((r.measure, n) ∷ (p, j) ∷ ls) ((p, n) ∷ ls) ((p, j) ∷ insert_entry measure_cmp ls r.measure n))
        ≡ by_order o (record { row = r; line = n } ∷ record { row = q; line = j } ∷ lined_rows rs ls) (record { row = q; line = j } ∷ lined_rows rs ls) (record { row = q; line = j } ∷ with_row (record { row = r; line = n }) (lined_rows rs ls))
    by Less ne later = refl
    by Equal ne later = absurd (ne refl)
    by Greater ne later = ap (λ xs. record { row = q; line = j } ∷ xs) later

keeps-put : (r : RowFacts) (n : ℕ) (rows : List RowFacts) (lines : List (Measure × ℕ)) → KeepsLines rows lines → lookup (is_at (measure_cmp r.measure)) lines ≡ None
    → KeepsLines (put_in_order row_key r rows) (insert_entry measure_cmp lines r.measure n)
keeps-put r n [] [] k none = refl
keeps-put r n [] (l ∷ ls) k none = cc
keeps-put r n (q ∷ rs) [] k none = cc
keeps-put r n (q ∷ rs) ((p, j) ∷ ls) k none =
    let head : p ≡ q.measure = head-of p q.measure (keys_of ls) (map (λ (r : RowFacts). r.measure) rs) k in
    let tail = tail-of p q.measure (keys_of ls) (map (λ (r : RowFacts). r.measure) rs) k in
    let past = not-equal (measure_cmp r.measure p) j (lookup (is_at (measure_cmp r.measure)) ls) none in
    let same : measure_cmp r.measure p ≡ slice_cmp nat_cmp (row_key r) (row_key q) = ap (measure_cmp r.measure) head ∙ measure_order r.measure q.measure in
    let P : Ordering → Type 0 = λ o.
    KeepsLines (by_order o (r ∷ q ∷ rs) (q ∷ rs) (q ∷ put_in_order row_key r rs)) (match_ordering (measure_cmp r.measure p) ((r.measure, n) ∷ (p, j) ∷ ls) ((p, n) ∷ ls) ((p, j) ∷ insert_entry measure_cmp ls r.measure n)) in
    subst P same (by head (measure_cmp r.measure p) past.0 (keeps-put r n rs ls tail past.1))
  where
    by : p ≡ q.measure → (o : Ordering) → (o ≡ Equal → ⊥) → KeepsLines (put_in_order row_key r rs) (insert_entry measure_cmp ls r.measure n)
        → KeepsLines (by_order o (r ∷ q ∷ rs) (q ∷ rs) (q ∷ put_in_order row_key r rs)) (match_ordering o ((r.measure, n) ∷ (p, j) ∷ ls) ((p, n) ∷ ls) ((p, j) ∷ insert_entry measure_cmp ls r.measure n))
    by head Less ne later = ap (λ xs. r.measure ∷ xs) k
    by head Equal ne later = absurd (ne refl)
    by head Greater ne later = ap₂ (λ x xs. x ∷ xs) head later

-- ---- a row added

pub added-there : (cs : ClassLists) (n : ℕ) (rows : List RowFacts) (lines : List (Measure × ℕ)) (r : RowFacts) (line : ℕ) → KeepsLines rows lines
    → lookup (is_at (measure_cmp r.measure)) lines ≡ Some line → row_added cs n (lined_rows rows lines) r ≡ Err (fault.Duplicate line)
unfolding row_added
added-there cs n rows lines r line k found = let first : first_line (lined_rows rows lines) r.measure ≡ Some line = lined-first r.measure rows lines k ∙ found in rw first refl

room-is : (p : ProblemFacts) (lines : List (Measure × ℕ)) (m : Measure) → KeepsLines p.rows lines → has_room (record { classes = p.classes; rows = rows_of (lined_rows p.rows lines) }) m ≡ has_room p m
room-is p lines m k = ap (λ rs. has_room (record { classes = p.classes; rows = rs }) m) (lined-rows-of p.rows lines k)

pub added-full : (p : ProblemFacts) (n : ℕ) (lines : List (Measure × ℕ)) (r : RowFacts) → KeepsLines p.rows lines
    → lookup (is_at (measure_cmp r.measure)) lines ≡ None → has_room p r.measure ≡ false → row_added p.classes n (lined_rows p.rows lines) r ≡ Err fault.TooMany
unfolding row_added
added-full p n lines r k none full =
    let first : first_line (lined_rows p.rows lines) r.measure ≡ None = lined-first r.measure p.rows lines k ∙ none in
    let room : has_room (record { classes = p.classes; rows = rows_of (lined_rows p.rows lines) }) r.measure ≡ false = room-is p lines r.measure k ∙ full in
    rw (first, room) refl

pub added-row : (p q : ProblemFacts) (n : ℕ) (lines more : List (Measure × ℕ)) (r : RowFacts) → KeepsLines p.rows lines
    → lookup (is_at (measure_cmp r.measure)) lines ≡ None → has_room p r.measure ≡ true → q ≡ with_problem_row p r → more ≡ insert_entry measure_cmp lines r.measure n
    → row_added p.classes n (lined_rows p.rows lines) r ≡ Ok (lined_rows q.rows more)
unfolding row_added
added-row p q n lines more r k none free eq em =
    let first : first_line (lined_rows p.rows lines) r.measure ≡ None = lined-first r.measure p.rows lines k ∙ none in
    let room : has_room (record { classes = p.classes; rows = rows_of (lined_rows p.rows lines) }) r.measure ≡ true = room-is p lines r.measure k ∙ free in
    rw (first, room) (ap Ok (sym (ap₂ (λ (w : ProblemFacts) l. lined_rows w.rows l) eq em ∙ lined-put r n p.rows lines k none)))

pub added-keeps : (p q : ProblemFacts) (n : ℕ) (lines more : List (Measure × ℕ)) (r : RowFacts) → KeepsLines p.rows lines
    → lookup (is_at (measure_cmp r.measure)) lines ≡ None → q ≡ with_problem_row p r → more ≡ insert_entry measure_cmp lines r.measure n → KeepsLines q.rows more
added-keeps p q n lines more r k none eq em =
    subst (λ l. KeepsLines q.rows l) (sym em) (subst (λ (w : ProblemFacts). KeepsLines w.rows (insert_entry measure_cmp lines r.measure n)) (sym eq) (keeps-put r n p.rows lines k none))

pub keeps-empty : (rows : List RowFacts) (lines : List (Measure × ℕ)) → rows ≡ [] → lines ≡ [] → KeepsLines rows lines
keeps-empty rows lines er el = rw (er, el) refl
