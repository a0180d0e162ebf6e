-- A certificate that is read has one list of records: its own. And it names live accounts.
use Rattle.std.proofs.Common.{◌≡◌, ◌==◌, ◌+◌, ◌∷◌, ◌++◌, ℕ, zero, suc, ℤ, List, [], Bool, true, false, if◌then◌else◌, Option, Some, None, Result, Ok, Err, length, map, drop, refl, sym, ap, subst, ◌∙◌, arith, append_assoc}
use Rattle.std.specs.Prelude.{All, IfErr, IfOk, IsTrue, slice_get, nat_le, ◌≤◌, ◌≢◌}
use Rattle.std.specs.Str.{bytes_eq}
use Rattle.std.proofs.lemmas.Bool.{eqb-true, leb-true}
use Rattle.std.proofs.lemmas.List.{append-nil, drop_all}
use Rattle.std.proofs.lemmas.List.Elements.{All-nil, All-cons}
use Rattle.std.proofs.lemmas.Slice.Eq.{bytes_eq-Decides}
use Rattle.sut_text.specs.Number.{whole_of}
use Rattle.sut_text.proofs.Spelling.{spelled-whole}
use Rattle.sut_records.specs.RecordList.{Fields, field, records_of, same_fields}
use Rattle.sut_records.specs.FirstFault.{and_then, only_if, read_lines}
use Rattle.sut_classes.specs.ClassLists.{ClassLists}
use Rattle.sut_measures.specs.Names.{account_fields}
use Rattle.sut_measures.specs.ReadNames.{account_of}
use Rattle.sut_measures.specs.Keys.{account_key}
use Rattle.sut_measures.specs.declared.accounts.Account.{Account}
use Rattle.sut_measures.proofs.KeyLemmas.{account_key-injective}
use Rattle.sut_measures.proofs.RoundTrip.{name-account_of}
use Rattle.sut_tables.specs.ProblemFacts.{ProblemFacts}
use Rattle.sut_tables.specs.Problems.{live_accounts}
use Rattle.sut_tables.proofs.Ordered.{same-eq}
use Rattle.sut_cert.specs.Certificates.{IsAccountSet, IsPotential, IsPotentials, has_account}
use Rattle.sut_cert.specs.CertificateFile.{account_read, all_given, certificate_in, certificate_of, cut_header, cut_in, cut_line, cut_read, is_above, is_next, last_of, potential_line, potential_of, potential_read, potentials_header, potentials_in}
use Rattle.sut_cert.specs.CertificateText.{NamesLive, certificate_records, potential_fields}
use Rattle.sut_cert.specs.declared.certificates.Certificate.{Certificate}
use Rattle.sut_cert.specs.declared.certificates.Certificate.TheVariants as certificate
use Rattle.sut_cert.specs.declared.faults.CertCause.{CertCause}
use Rattle.sut_cert.specs.declared.faults.CertCause.TheVariants as fault
use Rattle.sut_cert.specs.declared.faults.CertFault.{CertFault}
use Rattle.sut_cert.proofs.Ascents.{above-push, pairs-ascending}
use Rattle.sut_cert.proofs.Ranges.{both, potential-read}
use Rattle.sut_cert.proofs.Passed.{and_then-passed, fault_as-passed, only_if-passed}

-- ---- the fields of a line

four-fields : (line : Fields) → length line ≡ 4 → line ≡ field line 0 ∷ field line 1 ∷ field line 2 ∷ field line 3 ∷ []
four-fields [] e = absurd (omega arith)
four-fields (a ∷ []) e = absurd (omega arith)
four-fields (a ∷ b ∷ []) e = absurd (omega arith)
four-fields (a ∷ b ∷ c ∷ []) e = absurd (omega arith)
four-fields (a ∷ b ∷ c ∷ d ∷ []) e = refl
four-fields (a ∷ b ∷ c ∷ d ∷ f ∷ more) e = absurd (omega arith)

three-fields : (line : Fields) → length line ≡ 3 → line ≡ field line 0 ∷ field line 1 ∷ field line 2 ∷ []
three-fields [] e = absurd (omega arith)
three-fields (a ∷ []) e = absurd (omega arith)
three-fields (a ∷ b ∷ []) e = absurd (omega arith)
three-fields (a ∷ b ∷ c ∷ []) e = refl
three-fields (a ∷ b ∷ c ∷ d ∷ more) e = absurd (omega arith)

named : (cs : ClassLists) (line : Fields) (a : Account) → account_read cs line ≡ Ok a → account_fields cs a ≡ field line 0 ∷ field line 1 ∷ field line 2 ∷ []
named cs line a e = name-account_of cs (field line 0) (field line 1) (field line 2) a (fault_as-passed fault.BadName (account_of cs (field line 0) (field line 1) (field line 2)) a e)

-- ---- a line of potentials

-- what steps that pass give
abbrev passed : {X : Type 0} → X → Result X CertCause
passed x = Ok x

next-is : (next : Option Account) (a : Account) → is_next next a ≡ true → next ≡ Some a
next-is None a e = absurd cc
next-is (Some b) a e = ap Some (account_key-injective b a (same-eq (account_key b) (account_key a) e))

-- what a line of potentials that is read says
record TakesPotential (cs : ClassLists) (live : List Account) (given after : List (Account × ℤ)) (line : Fields) : Type 0 where
  pair : Account × ℤ
  next : slice_get live (length given) ≡ Some pair.0
  in_range : IsPotential pair.1
  whole : after ≡ given ++ pair ∷ []
  spelled : line ≡ potential_fields cs pair

takes-potential : (cs : ClassLists) (live : List Account) (n : ℕ) (given after : List (Account × ℤ)) (line : Fields) → potential_line cs live n given line ≡ Ok after → TakesPotential cs live given after line
unfolding potential_line potential_read
takes-potential cs live n given after line e =
    let judged = and_then-passed (potential_read cs (slice_get live (length given)) line) (λ pair. Ok (given ++ pair ∷ [])) after
    (fault_as-passed (λ cause. record { line = n; cause = cause }) (and_then (potential_read cs (slice_get live (length given)) line) (λ pair. Ok (given ++ pair ∷ []))) after e) in
    let four = only_if-passed (length line == 4) fault.Csv _ judged.0 judged.1 in
    let account = and_then-passed (account_read cs line) _ judged.0 four.1 in
    let next = only_if-passed (is_next (slice_get live (length given)) account.0) fault.WrongAccount _ judged.0 account.2 in
    let number = and_then-passed (potential_of (whole_of (field line 3))) _ judged.0 next.1 in
    let read = potential-read (whole_of (field line 3)) number.0 number.1 in
    record {
      pair = (account.0, number.0);
      next = next-is (slice_get live (length given)) account.0 next.0;
      in_range = read.1;
      whole = took after judged.0 judged.2 ∙ ap (λ pair. given ++ pair ∷ []) (same (account.0, number.0) judged.0 number.2);
      spelled =
          four-fields line (eqb-true (length line) 4 four.0)
          ∙ ap (λ fs. fs ++ field line 3 ∷ []) (sym (named cs line account.0 account.1))
          ∙ ap (λ t. account_fields cs account.0 ++ t ∷ []) (spelled-whole (field line 3) number.0 read.0);
    }
  where
    took : (after : List (Account × ℤ)) (pair : Account × ℤ) → passed (given ++ pair ∷ []) ≡ passed after → after ≡ given ++ pair ∷ []
    took after pair e = cc

    same : (p q : Account × ℤ) → passed p ≡ passed q → q ≡ p
    same p q e = cc

-- what lines of potentials that are read say
pub record GivesPotentials (cs : ClassLists) (live : List Account) (given after : List (Account × ℤ)) (lines : List Fields) : Type 0 where
  pub new : List (Account × ℤ)
  pub whole : after ≡ given ++ new
  pub spelled : lines ≡ map (potential_fields cs) new
  pub next : drop (length given) live ≡ map (λ (a : Account × ℤ). a.0) new ++ drop (length after) live
  pub in_range : All (λ (a : Account × ℤ). IsPotential a.1) new

drop-at : {X : Type 0} (xs : List X) (i : ℕ) (x : X) → slice_get xs i ≡ Some x → drop i xs ≡ x ∷ drop (suc i) xs
drop-at [] i x e = absurd cc
drop-at (y ∷ xs) zero x e = let same : y ≡ x = cc in ap (λ z. z ∷ xs) same
drop-at (y ∷ xs) (suc i) x e = drop-at xs i x e

one-more : {X : Type 0} (xs : List X) (x : X) → length (xs ++ x ∷ []) ≡ suc (length xs)
one-more [] x = refl
one-more (y ∷ xs) x = ap suc (one-more xs x)

pub gives-potentials : (cs : ClassLists) (live : List Account) (n : ℕ) (given after : List (Account × ℤ)) (lines : List Fields)
    → read_lines (potential_line cs live) n given lines ≡ Ok after → GivesPotentials cs live given after lines
unfolding read_lines
gives-potentials cs live n given after [] e =
    let same : given ≡ after = cc in record {
      new = [];
      whole = sym same ∙ sym (append-nil given);
      spelled = refl;
      next = ap (λ g. drop (length g) live) same;
      in_range = All-nil (λ (a : Account × ℤ). IsPotential a.1);
    }
gives-potentials cs live n given after (line ∷ lines) e =
    let step = and_then-passed (potential_line cs live n given line) (λ g. read_lines (potential_line cs live) (n + 1) g lines) after e in
    let one = takes-potential cs live n given step.0 line step.1 in
    let rest = gives-potentials cs live (n + 1) step.0 after lines step.2 in
    let longer : length step.0 ≡ suc (length given) = ap length one.whole ∙ one-more given one.pair in
    record {
      new = one.pair ∷ rest.new;
      whole = rest.whole ∙ ap (λ g. g ++ rest.new) one.whole ∙ append_assoc given (one.pair ∷ []) rest.new;
      spelled = ap (λ l. l ∷ lines) one.spelled ∙ ap (λ ls. potential_fields cs one.pair ∷ ls) rest.spelled;
      next =
          drop-at live (length given) one.pair.0 one.next
          ∙ ap (λ l. one.pair.0 ∷ l) (ap (λ k. drop k live) (sym longer) ∙ rest.next);
      in_range = All-cons (λ (a : Account × ℤ). IsPotential a.1) one.pair rest.new one.in_range rest.in_range;
    }

-- where each live account has one, the accounts are the live accounts
pub potentials-live : (cs : ClassLists) (live : List Account) (given : List (Account × ℤ)) (lines : List Fields)
    → GivesPotentials cs live [] given lines → length live ≤ length given → map (λ (a : Account × ℤ). a.0) given ≡ live
potentials-live cs live given lines g whole =
    ap (map (λ (a : Account × ℤ). a.0)) g.whole
    ∙ sym (append-nil (map (λ (a : Account × ℤ). a.0) g.new))
    ∙ ap (λ l. map (λ (a : Account × ℤ). a.0) g.new ++ l) (sym (drop_all (length given) live whole))
    ∙ sym g.next

pub potentials-kept : (cs : ClassLists) (live : List Account) (given : List (Account × ℤ)) (lines : List Fields) → IsAccountSet live
    → read_lines (potential_line cs live) 2 [] lines ≡ Ok given → length live ≤ length given → IsPotentials given
potentials-kept cs live given lines asc e whole =
    let g = gives-potentials cs live 2 [] given lines e in
    record {
      in_order = pairs-ascending given (subst IsAccountSet (sym (potentials-live cs live given lines g whole)) asc);
      in_range = subst (All (λ (a : Account × ℤ). IsPotential a.1)) (sym g.whole) g.in_range;
    }

-- ---- a cut

-- what a line of a cut that is read says
record TakesAccount (cs : ClassLists) (live set after : List Account) (line : Fields) : Type 0 where
  account : Account
  alive : has_account live account ≡ true
  above : is_above (last_of set) account ≡ true
  whole : after ≡ set ++ account ∷ []
  spelled : line ≡ account_fields cs account

takes-account : (cs : ClassLists) (live : List Account) (n : ℕ) (set after : List Account) (line : Fields) → cut_line cs live n set line ≡ Ok after → TakesAccount cs live set after line
unfolding cut_line cut_read
takes-account cs live n set after line e =
    let judged = and_then-passed (cut_read cs live (last_of set) line) (λ account. Ok (set ++ account ∷ [])) after
    (fault_as-passed (λ cause. record { line = n; cause = cause }) (and_then (cut_read cs live (last_of set) line) (λ account. Ok (set ++ account ∷ []))) after e) in
    let three = only_if-passed (length line == 3) fault.Csv _ judged.0 judged.1 in
    let account = and_then-passed (account_read cs line) _ judged.0 three.1 in
    let alive = only_if-passed (has_account live account.0) fault.WrongAccount _ judged.0 account.2 in
    let over = only_if-passed (is_above (last_of set) account.0) fault.WrongAccount _ judged.0 alive.1 in
    record {
      account = account.0;
      alive = alive.0;
      above = over.0;
      whole = took after judged.0 judged.2 ∙ ap (λ a. set ++ a ∷ []) (same account.0 judged.0 over.1);
      spelled = three-fields line (eqb-true (length line) 3 three.0) ∙ sym (named cs line account.0 account.1);
    }
  where
    took : (after : List Account) (a : Account) → passed (set ++ a ∷ []) ≡ passed after → after ≡ set ++ a ∷ []
    took after a e = cc

    same : (a b : Account) → passed a ≡ passed b → b ≡ a
    same a b e = cc

-- what lines of a cut that are read say
pub record GivesAccounts (cs : ClassLists) (live set after : List Account) (lines : List Fields) : Type 0 where
  pub new : List Account
  pub whole : after ≡ set ++ new
  pub spelled : lines ≡ map (account_fields cs) new
  pub alive : All (λ a. IsTrue (has_account live a)) new
  pub in_order : IsAccountSet set → IsAccountSet after

pub gives-accounts : (cs : ClassLists) (live : List Account) (n : ℕ) (set after : List Account) (lines : List Fields)
    → read_lines (cut_line cs live) n set lines ≡ Ok after → GivesAccounts cs live set after lines
unfolding read_lines
gives-accounts cs live n set after [] e =
    let same : set ≡ after = cc in record {
      new = [];
      whole = sym same ∙ sym (append-nil set);
      spelled = refl;
      alive = All-nil (λ a. IsTrue (has_account live a));
      in_order = λ asc. subst IsAccountSet same asc;
    }
gives-accounts cs live n set after (line ∷ lines) e =
    let step = and_then-passed (cut_line cs live n set line) (λ g. read_lines (cut_line cs live) (n + 1) g lines) after e in
    let one = takes-account cs live n set step.0 line step.1 in
    let rest = gives-accounts cs live (n + 1) step.0 after lines step.2 in
    record {
      new = one.account ∷ rest.new;
      whole = rest.whole ∙ ap (λ g. g ++ rest.new) one.whole ∙ append_assoc set (one.account ∷ []) rest.new;
      spelled = ap (λ l. l ∷ lines) one.spelled ∙ ap (λ ls. account_fields cs one.account ∷ ls) rest.spelled;
      alive = All-cons (λ a. IsTrue (has_account live a)) one.account rest.new one.alive rest.alive;
      in_order = λ asc. rest.in_order (subst IsAccountSet (sym one.whole) (above-push set one.account asc one.above));
    }

pub cut-kept : (cs : ClassLists) (live set : List Account) (lines : List Fields) → read_lines (cut_line cs live) 2 [] lines ≡ Ok set → IsAccountSet set
cut-kept cs live set lines e = (gives-accounts cs live 2 [] set lines e).in_order tt

-- ---- the file

same-is : (xs ys : Fields) → same_fields xs ys ≡ true → xs ≡ ys
same-is [] [] e = refl
same-is [] (y ∷ ys) e = cc
same-is (x ∷ xs) [] e = cc
same-is (x ∷ xs) (y ∷ ys) e =
    let parts = both (bytes_eq x y) (same_fields xs ys) e in
    ap (λ z. z ∷ xs) ((bytes_eq-Decides x y).0 parts.0) ∙ ap (λ zs. y ∷ zs) (same-is xs ys parts.1)

le-tested : (a b : ℕ) → nat_le a b ≡ true → a ≤ b
le-tested a b e = omega (arith, leb-true a b e)

-- what is read without a fault
abbrev read : {X : Type 0} → X → Result X CertFault
read x = Ok x

-- what a certificate that is read says
pub record Spells (cs : ClassLists) (live : List Account) (rows : List Fields) (c : Certificate) : Type 0 where
  pub records : rows ≡ certificate_records cs c
  pub names : NamesLive live c

pub certificate-spelled : (cs : ClassLists) (live : List Account) (rows : List Fields) (c : Certificate) → certificate_in cs live rows ≡ Ok c → Spells cs live rows c
unfolding certificate_in potentials_in cut_in
certificate-spelled cs live [] c e = absurd cc
certificate-spelled cs live (header ∷ lines) c e = by (same_fields header potentials_header) refl (same_fields header cut_header) refl e
  where
    same : (d g : Certificate) → read d ≡ read g → d ≡ g
    same d g e = cc

    same-list : (xs ys : List (Account × ℤ)) → read xs ≡ read ys → xs ≡ ys
    same-list xs ys e = cc

    by : (b : Bool) → same_fields header potentials_header ≡ b → (d : Bool) → same_fields header cut_header ≡ d
        → (if b then and_then (potentials_in cs live lines) (λ ps. Ok (certificate.Potentials ps))
        else only_if d (record { line = 1; cause = fault.Header }) (and_then (cut_in cs live lines) (λ set. Ok (certificate.Cut set)))) ≡ Ok c
        → Spells cs live (header ∷ lines) c
    by true t d u e =
        let ps = and_then-passed (potentials_in cs live lines) (λ ps. Ok (certificate.Potentials ps)) c e in
        let given = and_then-passed (read_lines (potential_line cs live) 2 [] lines) (all_given live (length lines + 2)) ps.0 ps.1 in
        let whole = only_if-passed (nat_le (length live) (length given.0)) (record { line = length lines + 2; cause = fault.Short }) (Ok given.0) ps.0 given.2 in
        let g = gives-potentials cs live 2 [] given.0 lines given.1 in
        let is : certificate.Potentials given.0 ≡ c = ap certificate.Potentials (same-list given.0 ps.0 whole.1) ∙ same (certificate.Potentials ps.0) c ps.2 in
        subst (Spells cs live (header ∷ lines)) is (record {
          records =
              ap (λ h. h ∷ lines) (same-is header potentials_header t)
              ∙ ap (λ ls. potentials_header ∷ ls) (g.spelled ∙ ap (map (potential_fields cs)) (sym g.whole));
          names = potentials-live cs live given.0 lines g (le-tested (length live) (length given.0) whole.0);
        })
    by false t true u e =
        let set = and_then-passed (cut_in cs live lines) (λ set. Ok (certificate.Cut set)) c e in
        let g = gives-accounts cs live 2 [] set.0 lines set.1 in
        let is : certificate.Cut set.0 ≡ c = same (certificate.Cut set.0) c set.2 in
        subst (Spells cs live (header ∷ lines)) is (record {
          records =
              ap (λ h. h ∷ lines) (same-is header cut_header u)
              ∙ ap (λ ls. cut_header ∷ ls) (g.spelled ∙ ap (map (account_fields cs)) (sym g.whole));
          names = subst (All (λ a. IsTrue (has_account live a))) (sym g.whole) g.alive;
        })
    by false t false u e = absurd cc

-- of a reading that lacked no memory
spelled-or-fault : (p : ProblemFacts) (bytes : List ℕ) (r : Result Certificate CertFault)
    → ((IfErr r (λ e. e.cause ≢ fault.NoMemory)) → r ≡ certificate_of p bytes)
    → IfOk r (Spells p.classes (live_accounts p) (records_of bytes))
spelled-or-fault p bytes (Ok c) e = certificate-spelled p.classes (live_accounts p) (records_of bytes) c (sym (e tt))
spelled-or-fault p bytes (Err f) e = tt

-- the same, where the classes and the live accounts are given
pub read-spelled : (p : ProblemFacts) (bytes : List ℕ) (r : Result Certificate CertFault) (cs : ClassLists) (live : List Account) → cs ≡ p.classes → live ≡ live_accounts p
    → ((IfErr r (λ e. e.cause ≢ fault.NoMemory)) → r ≡ certificate_in cs live (records_of bytes))
    → IfOk r (Spells p.classes (live_accounts p) (records_of bytes))
read-spelled p bytes r cs live e f h = spelled-or-fault p bytes r (λ lack. h lack ∙ (λ i. certificate_in (e i) (f i) (records_of bytes)))
