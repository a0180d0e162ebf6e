-- Which numbers are potentials, as a fact and as a test.
use Rattle.std.proofs.Common.{◌≡◌, ◌&&◌, ◌∙◌, ℤ, pos, neg_ℤ, ◌≤ℤ◌, List, Bool, true, false, not, if◌then◌else◌, Result, Ok, Err, refl, sym, ap, subst, arith, to_z, of_z}
use mir.Syntax.{w128}
use Rattle.std.proofs.lemmas.Int.{ints}
use Rattle.sut_text.specs.declared.numbers.NumberFault.{NumberFault}
use Rattle.sut_cert.specs.CertificateFile.{potential_of}
use Rattle.sut_cert.specs.declared.faults.CertCause.{CertCause}
use Rattle.sut_cert.specs.declared.faults.CertCause.TheVariants as fault
use Rattle.std.specs.Prelude.{◌↔◌, All, IsTrue, int_lt}
use Rattle.std.specs.List.{list_all}
use Rattle.std.proofs.lemmas.List.Elements.{All-weaker}
use Rattle.std.proofs.lemmas.List.Sums.{AllPass-from_list_all, list_all-from_AllPass}
use Rattle.sut_measures.specs.declared.accounts.Account.{Account}
use Rattle.sut_tables.proofs.Tests.{lt_false, lt_is_false}
use Rattle.sut_cert.specs.Certificates.{IsPotential, has_potential, is_potential, potential_limit}

pub both : (a b : Bool) → (a && b) ≡ true → (a ≡ true) × (b ≡ true)
both true b e = (refl, e)
both false b e = absurd cc

refused : (b : Bool) → not b ≡ true → b ≡ false
refused true e = cc
refused false e = refl

pub potential-tested : (z : ℤ) → is_potential z ≡ true → IsPotential z
potential-tested z e =
    let parts = both (not (int_lt z (neg_ℤ potential_limit))) (not (int_lt potential_limit z)) e in
    record {
      low = lt_false z (neg_ℤ potential_limit) (refused (int_lt z (neg_ℤ potential_limit)) parts.0);
      high = lt_false potential_limit z (refused (int_lt potential_limit z) parts.1);
    }

pub tested-potential : (z : ℤ) → IsPotential z → is_potential z ≡ true
tested-potential z r = rw (lt_is_false z (neg_ℤ potential_limit) r.low, lt_is_false potential_limit z r.high) refl

-- the test of all numbers of a list
pub ranges-tested : (ps : List (Account × ℤ)) (r : Bool) → r ≡ list_all has_potential ps → IsTrue r ↔ All (λ (a : Account × ℤ). IsPotential a.1) ps
ranges-tested ps r is = (
  (λ e. All-weaker (λ a. has_potential a ≡ true) (λ (a : Account × ℤ). IsPotential a.1) (λ a h. potential-tested a.1 h) ps (AllPass-from_list_all has_potential ps (sym is ∙ e))),
  (λ h. is ∙ list_all-from_AllPass has_potential ps (All-weaker (λ (a : Account × ℤ). IsPotential a.1) (λ a. has_potential a ≡ true) (λ a g. tested-potential a.1 g) ps h)),
)

-- a number that was read
abbrev whole : ℤ → Result ℤ NumberFault
whole z = Ok z

-- and one that is a potential
abbrev judged : ℤ → Result ℤ CertCause
judged z = Ok z

pub potential-read : (r : Result ℤ NumberFault) (z : ℤ) → potential_of r ≡ judged z → (r ≡ whole z) × IsPotential z
potential-read (Err f) z e = absurd cc
potential-read (Ok y) z e = by (is_potential y) refl e
  where
    by : (b : Bool) → is_potential y ≡ b → (if b then judged y else Err fault.OutOfRange) ≡ judged z → (whole y ≡ whole z) × IsPotential z
    by true t e = let same : y ≡ z = cc in (ap whole same, subst IsPotential same (potential-tested y t))
    by false t e = absurd cc

-- a potential fits 128 bits
pub fits-wide : (z : ℤ) → IsPotential z → to_z w128 (of_z w128 z) ≡ z
fits-wide z r =
    let low : neg_ℤ (pos 1000000000000000000000000) ≤ℤ z = r.low in
    let high : z ≤ℤ pos 1000000000000000000000000 = r.high in omega (arith, ints)
