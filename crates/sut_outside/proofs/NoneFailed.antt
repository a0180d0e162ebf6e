-- Calls in a row, of which none failed.
use Rattle.std.proofs.Common.{◌∙◌, ℕ, Option, refl}
use Rattle.sut_outside.specs.declared.names.FileName.{FileName}
use Rattle.sut_outside.specs.Causes.{NoneFailed}

-- no call
pub no_call : {count : ℕ} {last : Option FileName} → NoneFailed count count last last
no_call = record { count = refl; last = refl }

-- two calls in a row
pub both_stay :
    {a b c : ℕ} {last_a last_b last_c : Option FileName} →
    NoneFailed a b last_a last_b → NoneFailed b c last_b last_c → NoneFailed a c last_a last_c
both_stay p q = record { count = q.count ∙ p.count; last = q.last ∙ p.last }
