-- What a size that is made says.
use Rattle.std.proofs.Common.{◌≡◌, ◌≤◌, ◌+◌, ◌*◌, ◌&&◌, ℕ, Bool, true, false, refl}
use Rattle.std.proofs.lemmas.Bool.{leb-true}
use Rattle.sut_generate.specs.Generator.{is_size}

pub record IsSize (seed p n : ℕ) : Type 0 where
  pub some_products : 1 ≤ p
  pub few_products : p ≤ 512
  pub some_industries : 1 ≤ n
  pub few_industries : n ≤ 256
  pub few_rows : p * (n + 7) + n ≤ 131072

both : (a b : Bool) → (a && b) ≡ true → (a ≡ true) × (b ≡ true)
both true b e = (refl, e)
both false b e = cc

pub size-is : (seed p n : ℕ) → is_size seed p n ≡ true → IsSize seed p n
size-is seed p n e =
    let a = both _ _ e in
    let b = both _ _ a.1 in
    let c = both _ _ b.1 in
    let d = both _ _ c.1 in
    let f = both _ _ d.1 in
    record {
      some_products = leb-true 1 p b.0;
      few_products = leb-true p 512 c.0;
      some_industries = leb-true 1 n d.0;
      few_industries = leb-true n 256 f.0;
      few_rows = leb-true (p * (n + 7) + n) 131072 f.1;
    }
