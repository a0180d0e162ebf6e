use Rattle.std.proofs.Common.{◌≡◌, ◌++◌}
use Rattle.std.specs.List.{flat_map}
use Rattle.sut_text.specs.Text.{line_text}
use Rattle.sut_write.specs.Accounts.{product_entries}
use Rattle.sut_write.specs.Places.{below}
use Rattle.sut_write.proofs.accounts.put_products.Given as goal

abbrev pub invariant-loop-place : goal.invariant-loop-place
invariant-loop-place l = l.out.items ≡ l.initial.out.items ++ flat_map (λ n. flat_map line_text (product_entries l.p.classes l.t (record { 0 = n }))) (below l.place)
