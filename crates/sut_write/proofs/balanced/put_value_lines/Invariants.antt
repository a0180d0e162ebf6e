use Rattle.std.proofs.Common.{◌≡◌, ◌++◌, take}
use Rattle.std.specs.List.{flat_map}
use Rattle.sut_text.specs.Text.{line_text}
use Rattle.sut_readback.specs.BalancedText.{balanced_line}
use Rattle.sut_write.proofs.balanced.put_value_lines.Given as goal

abbrev pub invariant-loop-m : goal.invariant-loop-m
invariant-loop-m l = l.out.items ≡ l.fn.out.items ++ flat_map (λ m. line_text (balanced_line l.p l.t m)) (take l.m-index l.measures)
