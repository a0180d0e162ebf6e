use Rattle.sut_write.proofs.Printed.{three_lines}
use Rattle.sut_write.proofs.screen.balanced_screen.Goals as goal

pub returns : goal.returns
returns c =
    three_lines c.new-out.result.items c.put_bytes.new.out.items c.put_cost.new.out.items c.put_gdp.new.out.items _ _ _ c.new-out.ensures.items c.in_ok-put_bytes.ensures c.in_ok-put_cost.ensures c.in_ok-put_gdp.ensures.done
