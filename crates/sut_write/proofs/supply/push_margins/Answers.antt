use Rattle.std.proofs.Common.{◌≡◌, arith, length}
use Rattle.sut_write.specs.declared.supply.SupplyColumn.TheVariants as column
use Rattle.sut_write.proofs.Below.{pushed-all, pushed-more}
use Rattle.sut_write.proofs.supply.push_margins.Goals as goal

pub loop-place-preserved : goal.loop-place-preserved
loop-place-preserved c =
    pushed-more (λ n. column.Margin (record { 0 = n })) c.loop-place.place c.args.columns.now.items c.loop-place.columns.items c.push.new.self.items c.loop-place.invariant c.in_ok-push.ensures.items

pub returns : goal.returns
returns c =
    let cs = c.args.classes.now in
    let count : c.count-place-end.result ≡ length cs.margins = c.count-place-end.ensures.count in
    pushed-all (λ j. column.Margin j) (λ n. record { 0 = n }) c.loop-place.place (length cs.margins) c.args.columns.now.items c.loop-place.columns.items c.loop-place.invariant (omega (arith, count))
