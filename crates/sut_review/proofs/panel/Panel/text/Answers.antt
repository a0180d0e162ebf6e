use Rattle.sut_review.proofs.ReviewLines.{text-whole}
use Rattle.sut_review.proofs.panel.Panel.text.Goals as goal

pub returns : goal.returns
returns g c =
    text-whole _ c.new-out.result.items c.put_bytes.new.out.items c.put_seats.new.out.items c.deref.result.now c.args.self.now.seats.items c.new-out.ensures.items c.in_ok-put_bytes.ensures c.in_ok-put_seats.ensures c.deref.ensures.value
