use Rattle.std.proofs.Common.{◌≡◌, ◌++◌, rules}
use Rattle.sut_text.specs.Text.{field_text}
use Rattle.sut_review.proofs.ReviewLines.{line-appended}
use Rattle.sut_review.proofs.seats.put_seat.Goals as goal

pub returns : goal.returns
returns g c =
    let first : c.put_label.new.out.items ≡ c.args.out.now.items ++ field_text c.args.seat.now.label.items = search rules in
    line-appended c.args.out.now.items c.put_label.new.out.items c.put_line_end.new.out.items (field_text c.args.seat.now.label.items) _ _ _ first (search rules)
