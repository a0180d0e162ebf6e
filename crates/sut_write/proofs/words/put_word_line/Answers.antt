use Rattle.sut_write.proofs.Printed.{word_line}
use Rattle.sut_write.proofs.words.put_word_line.Goals as goal

pub returns-clause-done : goal.returns-clause-done
returns-clause-done c =
    word_line c.args.out.now.items c.put_bytes.new.out.items c.put_words.new.out.items c.put_byte.new.out.items c.args.word.now c.args.words.now
    c.in_ok-put_bytes.ensures c.in_ok-put_words.ensures.done c.in_ok-put_byte.ensures
