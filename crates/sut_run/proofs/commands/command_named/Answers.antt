use Rattle.std.proofs.Common.{◌≡◌, ◌∙◌, [], ◌∷◌, map, string_bytes, sym, ap, arith}
use Rattle.std.proofs.lemmas.List.{length-map}
use Rattle.sut_run.specs.Commands.{named}
use Rattle.sut_run.proofs.Words.{no-command, one_item}
use Rattle.sut_run.proofs.commands.command_named.Goals as goal

pub returns-in-len1 : goal.returns-in-len1
returns-in-len1 c =
    let one : c.args.words.now ≡ c.word-item.result ∷ [] = one_item _ _ c.in-len1.len_at_least c.in-len1.len_below c.word-item.is in
    rw one (c.command_of_word.ensures ∙ ap named c.as_str.ensures.value)

pub returns-in_default : goal.returns-in_default
returns-in_default c = sym (no-command (map string_bytes c.args.words.now) (λ e. omega (arith, e, length-map c.args.words.now string_bytes, c.in_default.len_below)) (λ e. omega (arith, e, length-map c.args.words.now string_bytes, c.in_default.len_below)))

pub returns-in_default-2 : goal.returns-in_default-2
returns-in_default-2 c = sym (no-command (map string_bytes c.args.words.now) (λ e. omega (arith, e, length-map c.args.words.now string_bytes, c.in_default.len_at_least, c.in_default.len_below)) (λ e. omega (arith, e, length-map c.args.words.now string_bytes, c.in_default.len_at_least, c.in_default.len_below)))

pub returns-in_default-3 : goal.returns-in_default-3
returns-in_default-3 c = sym (no-command (map string_bytes c.args.words.now) (λ e. omega (arith, e, length-map c.args.words.now string_bytes, c.in_default.len_at_least)) (λ e. omega (arith, e, length-map c.args.words.now string_bytes, c.in_default.len_at_least)))
