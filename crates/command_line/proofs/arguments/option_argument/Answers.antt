use Rattle.std.proofs.Common.{sym, ◌∙◌, ap, ◌-◌, ◌∷◌, take, drop, map, string_bytes, length, arith}
use Rattle.command_line.specs.Arguments.{arguments, setting}
use Rattle.command_line.proofs.FirstWords.{apart_first, split_front}
use Rattle.command_line.proofs.arguments.option_argument.Goals as goal

pub returns-in-None-len1-up-clause-first : goal.returns-in-None-len1-up-clause-first
returns-in-None-len1-up-clause-first c =
    let more = take (length c.args.rest.now - 1) (drop 1 c.args.rest.now) in
    let front = split_front c.args.rest.now c.value-item.result c.in-None-len1-up.len_at_least c.value-item.is in
    let apart = apart_first c.args.text.now (string_bytes c.value-item.result) (map string_bytes more) (c.in-None-len1-up.ensures.byte (omega arith) (λ w o h. h)) in
    let found = c.setting-in-None-len1-up.ensures ∙ ap (setting c.args.text.now) c.deref.ensures in
    ap (λ rest. arguments ((45 ∷ 45 ∷ c.args.text.now) ∷ map string_bytes rest)) front ∙ apart ∙ ap (λ a. a ∷ arguments (map string_bytes more)) (sym found)
