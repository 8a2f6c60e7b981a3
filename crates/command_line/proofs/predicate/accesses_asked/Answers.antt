use Rattle.std.proofs.Common.{ap, ◌∙◌, sym, List, ℕ, Bor, Option, option_map}
use Rattle.command_line.specs.Predicates.{asked_in}
use Rattle.command_line.proofs.PredicateParts.{whole_word}
use Rattle.command_line.proofs.predicate.accesses_asked.Goals as goal

pub returns-in-None : goal.returns-in-None
returns-in-None c =
    let text = λ (o : Option (Bor (List ℕ))). option_map (λ (t : Bor (List ℕ)). t.now) o in
    let kind = c.first_part.result.0.now in
    let thread = text c.next_part.result.0 in
    let cells = text c.next_part-2.result.0 in
    let value = text c.next_part-3.result.0 in
    c.asked_in.ensures ∙ ap (asked_in kind thread cells value) (sym (ap text c.in-None.is))
    ∙ whole_word c.args.word.now kind thread cells value (text c.first_part.result.1) (text c.next_part.result.1) (text c.next_part-2.result.1) (text c.next_part-3.result.1) c.first_part.ensures.before c.first_part.ensures.after c.next_part.ensures c.next_part-2.ensures c.next_part-3.ensures
