-- The parts of a word that names an event, as a text is cut.
use Rattle.std.proofs.Common.{◌≡◌, refl, sym, ◌∙◌, ap, ℕ, List, [], length, Option, Some, None}
use Rattle.std.specs.Prelude.{option_and_then}
use Rattle.std.specs.Fmt.{digits}
use Rattle.std.specs.List.{before_first, position_or_len}
use Rattle.command_line.specs.Arguments.{number_within}
use Rattle.command_line.specs.Events.{event_named, is_point}
use Rattle.command_line.specs.declared.event.Event.{Event}
use Rattle.command_line.proofs.FirstWords.{nothing_after}

not_empty : number_within 0 67108865 [] ≡ None
unfolding digits
not_empty = refl

abbrev after_count : List ℕ → Option ℕ → Option Event
after_count word o = option_and_then (λ count. option_and_then (λ thread. Some (record { thread = thread; count = count })) (number_within 0 15 (before_first is_point word))) o

pub no_point : (word : List ℕ) → position_or_len is_point word ≡ length word → None ≡ event_named word
no_point word h = sym (ap (after_count word) (ap (number_within 0 67108865) (nothing_after is_point word h) ∙ not_empty))
