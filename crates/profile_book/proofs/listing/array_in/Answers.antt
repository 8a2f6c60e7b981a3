use Rattle.std.proofs.Common.{sym, ◌∙◌}
use Rattle.profile_book.proofs.Values.{no_array, array_found}
use Rattle.profile_book.proofs.listing.array_in.Goals as goal

pub returns-then-len-ne1 : goal.returns-then-len-ne1
returns-then-len-ne1 c = no_array _ _ c.in_ok-as_object.ensures (λ e. c.if-len-ne1.true (c.len.ensures.len ∙ e))

pub returns : goal.returns
returns c = c.as_array.ensures ∙ array_found _ _ _ c.in_ok-as_object.ensures (sym c.len.ensures.len ∙ c.if-len-ne1.false) c.in_ok-get.ensures
