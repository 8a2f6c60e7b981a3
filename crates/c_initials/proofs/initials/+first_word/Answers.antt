use Rattle.std.proofs.Common.{◌≡◌, IfOk, sym, subst}
use Rattle.c_tree.proofs.Views.{inits_of_row-list}
use Rattle.core_tree.specs.Core as core
use Rattle.core_tree.specs.View.{exp_of}
use Rattle.c_operators.specs.Views.{context_of}
use Rattle.c_initials.proofs.FirstWords.{word_of_none, word_within}
use Rattle.c_initials.proofs.initials.+first_word.Goals as goal

pub returns-in-empty : goal.returns-in-empty
returns-in-empty t c =
    rw (c.in-Braces.is, inits_of_row-list)
    (subst (λ (x : core.Exp). IfOk c.zero_word.result (λ v. exp_of v.value ≡ x))
    (sym (word_of_none (context_of c.args.context) c.args.kind c.args.at _ _ c.as_slice.ensures c.in-empty.len_below))
    c.zero_word.ensures)

pub returns-in-len1-up : goal.returns-in-len1-up
returns-in-len1-up t c =
    rw (c.in-Braces.is, inits_of_row-list)
    (word_within c.first_word.result (context_of c.args.context) c.args.kind c.args.at _ _ c.first-item.result _ c.as_slice.ensures c.in-len1-up.len_at_least c.first-item.is c.first_word.ensures)
