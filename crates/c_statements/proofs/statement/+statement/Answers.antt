use Rattle.std.proofs.Common.{◌≡◌, IfOk, OnOk, map, refl, sym, ap, ◌∙◌, subst, arith}
use Rattle.std.proofs.lemmas.Grind.{common_steps}
use Rattle.c_tree.specs.Tree.{Statement, Parts, block as block_tree, listed_parts}
use Rattle.c_tree.specs.View.{start_of, maybe_of, stmt_of, part_of}
use Rattle.c_tree.proofs.Views.{parts_of_row-list}
use Rattle.c_locals.specs.Addresses.{past_statement, count_of_locals}
use Rattle.c_numbers.specs.NumberTables.{numbered_of}
use Rattle.c_types.specs.Scopes.{closed}
use Rattle.c_programs.specs.Statements.{after_start, after_parts}
use Rattle.c_names.specs.Table.{known_of}
use Rattle.c_locals.proofs.Numbering.{after_none, block_numbers, for_numbers}
use Rattle.c_programs.proofs.Within.{closed_parts, closed_start}
use Rattle.core_tree.specs.View as core_view
use Rattle.c_operators.specs.Context.{context_in}
use Rattle.c_statements.specs.Statements.{elaborated}
use Rattle.c_operators.specs.Views.{frame_in, source_in}
use Rattle.c_statements.proofs.Nested.{block_made, for_made, numbers_past, whenever}
use Rattle.c_statements.proofs.statement.+statement.Goals as goal

pub block-returns-clause-known : goal.block-returns-clause-known
block-returns-clause-known t c =
    let parts = listed_parts (map part_of c.args.parts.now) in
    c.close.ensures
    ∙ ap closed c.in_ok-push_parts.ensures.known
    ∙ ap (λ k. closed (after_parts k parts)) c.in_ok-open.ensures
    ∙ closed_parts (known_of c.args.table.now) parts

pub block-returns-clause-numbers : goal.block-returns-clause-numbers
block-returns-clause-numbers t c =
    block_numbers _ _ _ _ (listed_parts (map part_of c.args.parts.now)) c.in_ok-open-2.ensures c.in_ok-push_parts.ensures.numbers c.close-2.ensures

pub block-returns-clause-statement : goal.block-returns-clause-statement
block-returns-clause-statement t c =
    c.in_ok-made.ensures
    ∙ block_made (source_in c.args.source.now) (frame_in c.args.frame.now) (known_of c.args.table.now) _ (numbered_of c.args.numbers.now) _ (listed_parts (map part_of c.args.parts.now)) _
    c.in_ok-open.ensures c.in_ok-open-2.ensures (rw c.new-inner.ensures at c.in_ok-push_parts.ensures.out)

pub for_statement-returns-clause-known : goal.for_statement-returns-clause-known
for_statement-returns-clause-known t c =
    let begin = start_of c.args.begin.now in
    c.close.ensures
    ∙ ap closed c.in_ok-made.ensures.known
    ∙ ap (λ k. closed (after_start k begin)) c.in_ok-open.ensures
    ∙ closed_start (known_of c.args.table.now) begin

pub for_statement-returns-clause-numbers : goal.for_statement-returns-clause-numbers
for_statement-returns-clause-numbers t c =
    for_numbers _ _ _ _ _ (start_of c.args.begin.now) (count_of_locals (stmt_of c.args.body.now)) c.in_ok-open-2.ensures refl c.in_ok-made.ensures.numbers c.close-2.ensures

pub for_statement-returns-clause-statement : goal.for_statement-returns-clause-statement
for_statement-returns-clause-statement t c =
    for_made (source_in c.args.source.now) (frame_in c.args.frame.now) (known_of c.args.table.now) _ (numbered_of c.args.numbers.now) _
    (start_of c.args.begin.now) (maybe_of c.args.test.now) (maybe_of c.args.step.now) (stmt_of c.args.body.now) c.args.at _
    c.in_ok-open.ensures c.in_ok-open-2.ensures c.in_ok-made.ensures.statement

pub statement-returns-in-Block-clause-numbers : goal.statement-returns-in-Block-clause-numbers
statement-returns-in-Block-clause-numbers t c =
    let same = ap (λ (z : Parts). block_tree z c.in-Block.at) (ap (λ z. listed_parts (map part_of z)) c.as_slice.ensures ∙ sym (parts_of_row-list c.in-Block.parts)) ∙ sym (ap stmt_of c.in-Block.is) in
    subst (λ (z : Statement). OnOk c.block.result (numbered_of c.block.new.numbers ≡ past_statement (numbered_of c.args.numbers.now) z)) same c.block.ensures.numbers

pub statement-returns-in-Block-clause-statement : goal.statement-returns-in-Block-clause-statement
statement-returns-in-Block-clause-statement t c =
    let same = ap (λ (z : Parts). block_tree z c.in-Block.at) (ap (λ z. listed_parts (map part_of z)) c.as_slice.ensures ∙ sym (parts_of_row-list c.in-Block.parts)) ∙ sym (ap stmt_of c.in-Block.is) in
    subst (λ (z : Statement). IfOk c.block.result (λ s. core_view.stmt_of s.value ≡ elaborated (context_in (source_in c.args.source.now) (frame_in c.args.frame.now) (known_of c.args.table.now) (numbered_of c.args.numbers.now)) z)) same c.block.ensures.statement

pub statement-returns-in-Expression-clause-numbers : goal.statement-returns-in-Expression-clause-numbers
statement-returns-in-Expression-clause-numbers t c =
    let n = numbered_of c.args.numbers.now in
    whenever c.computed.result (sym (after_none n) ∙ ap (past_statement n) (sym (ap stmt_of c.in-Expression.is)))

pub statement-returns-in-Break-clause-numbers : goal.statement-returns-in-Break-clause-numbers
statement-returns-in-Break-clause-numbers t c =
    let n = numbered_of c.args.numbers.now in
    whenever c.break_at.result (sym (after_none n) ∙ ap (past_statement n) (sym (ap stmt_of c.in-Break.is)))

pub statement-returns-in-Continue-clause-numbers : goal.statement-returns-in-Continue-clause-numbers
statement-returns-in-Continue-clause-numbers t c =
    let n = numbered_of c.args.numbers.now in
    whenever c.continue_at.result (sym (after_none n) ∙ ap (past_statement n) (sym (ap stmt_of c.in-Continue.is)))

pub statement-returns-in-Return-clause-numbers : goal.statement-returns-in-Return-clause-numbers
statement-returns-in-Return-clause-numbers t c =
    let n = numbered_of c.args.numbers.now in
    whenever c.returned.result (sym (after_none n) ∙ ap (past_statement n) (sym (ap stmt_of c.in-Return.is)))

pub statement-returns-in_ok-no-in-Some-clause-numbers : goal.statement-returns-in_ok-no-in-Some-clause-numbers
statement-returns-in_ok-no-in-Some-clause-numbers t c = grind (arith, common_steps, numbers_past)
