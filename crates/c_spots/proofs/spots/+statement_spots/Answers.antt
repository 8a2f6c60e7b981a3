use Rattle.std.proofs.Common.{◌++◌, map, ap, ◌∙◌}
use Rattle.c_tree.specs.Tree.{listed_parts}
use Rattle.c_tree.specs.View.{start_of, part_of}
use Rattle.c_tree.proofs.Views.{parts_of_row-list}
use Rattle.c_types.specs.Scopes.{closed}
use Rattle.c_programs.specs.Statements.{after_start, after_parts}
use Rattle.c_spots.specs.Spots.{parts_spots}
use Rattle.c_spots.specs.SpotViews.{shown_owner, shown_spots}
use Rattle.c_names.specs.Table.{known_of}
use Rattle.c_programs.proofs.Within.{closed_parts, closed_start}
use Rattle.c_spots.proofs.spots.+statement_spots.Goals as goal

pub push_statement-returns-in_ok-push_parts-in-Block-clause-known :
    goal.push_statement-returns-in_ok-push_parts-in-Block-clause-known
push_statement-returns-in_ok-push_parts-in-Block-clause-known t c =
    let parts = listed_parts (map part_of c.as_slice.result.now) in
    c.close.ensures
    ∙ ap closed c.in_ok-push_parts-in-Block.ensures.known
    ∙ ap (λ k. closed (after_parts k parts)) c.in_ok-open-in-Block.ensures
    ∙ closed_parts (known_of c.args.table.now) parts

pub push_statement-returns-in_ok-push_parts-in-Block-clause-next :
    goal.push_statement-returns-in_ok-push_parts-in-Block-clause-next
push_statement-returns-in_ok-push_parts-in-Block-clause-next t c =
    rw (c.in-Block.is, parts_of_row-list) (rw c.as_slice.ensures at c.in_ok-push_parts-in-Block.ensures.next)

pub push_statement-returns-in_ok-push_parts-in-Block-clause-out :
    goal.push_statement-returns-in_ok-push_parts-in-Block-clause-out
push_statement-returns-in_ok-push_parts-in-Block-clause-out t c =
    rw (c.in-Block.is, parts_of_row-list)
    ((rw c.as_slice.ensures at c.in_ok-push_parts-in-Block.ensures.out)
    ∙ ap (λ k. shown_spots c.args.out.now ++ parts_spots (shown_owner c.args.owner) k c.args.next.now (listed_parts (map part_of c.in-Block.parts))) c.in_ok-open-in-Block.ensures)

pub push_statement-returns-in_ok-push_statement-in-For-clause-known :
    goal.push_statement-returns-in_ok-push_statement-in-For-clause-known
push_statement-returns-in_ok-push_statement-in-For-clause-known t c =
    c.close-in-For.ensures
    ∙ ap closed (c.in_ok-push_statement-in-For.ensures.known ∙ c.in_ok-push_for-in-For.ensures.known)
    ∙ ap (λ k. closed (after_start k (start_of c.in-For.start))) c.in_ok-open-in-For.ensures
    ∙ closed_start (known_of c.args.table.now) (start_of c.in-For.start)
