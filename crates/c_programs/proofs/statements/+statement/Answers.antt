use Rattle.std.proofs.Common.{◌≡◌, ◌<◌, true, length, refl, sym, ap, ◌∙◌, arith}
use Rattle.c_tree.specs.View.{start_of, maybe_of, stmt_of, part_of}
use Rattle.c_tree.specs.Tree.{block}
use Rattle.c_tree.proofs.Views.{parts_of_row-list}
use Rattle.c_types.specs.Found.{first_among}
use Rattle.c_types.specs.Scopes.{closed}
use Rattle.c_programs.specs.Statements.{after_start, statement_faults, after_parts}
use Rattle.c_names.specs.Table.{known_of}
use Rattle.c_programs.proofs.Parts.{after_part, part_faults, shown_parts, known_after, first_after, first_of_block, first_of_for}
use Rattle.c_programs.proofs.Within.{closed_parts, closed_start}
use Rattle.c_programs.proofs.statements.+statement.Goals as goal
use Rattle.c_programs.proofs.statements.+statement.Goals.{note_parts-in-Declares+in_ok-note_declaration-in-Declares, note_parts-in-Does+in_ok-note_statement-in-Does}

pub note_parts-loop-part-preserved : goal.note_parts-loop-part-preserved
note_parts-loop-part-preserved t c =
    let before = known_of c.loop-part.table in
    let x = c.part-item.result in
    let lt : c.loop-part.part-index < length c.args.parts.now = omega arith in
    let after : known_of c.match-part.table ≡ after_part before (part_of x) =
    elim c.match-part.branch [
      | note_parts-in-Declares+in_ok-note_declaration-in-Declares w ↦
          ap known_of w.table-is ∙ w.in_ok-note_declaration-in-Declares.ensures.known ∙ ap (λ p. after_part before (part_of p)) (sym w.in-Declares.is)
      | note_parts-in-Does+in_ok-note_statement-in-Does w ↦
          ap known_of w.table-is ∙ w.in_ok-note_statement-in-Does.ensures.known ∙ ap (λ p. after_part before (part_of p)) (sym w.in-Does.is)
    ] in
    let more : c.match-part.first ≡ first_among c.loop-part.first (part_faults before c.args.gives c.args.in_loop (part_of x)) =
    elim c.match-part.branch [
      | note_parts-in-Declares+in_ok-note_declaration-in-Declares w ↦
          w.first-is ∙ w.in_ok-note_declaration-in-Declares.ensures.first ∙ ap (λ p. first_among c.loop-part.first (part_faults before c.args.gives c.args.in_loop (part_of p))) (sym w.in-Declares.is)
      | note_parts-in-Does+in_ok-note_statement-in-Does w ↦
          w.first-is ∙ w.in_ok-note_statement-in-Does.ensures.first ∙ ap (λ p. first_among c.loop-part.first (part_faults before c.args.gives c.args.in_loop (part_of p))) (sym w.in-Does.is)
    ] in
    record {
      known = known_after _ _ _ _ x lt c.part-item.is after ∙ c.loop-part.invariant.known;
      first = first_after _ _ _ _ _ _ _ _ x lt c.part-item.is after more ∙ c.loop-part.invariant.first;
    }

pub note_statement-returns-in_ok-note_parts-in-Block-clause-known : goal.note_statement-returns-in_ok-note_parts-in-Block-clause-known
note_statement-returns-in_ok-note_parts-in-Block-clause-known t c =
    let inside = c.in_ok-note_parts-in-Block.ensures.known in
    c.close.ensures
    ∙ ap closed inside
    ∙ ap (λ k. closed (after_parts k (shown_parts c.as_slice.result.now))) c.in_ok-open-in-Block.ensures
    ∙ closed_parts (known_of c.args.table.now) (shown_parts c.as_slice.result.now)

pub note_statement-returns-in_ok-note_parts-in-Block-clause-first : goal.note_statement-returns-in_ok-note_parts-in-Block-clause-first
note_statement-returns-in_ok-note_parts-in-Block-clause-first t c =
    let known = known_of c.args.table.now in
    let first = c.args.first.now in
    let at = c.in-Block.at in
    let shown : stmt_of c.args.stmt.now ≡ block (shown_parts c.in-Block.parts) at = rw (c.in-Block.is, parts_of_row-list) refl in
    first_of_block _ _ _ _ c.args.gives c.args.in_loop (shown_parts c.as_slice.result.now) at c.in_ok-open-in-Block.ensures c.in_ok-note_parts-in-Block.ensures.first
    ∙ ap (λ z. first_among first (statement_faults known c.args.gives c.args.in_loop (block (shown_parts z) at))) c.as_slice.ensures
    ∙ ap (λ z. first_among first (statement_faults known c.args.gives c.args.in_loop z)) (sym shown)

pub note_for-returns-clause-known : goal.note_for-returns-clause-known
note_for-returns-clause-known t c =
    c.close.ensures
    ∙ ap closed (c.in_ok-note_statement.ensures.known ∙ c.in_ok-note_head_of_for.ensures.known)
    ∙ ap (λ k. closed (after_start k (start_of c.args.start.now))) c.in_ok-open.ensures
    ∙ closed_start (known_of c.args.table.now) (start_of c.args.start.now)

pub note_for-returns-clause-first : goal.note_for-returns-clause-first
note_for-returns-clause-first t c =
    first_of_for _ _ _ _ _ _ c.args.gives true (start_of c.args.start.now) (maybe_of c.args.test.now) (maybe_of c.args.step.now) (stmt_of c.args.body.now) c.args.at
    c.in_ok-open.ensures
    c.in_ok-note_head_of_for.ensures.known
    c.in_ok-note_head_of_for.ensures.first
    c.in_ok-note_statement.ensures.first
