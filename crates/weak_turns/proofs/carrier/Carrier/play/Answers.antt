use Rattle.std.proofs.Common.{◌≡◌, ◌||◌, Some, None, true, false, rules, refl, sym, ap, subst, ◌∙◌}
use Rattle.std.specs.Vec.{with_items}
use Rattle.std.proofs.lemmas.Bool.{or_right}
use Rattle.std.proofs.lemmas.List.{with_items_is}
use Rattle.weak_turns.specs.Carrying.{Carrying, is_over, run_has_ended}
use Rattle.weak_turns.specs.Finding.{Advances}
use Rattle.weak_turns.specs.Turns.{PlayedIs}
use Rattle.weak_turns.proofs.Playing.{played_so, rested, stayed}
use Rattle.weak_turns.proofs.carrier.Carrier.play.Goals as goal
use Rattle.weak_turns.proofs.carrier.Carrier.play.Goals.{then-self-via-then-self, then-self-via-else-self+then-is_some}

pub returns-then-self-clause-played : goal.returns-then-self-clause-played
returns-then-self-clause-played c =
    let inside = c.self.inside in
    let turn = c.saturating_add-self-inside.result in
    let old : Carrying = record { cells = inside.cells.now; seat = inside.seat; run = inside.run; budget = inside.budget; turns = inside.turns; since = inside.since.items; is_out = inside.is_out } in
    let over : is_over old ≡ true = elim c.then-self.branch [
      | then-self-via-then-self w ↦ ap (λ b. b || run_has_ended old.run) w.if-self.true
      | then-self-via-else-self+then-is_some w ↦ (let ended : run_has_ended old.run ≡ true = search rules in or_right inside.is_out (run_has_ended old.run) ended)
    ] in
    subst (λ z. PlayedIs z (record old { turns = turn }) None) c.self.view_is (stayed old turn over)

pub returns-in-Some-clause-played : goal.returns-in-Some-clause-played
returns-in-Some-clause-played c =
    let inside = c.self.inside in
    let advanced = c.advance-advanced in
    let turn = c.saturating_add-self-inside.result in
    let later = (with_items inside.since advanced.new.since).items in
    let same : later ≡ advanced.new.since = with_items_is inside.since advanced.new.since (advanced.auto.since ∙ c.deref_mut.ensures.len) in
    let old : Carrying = record { cells = inside.cells.now; seat = inside.seat; run = inside.run; budget = inside.budget; turns = inside.turns; since = inside.since.items; is_out = inside.is_out } in
    let new : Carrying = record { cells = inside.cells.now; seat = advanced.new.seat; run = advanced.new.run; budget = inside.budget; turns = turn; since = later; is_out = inside.is_out } in
    let lives : run_has_ended old.run ≡ false = search rules in
    let opened : is_over old ≡ false = ap (λ b. b || run_has_ended old.run) c.if-self.false ∙ lives in
    let came : Advances inside.cells.now inside.seat advanced.new.seat inside.since.items later inside.budget turn (Some c.in-Some.played) =
    subst (λ xs. Advances inside.cells.now inside.seat advanced.new.seat xs later inside.budget turn (Some c.in-Some.played)) c.deref_mut.ensures.value
    (subst (λ xs. Advances inside.cells.now inside.seat advanced.new.seat c.deref_mut.result.now xs inside.budget turn (Some c.in-Some.played)) (sym same) c.in-Some.ensures.advances) in
    subst (λ z. PlayedIs z new (Some c.in-Some.played)) c.self.view_is (played_so old new c.in-Some.played opened c.if-self.false came)

pub returns-in-None-clause-played : goal.returns-in-None-clause-played
returns-in-None-clause-played c =
    let inside = c.self.inside in
    let advanced = c.advance-advanced in
    let turn = c.saturating_add-self-inside.result in
    let later = (with_items inside.since advanced.new.since).items in
    let same : later ≡ advanced.new.since = with_items_is inside.since advanced.new.since (advanced.auto.since ∙ c.deref_mut.ensures.len) in
    let old : Carrying = record { cells = inside.cells.now; seat = inside.seat; run = inside.run; budget = inside.budget; turns = inside.turns; since = inside.since.items; is_out = inside.is_out } in
    let new : Carrying = record { cells = inside.cells.now; seat = advanced.new.seat; run = advanced.new.run; budget = inside.budget; turns = turn; since = later; is_out = true } in
    let came : Advances inside.cells.now inside.seat advanced.new.seat inside.since.items later inside.budget turn None =
    subst (λ xs. Advances inside.cells.now inside.seat advanced.new.seat xs later inside.budget turn None) c.deref_mut.ensures.value
    (subst (λ xs. Advances inside.cells.now inside.seat advanced.new.seat c.deref_mut.result.now xs inside.budget turn None) (sym same) c.in-None.ensures.advances) in
    subst (λ z. PlayedIs z new None) c.self.view_is (rested old new refl came)
