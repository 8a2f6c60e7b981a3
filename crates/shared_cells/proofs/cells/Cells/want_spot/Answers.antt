use Rattle.std.proofs.Common.{◌+◌, ◌*◌, ◌<◌, arith, subst, sym, length}
use Rattle.shared_cells.specs.Rule.{Board}
use Rattle.shared_cells.specs.Words.{first_words}
use Rattle.shared_cells.proofs.Keeping.{length-first_words}
use Rattle.shared_cells.proofs.cells.Cells.want_spot.Goals as goal

pub overflow_add-self-inside : goal.overflow_add-self-inside
overflow_add-self-inside c =
    let board = c.self.invariant.0 in
    let low : c.args.lock < length c.self.inside.table.shared.key.code.locks = subst (λ (z : Board). c.args.lock < length z.code.locks) (sym c.self.view_is) c.requires.lock in
    let objects = board.objects_are in
    let memory = board.memory_is in
    let fits = board.memory_fits in
    record { fits = omega (arith, objects, memory, fits, low, c.from.ensures) }

pub overflow_add-self-inside-2 : goal.overflow_add-self-inside-2
overflow_add-self-inside-2 c =
    let board = c.self.invariant.0 in
    let low : c.args.lock < length c.self.inside.table.shared.key.code.locks = subst (λ (z : Board). c.args.lock < length z.code.locks) (sym c.self.view_is) c.requires.lock in
    let objects = board.objects_are in
    let memory = board.memory_is in
    let fits = board.memory_fits in
    record { fits = omega (arith, objects, memory, fits, low, c.requires.stripe, c.from.ensures, c.from-2.ensures) }

pub spot-requires : goal.spot-requires
spot-requires c =
    let board = c.self.invariant.0 in
    let key = c.self.inside.table.shared.key in
    let low : c.args.lock < length key.code.locks = subst (λ (z : Board). c.args.lock < length z.code.locks) (sym c.self.view_is) c.requires.lock in
    let objects = board.objects_are in
    let words = length-first_words key.code key.setup in
    subst (λ (z : Board). c.self.inside.objects + 8 * c.from.result + c.from-2.result < length (first_words z.code z.setup)) c.self.view_is (omega (arith, objects, words, low, c.requires.stripe, c.from.ensures, c.from-2.ensures))
