use Rattle.std.proofs.Common.{◌≡◌, ◌∙◌, ◌+◌, ◌*◌, ap, sym, refl, arith}
use Rattle.core_run.specs.Words.{cells_of}
use Rattle.sync_objects.specs.declared.object.ObjId.TheVariants as object
use Rattle.checkpoint.proofs.Grouping.{groups_of, there_within, mutex_within, cond_within, barrier_within, weak_within, slot_within, rw_within}
use Rattle.checkpoint.proofs.grouped.list_objects.Goals as goal

pub list_group-requires-clause-places : goal.list_group-requires-clause-places
list_group-requires-clause-places c =
    let same : 2 * c.from.result + c.len.result + c.from-2.result * c.cells.result ≡ cells_of c.args.code.now c.args.setup.now = cc (c.from.ensures, c.len.ensures, c.from-2.ensures, c.cells.ensures.value, c.slots-slots.ensures.value) in
    λ n lt. mutex_within c.args.code.now c.args.setup.now c.slots-slots.ensures.within _ same c.args.words.now c.requires.words n lt

pub list_group-requires-2-clause-places : goal.list_group-requires-2-clause-places
list_group-requires-2-clause-places c =
    let same : 2 * c.from.result + c.len.result + c.from-2.result * c.cells.result ≡ cells_of c.args.code.now c.args.setup.now = cc (c.from.ensures, c.len.ensures, c.from-2.ensures, c.cells.ensures.value, c.slots-slots.ensures.value) in
    λ n lt. cond_within c.args.code.now c.args.setup.now c.slots-slots.ensures.within _ same c.args.words.now c.requires.words n lt

pub list_group-requires-3-clause-places : goal.list_group-requires-3-clause-places
list_group-requires-3-clause-places c =
    let same : 2 * c.from.result + c.len.result + c.from-2.result * c.cells.result ≡ cells_of c.args.code.now c.args.setup.now = cc (c.from.ensures, c.len.ensures, c.from-2.ensures, c.cells.ensures.value, c.slots-slots.ensures.value) in
    λ n lt. barrier_within c.args.code.now c.args.setup.now c.slots-slots.ensures.within _ same c.args.words.now c.requires.words n lt

pub list_group-requires-4-clause-numbered : goal.list_group-requires-4-clause-numbered
list_group-requires-4-clause-numbered c = λ n lt. omega (arith, lt, c.len-2.ensures, c.requires.locks)

pub list_group-requires-4-clause-places : goal.list_group-requires-4-clause-places
list_group-requires-4-clause-places c =
    let same : 2 * c.from.result + c.len.result + c.from-2.result * c.cells.result ≡ cells_of c.args.code.now c.args.setup.now = cc (c.from.ensures, c.len.ensures, c.from-2.ensures, c.cells.ensures.value, c.slots-slots.ensures.value) in
    λ n lt. weak_within c.args.code.now c.args.setup.now c.slots-slots.ensures.within _ same c.args.words.now c.requires.words n (omega (arith, lt, c.len-2.ensures))

pub list_group-requires-5-clause-numbered : goal.list_group-requires-5-clause-numbered
list_group-requires-5-clause-numbered c = λ n lt. omega (arith, lt, c.from-3.ensures, c.slots-slots.ensures.value, c.slots-slots.ensures.within.few_slots)

pub list_group-requires-5-clause-places : goal.list_group-requires-5-clause-places
list_group-requires-5-clause-places c =
    let same : 2 * c.from.result + c.len.result + c.from-2.result * c.cells.result ≡ cells_of c.args.code.now c.args.setup.now = cc (c.from.ensures, c.len.ensures, c.from-2.ensures, c.cells.ensures.value, c.slots-slots.ensures.value) in
    λ n lt. slot_within c.args.code.now c.args.setup.now c.slots-slots.ensures.within _ same c.args.words.now c.requires.words n (omega (arith, lt, c.from-3.ensures, c.slots-slots.ensures.value))

pub list_group-requires-6-clause-places : goal.list_group-requires-6-clause-places
list_group-requires-6-clause-places c =
    let same : 2 * c.from.result + c.len.result + c.from-2.result * c.cells.result ≡ cells_of c.args.code.now c.args.setup.now = cc (c.from.ensures, c.len.ensures, c.from-2.ensures, c.cells.ensures.value, c.slots-slots.ensures.value) in
    λ n lt. rw_within c.args.code.now c.args.setup.now c.slots-slots.ensures.within _ same c.args.words.now c.requires.words n lt

pub list_object-requires : goal.list_object-requires
list_object-requires c =
    let same : 2 * c.from.result + c.len.result + c.from-2.result * c.cells.result ≡ cells_of c.args.code.now c.args.setup.now = cc (c.from.ensures, c.len.ensures, c.from-2.ensures, c.cells.ensures.value, c.slots-slots.ensures.value) in
    there_within c.args.code.now c.args.setup.now c.slots-slots.ensures.within _ same c.args.words.now c.requires.words object.Threads refl

pub list_object-requires-2 : goal.list_object-requires-2
list_object-requires-2 c =
    let same : 2 * c.from.result + c.len.result + c.from-2.result * c.cells.result ≡ cells_of c.args.code.now c.args.setup.now = cc (c.from.ensures, c.len.ensures, c.from-2.ensures, c.cells.ensures.value, c.slots-slots.ensures.value) in
    there_within c.args.code.now c.args.setup.now c.slots-slots.ensures.within _ same c.args.words.now c.requires.words object.Halt refl

pub list_object-requires-3 : goal.list_object-requires-3
list_object-requires-3 c =
    let same : 2 * c.from.result + c.len.result + c.from-2.result * c.cells.result ≡ cells_of c.args.code.now c.args.setup.now = cc (c.from.ensures, c.len.ensures, c.from-2.ensures, c.cells.ensures.value, c.slots-slots.ensures.value) in
    there_within c.args.code.now c.args.setup.now c.slots-slots.ensures.within _ same c.args.words.now c.requires.words object.Input refl

pub list_object-requires-4 : goal.list_object-requires-4
list_object-requires-4 c =
    let same : 2 * c.from.result + c.len.result + c.from-2.result * c.cells.result ≡ cells_of c.args.code.now c.args.setup.now = cc (c.from.ensures, c.len.ensures, c.from-2.ensures, c.cells.ensures.value, c.slots-slots.ensures.value) in
    there_within c.args.code.now c.args.setup.now c.slots-slots.ensures.within _ same c.args.words.now c.requires.words object.Output refl

pub returns : goal.returns
returns c =
    let cells : 2 * c.from.result + c.len.result + c.from-2.result * c.cells.result ≡ cells_of c.args.code.now c.args.setup.now = cc (c.from.ensures, c.len.ensures, c.from-2.ensures, c.cells.ensures.value, c.slots-slots.ensures.value) in
    groups_of c.args.code.now c.args.setup.now _ _ _ c.args.words.now cells (c.from-3.ensures ∙ c.slots-slots.ensures.value) c.len-2.ensures
    c.new-found.result c.list_group.new.found c.list_group-2.new.found c.list_group-3.new.found c.list_group-4.new.found c.list_group-5.new.found c.list_object.new.found c.list_object-2.new.found c.list_object-3.new.found c.list_object-4.new.found c.list_group-6.new.found
    c.new-found.ensures c.in_ok-list_group.ensures c.in_ok-list_group-2.ensures c.in_ok-list_group-3.ensures c.in_ok-list_group-4.ensures c.in_ok-list_group-5.ensures c.in_ok-list_object.ensures c.in_ok-list_object-2.ensures c.in_ok-list_object-3.ensures c.in_ok-list_object-4.ensures c.in_ok-list_group-6.ensures
