use Rattle.std.proofs.Common.{◌≡◌, slice_get, Some, None, sym}
use Rattle.c_names.specs.Table.{known_of, texts_of}
use Rattle.c_elaborate.specs.Pointers.{target_type, target_types}
use Rattle.c_elaborate.proofs.Listed.{made_all, made_more}
use Rattle.c_elaborate.proofs.pointers.target_types.Goals as goal

pub returns-in-None : goal.returns-in-None
returns-in-None c =
    let known = known_of c.args.table.now in
    let taken = texts_of c.args.taken.now.names.keys in
    made_all (target_type known taken) known.defined c.loop-number.types (target_types known taken) c.loop-number.number
    (sym c.in-None.ensures) c.loop-number.invariant

pub loop-number-preserved : goal.loop-number-preserved
loop-number-preserved c =
    let known = known_of c.args.table.now in
    let taken = texts_of c.args.taken.now.names.keys in
    made_more (target_type known taken) known.defined c.loop-number.types _ (target_types known taken) c.loop-number.number c.in-Some.name.now _
    (sym c.in-Some.ensures) c.target_type.ensures c.in_ok-push-in-Some.ensures.ok c.loop-number.invariant
