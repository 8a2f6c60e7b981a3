use Rattle.std.proofs.Common.{sym, subst, length}
use Rattle.facts.specs.declared.constraint.Node.TheVariants.{Cells}
use Rattle.points_to.specs.Nodes.{place_from, IsNode}
use Rattle.points_to.specs.Filling.{Adds, Fine, Holds}
use Rattle.points_to.proofs.Adding.{for_one, ok_map, read_in}
use Rattle.points_to.proofs.Places.{cells_node}
use Rattle.points_to.proofs.filling.store_at.Goals as goal

pub copy-requires-clause-to : goal.copy-requires-clause-to
copy-requires-clause-to c =
    let fine = c.requires.fine c.args.through c.in-Some.o c.requires.through.0 (read_in (length c.args.code.now.functions) c.args.sets.now c.args.through c.args.k c.in-Some.o (sym c.in-Some.ensures)) in
    subst (λ q. IsNode c.args.code.now (Cells q)) (sym c.place_at.ensures) (cells_node c.args.code.now (place_from c.in-Some.o) fine.0)

pub copy-requires-clause-gives : goal.copy-requires-clause-gives
copy-requires-clause-gives c p f =
    let fine = c.requires.fine c.args.through c.in-Some.o c.requires.through.0 (read_in (length c.args.code.now.functions) c.args.sets.now c.args.through c.args.k c.in-Some.o (sym c.in-Some.ensures)) in
    subst (λ q. Fine c.args.code.now (Cells q) p) (sym c.place_at.ensures) (f.0, c.requires.gives c.in-Some.o p fine f.1)

pub returns-in-Some : goal.returns-in-Some
returns-in-Some c = ok_map c.copy.result _ _ (λ a s. for_one c.args.code.now c.args.through c.args.k c.in-Some.o (λ o r. Holds c.args.code.now c.args.from (Cells (place_from o)) r) c.args.sets.now c.copy.new.sets a (sym c.in-Some.ensures) (subst (λ q. Adds c.args.code.now (Holds c.args.code.now c.args.from (Cells q)) c.args.sets.now c.copy.new.sets a) c.place_at.ensures s)) c.copy.ensures
