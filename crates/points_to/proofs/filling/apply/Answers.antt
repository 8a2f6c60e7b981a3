use Rattle.std.proofs.Common.{◌≡◌, sym, subst, arith, length, rules, to_z, of_z, w64, pos, ◌*ℤ◌}
use Rattle.word_semantics.specs.Pointers.{directed}
use Rattle.facts.specs.PointsTo.{given, included, shifted, strided, loaded, stored, place_on, MayPoint}
use Rattle.points_to.specs.Nodes.{place_from, Has}
use Rattle.points_to.specs.Filling.{Adds, Meets, ForAll, number_on}
use Rattle.points_to.proofs.Adding.{ok_map}
use Rattle.points_to.proofs.Laws.{held}
use Rattle.points_to.proofs.Places.{fine_number, narrow}
use Rattle.points_to.proofs.filling.apply.Goals as goal

pub put-requires-clause-node : goal.put-requires-clause-node
put-requires-clause-node c = (c.requires.there.within _ (held c.args.code.now _ _ c.in-Given.is c.requires.one)).0

pub put-requires-clause-fine : goal.put-requires-clause-fine
put-requires-clause-fine c f = fine_number c.args.code.now c.in-Given.node c.number_of.result c.in-Given.place c.number_of.ensures (c.requires.there.within _ (held c.args.code.now _ _ c.in-Given.is c.requires.one)).1 (given (held c.args.code.now _ _ c.in-Given.is c.requires.one))

pub copy-requires-clause-from : goal.copy-requires-clause-from
copy-requires-clause-from c = (c.requires.there.within _ (held c.args.code.now _ _ c.in-Included.is c.requires.one)).0

pub copy-requires-clause-to : goal.copy-requires-clause-to
copy-requires-clause-to c = (c.requires.there.within _ (held c.args.code.now _ _ c.in-Included.is c.requires.one)).1

pub shift-requires-clause-from : goal.shift-requires-clause-from
shift-requires-clause-from c = (c.requires.there.within _ (held c.args.code.now _ _ c.in-Shifted.is c.requires.one)).0

pub shift-requires-clause-to : goal.shift-requires-clause-to
shift-requires-clause-to c = (c.requires.there.within _ (held c.args.code.now _ _ c.in-Shifted.is c.requires.one)).1

pub sweep-requires-clause-from : goal.sweep-requires-clause-from
sweep-requires-clause-from c = (c.requires.there.within _ (held c.args.code.now _ _ c.in-Strided.is c.requires.one)).0

pub sweep-requires-clause-to : goal.sweep-requires-clause-to
sweep-requires-clause-to c = (c.requires.there.within _ (held c.args.code.now _ _ c.in-Strided.is c.requires.one)).1

pub load-requires-clause-through : goal.load-requires-clause-through
load-requires-clause-through c = (c.requires.there.within _ (held c.args.code.now _ _ c.in-Loaded.is c.requires.one)).0

pub load-requires-clause-into : goal.load-requires-clause-into
load-requires-clause-into c = (c.requires.there.within _ (held c.args.code.now _ _ c.in-Loaded.is c.requires.one)).1

pub store-requires-clause-through : goal.store-requires-clause-through
store-requires-clause-through c = (c.requires.there.within _ (held c.args.code.now _ _ c.in-Stored.is c.requires.one)).0

pub store-requires-clause-from : goal.store-requires-clause-from
store-requires-clause-from c = (c.requires.there.within _ (held c.args.code.now _ _ c.in-Stored.is c.requires.one)).1

pub copy-requires-clause-gives : goal.copy-requires-clause-gives
copy-requires-clause-gives c p f = (f.0, included (held c.args.code.now _ _ c.in-Included.is c.requires.one) f.1)

pub shift-requires-clause-gives : goal.shift-requires-clause-gives
shift-requires-clause-gives c p f =
    let e : to_z w64 (of_z w64 c.in-Shifted.by) ≡ c.in-Shifted.by = search rules in
    subst (λ b. MayPoint c.args.code.now c.in-Shifted.to (place_on c.args.code.now.sites (place_from p) (directed c.in-Shifted.back b *ℤ pos c.in-Shifted.element))) (sym e) (shifted (held c.args.code.now _ _ c.in-Shifted.is c.requires.one) f.1)

pub sweep-requires-clause-gives : goal.sweep-requires-clause-gives
sweep-requires-clause-gives c p class f r = strided class (held c.args.code.now _ _ c.in-Strided.is c.requires.one) f.1 r

pub load-requires-clause-gives : goal.load-requires-clause-gives
load-requires-clause-gives c o p f h = loaded (held c.args.code.now _ _ c.in-Loaded.is c.requires.one) f.1 h

pub store-requires-clause-gives : goal.store-requires-clause-gives
store-requires-clause-gives c o p f h = stored (held c.args.code.now _ _ c.in-Stored.is c.requires.one) f.1 h

pub number_of-requires-clause-site : goal.number_of-requires-clause-site
number_of-requires-clause-site c = let h = (c.requires.there.within _ (held c.args.code.now _ _ c.in-Given.is c.requires.one)) in omega (arith, h.1.1, c.requires.there.sites)

pub number_of-requires-clause-class : goal.number_of-requires-clause-class
number_of-requires-clause-class c = let h = (c.requires.there.within _ (held c.args.code.now _ _ c.in-Given.is c.requires.one)) in narrow c.args.code.now.sites c.in-Given.place h.1

pub returns-in-Shifted : goal.returns-in-Shifted
returns-in-Shifted c =
    let e : to_z w64 (of_z w64 c.in-Shifted.by) ≡ c.in-Shifted.by = search rules in
    ok_map c.shift.result _ _ (λ a s. subst (λ k. Adds c.args.code.now (Meets c.args.code.now k) c.args.sets.now c.shift.new.sets a) (sym c.in-Shifted.is) (subst (λ b. Adds c.args.code.now (ForAll c.args.code.now c.in-Shifted.from (λ p r. Has (length c.args.code.now.functions) r c.in-Shifted.to (number_on c.args.code.now b c.in-Shifted.element c.in-Shifted.back p))) c.args.sets.now c.shift.new.sets a) e s)) c.shift.ensures
