use Rattle.std.proofs.Common.{◌≡◌, ◌≤◌, length, None, sym, append-nil, slice_get, arith}
use Rattle.std.proofs.lemmas.Bool.Decides.{nat_tests}
use Rattle.std.proofs.lemmas.Option.{slice_get_past}
use Rattle.c_types.proofs.cells.put_base.Goals as goal

pub returns-in-None : goal.returns-in-None
returns-in-None c =
    let past : length c.args.structs.now ≤ c.in-Struct.number = grind (arith, nat_tests, c.get.ensures.lookup.0, c.in-None.is) in
    let none : slice_get c.args.structs.now c.in-Struct.number ≡ None = slice_get_past _ _ past in
    rw (c.in-Struct.is, none) (sym (append-nil _))
