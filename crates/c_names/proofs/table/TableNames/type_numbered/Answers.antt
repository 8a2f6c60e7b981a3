use Rattle.std.proofs.Common.{◌≡◌, length, position, Some, None, sym, arith}
use Rattle.std.proofs.lemmas.Grind.{common_steps}
use Rattle.std.proofs.lemmas.List.{length-map}
use Rattle.c_types.specs.declared.names.PointerType.{PointerType}
use Rattle.c_types.specs.Signatures.{same_signature, signatures_of}
use Rattle.c_names.proofs.Numbers.{position_first, position_next, position_nowhere}
use Rattle.c_names.proofs.table.TableNames.type_numbered.Goals as goal

pub returns-in-Some : goal.returns-in-Some
returns-in-Some c =
    let p = same_signature c.args.of.now in
    let xs = signatures_of c.args.self.now.pointers in
    let e : position p xs ≡ Some c.in-Some.number = grind (arith, common_steps) in
    sym (position_first p xs c.args.self.now.function_types c.in-Some.number e)

pub returns-in-Some-type_among : goal.returns-in-Some-type_among
returns-in-Some-type_among c =
    let p = same_signature c.args.of.now in
    let xs = signatures_of c.args.self.now.pointers in
    let ys = c.args.self.now.function_types in
    let none : position p xs ≡ None = grind (arith, common_steps) in
    let e : position p ys ≡ Some c.in-Some-type_among.number = grind (arith, common_steps) in
    let many : length xs ≡ length c.args.self.now.pointers = length-map c.args.self.now.pointers (λ (t : PointerType). t.signature) in
    grind (arith, position_next p xs ys c.in-Some-type_among.number none e, many)

pub returns-in-None-type_among : goal.returns-in-None-type_among
returns-in-None-type_among c =
    let p = same_signature c.args.of.now in
    let xs = signatures_of c.args.self.now.pointers in
    let ys = c.args.self.now.function_types in
    let none : position p xs ≡ None = grind (arith, common_steps) in
    let more : position p ys ≡ None = grind (arith, common_steps) in
    sym (position_nowhere p xs ys none more)
