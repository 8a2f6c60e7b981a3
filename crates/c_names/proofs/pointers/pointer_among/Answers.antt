use Rattle.std.proofs.Common.{◌∙◌, rules, tests}
use Rattle.std.proofs.lemmas.Iterator.{YieldsList-from_slice}
use Rattle.std.proofs.lemmas.Iterator.Search.{position_from_yields_List}
use Rattle.c_types.specs.declared.names.PointerType.{PointerType}
use Rattle.c_types.specs.Signatures.{same_signature}
use Rattle.c_names.proofs.Numbers.{position-map}
use Rattle.c_names.proofs.pointers.pointer_among.Goals as goal

pub returns : goal.returns
returns c =
    position_from_yields_List (λ (t : PointerType). same_signature c.args.of.now t.signature) _ _ c.position.result c.position.ensures.ran (YieldsList-from_slice _ c.iter.ensures.rest) (λ x b q k. search (rules, tests))
    ∙ position-map (λ (t : PointerType). t.signature) (same_signature c.args.of.now) c.args.types.now
