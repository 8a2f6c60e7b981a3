use Rattle.std.proofs.Common.{◌≡◌, ◌∙◌, sym, arith}
use Rattle.std.proofs.lemmas.Option.{same_Some}
use Rattle.weak_lock_facts.specs.Grains.{block_at, instrs_of}
use Rattle.grain_choice.proofs.Besides.{block_le}
use Rattle.grain_choice.proofs.Firsts.{first_in}
use Rattle.grain_choice.proofs.blocks.first_of.Goals as goal

pub overflow_cast-result : goal.overflow_cast-result
overflow_cast-result c =
    let is : c.in-Some.first ≡ block_at (instrs_of c.args.code.now c.args.access.function) c.args.access.instr = same_Some _ _ (sym c.in-Some.is ∙ c.block_of.ensures ∙ first_in c.args.code.now c.args.firsts.now c.args.access.function c.args.access.instr c.requires.firsts c.requires.within) in
    let le = block_le (instrs_of c.args.code.now c.args.access.function) c.args.access.instr in
    omega arith

pub returns-in-Some : goal.returns-in-Some
returns-in-Some c = same_Some _ _ (sym c.in-Some.is ∙ c.block_of.ensures ∙ first_in c.args.code.now c.args.firsts.now c.args.access.function c.args.access.instr c.requires.firsts c.requires.within)

pub returns-in-None : goal.returns-in-None
returns-in-None c = let e = sym c.in-None.is ∙ c.block_of.ensures ∙ first_in c.args.code.now c.args.firsts.now c.args.access.function c.args.access.instr c.requires.firsts c.requires.within in cc
