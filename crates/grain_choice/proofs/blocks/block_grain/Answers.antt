use Rattle.std.proofs.Common.{◌∙◌, sym}
use Rattle.weak_lock_facts.specs.Grains.{instrs_of}
use Rattle.grain_choice.proofs.Besides.{there, shared, alone}
use Rattle.grain_choice.proofs.blocks.block_grain.Goals as goal

pub bounds-narrow-at : goal.bounds-narrow-at
bounds-narrow-at c = there c.args.narrow.now c.requires.ascending (instrs_of c.args.code.now c.args.access.function) c.args.access c.first_of-instr.result c.place_of-at.result c.first_of-instr.ensures c.place_of-at.ensures.below c.place_of-at.ensures.above c.requires.listed

pub returns-then-stands_at : goal.returns-then-stands_at
returns-then-stands_at c = shared c.args.narrow.now c.requires.ascending (instrs_of c.args.code.now c.args.access.function) c.args.access c.first_of-instr.result c.place_of-at.result c.first_of-instr.ensures c.place_of-at.ensures.below c.place_of-at.ensures.above c.requires.listed c.args.firsts.now (c.requires.firsts.each c.args.access.function) (record { function = 0; instr = 0 }) (sym c.stands_at.ensures ∙ c.if-stands_at.true)

pub returns-else-stands_at : goal.returns-else-stands_at
returns-else-stands_at c = alone c.args.narrow.now c.requires.ascending (instrs_of c.args.code.now c.args.access.function) c.args.access c.first_of-instr.result c.place_of-at.result c.first_of-instr.ensures c.place_of-at.ensures.below c.place_of-at.ensures.above c.requires.listed c.args.firsts.now (c.requires.firsts.each c.args.access.function) c.requires.within (sym c.stands_at.ensures ∙ c.if-stands_at.false)
