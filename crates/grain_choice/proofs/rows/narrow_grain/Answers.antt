use Rattle.std.proofs.Common.{◌∙◌, sym, ap, List}
use Rattle.facts.specs.declared.pair.AccessAt.{AccessAt}
use Rattle.weak_lock_facts.specs.Grains.{instrs_of}
use Rattle.grain_choice.specs.Chosen.{may_share}
use Rattle.grain_choice.specs.Listed.{ascend}
use Rattle.grain_choice.proofs.Ascents.{ascend_filter}
use Rattle.grain_choice.proofs.Basing.{narrow_listed, in_code}
use Rattle.grain_choice.proofs.rows.narrow_grain.Goals as goal

pub block_grain-requires-clause-ascending : goal.block_grain-requires-clause-ascending
block_grain-requires-clause-ascending c = ap (λ (z : List AccessAt). ascend z) (c.deref.ensures.value ∙ c.requires.basis.narrow) ∙ ascend_filter (λ a. may_share c.args.code.now c.args.basis.now.loops a) c.args.basis.now.met.items c.requires.basis.ascending

pub block_grain-requires-clause-listed : goal.block_grain-requires-clause-listed
block_grain-requires-clause-listed c = narrow_listed c.args.code.now c.args.basis.now c.deref.result.now c.args.access c.requires.basis c.deref.ensures.value c.requires.met c.requires.loops (sym c.is_load_or_store.ensures ∙ c.if-is_load_or_store.true)

pub block_grain-requires-clause-within : goal.block_grain-requires-clause-within
block_grain-requires-clause-within c = in_code (instrs_of c.args.code.now c.args.access.function) c.args.access.instr (sym c.is_load_or_store.ensures ∙ c.if-is_load_or_store.true)
