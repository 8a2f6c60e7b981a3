use Rattle.std.proofs.Common.{ℕ, inl, refl, subst}
use Rattle.snapshots.specs.Conditions.{IsForm}
use Rattle.snapshot_grammar.specs.Grammar.{IsSyntaxFault}
use Rattle.snapshot_reader.proofs.read.read_snapshot.Goals as goal

pub judged-requires-clause-form : goal.judged-requires-clause-form
judged-requires-clause-form c = let h = c.in-Ok.ensures in (h.0, subst (λ (n : ℕ). IsForm n h.0) c.slots.ensures.value h.1, h.3)

pub returns-in-Ok : goal.returns-in-Ok
returns-in-Ok c = let h = c.in-Ok.ensures in c.judged.ensures h.0 c.args.bytes.now (subst (λ (n : ℕ). IsForm n h.0) c.slots.ensures.value h.1) h.2 h.3

pub returns-in-Err-Syntax : goal.returns-in-Err-Syntax
returns-in-Err-Syntax c = rw c.in-Err-Syntax.field-0-is (let h = rw c.in-Err-Syntax.field-0-is at c.in-Err-Syntax.ensures in (h.0, h.1, inl (refl, subst (λ (n : ℕ). IsSyntaxFault n c.args.bytes.now h.0) c.slots.ensures.value h.2)))
