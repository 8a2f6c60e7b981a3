use Rattle.std.proofs.Common.{◌≡◌, ℕ, List, true, false, ap, ◌∙◌, subst}
use Rattle.std.specs.Prelude.{slice_set}
use Rattle.sync_objects.specs.Names.{name_of}
use Rattle.sync_objects.specs.declared.object.ObjId.TheVariants as object
use Rattle.sync_objects.specs.declared.operation.Op.TheVariants as op
use Rattle.flow_code.specs.Next.{gave_up}
use Rattle.run_theory.specs.Same.{same_entry}
use Rattle.core_run.specs.Machine.{entry_of, may_revoke}
use Rattle.core_run.specs.Words.{cells_of, place_of}
use Rattle.core_run.specs.Parts.{LacksWord, HasWord}
use Rattle.core_run.proofs.Outside.{forbidden, other_entry_than, lacking, making, revoke_effect}
use Rattle.core_run.proofs.making.revoke.Goals as goal

pub returns-then-not-may_revoke-clause-made : goal.returns-then-not-may_revoke-clause-made
returns-then-not-may_revoke-clause-made c = λ told is.
    let never : may_revoke c.args.flow.now.kept.thread c.args.lock c.args.stripe ≡ false = cc in
    forbidden c.args.flow.now.code c.args.flow.now.setup c.args.entry.thread told op.Revoke (object.Weak c.args.lock c.args.stripe) (gave_up c.args.flow.now.kept.thread c.args.lock c.args.stripe) c.args.words.now.items c.args.entry (may_revoke c.args.flow.now.kept.thread c.args.lock c.args.stripe) (revoke_effect c.args.flow.now.code c.args.flow.now.setup c.args.lock c.args.stripe told c.args.flow.now.kept.thread c.args.entry is c.requires.label) never

pub returns-then-not-same_entry-clause-made : goal.returns-then-not-same_entry-clause-made
returns-then-not-same_entry-clause-made c = λ told is.
    let same : same_entry (entry_of c.args.entry.thread c.args.flow.now.kept.thread (name_of op.Revoke) (object.Weak c.args.lock c.args.stripe)) c.args.entry ≡ false = cc in
    other_entry_than c.args.flow.now.code c.args.flow.now.setup c.args.entry.thread told op.Revoke (object.Weak c.args.lock c.args.stripe) (gave_up c.args.flow.now.kept.thread c.args.lock c.args.stripe) c.args.words.now.items c.args.entry (may_revoke c.args.flow.now.kept.thread c.args.lock c.args.stripe) (revoke_effect c.args.flow.now.code c.args.flow.now.setup c.args.lock c.args.stripe told c.args.flow.now.kept.thread c.args.entry is c.requires.label) (ap (λ z. same_entry (entry_of c.args.entry.thread z (name_of op.Revoke) (object.Weak c.args.lock c.args.stripe)) c.args.entry) is ∙ same)

pub returns-in_default-clause-made : goal.returns-in_default-clause-made
returns-in_default-clause-made c = λ told is.
    lacking c.args.flow.now.code c.args.flow.now.setup c.args.entry.thread told op.Revoke (object.Weak c.args.lock c.args.stripe) (gave_up c.args.flow.now.kept.thread c.args.lock c.args.stripe) c.args.words.now.items c.args.entry (may_revoke c.args.flow.now.kept.thread c.args.lock c.args.stripe) (revoke_effect c.args.flow.now.code c.args.flow.now.setup c.args.lock c.args.stripe told c.args.flow.now.kept.thread c.args.entry is c.requires.label) (subst (λ (z : List ℕ). LacksWord c.args.flow.now.code c.args.flow.now.setup c.args.entry.thread op.Revoke (object.Weak c.args.lock c.args.stripe) z) c.deref.ensures.value c.in_default.ensures)

pub returns-clause-made : goal.returns-clause-made
returns-clause-made c = λ told is.
    let same : same_entry (entry_of c.args.entry.thread c.args.flow.now.kept.thread (name_of op.Revoke) (object.Weak c.args.lock c.args.stripe)) c.args.entry ≡ true = cc in
    let allowed : may_revoke c.args.flow.now.kept.thread c.args.lock c.args.stripe ≡ true = cc in
    let place : c.place_of.result ≡ place_of (cells_of c.args.flow.now.code c.args.flow.now.setup) (object.Weak c.args.lock c.args.stripe) = c.place_of.ensures ∙ ap (λ z. place_of z (object.Weak c.args.lock c.args.stripe)) c.requires.cells in
    let words_are : c.set_word.new.words.items ≡ slice_set c.args.words.now.items (place_of (cells_of c.args.flow.now.code c.args.flow.now.setup) (object.Weak c.args.lock c.args.stripe)) c.in-Some.next = c.set_word.ensures ∙ ap (λ z. slice_set c.args.words.now.items z c.in-Some.next) place in
    making c.args.flow.now.code c.args.flow.now.setup c.args.entry.thread told op.Revoke (object.Weak c.args.lock c.args.stripe) (gave_up c.args.flow.now.kept.thread c.args.lock c.args.stripe) c.args.words.now.items c.args.entry (may_revoke c.args.flow.now.kept.thread c.args.lock c.args.stripe) (revoke_effect c.args.flow.now.code c.args.flow.now.setup c.args.lock c.args.stripe told c.args.flow.now.kept.thread c.args.entry is c.requires.label) c.in-Some.next c.set_word.new.words.items c.give_up.new.self.kept.thread allowed (ap (λ z. same_entry (entry_of c.args.entry.thread z (name_of op.Revoke) (object.Weak c.args.lock c.args.stripe)) c.args.entry) is ∙ same) (subst (λ (z : List ℕ). HasWord c.args.flow.now.code c.args.flow.now.setup c.args.entry.thread op.Revoke (object.Weak c.args.lock c.args.stripe) z c.in-Some.next) c.deref.ensures.value c.in-Some.ensures) words_are c.give_up.ensures.thread
