use Rattle.std.proofs.Common.{◌≡◌, ◌∙◌, Err, ap, length, subst}
use Rattle.snapshot_reader.specs.Reading.{IsAnswer, UnlessMemory}
use Rattle.walk_checkpoints.proofs.Told.{read_goes, refused_goes}
use Rattle.walk_checkpoints.proofs.going.told_rest.Goals as goal

pub returns-in-Ok : goal.returns-in-Ok
returns-in-Ok c =
    let code = c.args.weakened.now.weak in
    let s = c.args.log.now.setup in
    let es = c.args.log.now.entries in
    let bytes = c.args.bytes.now in
    let r = c.read_snapshot.result in
    let n : c.len-entries.result ≡ length es = c.len-entries.ensures ∙ ap length c.entries.ensures.value in
    let read = subst (λ y. UnlessMemory r (IsAnswer code s y bytes r)) n (subst (λ y. UnlessMemory r (IsAnswer code y c.len-entries.result bytes r)) c.setup.ensures (subst (λ y. UnlessMemory r (IsAnswer y c.setup.result.now c.len-entries.result bytes r)) c.code.ensures.value c.read_snapshot.ensures)) in
    read_goes code s es bytes r read c.in-Ok.snapshot c.in-Ok.is c.walked_rest.result c.walked_rest.ensures

pub returns-in-Err-Refused : goal.returns-in-Err-Refused
returns-in-Err-Refused c =
    let code = c.args.weakened.now.weak in
    let s = c.args.log.now.setup in
    let es = c.args.log.now.entries in
    let bytes = c.args.bytes.now in
    let r = c.read_snapshot.result in
    let n : c.len-entries.result ≡ length es = c.len-entries.ensures ∙ ap length c.entries.ensures.value in
    let read = subst (λ y. UnlessMemory r (IsAnswer code s y bytes r)) n (subst (λ y. UnlessMemory r (IsAnswer code y c.len-entries.result bytes r)) c.setup.ensures (subst (λ y. UnlessMemory r (IsAnswer y c.setup.result.now c.len-entries.result bytes r)) c.code.ensures.value c.read_snapshot.ensures)) in
    refused_goes code s es bytes r read c.in-Err-Refused.number c.in-Err-Refused.line (c.in-Err-Refused.is ∙ ap Err c.in-Err-Refused.field-0-is) c.answers.result c.answers.ensures
