use Rattle.std.proofs.Common.{◌∙◌}
use Rattle.rr_base.proofs.FileLaws.{content_of-pushed, content_of-replaced}
use Rattle.rr_base.specs.Memory.{IsLastFile}
use Rattle.rr_base.proofs.mem_shelf.put_file.Goals as goal

pub returns-in-Some-clause-ok : goal.returns-in-Some-clause-ok
returns-in-Some-clause-ok c =
    let last : IsLastFile c.args.files.now c.args.name.now c.in-Some.at = rw c.as_slice.ensures at c.in-Some.ensures in
    content_of-replaced c.args.files.now c.push.new.self c.remove.new.self _ _ c.args.name.now c.args.bytes.now c.in-Some.at
    (c.in_ok-from_slice.ensures ∙ c.as_bytes.ensures.value) c.in_ok-from_slice-2.ensures last c.in_ok-push.ensures.ok c.remove.ensures.rest

pub returns-in_default-clause-ok : goal.returns-in_default-clause-ok
returns-in_default-clause-ok c =
    content_of-pushed c.args.files.now c.push.new.self _ _ c.args.name.now c.args.bytes.now
    (c.in_ok-from_slice.ensures ∙ c.as_bytes.ensures.value) c.in_ok-from_slice-2.ensures c.in_ok-push.ensures.ok
