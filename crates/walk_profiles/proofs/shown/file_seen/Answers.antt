use Rattle.std.proofs.Common.{Some, None}
use Rattle.seen_pairs.specs.Seen.{SeenIs}
use Rattle.walk_profiles.proofs.Files.{seen_are_pairs, seen_along, no_file}
use Rattle.walk_profiles.proofs.shown.file_seen.Goals as goal

pub file_of-requires : goal.file_of-requires
file_of-requires c =
    let log = c.args.log.now in
    let seen : SeenIs c.args.code.now log.setup log.entries (Some c.in-Some.pairs) = seen_along c.args.code.now c.setup.result.now log.setup c.entries.result.now log.entries c.in_ok-pairs.field-0 (Some c.in-Some.pairs) c.setup.ensures c.entries.ensures.value c.in-Some.is c.in_ok-pairs.ensures in
    seen_are_pairs c.args.code.now log.setup log.entries c.in-Some.pairs c.requires.names seen

pub returns-in-None : goal.returns-in-None
returns-in-None c =
    let log = c.args.log.now in
    let seen : SeenIs c.args.code.now log.setup log.entries None = seen_along c.args.code.now c.setup.result.now log.setup c.entries.result.now log.entries c.in_ok-pairs.field-0 None c.setup.ensures c.entries.ensures.value c.in-None.is c.in_ok-pairs.ensures in
    no_file c.args.code.now log.setup log.entries c.args.name.now c.new.result seen
