use Rattle.std.proofs.Common.{ap, ◌∙◌, map, string_bytes}
use Rattle.clap.specs.Simple.{App, is_simple, matches_of}
use Rattle.clap.specs.Takes.{takes}
use Rattle.command_line.proofs.Readers.{reads}
use Rattle.command_line.proofs.reading.matches_of.Goals as goal

-- words that are fit are taken, so what fails is memory
pub unreachable-requires : goal.unreachable-requires
unreachable-requires c =
    let words = map string_bytes c.args.words.now in
    let r = reads c.args.command words c.requires.fit c.requires.number in
    c.in_default.not-OutOfMemory (c.kind.ensures ∙ c.in-Err.ensures.passes (ap (λ (a : App). takes a words) c.in_ok-reader_of.ensures ∙ r.taken))

pub returns-in-Ok : goal.returns-in-Ok
returns-in-Ok c =
    let words = map string_bytes c.args.words.now in
    let r = reads c.args.command words c.requires.fit c.requires.number in
    (c.in-Ok.ensures.matches (ap is_simple c.in_ok-reader_of.ensures ∙ r.simple)).0 ∙ ap (λ (a : App). matches_of a words) c.in_ok-reader_of.ensures ∙ r.rows
