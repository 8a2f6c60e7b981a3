use Rattle.std.proofs.Common.{ap, ◌∙◌}
use Rattle.serde_json.specs.Written.{has_float, compact_text}
use Rattle.profile_book.specs.Writing.{profile_text}
use Rattle.profile_book.proofs.Values.{no_float}
use Rattle.profile_book.proofs.write.write_profile.Goals as goal

pub returns : goal.returns
unfolding profile_text
returns c =
    let is = c.in_ok-value.ensures in
    c.from_vec.ensures ∙ c.in_ok-to_vec.ensures.text (ap has_float is ∙ no_float c.args.pairs.now) ∙ ap compact_text is
