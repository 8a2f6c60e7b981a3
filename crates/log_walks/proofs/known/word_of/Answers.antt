use Rattle.std.proofs.Common.{◌≡◌, ℕ, Option, Some, None, refl, ap, ◌∙◌}
use Rattle.std.specs.Option.{option_map_or, unwrap_or}
use Rattle.indexmap.specs.IndexMap.{get}
use Rattle.run_theory.specs.Same.{same_object}
use Rattle.entry_merge.proofs.Objects.{eq, eq_is_same, lookup_same}
use Rattle.log_walks.proofs.known.word_of.Goals as goal

itself_or : (o : Option ℕ) (other : ℕ) → unwrap_or o other ≡ option_map_or (λ w. w) o other
itself_or None other = refl
itself_or (Some w) other = refl

pub returns : goal.returns
returns c =
    let obj = c.args.obj in
    let found : c.copied.result ≡ get same_object c.args.words.now obj = c.copied.ensures ∙ c.get.ensures.value ∙ lookup_same (eq obj) (same_object obj) (eq_is_same obj) c.args.words.now.entries in
    c.unwrap_or.ensures
    ∙ ap (λ o. unwrap_or o c.start_word.result) found
    ∙ itself_or (get same_object c.args.words.now obj) c.start_word.result
    ∙ ap (option_map_or (λ w. w) (get same_object c.args.words.now obj)) c.start_word.ensures.word
