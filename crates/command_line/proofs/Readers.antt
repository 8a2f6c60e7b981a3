-- What the commands of `clap` make of words that are fit for a command.
use Rattle.std.proofs.Common.{◌≡◌, refl, sym, ◌∙◌, ap, subst, Bool, true, false, cond, List, [], ◌∷◌, length, map, None, bytes_eq, codes, arith, inl, inr}
use Rattle.std.specs.Prelude.{⊤}
use Rattle.std.specs.List.{fold, list_all, list_any}
use Rattle.std.proofs.lemmas.Bool.{and_from, and_parts, cases_Bool}
use Rattle.std.proofs.lemmas.Slice.Eq.{bytes_eq-Decides}
use Rattle.clap.specs.Simple.{Shape, argument_words, built, is_simple, label_of, matches_of, names_of}
use Rattle.clap.specs.Takes.{built_takes, default_passes, is_valid, settle_passes, takes as clap_takes}
use Rattle.clap.specs.Walk.{Row, Rule, Text, Walk, finished, has_row, is_empty, nothing_held, rows_after, walk, with_default}
use Rattle.clap.proofs.SimpleLemmas.{is_nil}
use Rattle.clap.proofs.TakesLemmas.{leaf_takes}
use Rattle.command_line.specs.Arguments.{arguments, are_fit, positional}
use Rattle.command_line.specs.Jobs.{takes}
use Rattle.command_line.specs.Reader.{options_of, reader_of, row_of, rows_read, words_of}
use Rattle.command_line.specs.declared.command.Command.{Command}
use Rattle.command_line.specs.declared.command.Command.TheVariants as command
use Rattle.command_line.proofs.Pairs.{are_apart, distinct_pairs}
use Rattle.command_line.proofs.Steps.{FitsOption, settle_is_taken, settled_is, so_far}
use Rattle.command_line.proofs.Walks.{FitsOptions, FitsWords, walks}

-- ---- defaults

-- no argument has one
no_default : (rows : List Row) (c : List Rule) → list_all (λ (a : Rule). is_empty a.defaults) c ≡ true → fold with_default rows c ≡ rows
no_default rows [] e = refl
no_default rows (a ∷ c) e =
    let p = and_parts (is_empty a.defaults) (list_all (λ (a : Rule). is_empty a.defaults) c) e in
    let here = ap (λ (values : List Text). with_default rows (record a { defaults = values })) (is_nil a.defaults p.0) ∙ same (has_row a.id rows) in
    ap (λ (rs : List Row). fold with_default rs c) here ∙ no_default rows c p.1
  where
    same : (b : Bool) → cond b rows rows ≡ rows
    same true = refl
    same false = refl

-- ---- the commands

abbrev shape_of : Command → Shape
shape_of c = (built (reader_of c)).top

-- `clap` reads the command as its words and options are written
record Ready (c : Command) : Type 0 where
  simple : is_simple (reader_of c) ≡ true
  leaf : (built (reader_of c)).subs ≡ []
  options : FitsOptions (shape_of c).rules (takes c)
  words : FitsWords (shape_of c).rules 1 (words_of c)
  apart : are_apart (takes c) (words_of c) ≡ true
  passing : list_all default_passes (shape_of c).rules ≡ true
  none : list_all (λ (a : Rule). is_empty a.defaults) (shape_of c).rules ≡ true
  valid : (rows : List Row) → is_valid (shape_of c) rows false ≡ true
  following : (words : List Text) → argument_words (reader_of c) words ≡ words

-- each of the names
abbrev Each : (Text → Type 0) → List Text → Type 0
Each P [] = ⊤
Each P (name ∷ names) = P name × Each P names

each_of : (P : Text → Type 0) (names : List Text) (name : Text) → Each P names → list_any (bytes_eq name) names ≡ true → P name
each_of P [] name h e = cc
each_of P (n ∷ names) name h e =
    elim (cases_Bool (bytes_eq name n)) [
      | inl here ↦ subst P (sym ((bytes_eq-Decides name n).0 here)) h.0
      | inr there ↦
          let rest : list_any (bytes_eq name) names ≡ true = rw there at e in
          each_of P names name h.1 rest
    ]

no_option : (c : List Rule) (may : Text → Bool) → ((name : Text) → may name ≡ false) → FitsOptions c may
no_option c may none = record { each = λ name e. (let bad : true ≡ false = sym e ∙ none name in cc); named = none [] }

of_options : (c : List Rule) (may : Text → Bool) (names : List Text) → ((name : Text) → may name ≡ true → list_any (bytes_eq name) names ≡ true) → may [] ≡ false → Each (FitsOption c) names → FitsOptions c may
of_options c may names is named each = record { each = λ name e. each_of (FitsOption c) names name each (is name e); named = named }

abbrev option_fits : Command → Text → Type 0
option_fits c name = FitsOption (shape_of c).rules name

one_option : (name only : Text) → bytes_eq name only ≡ true → list_any (bytes_eq name) (only ∷ []) ≡ true
one_option name only e = rw e refl

races_ready : Ready command.Races
races_ready = record {
  simple = refl;
  leaf = refl;
  options = no_option _ _ (λ name. refl);
  words = (record { by_index = refl; by_id = refl; next_at = refl }, tt);
  apart = refl;
  passing = refl;
  none = refl;
  valid = λ rows. refl;
  following = λ words. refl;
}

weaken_ready : Ready command.Weaken
weaken_ready = record {
  simple = refl;
  leaf = refl;
  options = of_options _ _ (options_of command.Weaken) (λ name e. one_option name (codes "profile") e) refl (record { by_long = refl; by_id = refl }, tt);
  words = (record { by_index = refl; by_id = refl; next_at = refl }, tt);
  apart = refl;
  passing = refl;
  none = refl;
  valid = λ rows. refl;
  following = λ words. refl;
}

record_ready : Ready command.Record
record_ready = record {
  simple = refl;
  leaf = refl;
  options = of_options _ _ (options_of command.Record) (λ name e. e) refl
      (record { by_long = refl; by_id = refl }, (record { by_long = refl; by_id = refl }, (record { by_long = refl; by_id = refl }, (record { by_long = refl; by_id = refl }, (record { by_long = refl; by_id = refl }, (record { by_long = refl; by_id = refl }, tt))))));
  words = (record { by_index = refl; by_id = refl; next_at = refl }, (record { by_index = refl; by_id = refl; next_at = refl }, tt));
  apart = refl;
  passing = refl;
  none = refl;
  valid = λ rows. refl;
  following = λ words. refl;
}

replay_ready : Ready command.Replay
replay_ready = record {
  simple = refl;
  leaf = refl;
  options = of_options _ _ (options_of command.Replay) (λ name e. e) refl (record { by_long = refl; by_id = refl }, (record { by_long = refl; by_id = refl }, tt));
  words = (record { by_index = refl; by_id = refl; next_at = refl }, (record { by_index = refl; by_id = refl; next_at = refl }, tt));
  apart = refl;
  passing = refl;
  none = refl;
  valid = λ rows. refl;
  following = λ words. refl;
}

profile_ready : Ready command.Profile
profile_ready = record {
  simple = refl;
  leaf = refl;
  options = no_option _ _ (λ name. refl);
  words = (record { by_index = refl; by_id = refl; next_at = refl }, (record { by_index = refl; by_id = refl; next_at = refl }, (record { by_index = refl; by_id = refl; next_at = refl }, tt)));
  apart = refl;
  passing = refl;
  none = refl;
  valid = λ rows. refl;
  following = λ words. refl;
}

watch_ready : Ready command.Watch
watch_ready = record {
  simple = refl;
  leaf = refl;
  options = no_option _ _ (λ name. refl);
  words = (record { by_index = refl; by_id = refl; next_at = refl }, (record { by_index = refl; by_id = refl; next_at = refl }, (record { by_index = refl; by_id = refl; next_at = refl }, tt)));
  apart = refl;
  passing = refl;
  none = refl;
  valid = λ rows. refl;
  following = λ words. refl;
}

chain_ready : Ready command.Chain
chain_ready = record {
  simple = refl;
  leaf = refl;
  options = no_option _ _ (λ name. refl);
  words = (record { by_index = refl; by_id = refl; next_at = refl }, (record { by_index = refl; by_id = refl; next_at = refl }, (record { by_index = refl; by_id = refl; next_at = refl }, (record { by_index = refl; by_id = refl; next_at = refl }, tt))));
  apart = refl;
  passing = refl;
  none = refl;
  valid = λ rows. refl;
  following = λ words. refl;
}

checkpoint_ready : Ready command.Checkpoint
checkpoint_ready = record {
  simple = refl;
  leaf = refl;
  options = no_option _ _ (λ name. refl);
  words = (record { by_index = refl; by_id = refl; next_at = refl }, (record { by_index = refl; by_id = refl; next_at = refl }, (record { by_index = refl; by_id = refl; next_at = refl }, (record { by_index = refl; by_id = refl; next_at = refl }, tt))));
  apart = refl;
  passing = refl;
  none = refl;
  valid = λ rows. refl;
  following = λ words. refl;
}

make_ready : Ready command.Make
make_ready = record {
  simple = refl;
  leaf = refl;
  options = no_option _ _ (λ name. refl);
  words = (record { by_index = refl; by_id = refl; next_at = refl }, (record { by_index = refl; by_id = refl; next_at = refl }, tt));
  apart = refl;
  passing = refl;
  none = refl;
  valid = λ rows. refl;
  following = λ words. refl;
}

ready : (c : Command) → Ready c
ready command.Races = races_ready
ready command.Weaken = weaken_ready
ready command.Record = record_ready
ready command.Replay = replay_ready
ready command.Profile = profile_ready
ready command.Watch = watch_ready
ready command.Chain = chain_ready
ready command.Checkpoint = checkpoint_ready
ready command.Make = make_ready

-- ---- fit words

-- `clap` takes the words, and matches their pairs
pub record Reads (c : Command) (words : List Text) : Type 0 where
  pub taken : clap_takes (reader_of c) words ≡ true
  pub simple : is_simple (reader_of c) ≡ true
  pub rows : matches_of (reader_of c) words ≡ rows_read c (arguments words)

pub reads : (c : Command) (words : List Text) → are_fit (takes c) (arguments words) ≡ true → length (positional (arguments words)) ≡ length (words_of c) → Reads c words
reads c words fit number =
    let r = ready c in
    let s = shape_of c in
    let given = arguments words in
    let w = walks s (takes c) r.options words (words_of c) [] None 1 r.words tt fit (omega (arith, number)) (distinct_pairs (takes c) (words_of c) given r.apart fit) in
    let held = ap (λ (u : Walk). u.held) w.ends in
    let settle = ap (settle_passes s.rules s.args_override_self) held ∙ settle_is_taken s.rules s.args_override_self w.done w.last w.settles in
    let level = and_from _ _ w.passes (and_from _ _ settle (and_from _ _ r.passing (r.valid (finished s.rules (walk s.rules [] nothing_held words).held)))) in
    let takes_all = leaf_takes (built (reader_of c)) nothing_held words r.leaf level in
    let end = ap (finished s.rules) held ∙ ap (λ h. fold with_default h.rows s.rules) (settled_is s.rules w.done w.last w.settles) ∙ no_default (map row_of (so_far w.done w.last)) s.rules r.none in
    record {
      taken = and_from _ _ r.simple (ap (built_takes (built (reader_of c)) nothing_held) (r.following words) ∙ takes_all);
      simple = r.simple;
      rows = ap (λ ws. rows_after s.rules (names_of (built (reader_of c))) ws) (r.following words) ∙ ap (λ subs. rows_after s.rules (map label_of subs) words) r.leaf ∙ end ∙ ap (map row_of) w.holds;
    }
