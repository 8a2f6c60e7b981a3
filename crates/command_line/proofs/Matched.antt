-- The job of the values that `clap` matched is the job of the words.
use Rattle.std.proofs.Common.{◌≡◌, refl, ◌∙◌, ◌==◌, ap, ℕ, true, false, List, [], ◌∷◌, length, Option, Some, None, codes}
use Rattle.std.specs.Prelude.{option_and_then, option_map, slice_get}
use Rattle.std.proofs.lemmas.Bool.{eqb-false}
use Rattle.clap.specs.Matches.{first_value}
use Rattle.clap.specs.Simple.{App, new_rule, with_rule}
use Rattle.clap.specs.Walk.{Text, first_of, rows_of}
use Rattle.clap.specs.declared.parser.matches.Found.{Found}
use Rattle.clap.proofs.WalkLemmas.{first_value-rows}
use Rattle.thread_interpreter.specs.declared.access.Formula.{Formula}
use Rattle.command_line.specs.Arguments.{Argument, are_fit, positional, value_of, number_within, number_or}
use Rattle.command_line.specs.Jobs.{Asked, asked_of, job_by, replay_of, takes}
use Rattle.command_line.specs.Jobs.Asked.{Races, Weaken, Record, Profile, Watch, Chain, Checkpoint, Make}
use Rattle.command_line.specs.Reader.{asked_by, option_rule, pairs, rows_read, words_of}
use Rattle.command_line.specs.Events.{event_named}
use Rattle.command_line.specs.Predicates.{accesses_asked}
use Rattle.command_line.specs.declared.command.Command.{Command}
use Rattle.command_line.specs.declared.command.Command.TheVariants as command
use Rattle.command_line.proofs.Pairs.{are_apart, first_in_rows, no_word, value_apart, value_in, word_at}

-- ---- commands as they are built

abbrev pub word : Text → App → App
word name a = with_rule a (new_rule name)

abbrev pub setting : Text → App → App
setting name a = with_rule a (option_rule name)

-- ---- another number of positional words

pub job_by_is : (c : Command) (given : List Argument) → are_fit (takes c) given ≡ true → asked_of c (positional given) given ≡ job_by given c
job_by_is c given fit = rw fit refl

pub no_job : (c : Command) (words : List Text) (given : List Argument) → (length words ≡ length (words_of c) → ⊥) → None ≡ asked_of c words given
no_job command.Races [] given h = refl
no_job command.Races (a ∷ []) given h = absurd (h refl)
no_job command.Races (a ∷ b ∷ more) given h = refl
no_job command.Weaken [] given h = refl
no_job command.Weaken (a ∷ []) given h = absurd (h refl)
no_job command.Weaken (a ∷ b ∷ more) given h = refl
no_job command.Record [] given h = refl
no_job command.Record (a ∷ []) given h = refl
no_job command.Record (a ∷ b ∷ []) given h = absurd (h refl)
no_job command.Record (a ∷ b ∷ c ∷ more) given h = refl
no_job command.Replay [] given h = refl
no_job command.Replay (a ∷ []) given h = refl
no_job command.Replay (a ∷ b ∷ []) given h = absurd (h refl)
no_job command.Replay (a ∷ b ∷ c ∷ more) given h = refl
no_job command.Profile [] given h = refl
no_job command.Profile (a ∷ []) given h = refl
no_job command.Profile (a ∷ b ∷ []) given h = refl
no_job command.Profile (a ∷ b ∷ c ∷ []) given h = absurd (h refl)
no_job command.Profile (a ∷ b ∷ c ∷ d ∷ more) given h = refl
no_job command.Watch [] given h = refl
no_job command.Watch (a ∷ []) given h = refl
no_job command.Watch (a ∷ b ∷ []) given h = refl
no_job command.Watch (a ∷ b ∷ c ∷ []) given h = absurd (h refl)
no_job command.Watch (a ∷ b ∷ c ∷ d ∷ more) given h = refl
no_job command.Chain [] given h = refl
no_job command.Chain (a ∷ []) given h = refl
no_job command.Chain (a ∷ b ∷ []) given h = refl
no_job command.Chain (a ∷ b ∷ c ∷ []) given h = refl
no_job command.Chain (a ∷ b ∷ c ∷ d ∷ []) given h = absurd (h refl)
no_job command.Chain (a ∷ b ∷ c ∷ d ∷ e ∷ more) given h = refl
no_job command.Checkpoint [] given h = refl
no_job command.Checkpoint (a ∷ []) given h = refl
no_job command.Checkpoint (a ∷ b ∷ []) given h = refl
no_job command.Checkpoint (a ∷ b ∷ c ∷ []) given h = refl
no_job command.Checkpoint (a ∷ b ∷ c ∷ d ∷ []) given h = absurd (h refl)
no_job command.Checkpoint (a ∷ b ∷ c ∷ d ∷ e ∷ more) given h = refl
no_job command.Make [] given h = refl
no_job command.Make (a ∷ []) given h = refl
no_job command.Make (a ∷ b ∷ []) given h = absurd (h refl)
no_job command.Make (a ∷ b ∷ c ∷ more) given h = refl

pub no_job_by : (c : Command) (given : List Argument) → are_fit (takes c) given ≡ true → (length (positional given) == length (words_of c)) ≡ false → None ≡ job_by given c
no_job_by c given fit other = no_job c (positional given) given (eqb-false (length (positional given)) (length (words_of c)) other) ∙ job_by_is c given fit

-- ---- the values

abbrev Values : (Text → Option Text) → Command → List Argument → Type 0
Values value c given = (name : Text) → value name ≡ value_in name (pairs (words_of c) given)

infixl 10 ◌>>=◌
abbrev ◌>>=◌ : {A B : Type 0} → Option A → (A → Option B) → Option B
o >>= f = option_and_then f o

abbrev races_by : Option Text → Option Asked
races_by source = source >>= λ s. Some (Races s)

abbrev weaken_by : Option Text → Option Text → Option Asked
weaken_by source profile = source >>= λ s. Some (Weaken s profile)

abbrev replay_by : Option Text → Option Text → Option Text → Option Text → Option Asked
replay_by source log reads checkpoint = source >>= λ s. (log >>= λ l. replay_of s l reads checkpoint)

abbrev profile_by : Option Text → Option Text → Option Text → Option Asked
profile_by source log name = source >>= λ s. (log >>= λ l. (name >>= λ n. Some (Profile s l n)))

abbrev watch_by : Option Text → Option Text → Option Text → Option Asked
watch_by source log predicate = source >>= λ s. (log >>= λ l. (predicate >>= λ p. (accesses_asked p >>= λ f. Some (Watch s l f))))

abbrev chain_by : Option Text → Option Text → Option Text → Option Text → Option Asked
chain_by source log one other = source >>= λ s. (log >>= λ l. (one >>= λ a. (event_named a >>= λ i. (other >>= λ b. (event_named b >>= λ j. Some (Chain s l i j))))))

abbrev checkpoint_by : Option Text → Option Text → Option Text → Option Text → Option Asked
checkpoint_by source log count name = source >>= λ s. (log >>= λ l. (count >>= λ c. (number_within 0 16777312 c >>= λ n. (name >>= λ t. Some (Checkpoint s l n t)))))

abbrev make_by : Option Text → Option Text → Option Asked
make_by count name = count >>= λ c. (number_within 1 1000 c >>= λ n. (name >>= λ t. Some (Make n t)))

abbrev record_by : Option Text → Option Text → Option Text → Option Text → Option Text → Option Text → Option Text → Option Text → Option Asked
record_by source log profile slots cells limit budget reads =
    source >>= λ s. (log >>= λ l. (number_or 1 16 8 slots >>= λ n. (number_or 1024 131072 16384 cells >>= λ c. (number_or 1 67108864 16777216 limit >>= λ m. (number_or 1 1048576 1000 budget >>= λ b.
    Some (Record (record { source = s; log = l; profile = profile; slots = n; cells = c; limit = m; budget = b; reads = reads })))))))

module _ (value : Text → Option Text) (given : List Argument) where
  of_races : (ws : List Text) → length ws ≡ 1 → value (codes "source") ≡ slice_get ws 0 → asked_by command.Races value ≡ asked_of command.Races ws given
  of_races (s ∷ []) n source = ap races_by source
  of_races [] n source = cc
  of_races (a ∷ b ∷ more) n source = cc

  of_weaken : (ws : List Text) → length ws ≡ 1 → value (codes "source") ≡ slice_get ws 0 → value (codes "profile") ≡ value_of (codes "profile") given → asked_by command.Weaken value ≡ asked_of command.Weaken ws given
  of_weaken (s ∷ []) n source profile = (λ i. weaken_by (source i) (profile i))
  of_weaken [] n source profile = cc
  of_weaken (a ∷ b ∷ more) n source profile = cc

  of_record : (ws : List Text) → length ws ≡ 2 → value (codes "source") ≡ slice_get ws 0 → value (codes "log") ≡ slice_get ws 1 → ((name : Text) → takes command.Record name ≡ true → value name ≡ value_of name given) → asked_by command.Record value ≡ asked_of command.Record ws given
  of_record (s ∷ l ∷ []) n source log option =
      let profile = option (codes "profile") refl in
      let slots = option (codes "slots") refl in
      let cells = option (codes "cells") refl in
      let limit = option (codes "limit") refl in
      let budget = option (codes "budget") refl in
      let reads = option (codes "reads") refl in
      (λ i. record_by (source i) (log i) (profile i) (slots i) (cells i) (limit i) (budget i) (reads i))
  of_record [] n source log option = cc
  of_record (a ∷ []) n source log option = cc
  of_record (a ∷ b ∷ c ∷ more) n source log option = cc

  of_replay : (ws : List Text) → length ws ≡ 2 → value (codes "source") ≡ slice_get ws 0 → value (codes "log") ≡ slice_get ws 1 → ((name : Text) → takes command.Replay name ≡ true → value name ≡ value_of name given) → asked_by command.Replay value ≡ asked_of command.Replay ws given
  of_replay (s ∷ l ∷ []) n source log option =
      let reads = option (codes "reads") refl in
      let checkpoint = option (codes "from") refl in
      (λ i. replay_by (source i) (log i) (reads i) (checkpoint i))
  of_replay [] n source log option = cc
  of_replay (a ∷ []) n source log option = cc
  of_replay (a ∷ b ∷ c ∷ more) n source log option = cc

  of_profile : (ws : List Text) → length ws ≡ 3 → value (codes "source") ≡ slice_get ws 0 → value (codes "log") ≡ slice_get ws 1 → value (codes "name") ≡ slice_get ws 2 → asked_by command.Profile value ≡ asked_of command.Profile ws given
  of_profile (s ∷ l ∷ t ∷ []) n source log name = (λ i. profile_by (source i) (log i) (name i))
  of_profile [] n source log name = cc
  of_profile (a ∷ []) n source log name = cc
  of_profile (a ∷ b ∷ []) n source log name = cc
  of_profile (a ∷ b ∷ c ∷ d ∷ more) n source log name = cc

  formed : (o : Option Formula) (s l : Text) → option_and_then (λ f. Some (Watch s l f)) o ≡ option_map (Watch s l) o
  formed None s l = refl
  formed (Some f) s l = refl

  of_watch : (ws : List Text) → length ws ≡ 3 → value (codes "source") ≡ slice_get ws 0 → value (codes "log") ≡ slice_get ws 1 → value (codes "predicate") ≡ slice_get ws 2 → asked_by command.Watch value ≡ asked_of command.Watch ws given
  of_watch (s ∷ l ∷ p ∷ []) n source log predicate = (λ i. watch_by (source i) (log i) (predicate i)) ∙ formed (accesses_asked p) s l
  of_watch [] n source log predicate = cc
  of_watch (a ∷ []) n source log predicate = cc
  of_watch (a ∷ b ∷ []) n source log predicate = cc
  of_watch (a ∷ b ∷ c ∷ d ∷ more) n source log predicate = cc

  of_chain : (ws : List Text) → length ws ≡ 4 → value (codes "source") ≡ slice_get ws 0 → value (codes "log") ≡ slice_get ws 1 → value (codes "one") ≡ slice_get ws 2 → value (codes "other") ≡ slice_get ws 3 → asked_by command.Chain value ≡ asked_of command.Chain ws given
  of_chain (s ∷ l ∷ a ∷ b ∷ []) n source log one other = (λ i. chain_by (source i) (log i) (one i) (other i))
  of_chain [] n source log one other = cc
  of_chain (a ∷ []) n source log one other = cc
  of_chain (a ∷ b ∷ []) n source log one other = cc
  of_chain (a ∷ b ∷ c ∷ []) n source log one other = cc
  of_chain (a ∷ b ∷ c ∷ d ∷ e ∷ more) n source log one other = cc

  counted : (o : Option ℕ) (s l t : Text) → option_and_then (λ n. Some (Checkpoint s l n t)) o ≡ option_map (λ n. Checkpoint s l n t) o
  counted None s l t = refl
  counted (Some n) s l t = refl

  of_checkpoint : (ws : List Text) → length ws ≡ 4 → value (codes "source") ≡ slice_get ws 0 → value (codes "log") ≡ slice_get ws 1 → value (codes "count") ≡ slice_get ws 2 → value (codes "name") ≡ slice_get ws 3 → asked_by command.Checkpoint value ≡ asked_of command.Checkpoint ws given
  of_checkpoint (s ∷ l ∷ c ∷ t ∷ []) n source log count name = (λ i. checkpoint_by (source i) (log i) (count i) (name i)) ∙ counted (number_within 0 16777312 c) s l t
  of_checkpoint [] n source log count name = cc
  of_checkpoint (a ∷ []) n source log count name = cc
  of_checkpoint (a ∷ b ∷ []) n source log count name = cc
  of_checkpoint (a ∷ b ∷ c ∷ []) n source log count name = cc
  of_checkpoint (a ∷ b ∷ c ∷ d ∷ e ∷ more) n source log count name = cc

  numbered : (o : Option ℕ) (t : Text) → option_and_then (λ n. Some (Make n t)) o ≡ option_map (λ n. Make n t) o
  numbered None t = refl
  numbered (Some n) t = refl

  of_make : (ws : List Text) → length ws ≡ 2 → value (codes "count") ≡ slice_get ws 0 → value (codes "name") ≡ slice_get ws 1 → asked_by command.Make value ≡ asked_of command.Make ws given
  of_make (c ∷ t ∷ []) n count name = (λ i. make_by (count i) (name i)) ∙ numbered (number_within 1 1000 c) t
  of_make [] n count name = cc
  of_make (a ∷ []) n count name = cc
  of_make (a ∷ b ∷ c ∷ more) n count name = cc

  option_is : (c : Command) → are_apart (takes c) (words_of c) ≡ true → Values value c given → (name : Text) → takes c name ≡ true → value name ≡ value_of name given
  option_is c apart is name t = is name ∙ value_apart name (words_of c) given (no_word (takes c) name (words_of c) t apart)

  of_values : (c : Command) → are_fit (takes c) given ≡ true → length (positional given) ≡ length (words_of c) → Values value c given → asked_by c value ≡ asked_of c (positional given) given
  of_values command.Races fit n is = of_races (positional given) n (is _ ∙ word_at (takes command.Races) (codes "source") [] [] given refl refl fit)
  of_values command.Weaken fit n is =
      of_weaken (positional given) n (is _ ∙ word_at (takes command.Weaken) (codes "source") [] [] given refl refl fit)
      (is _ ∙ value_apart (codes "profile") (words_of command.Weaken) given refl)
  of_values command.Record fit n is =
      of_record (positional given) n (is _ ∙ word_at (takes command.Record) (codes "source") [] (codes "log" ∷ []) given refl refl fit)
      (is _ ∙ word_at (takes command.Record) (codes "log") (codes "source" ∷ []) [] given refl refl fit) (option_is command.Record refl is)
  of_values command.Replay fit n is =
      of_replay (positional given) n (is _ ∙ word_at (takes command.Replay) (codes "source") [] (codes "log" ∷ []) given refl refl fit)
      (is _ ∙ word_at (takes command.Replay) (codes "log") (codes "source" ∷ []) [] given refl refl fit) (option_is command.Replay refl is)
  of_values command.Profile fit n is =
      of_profile (positional given) n (is _ ∙ word_at (takes command.Profile) (codes "source") [] (codes "log" ∷ codes "name" ∷ []) given refl refl fit)
      (is _ ∙ word_at (takes command.Profile) (codes "log") (codes "source" ∷ []) (codes "name" ∷ []) given refl refl fit)
      (is _ ∙ word_at (takes command.Profile) (codes "name") (codes "source" ∷ codes "log" ∷ []) [] given refl refl fit)
  of_values command.Watch fit n is =
      of_watch (positional given) n (is _ ∙ word_at (takes command.Watch) (codes "source") [] (codes "log" ∷ codes "predicate" ∷ []) given refl refl fit)
      (is _ ∙ word_at (takes command.Watch) (codes "log") (codes "source" ∷ []) (codes "predicate" ∷ []) given refl refl fit)
      (is _ ∙ word_at (takes command.Watch) (codes "predicate") (codes "source" ∷ codes "log" ∷ []) [] given refl refl fit)
  of_values command.Chain fit n is =
      of_chain (positional given) n (is _ ∙ word_at (takes command.Chain) (codes "source") [] (codes "log" ∷ codes "one" ∷ codes "other" ∷ []) given refl refl fit)
      (is _ ∙ word_at (takes command.Chain) (codes "log") (codes "source" ∷ []) (codes "one" ∷ codes "other" ∷ []) given refl refl fit)
      (is _ ∙ word_at (takes command.Chain) (codes "one") (codes "source" ∷ codes "log" ∷ []) (codes "other" ∷ []) given refl refl fit)
      (is _ ∙ word_at (takes command.Chain) (codes "other") (codes "source" ∷ codes "log" ∷ codes "one" ∷ []) [] given refl refl fit)
  of_values command.Checkpoint fit n is =
      of_checkpoint (positional given) n (is _ ∙ word_at (takes command.Checkpoint) (codes "source") [] (codes "log" ∷ codes "count" ∷ codes "name" ∷ []) given refl refl fit)
      (is _ ∙ word_at (takes command.Checkpoint) (codes "log") (codes "source" ∷ []) (codes "count" ∷ codes "name" ∷ []) given refl refl fit)
      (is _ ∙ word_at (takes command.Checkpoint) (codes "count") (codes "source" ∷ codes "log" ∷ []) (codes "name" ∷ []) given refl refl fit)
      (is _ ∙ word_at (takes command.Checkpoint) (codes "name") (codes "source" ∷ codes "log" ∷ codes "count" ∷ []) [] given refl refl fit)
  of_values command.Make fit n is =
      of_make (positional given) n (is _ ∙ word_at (takes command.Make) (codes "count") [] (codes "name" ∷ []) given refl refl fit)
      (is _ ∙ word_at (takes command.Make) (codes "name") (codes "count" ∷ []) [] given refl refl fit)

-- what is asked by the matches is what the words ask
pub asked_is : (c : Command) (given : List Argument) (f : Found) → are_fit (takes c) given ≡ true → length (positional given) ≡ length (words_of c) → rows_of f ≡ rows_read c given
    → asked_by c (first_value f) ≡ asked_of c (positional given) given
asked_is c given f fit number rows =
    of_values (first_value f) given c fit number
    (λ name. first_value-rows f name ∙ ap (first_of name) rows ∙ first_in_rows name (pairs (words_of c) given))
