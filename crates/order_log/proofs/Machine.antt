-- A log read as a machine reads it, line by line: what the lines so far say, and one line more.
use Rattle.std.proofs.Common.{◌≡◌, ℕ, zero, suc, Bool, true, false, cond, List, [], ◌∷◌, ◌++◌, Option, Some, None, Result, Ok, Err, refl, sym, ap, ◌∙◌}
use Rattle.std.specs.Prelude.{codes, nat_le, ◌&&◌}
use Rattle.std.specs.Option.{option_map, option_and_then}
use Rattle.std.specs.Str.{bytes_eq}
use Rattle.profiles.specs.declared.profile.Profile.{Profile}
use Rattle.profiles.specs.declared.profile.Profile.TheVariants as profile
use Rattle.profiles.specs.Profile.{Text, Pair}
use Rattle.sync_objects.specs.declared.entry.Entry.{Entry}
use Rattle.sync_objects.specs.Setup.{SetupView}
use Rattle.order_log.specs.declared.fault.LogFault.{LogFault}
use Rattle.order_log.specs.declared.fault.LogFault.TheVariants.{LogSyntax, LogLimit}
use Rattle.order_log.specs.Log.{LogView}
use Rattle.order_log.specs.declared.version.Version.{Version}
use Rattle.order_log.specs.Text.{Group}
use Rattle.order_log.specs.Line.{after_word, number_in, pair_in, hex_in, group_in, entries_of}
use Rattle.order_log.specs.Recogniser.{◌>>=◌, Lines, next, found_at, version_in, first_line, numbered, pairs_from, as_profile, profile_at, input_at, may_all_follow, apart, entries_from, log_at}

pub record Numbers : Type 0 where
  pub version : Version
  pub slots : ℕ
  pub cells : ℕ
  pub limit : ℕ

-- what the lines so far say
pub data Part : Type 0 where
  Bare : Part
  Headed : Version → Part
  Slotted : Version → ℕ → Part
  Celled : Version → ℕ → ℕ → Part
  Limited : Numbers → Part
  -- one pair and so many more are still to come
  Pairing : Numbers → ℕ → List Pair → Part
  Profiled : Numbers → Profile → Part
  Sized : Numbers → Profile → ℕ → Part
  Whole : Numbers → Profile → List ℕ → List Entry → Part

abbrev pub paired : Numbers → ℕ → List Pair → Part
paired n zero ps = Profiled n (profile.Pairs ps)
paired n (suc left) ps = Pairing n left ps

abbrev pub setup_of : Numbers → List ℕ → SetupView
setup_of n input = record { slots = n.slots; cells = n.cells; limit = n.limit; input = input }

abbrev pub view_of : Numbers → Profile → List ℕ → List Entry → LogView
view_of n p input es = record { setup = setup_of n input; profile = p; entries = es }

-- the next part, and whether the line is within the limits
abbrev pub Step : Type 0
Step = Option (Part × Bool)

abbrev pub number_step : Text → ℕ → ℕ → (ℕ → Part) → Text → Step
number_step word low high make line = option_map (λ n. (make n, nat_le low n && nat_le n high)) (option_and_then number_in (after_word word line))

abbrev pub count_step : Numbers → Text → Step
count_step n line = option_map (λ k. (paired n k [], true)) (option_and_then number_in (after_word (codes "profile ") line))

-- the entries of a line after those before
abbrev pub entries_step : Numbers → Profile → List ℕ → List Entry → Option Group → Step
entries_step n p input es o = option_map (λ r. (Whole n p input (es ++ entries_of r), may_all_follow (setup_of n input) es (entries_of r))) o

abbrev pub taken : Part → Text → Step
taken Bare line = option_map (λ w. (Headed w, true)) (version_in line)
taken (Headed w) line = number_step (codes "slots ") 1 16 (λ s. Slotted w s) line
taken (Slotted w s) line = number_step (codes "cells ") 1024 131072 (λ c. Celled w s c) line
taken (Celled w s c) line = number_step (codes "limit ") 1 67108864 (λ l. Limited (record { version = w; slots = s; cells = c; limit = l })) line
taken (Limited n) line = cond (bytes_eq line (codes "profile all")) (Some (Profiled n profile.All, true)) (count_step n line)
taken (Pairing n left ps) line = option_map (λ p. (paired n left (ps ++ p ∷ []), true)) (pair_in ps line)
taken (Profiled n p) line = number_step (codes "input ") 0 1048576 (λ k. Sized n p k) line
taken (Sized n p k) line = option_map (λ input. (Whole n p input [], true)) (hex_in k line)
taken (Whole n p input es) line = entries_step n p input es (option_and_then (apart n.version es) (group_in n.version line))

-- ---- all lines

abbrev pub finish : Part → ℕ → Text → Result LogView LogFault
finish Bare at rest = Err (LogSyntax at)
finish (Headed w) at rest = Err (LogSyntax at)
finish (Slotted w s) at rest = Err (LogSyntax at)
finish (Celled w s c) at rest = Err (LogSyntax at)
finish (Limited n) at rest = Err (LogSyntax at)
finish (Pairing n left ps) at rest = Err (LogSyntax at)
finish (Profiled n p) at rest = Err (LogSyntax at)
finish (Sized n p k) at rest = Err (LogSyntax at)
finish (Whole n p input es) at [] = Ok (view_of n p input es)
finish (Whole n p input es) at (b ∷ bs) = Err (LogSyntax at)

abbrev pub goes : ℕ → Step → (Part → Result LogView LogFault) → Result LogView LogFault
goes at None on = Err (LogSyntax at)
goes at (Some s) on = cond s.1 (on s.0) (Err (LogLimit at))

abbrev pub run : Part → ℕ → List Text → Text → Result LogView LogFault
run p at [] rest = finish p at rest
run p at (line ∷ lines) rest = goes at (taken p line) (λ q. run q (next at) lines rest)

abbrev pub run_on : Part → Lines → Result LogView LogFault
run_on p l = run p l.at l.whole l.rest

-- ---- the machine is the recogniser

abbrev IsUnfinished : Part → Type 0
IsUnfinished p = (at : ℕ) (rest : Text) → finish p at rest ≡ Err (LogSyntax at)

abbrev OnNumber : Type 0
OnNumber = Result (ℕ × Lines) LogFault

abbrev tested : ℕ → ℕ → ℕ → Lines → ℕ → OnNumber
tested low high at after n = cond (nat_le low n && nat_le n high) (Ok (n, after)) (Err (LogLimit at))

abbrev onward : (ℕ → Part) → ℕ × Lines → Result LogView LogFault
onward make x = run_on (make x.0) x.1

found_number : (make : ℕ → Part) (low high at : ℕ) (after : Lines) (o : Option ℕ)
    → goes at (option_map (λ n. (make n, nat_le low n && nat_le n high)) o) (λ q. run_on q after) ≡ (found_at at o >>= tested low high at after) >>= onward make
found_number make low high at after None = refl
found_number make low high at after (Some n) = by (nat_le low n && nat_le n high)
  where
    by : (t : Bool) → cond t (run_on (make n) after) (Err (LogLimit at)) ≡ cond t (Ok (n, after)) (Err (LogLimit at)) >>= onward make
    by true = refl
    by false = refl

run_numbered : (p : Part) (word : Text) (low high : ℕ) (make : ℕ → Part) → IsUnfinished p → ((line : Text) → taken p line ≡ number_step word low high make line)
    → (l : Lines) → run_on p l ≡ numbered word low high l >>= onward make
unfolding numbered
run_numbered p word low high make unfinished steps l = by l.at l.whole l.rest
  where
    by : (at : ℕ) (ls : List Text) (rest : Text) → run p at ls rest ≡ numbered word low high (record { at = at; whole = ls; rest = rest }) >>= onward make
    by at [] rest = unfinished at rest
    by at (line ∷ lines) rest =
        let after : Lines = record { at = next at; whole = lines; rest = rest } in
        ap (λ (s : Step). goes at s (λ q. run_on q after)) (steps line) ∙ found_number make low high at after (option_and_then number_in (after_word word line))

abbrev onto_headed : Version × Lines → Result LogView LogFault
onto_headed x = run_on (Headed x.0) x.1

abbrev with_version : Lines → Version → Result (Version × Lines) LogFault
with_version after w = Ok (w, after)

run_first : (l : Lines) → run_on Bare l ≡ first_line l >>= onto_headed
unfolding first_line
run_first l = by l.at l.whole l.rest
  where
    by : (at : ℕ) (ls : List Text) (rest : Text) → run Bare at ls rest ≡ first_line (record { at = at; whole = ls; rest = rest }) >>= onto_headed
    by at [] rest = refl
    by at (line ∷ lines) rest = found (version_in line)
      where
        after : Lines
        after = record { at = next at; whole = lines; rest = rest }

        found : (o : Option Version) → goes at (option_map (λ w. (Headed w, true)) o) (λ q. run_on q after) ≡ (found_at at o >>= with_version after) >>= onto_headed
        found None = refl
        found (Some w) = refl

-- ---- pairs

abbrev OnPairs : Type 0
OnPairs = Result (List Pair × Lines) LogFault

abbrev with_pairs : Numbers → List Pair × Lines → Result LogView LogFault
with_pairs n x = run_on (Profiled n (profile.Pairs x.0)) x.1

one_pair : (n : Numbers) (left : ℕ) → ((ps : List Pair) (l : Lines) → run_on (paired n left ps) l ≡ pairs_from left ps l >>= with_pairs n) → (ps : List Pair) (at : ℕ) (ls : List Text) (rest : Text)
    → run (Pairing n left ps) at ls rest ≡ pairs_from (suc left) ps (record { at = at; whole = ls; rest = rest }) >>= with_pairs n
one_pair n left others ps at [] rest = refl
one_pair n left others ps at (line ∷ lines) rest = by (pair_in ps line)
  where
    after : Lines
    after = record { at = next at; whole = lines; rest = rest }

    by : (o : Option Pair) → goes at (option_map (λ p. (paired n left (ps ++ p ∷ []), true)) o) (λ q. run_on q after) ≡ (found_at at o >>= λ p. pairs_from left (ps ++ p ∷ []) after) >>= with_pairs n
    by None = refl
    by (Some p) = others (ps ++ p ∷ []) after

run_pairs : (n : Numbers) (left : ℕ) (ps : List Pair) (l : Lines) → run_on (paired n left ps) l ≡ pairs_from left ps l >>= with_pairs n
run_pairs n zero ps l = refl
run_pairs n (suc left) ps l = one_pair n left (run_pairs n left) ps l.at l.whole l.rest

-- ---- the profile

abbrev OnProfile : Type 0
OnProfile = Result (Profile × Lines) LogFault

abbrev with_profile : Numbers → Profile × Lines → Result LogView LogFault
with_profile n x = run_on (Profiled n x.0) x.1

abbrev counted : Lines → ℕ → OnProfile
counted after k = pairs_from k [] after >>= λ x. Ok (as_profile x)

as_pairs : (n : Numbers) (r : OnPairs) → r >>= with_pairs n ≡ (r >>= λ x. Ok (as_profile x)) >>= with_profile n
as_pairs n (Ok x) = refl
as_pairs n (Err e) = refl

found_count : (n : Numbers) (at : ℕ) (after : Lines) (o : Option ℕ) → goes at (option_map (λ k. (paired n k [], true)) o) (λ q. run_on q after) ≡ (found_at at o >>= counted after) >>= with_profile n
found_count n at after None = refl
found_count n at after (Some k) = run_pairs n k [] after ∙ as_pairs n (pairs_from k [] after)

run_profile : (n : Numbers) (l : Lines) → run_on (Limited n) l ≡ profile_at l >>= with_profile n
unfolding profile_at
run_profile n l = by l.at l.whole l.rest
  where
    by : (at : ℕ) (ls : List Text) (rest : Text) → run (Limited n) at ls rest ≡ profile_at (record { at = at; whole = ls; rest = rest }) >>= with_profile n
    by at [] rest = refl
    by at (line ∷ lines) rest = test (bytes_eq line (codes "profile all"))
      where
        after : Lines
        after = record { at = next at; whole = lines; rest = rest }

        o : Option ℕ
        o = option_and_then number_in (after_word (codes "profile ") line)

        test : (t : Bool) → goes at (cond t (Some (Profiled n profile.All, true)) (count_step n line)) (λ q. run_on q after) ≡ cond t (Ok (profile.All, after)) (found_at at o >>= counted after) >>= with_profile n
        test true = refl
        test false = found_count n at after o

-- ---- the input

abbrev with_input : Numbers → Profile → List ℕ × Lines → Result LogView LogFault
with_input n p x = run_on (Whole n p x.0 []) x.1

abbrev with_lines : Lines → List ℕ → Result (List ℕ × Lines) LogFault
with_lines after bytes = Ok (bytes, after)

run_input : (n : Numbers) (p : Profile) (k : ℕ) (l : Lines) → run_on (Sized n p k) l ≡ input_at k l >>= with_input n p
unfolding input_at
run_input n p k l = by l.at l.whole l.rest
  where
    by : (at : ℕ) (ls : List Text) (rest : Text) → run (Sized n p k) at ls rest ≡ input_at k (record { at = at; whole = ls; rest = rest }) >>= with_input n p
    by at [] rest = refl
    by at (line ∷ lines) rest = found (hex_in k line)
      where
        after : Lines
        after = record { at = next at; whole = lines; rest = rest }

        found : (o : Option (List ℕ)) → goes at (option_map (λ input. (Whole n p input [], true)) o) (λ q. run_on q after) ≡ (found_at at o >>= with_lines after) >>= with_input n p
        found None = refl
        found (Some input) = refl

-- ---- the entries

abbrev OnEntries : Type 0
OnEntries = Result (List Entry) LogFault

abbrev with_entries : Numbers → Profile → List ℕ → List Entry → Result LogView LogFault
with_entries n p input es = Ok (view_of n p input es)

run_entries : (n : Numbers) (p : Profile) (input : List ℕ) (es : List Entry) (at : ℕ) (ls : List Text) (rest : Text)
    → run (Whole n p input es) at ls rest ≡ entries_from n.version (setup_of n input) es at ls rest >>= with_entries n p input
run_entries n p input es at [] [] = refl
run_entries n p input es at [] (b ∷ bs) = refl
run_entries n p input es at (line ∷ lines) rest = found (option_and_then (apart n.version es) (group_in n.version line)) (λ fs. run_entries n p input fs (next at) lines rest)
  where
    found : (o : Option Group) → ((fs : List Entry) → run (Whole n p input fs) (next at) lines rest ≡ entries_from n.version (setup_of n input) fs (next at) lines rest >>= with_entries n p input)
        → goes at (entries_step n p input es o) (λ q. run q (next at) lines rest)
        ≡ (found_at at o >>= λ r. cond (may_all_follow (setup_of n input) es (entries_of r)) (entries_from n.version (setup_of n input) (es ++ entries_of r) (next at) lines rest) (Err (LogLimit at))) >>= with_entries n p input
    found None others = refl
    found (Some r) others = test (may_all_follow (setup_of n input) es (entries_of r))
      where
        test : (t : Bool) → cond t (run (Whole n p input (es ++ entries_of r)) (next at) lines rest) (Err (LogLimit at)) ≡ cond t (entries_from n.version (setup_of n input) (es ++ entries_of r) (next at) lines rest) (Err (LogLimit at)) >>= with_entries n p input
        test true = others (es ++ entries_of r)
        test false = refl

-- ---- the whole

-- what goes on alike after each value goes on alike
bind_same : {A B : Type 0} (r : Result A LogFault) (f g : A → Result B LogFault) → ((x : A) → f x ≡ g x) → r >>= f ≡ r >>= g
bind_same (Ok x) f g h = h x
bind_same (Err e) f g h = refl

-- reading is what the machine does from the first line on
pub log_at-run : (l : Lines) → log_at l ≡ run Bare l.at l.whole l.rest
unfolding log_at
log_at-run l =
    sym (run_first l ∙ bind_same (first_line l) _ _ (λ first.
    let w = first.0 in
    run_numbered (Headed w) (codes "slots ") 1 16 (λ s. Slotted w s) (λ at rest. refl) (λ line. refl) first.1 ∙ bind_same (numbered (codes "slots ") 1 16 first.1) _ _ (λ slots.
    run_numbered (Slotted w slots.0) (codes "cells ") 1024 131072 (λ c. Celled w slots.0 c) (λ at rest. refl) (λ line. refl) slots.1 ∙ bind_same (numbered (codes "cells ") 1024 131072 slots.1) _ _ (λ cells.
    run_numbered (Celled w slots.0 cells.0) (codes "limit ") 1 67108864 (λ m. Limited (record { version = w; slots = slots.0; cells = cells.0; limit = m })) (λ at rest. refl) (λ line. refl) cells.1
    ∙ bind_same (numbered (codes "limit ") 1 67108864 cells.1) _ _ (λ limit.
    let n : Numbers = record { version = w; slots = slots.0; cells = cells.0; limit = limit.0 } in
    run_profile n limit.1 ∙ bind_same (profile_at limit.1) _ _ (λ p.
    run_numbered (Profiled n p.0) (codes "input ") 0 1048576 (λ k. Sized n p.0 k) (λ at rest. refl) (λ line. refl) p.1 ∙ bind_same (numbered (codes "input ") 0 1048576 p.1) _ _ (λ size.
    run_input n p.0 size.0 size.1 ∙ bind_same (input_at size.0 size.1) _ _ (λ input.
    run_entries n p.0 input.0 [] input.1.at input.1.whole input.1.rest))))))))
