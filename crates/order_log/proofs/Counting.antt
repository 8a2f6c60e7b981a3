-- Counts of each thread's entries, one entry on; and the loop over the entries.
use Rattle.std.proofs.Common.{◌≡◌, ◌≢◌, ℕ, ◌+◌, ◌<◌, Bool, true, false, cond, eqb, List, [], ◌∷◌, ◌++◌, length, get_or, set, replicate, Option, Some, None, Result, Ok, Err, refl, sym, ap, ◌∙◌, arith, ⊎_elim}
use Rattle.std.specs.Prelude.{count_by, not, ◌&&◌}
use Rattle.std.proofs.lemmas.Bool.{cases_eq, eq-eqb, ne_eqb, eqb-false, and_right, and_parts, cond-true, cond-false}
use Rattle.std.specs.List.{AllByRecursion}
use Rattle.std.specs.Option.{option_map, option_and_then}
use Rattle.std.proofs.lemmas.List.{get_or-set_same, get_or-set_other, get_or-replicate}
use Rattle.sync_objects.specs.declared.entry.Entry.{Entry}
use Rattle.sync_objects.specs.Names.{is_ending}
use Rattle.order_log.specs.Log.{is_ending_of, is_other_of, IsEntryWithin}
use Rattle.profiles.specs.Profile.{Text}
use Rattle.sync_objects.specs.Setup.{SetupView, IsWithinLimits}
use Rattle.order_log.specs.declared.fault.LogFault.{LogFault}
use Rattle.order_log.specs.declared.fault.LogFault.TheVariants.{LogSyntax, LogLimit, OutOfMemory}
use Rattle.order_log.specs.Reading.{lines_of}
use Rattle.order_log.specs.Text.{text_of}
use Rattle.order_log.proofs.Cutting.{text_of-lines_of}
use Rattle.order_log.specs.declared.entry.LineGroup.{LineGroup}
use Rattle.order_log.specs.declared.version.Version.{Version}
use Rattle.order_log.specs.Text.{Group, has_word}
use Rattle.order_log.specs.Line.{clipped_group, entries_of, IsGroup, group_in}
use Rattle.order_log.specs.Recogniser.{◌>>=◌, Fails, AreCounted, Lines, unfinished_of, lines_in, next, first_of, next_line, found_at, is_entry_within, has_room, may_follow, may_all_follow, joins, may_begin, apart, entries_from}
use Rattle.order_log.proofs.Entries.{map_some, none_mapped}
use Rattle.order_log.proofs.Groups.{IsGroup_chain}
use Rattle.order_log.proofs.Shared.{group_is}
use Rattle.order_log.proofs.Said.{entry_within}
use Rattle.order_log.proofs.Ranges.{joins-clipped}
use Rattle.order_log.proofs.Lists.{All-append, count_push}

ok_pair : (x y : Text × Lines) → ◌≡◌ {A = Result (Text × Lines) LogFault} (Ok x) (Ok y) → x ≡ y
ok_pair x y e = cc

-- a count that the entry doesn't touch
same_count : (p : Entry → Bool) (es : List Entry) (e : Entry) → p e ≡ false → count_by p (es ++ e ∷ []) ≡ count_by p es
same_count p es e out =
    let pushed = count_push p es e in
    let none : cond {A = ℕ} (p e) 1 0 ≡ 0 = ap (λ (b : Bool). cond {A = ℕ} b 1 0) out in
    omega arith

more_count : (p : Entry → Bool) (es : List Entry) (e : Entry) → p e ≡ true → count_by p (es ++ e ∷ []) ≡ count_by p es + 1
more_count p es e counted =
    let pushed = count_push p es e in
    let one : cond {A = ℕ} (p e) 1 0 ≡ 1 = ap (λ (b : Bool). cond {A = ℕ} b 1 0) counted in
    omega arith

-- the counts of one sort, where the entry is of that sort
counts_on : (sort : ℕ → Entry → Bool) (counts : List ℕ) (es : List Entry) (e : Entry) → e.thread < length counts → ((thread : ℕ) → sort thread e ≡ eqb e.thread thread)
    → ((thread : ℕ) → thread < 16 → get_or counts thread 0 ≡ count_by (sort thread) es)
    → (thread : ℕ) → thread < 16 → get_or (set counts e.thread (get_or counts e.thread 0 + 1)) thread 0 ≡ count_by (sort thread) (es ++ e ∷ [])
counts_on sort counts es e inside is counted thread low = ⊎_elim same other (cases_eq thread e.thread)
  where
    same : thread ≡ e.thread → get_or (set counts e.thread (get_or counts e.thread 0 + 1)) thread 0 ≡ count_by (sort thread) (es ++ e ∷ [])
    same at =
        let pass : sort thread e ≡ true = is thread ∙ eq-eqb e.thread thread (sym at) in
        ap (λ (k : ℕ). get_or (set counts e.thread (get_or counts e.thread 0 + 1)) k 0) at ∙ get_or-set_same counts e.thread (get_or counts e.thread 0 + 1) 0 inside
        ∙ ap (λ (k : ℕ). get_or counts k 0 + 1) (sym at) ∙ ap (λ (k : ℕ). k + 1) (counted thread low) ∙ sym (more_count (sort thread) es e pass)

    other : thread ≢ e.thread → get_or (set counts e.thread (get_or counts e.thread 0 + 1)) thread 0 ≡ count_by (sort thread) (es ++ e ∷ [])
    other apart =
        let out : sort thread e ≡ false = is thread ∙ ne_eqb e.thread thread (λ h. apart (sym h)) in
        get_or-set_other counts e.thread thread (get_or counts e.thread 0 + 1) 0 apart ∙ counted thread low ∙ sym (same_count (sort thread) es e out)

test_true : (b u : Bool) → u ≡ true → (b && u) ≡ b
test_true true u h = h
test_true false u h = refl

pub counted_ending : (others endings more : List ℕ) (es : List Entry) (e : Entry) → e.thread < length endings → is_ending e.op ≡ true → more ≡ set endings e.thread (get_or endings e.thread 0 + 1)
    → AreCounted others endings es → AreCounted others more (es ++ e ∷ [])
counted_ending others endings more es e inside ending is c = record {
  of_others = λ thread low. c.of_others thread low ∙ sym (same_count (is_other_of thread) es e (and_right (eqb e.thread thread) (not (is_ending e.op)) (ap not ending)));
  of_endings = λ thread low. ap (λ (xs : List ℕ). get_or xs thread 0) is ∙ counts_on is_ending_of endings es e inside (λ k. test_true (eqb e.thread k) (is_ending e.op) ending) c.of_endings thread low;
}

pub counted_other : (others endings more : List ℕ) (es : List Entry) (e : Entry) → e.thread < length others → is_ending e.op ≡ false → more ≡ set others e.thread (get_or others e.thread 0 + 1)
    → AreCounted others endings es → AreCounted more endings (es ++ e ∷ [])
counted_other others endings more es e inside ending is c = record {
  of_others = λ thread low. ap (λ (xs : List ℕ). get_or xs thread 0) is ∙ counts_on is_other_of others es e inside (λ k. test_true (eqb e.thread k) (not (is_ending e.op)) (ap not ending)) c.of_others thread low;
  of_endings = λ thread low. c.of_endings thread low ∙ sym (same_count (is_ending_of thread) es e (and_right (eqb e.thread thread) (is_ending e.op) ending));
}

-- ---- the loop

abbrev entries_on : Version → SetupView → List Entry → Lines → Result (List Entry) LogFault
entries_on w s es l = entries_from w s es l.at l.whole l.rest

-- what is read so far goes on to the whole, is counted, and is within the limits
pub record Reads (w : Version) (s : SetupView) (es : List Entry) (l : Lines) (others endings : List ℕ) (total : Result (List Entry) LogFault) : Type 0 where
  pub goes_on : entries_from w s es l.at l.whole l.rest ≡ total
  pub counted : AreCounted others endings es
  pub within : AllByRecursion (IsEntryWithin s) es

pub counted_none : AreCounted (replicate 16 0) (replicate 16 0) []
counted_none = record { of_others = λ thread low. get_or-replicate 16 thread 0 0 low; of_endings = λ thread low. get_or-replicate 16 thread 0 0 low }

-- one line of entries
abbrev group_at : Version → List Entry → Text → Option Group
group_at w es line = option_and_then (apart w es) (group_in w line)

abbrev read_one : Version → SetupView → List Entry → ℕ → Lines → Group → Result (List Entry) LogFault
read_one w s es at after r = cond (may_all_follow s es (entries_of r)) (entries_on w s (es ++ entries_of r) after) (Err (LogLimit at))

line_read : (w : Version) (s : SetupView) (es : List Entry) (at : ℕ) (lines : List Text) (rest line : Text) (after : Lines) → first_of at lines rest ≡ Ok (line, after)
    → entries_from w s es at lines rest ≡ found_at at (group_at w es line) >>= read_one w s es at after
line_read w s es at [] rest line after e = absurd cc
line_read w s es at (l ∷ lines) rest line after e =
    let same : ◌≡◌ {A = Text × Lines} (l, record { at = next at; whole = lines; rest = rest }) (line, after) = ok_pair _ _ e in
    ap (λ (p : Text × Lines). found_at at (group_at w es p.0) >>= read_one w s es at p.1) same

pub fewer_lines : (l after : Lines) (line : Text) → next_line l ≡ Ok (line, after) → length after.whole < length l.whole
fewer_lines l after line e = by l.whole e
  where
    by : (lines : List Text) → first_of l.at lines l.rest ≡ Ok (line, after) → length after.whole < length lines
    by [] h = absurd cc
    by (x ∷ lines) h =
        let same : ◌≡◌ {A = Text × Lines} (x, record { at = next l.at; whole = lines; rest = l.rest }) (line, after) = ok_pair _ _ h in
        let left : length lines ≡ length after.whole = ap (λ (p : Text × Lines). length p.1.whole) same in
        omega arith

-- what a line that is found comes to
step_read : (w : Version) (s : SetupView) (es : List Entry) (l after : Lines) (line : Text) (o : Option Group) (total : Result (List Entry) LogFault) → next_line l ≡ Ok (line, after) → group_at w es line ≡ o → entries_on w s es l ≡ total
    → found_at l.at o >>= read_one w s es l.at after ≡ total
step_read w s es l after line o total there found so_far =
    ap (λ (p : Option Group). found_at l.at p >>= read_one w s es l.at after) (sym found) ∙ sym (line_read w s es l.at l.whole l.rest line after there) ∙ so_far

-- a line of no entries
pub entries_syntax : (w : Version) (s : SetupView) (es : List Entry) (l after : Lines) (line : Text) (total : Result (List Entry) LogFault) → next_line l ≡ Ok (line, after) → None ≡ option_map clipped_group (group_in w line)
    → entries_on w s es l ≡ total → total ≡ Err (LogSyntax l.at)
entries_syntax w s es l after line total there none so_far =
    sym (step_read w s es l after line None total there (ap (option_and_then (apart w es)) (none_mapped clipped_group (group_in w line) (sym none))) so_far)

-- what is found in a line
pub record IsFound (w : Version) (s : SetupView) (es : List Entry) (line : Text) (x : LineGroup) : Type 0 where
  pub group : Group
  pub is_group : IsGroup group
  pub read : group_in w line ≡ Some group
  pub shown : x ≡ clipped_group group
  pub begins : may_begin w es x.first ≡ may_begin w es group.first

pub found_in : (w : Version) (s : SetupView) (es : List Entry) (line : Text) (x : LineGroup) → IsWithinLimits s → AllByRecursion (IsEntryWithin s) es → Some x ≡ option_map clipped_group (group_in w line) → IsFound w s es line x
found_in w s es line x limits within found =
    let m = map_some clipped_group (group_in w line) x (sym found) in
    let r = m.0 in
    record {
      group = r;
      is_group = IsGroup_chain w r (group_is w line r m.1).chain;
      read = m.1;
      shown = sym m.2;
      begins = ap (λ (y : LineGroup). may_begin w es y.first) (sym m.2) ∙ ap (λ (b : Bool). has_word w r.first.op && not b) (joins-clipped w s es r.first limits within);
    }

-- a line whose operation the version doesn't have, or that should have been in the one before it
pub entries_misplaced : (w : Version) (s : SetupView) (es : List Entry) (l after : Lines) (line : Text) (x : LineGroup) (total : Result (List Entry) LogFault) → IsFound w s es line x → next_line l ≡ Ok (line, after)
    → may_begin w es x.first ≡ false → entries_on w s es l ≡ total → total ≡ Err (LogSyntax l.at)
entries_misplaced w s es l after line x total f there misplaced so_far =
    sym (step_read w s es l after line None total there (ap (option_and_then (apart w es)) f.read ∙ cond-false (may_begin w es f.group.first) (Some f.group) None (sym f.begins ∙ misplaced)) so_far)

apart_found : (w : Version) (s : SetupView) (es : List Entry) (line : Text) (x : LineGroup) (f : IsFound w s es line x) → may_begin w es x.first ≡ true → group_at w es line ≡ Some f.group
apart_found w s es line x f begins = ap (option_and_then (apart w es)) f.read ∙ cond-true (may_begin w es f.group.first) (Some f.group) None (sym f.begins ∙ begins)

-- entries beyond the limits
pub entries_limit : (w : Version) (s : SetupView) (es : List Entry) (l after : Lines) (line : Text) (x : LineGroup) (total : Result (List Entry) LogFault) → (f : IsFound w s es line x) → next_line l ≡ Ok (line, after)
    → may_begin w es x.first ≡ true → may_all_follow s es (entries_of f.group) ≡ false → entries_on w s es l ≡ total → total ≡ Err (LogLimit l.at)
entries_limit w s es l after line x total f there begins beyond so_far =
    sym (sym (cond-false (may_all_follow s es (entries_of f.group)) _ _ beyond) ∙ step_read w s es l after line (Some f.group) total there (apart_found w s es line x f begins) so_far)

-- a line of entries more
pub entries_more : (w : Version) (s : SetupView) (es : List Entry) (l after : Lines) (line : Text) (x : LineGroup) (total : Result (List Entry) LogFault) → (f : IsFound w s es line x) → next_line l ≡ Ok (line, after)
    → may_begin w es x.first ≡ true → may_all_follow s es (entries_of f.group) ≡ true → entries_on w s es l ≡ total → entries_on w s (es ++ entries_of f.group) after ≡ total
entries_more w s es l after line x total f there begins fits so_far =
    sym (cond-true (may_all_follow s es (entries_of f.group)) _ _ fits) ∙ step_read w s es l after line (Some f.group) total there (apart_found w s es line x f begins) so_far

each_within : (s : SetupView) (es fs : List Entry) → may_all_follow s es fs ≡ true → AllByRecursion (IsEntryWithin s) fs
each_within s es [] h = tt
each_within s es (f ∷ fs) h =
    let parts = and_parts (may_follow s es f) (may_all_follow s (es ++ f ∷ []) fs) h in
    let here = and_parts (is_entry_within s f) (has_room (is_ending f.op) f.thread es) parts.0 in
    (entry_within s f here.0, each_within s (es ++ f ∷ []) fs parts.1)

-- and they are within the limits too
pub more_within : (s : SetupView) (es fs : List Entry) → AllByRecursion (IsEntryWithin s) es → may_all_follow s es fs ≡ true → AllByRecursion (IsEntryWithin s) (es ++ fs)
more_within s es fs within h = All-append (IsEntryWithin s) es fs within (each_within s es fs h)

-- no byte is left
pub entries_done : (w : Version) (s : SetupView) (es : List Entry) (at : ℕ) (bytes : Text) (total : Result (List Entry) LogFault) → bytes ≡ [] → entries_on w s es (lines_in at bytes) ≡ total → total ≡ Ok es
entries_done w s es at bytes total none so_far = sym so_far ∙ ap (λ (bs : Text). entries_on w s es (lines_in at bs)) none

-- bytes are left, but no whole line
err_at : (w : Version) (s : SetupView) (es : List Entry) (at : ℕ) (lines : List Text) (rest : Text) (e : LogFault) (total : Result (List Entry) LogFault) → (lines ≡ [] → rest ≢ []) → Fails e (first_of at lines rest)
    → entries_from w s es at lines rest ≡ total → Fails e total
err_at w s es at lines rest OutOfMemory total some f so_far = tt
err_at w s es at [] [] (LogSyntax n) total some f so_far = absurd (some refl refl)
err_at w s es at [] (b ∷ bs) (LogSyntax n) total some f so_far = sym so_far ∙ ap as_entries f
  where
    as_entries : Result (Text × Lines) LogFault → Result (List Entry) LogFault
    as_entries (Ok x) = Ok []
    as_entries (Err x) = Err x
err_at w s es at (x ∷ lines) rest (LogSyntax n) total some f so_far = absurd cc
err_at w s es at [] rest (LogLimit n) total some f so_far = absurd cc
err_at w s es at (x ∷ lines) rest (LogLimit n) total some f so_far = absurd cc

some_left : (bytes : Text) → eqb (length bytes) 0 ≡ false → lines_of bytes ≡ [] → unfinished_of bytes ≢ []
some_left bytes some none all =
    let whole_text : bytes ≡ [] = text_of-lines_of bytes ∙ (λ i. text_of (none i) ++ all i) in
    eqb-false (length bytes) 0 some (ap length whole_text)

pub entries_err : (w : Version) (s : SetupView) (es : List Entry) (at : ℕ) (bytes : Text) (e : LogFault) (total : Result (List Entry) LogFault) → eqb (length bytes) 0 ≡ false → Fails e (next_line (lines_in at bytes))
    → entries_on w s es (lines_in at bytes) ≡ total → Fails e total
entries_err w s es at bytes e total some f so_far = err_at w s es at (lines_of bytes) (unfinished_of bytes) e total (some_left bytes some) f so_far
