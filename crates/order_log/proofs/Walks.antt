-- The machine goes over the lines of each log, to its end.
use Rattle.std.proofs.Common.{◌≡◌, ℕ, ◌≤◌, Bool, true, false, cond, List, [], ◌∷◌, ◌++◌, length, map, Option, Some, None, refl, sym, ap, subst, ◌∙◌, arith, append_assoc}
use Rattle.std.specs.Prelude.{codes, not, nat_le, nat_lt, ◌&&◌, ◌||◌, count_by}
use Rattle.std.specs.List.{AllByRecursion}
use Rattle.std.specs.Option.{option_map, option_and_then}
use Rattle.std.specs.Str.{bytes_eq}
use Rattle.std.proofs.lemmas.Bool.{and_from, le-leb, lt-ltb, or_left, or_right, false_from_ne_true, eq-eqb, cond-true, cond-false}
use Rattle.std.proofs.lemmas.List.{append-nil, append_cancel_left}
use Rattle.std.proofs.lemmas.Option.{none-some, same_Some}
use Rattle.std.proofs.lemmas.Slice.Eq.{bytes_eq-Decides}
use Rattle.profiles.specs.declared.profile.Profile.{Profile}
use Rattle.profiles.specs.declared.profile.Profile.TheVariants as profile
use Rattle.profiles.specs.Profile.{Text, Pair, AreAscending}
use Rattle.sync_objects.specs.declared.entry.Entry.{Entry}
use Rattle.sync_objects.specs.declared.object.ObjId.{ObjId}
use Rattle.sync_objects.specs.declared.object.ObjId.TheVariants as object
use Rattle.sync_objects.specs.Names.{Fits, is_ending}
use Rattle.sync_objects.specs.Setup.{SetupView}
use Rattle.order_log.specs.Log.{LogView, IsNamePair, HasNames, IsLog, IsObjectWithin, last_count, IsEntryWithin, is_ending_of, is_other_of, KeepsLimits}
use Rattle.order_log.specs.declared.version.Version.{Version}
use Rattle.order_log.specs.declared.version.Version.TheVariants as version
use Rattle.order_log.specs.Text.{number_text, hex_text, pair_line, profile_lines, Group, groups_of, group_line, has_word, CanSay, version_line, log_lines}
use Rattle.order_log.specs.Line.{number_in, entries_of}
use Rattle.order_log.specs.Recogniser.{is_object_within, is_entry_within, has_room, may_follow, may_all_follow, joins, may_begin, apart}
use Rattle.order_log.proofs.Numbers.{number_in-number_text}
use Rattle.order_log.proofs.Parts.{after_word_at}
use Rattle.order_log.proofs.Groups.{IsChain, Follow, entries_in, groups_follow, entries_in-groups}
use Rattle.order_log.proofs.Shared.{group_again}
use Rattle.order_log.proofs.Heads.{pair_again, hex_again}
use Rattle.order_log.proofs.Lists.{All_front, All_back, count_front, ends_before_next}
use Rattle.order_log.proofs.Machine.{Numbers, Part, Bare, Headed, Slotted, Celled, Limited, Pairing, Profiled, Sized, Whole, paired, setup_of, view_of, Step, number_step, count_step, entries_step, taken}

-- ---- walks, within the limits where they are strict

abbrev pub walks : Bool → Step → (Part → Option Part) → Option Part
walks strict None on = None
walks strict (Some s) on = cond (s.1 || not strict) (on s.0) None

abbrev pub walk : Bool → Part → List Text → Option Part
walk strict p [] = Some p
walk strict p (line ∷ lines) = walks strict (taken p line) (λ q. walk strict q lines)

walk_one : (strict : Bool) (lines more : List Text) (q : Part) → ((p : Part) → walk strict p lines ≡ Some q → walk strict p (lines ++ more) ≡ walk strict q more) → (s : Step)
    → walks strict s (λ r. walk strict r lines) ≡ Some q → walks strict s (λ r. walk strict r (lines ++ more)) ≡ walk strict q more
walk_one strict lines more q others None e = absurd (none-some q e)
walk_one strict lines more q others (Some s) e = by (s.1 || not strict) e
  where
    by : (t : Bool) → cond t (walk strict s.0 lines) None ≡ Some q → cond t (walk strict s.0 (lines ++ more)) None ≡ walk strict q more
    by true h = others s.0 h
    by false h = absurd (none-some q h)

-- a walk goes on from where its front comes to
pub walk_rest : (strict : Bool) (p : Part) (lines more : List Text) (q : Part) → walk strict p lines ≡ Some q → walk strict p (lines ++ more) ≡ walk strict q more
walk_rest strict p [] more q e = ap (λ (r : Part). walk strict r more) (same_Some p q e)
walk_rest strict p (line ∷ lines) more q e = walk_one strict lines more q (λ r h. walk_rest strict r lines more q h) (taken p line) e

loose_one : (lines : List Text) (q : Part) → ((p : Part) → walk true p lines ≡ Some q → walk false p lines ≡ Some q) → (s : Step)
    → walks true s (λ r. walk true r lines) ≡ Some q → walks false s (λ r. walk false r lines) ≡ Some q
loose_one lines q others None e = absurd (none-some q e)
loose_one lines q others (Some s) e = by s.1 e
  where
    by : (t : Bool) → cond (t || false) (walk true s.0 lines) None ≡ Some q → cond (t || true) (walk false s.0 lines) None ≡ Some q
    by true h = others s.0 h
    by false h = absurd (none-some q h)

pub loosely : (p : Part) (lines : List Text) (q : Part) → walk true p lines ≡ Some q → walk false p lines ≡ Some q
loosely p [] q e = e
loosely p (line ∷ lines) q e = loose_one lines q (λ r h. loosely r lines q h) (taken p line) e

-- one line that is taken, and fits where that is asked
walk_on : (strict : Bool) (p : Part) (line : Text) (lines : List Text) (q : Part) (fits : Bool) → taken p line ≡ Some (q, fits) → (strict ≡ true → fits ≡ true) → walk strict p (line ∷ lines) ≡ walk strict q lines
walk_on strict p line lines q fits e within = ap (λ (s : Step). walks strict s (λ r. walk strict r lines)) e ∙ cond-true (fits || not strict) (walk strict q lines) None (by strict within)
  where
    by : (t : Bool) → (t ≡ true → fits ≡ true) → (fits || not t) ≡ true
    by true h = or_left fits false (h refl)
    by false h = or_right fits true refl

-- ---- the lines with a number

pub number_taken : (word : Text) (low high : ℕ) (make : ℕ → Part) (n : ℕ) → number_step word low high make (word ++ number_text n) ≡ Some (make n, nat_le low n && nat_le n high)
number_taken word low high make n =
    ap (λ (o : Option Text). option_map (λ k. (make k, nat_le low k && nat_le k high)) (option_and_then number_in o)) (after_word_at word (number_text n))
    ∙ ap (λ (o : Option ℕ). option_map (λ k. (make k, nat_le low k && nat_le k high)) o) (number_in-number_text n)

within_both : (low high n : ℕ) → low ≤ n → n ≤ high → (nat_le low n && nat_le n high) ≡ true
within_both low high n l h = and_from (nat_le low n) (nat_le n high) (le-leb low n l) (le-leb n high h)

-- ---- the profile

not_all : (k : ℕ) → bytes_eq (codes "profile " ++ number_text k) (codes "profile all") ≡ false
not_all k = false_from_ne_true (bytes_eq (codes "profile " ++ number_text k) (codes "profile all")) (λ e.
    let same = (bytes_eq-Decides (codes "profile " ++ number_text k) (codes "profile all")).0 e in
    let number : number_text k ≡ codes "all" = append_cancel_left (codes "profile ") (number_text k) (codes "all") same in
    none-some k (sym (ap number_in number) ∙ number_in-number_text k))

count_taken : (n : Numbers) (k : ℕ) → taken (Limited n) (codes "profile " ++ number_text k) ≡ Some (paired n k [], true)
count_taken n k =
    cond-false (bytes_eq (codes "profile " ++ number_text k) (codes "profile all")) (Some (Profiled n profile.All, true)) (count_step n (codes "profile " ++ number_text k)) (not_all k)
    ∙ ap (λ (o : Option Text). option_map (λ m. (paired n m [], true)) (option_and_then number_in o)) (after_word_at (codes "profile ") (number_text k))
    ∙ ap (λ (o : Option ℕ). option_map (λ m. (paired n m [], true)) o) (number_in-number_text k)

walk_pairs : (strict : Bool) (n : Numbers) (ps qs : List Pair) (lines : List Text) → AreAscending (ps ++ qs) → AllByRecursion IsNamePair qs
    → walk strict (paired n (length qs) ps) (map pair_line qs ++ lines) ≡ walk strict (Profiled n (profile.Pairs (ps ++ qs))) lines
walk_pairs strict n ps [] lines ascending names = ap (λ (rs : List Pair). walk strict (Profiled n (profile.Pairs rs)) lines) (sym (append-nil ps))
walk_pairs strict n ps (q ∷ qs) lines ascending names =
    let regrouped : (ps ++ q ∷ []) ++ qs ≡ ps ++ q ∷ qs = append_assoc ps (q ∷ []) qs in
    let found = pair_again ps q names.0 (ends_before_next ps q qs ascending) in
    walk_on strict (Pairing n (length qs) ps) (pair_line q) (map pair_line qs ++ lines) (paired n (length qs) (ps ++ q ∷ [])) true (ap (option_map (λ p. (paired n (length qs) (ps ++ p ∷ []), true))) found) (λ t. refl)
    ∙ walk_pairs strict n (ps ++ q ∷ []) qs lines (subst AreAscending (sym regrouped) ascending) names.1
    ∙ ap (λ (rs : List Pair). walk strict (Profiled n (profile.Pairs rs)) lines) regrouped

walk_profile : (strict : Bool) (n : Numbers) (p : Profile) (lines : List Text) → HasNames p → walk strict (Limited n) (profile_lines p ++ lines) ≡ walk strict (Profiled n p) lines
walk_profile strict n profile.All lines h = walk_on strict (Limited n) (codes "profile all") lines (Profiled n profile.All) true refl (λ t. refl)
walk_profile strict n (profile.Pairs ps) lines h =
    walk_on strict (Limited n) (codes "profile " ++ number_text (length ps)) (map pair_line ps ++ lines) (paired n (length ps) []) true (count_taken n (length ps)) (λ t. refl) ∙ walk_pairs strict n [] ps lines h.0 h.1

-- ---- the entries

within_object : (slots : ℕ) (x : ObjId) → IsObjectWithin slots x → is_object_within slots x ≡ true
within_object slots (object.Mutex cell) h = lt-ltb cell 4194304 h
within_object slots (object.Cond cell) h = lt-ltb cell 4194304 h
within_object slots (object.Barrier cell) h = lt-ltb cell 4194304 h
within_object slots (object.Rw cell) h = lt-ltb cell 4194304 h
within_object slots (object.Weak lock stripe) h = and_from (nat_le lock 65471) (nat_le stripe 7) (le-leb lock 65471 h.0) (le-leb stripe 7 h.1)
within_object slots (object.Slot slot) h = lt-ltb slot slots h
within_object slots object.Threads h = refl
within_object slots object.Halt h = refl
within_object slots object.Input h = refl
within_object slots object.Output h = refl

pub within_entry : (s : SetupView) (e : Entry) → IsEntryWithin s e → is_entry_within s e ≡ true
within_entry s e h =
    and_from (nat_lt e.thread s.slots) (nat_le e.count (last_count s.limit e.op) && is_object_within s.slots e.obj) (lt-ltb _ _ h.thread)
    (and_from (nat_le e.count (last_count s.limit e.op)) (is_object_within s.slots e.obj) (le-leb _ _ h.count) (within_object s.slots e.obj h.object))

room_for : (ending : Bool) (es : List Entry) (e : Entry) (fs : List Entry) → is_ending e.op ≡ ending
    → count_by (is_other_of e.thread) (es ++ e ∷ fs) ≤ 1048576 → count_by (is_ending_of e.thread) (es ++ e ∷ fs) ≤ 6 → has_room ending e.thread es ≡ true
room_for true es e fs is others endings =
    let counted : is_ending_of e.thread e ≡ true = and_from _ _ (eq-eqb e.thread e.thread refl) is in
    let one : cond {A = ℕ} (is_ending_of e.thread e) 1 0 ≡ 1 = cond-true _ 1 0 counted in
    let front = count_front (is_ending_of e.thread) es e fs in
    lt-ltb _ _ (omega arith)
room_for false es e fs is others endings =
    let counted : is_other_of e.thread e ≡ true = and_from _ _ (eq-eqb e.thread e.thread refl) (ap not is) in
    let one : cond {A = ℕ} (is_other_of e.thread e) 1 0 ≡ 1 = cond-true _ 1 0 counted in
    let front = count_front (is_other_of e.thread) es e fs in
    lt-ltb _ _ (omega arith)

may_come : (s : SetupView) (es : List Entry) (e : Entry) (fs : List Entry) (p : Profile) → KeepsLimits (record { setup = s; profile = p; entries = es ++ e ∷ fs }) → may_follow s es e ≡ true
may_come s es e fs p h =
    let within = All_back (IsEntryWithin s) es (e ∷ fs) h.entries.each in
    and_from (is_entry_within s e) (has_room (is_ending e.op) e.thread es) (within_entry s e within.0) (room_for (is_ending e.op) es e fs refl (h.entries.others e.thread) (h.entries.endings e.thread))

may_all_come : (s : SetupView) (es fs gs : List Entry) (p : Profile) → KeepsLimits (record { setup = s; profile = p; entries = es ++ (fs ++ gs) }) → may_all_follow s es fs ≡ true
may_all_come s es [] gs p h = refl
may_all_come s es (f ∷ fs) gs p h =
    and_from (may_follow s es f) (may_all_follow s (es ++ f ∷ []) fs) (may_come s es f (fs ++ gs) p h)
    (may_all_come s (es ++ f ∷ []) fs gs p (subst (λ (xs : List Entry). KeepsLimits (record { setup = s; profile = p; entries = xs })) (sym (append_assoc es (f ∷ []) (fs ++ gs))) h))

group_taken : (n : Numbers) (p : Profile) (input : List ℕ) (es : List Entry) (r : Group) → Fits r.first.op r.first.obj → has_word n.version r.first.op ≡ true → joins n.version es r.first ≡ false → IsChain n.version r.first r.more
    → taken (Whole n p input es) (group_line r) ≡ Some (Whole n p input (es ++ entries_of r), may_all_follow (setup_of n input) es (entries_of r))
group_taken n p input es r fit word begins chain =
    ap (λ (o : Option Group). entries_step n p input es (option_and_then (apart n.version es) o)) (group_again n.version r fit chain)
    ∙ ap (entries_step n p input es) (cond-true (may_begin n.version es r.first) (Some r) None (and_from (has_word n.version r.first.op) (not (joins n.version es r.first)) word (ap not begins)))

walk_groups : (strict : Bool) (n : Numbers) (p : Profile) (input : List ℕ) (es : List Entry) (rs : List Group) → AllByRecursion (λ e. Fits e.op e.obj) (entries_in rs) → AllByRecursion (λ e. has_word n.version e.op ≡ true) (entries_in rs) → Follow n.version es rs
    → (strict ≡ true → KeepsLimits (view_of n p input (es ++ entries_in rs))) → walk strict (Whole n p input es) (map group_line rs) ≡ Some (Whole n p input (es ++ entries_in rs))
walk_groups strict n p input es [] fitting words follow within = ap (λ (xs : List Entry). Some (Whole n p input xs)) (sym (append-nil es))
walk_groups strict n p input es (r ∷ rs) fitting words follow within =
    let regrouped : (es ++ entries_of r) ++ entries_in rs ≡ es ++ (entries_of r ++ entries_in rs) = append_assoc es (entries_of r) (entries_in rs) in
    let front = All_front (λ e. Fits e.op e.obj) (entries_of r) (entries_in rs) fitting in
    let back = All_back (λ e. Fits e.op e.obj) (entries_of r) (entries_in rs) fitting in
    let word = All_front (λ e. has_word n.version e.op ≡ true) (entries_of r) (entries_in rs) words in
    let rest = All_back (λ e. has_word n.version e.op ≡ true) (entries_of r) (entries_in rs) words in
    walk_on strict (Whole n p input es) (group_line r) (map group_line rs) (Whole n p input (es ++ entries_of r)) (may_all_follow (setup_of n input) es (entries_of r))
    (group_taken n p input es r front.0 word.0 follow.0 follow.1) (λ t. may_all_come (setup_of n input) es (entries_of r) (entries_in rs) p (within t))
    ∙ walk_groups strict n p input (es ++ entries_of r) rs back rest follow.2 (λ t. subst (λ (xs : List Entry). KeepsLimits (view_of n p input xs)) (sym regrouped) (within t))
    ∙ ap (λ (xs : List Entry). Some (Whole n p input xs)) regrouped

walk_entries : (strict : Bool) (n : Numbers) (p : Profile) (input : List ℕ) (fs : List Entry) → AllByRecursion (λ e. Fits e.op e.obj) fs → AllByRecursion (λ e. has_word n.version e.op ≡ true) fs → (strict ≡ true → KeepsLimits (view_of n p input fs))
    → walk strict (Whole n p input []) (map group_line (groups_of n.version fs)) ≡ Some (Whole n p input fs)
walk_entries strict n p input fs fitting words within =
    let all = entries_in-groups n.version fs in
    walk_groups strict n p input [] (groups_of n.version fs) (subst (AllByRecursion (λ e. Fits e.op e.obj)) (sym all) fitting) (subst (AllByRecursion (λ e. has_word n.version e.op ≡ true)) (sym all) words) (groups_follow n.version fs) (λ t. subst (λ (xs : List Entry). KeepsLimits (view_of n p input xs)) (sym all) (within t))
    ∙ ap (λ (xs : List Entry). Some (Whole n p input xs)) all

-- ---- the whole

abbrev pub numbers_of : Version → LogView → Numbers
numbers_of w v = record { version = w; slots = v.setup.slots; cells = v.setup.cells; limit = v.setup.limit }

abbrev pub whole : Version → LogView → Part
whole w v = Whole (numbers_of w v) v.profile v.setup.input v.entries

walk_number : (strict : Bool) (p : Part) (word : Text) (low high n : ℕ) (make : ℕ → Part) (lines : List Text) → ((line : Text) → taken p line ≡ number_step word low high make line)
    → (strict ≡ true → (low ≤ n) × (n ≤ high)) → walk strict p ((word ++ number_text n) ∷ lines) ≡ walk strict (make n) lines
walk_number strict p word low high n make lines steps within =
    walk_on strict p (word ++ number_text n) lines (make n) (nat_le low n && nat_le n high) (steps (word ++ number_text n) ∙ number_taken word low high make n)
    (λ t. within_both low high n (within t).0 (within t).1)

pub version_taken : (w : Version) → taken Bare (version_line w) ≡ Some (Headed w, true)
version_taken version.One = refl
version_taken version.Two = refl

pub whole_walk : (strict : Bool) (w : Version) (v : LogView) → IsLog v → CanSay w v → (strict ≡ true → KeepsLimits v) → walk strict Bare (log_lines w v) ≡ Some (whole w v)
whole_walk strict w v log words within =
    let s = v.setup in
    let n = numbers_of w v in
    let entries = map group_line (groups_of w v.entries) in
    let size = length s.input in
    let tail = (codes "input " ++ number_text size) ∷ hex_text s.input ∷ [] in
    let lines = (profile_lines v.profile ++ tail) ++ entries in
    let from_limit = (codes "limit " ++ number_text s.limit) ∷ lines in
    let from_cells = (codes "cells " ++ number_text s.cells) ∷ from_limit in
    let from_slots = (codes "slots " ++ number_text s.slots) ∷ from_cells in
    walk_on strict Bare (version_line w) from_slots (Headed w) true (version_taken w) (λ t. refl)
    ∙ walk_number strict (Headed w) (codes "slots ") 1 16 s.slots (λ k. Slotted w k) from_cells (λ line. refl) (λ t. ((within t).setup.some_slot, (within t).setup.few_slots))
    ∙ walk_number strict (Slotted w s.slots) (codes "cells ") 1024 131072 s.cells (λ k. Celled w s.slots k) from_limit (λ line. refl) (λ t. ((within t).setup.enough_cells, (within t).setup.few_cells))
    ∙ walk_number strict (Celled w s.slots s.cells) (codes "limit ") 1 67108864 s.limit (λ k. Limited (record { version = w; slots = s.slots; cells = s.cells; limit = k })) lines (λ line. refl)
    (λ t. ((within t).setup.some_event, (within t).setup.few_events))
    ∙ ap (walk strict (Limited n)) (append_assoc (profile_lines v.profile) tail entries) ∙ walk_profile strict n v.profile (tail ++ entries) log.profile
    ∙ walk_number strict (Profiled n v.profile) (codes "input ") 0 1048576 size (λ k. Sized n v.profile k) (hex_text s.input ∷ entries) (λ line. refl) (λ t. (omega arith, (within t).setup.short_input))
    ∙ walk_on strict (Sized n v.profile size) (hex_text s.input) entries (Whole n v.profile s.input []) true
    (ap (option_map (λ input. (Whole n v.profile input [], true))) (hex_again s.input log.input)) (λ t. refl)
    ∙ walk_entries strict n v.profile s.input v.entries log.operations words within
