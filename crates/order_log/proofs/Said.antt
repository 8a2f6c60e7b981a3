-- What the machine keeps: its part says the lines so far, and can be completed to a log.
use Rattle.std.proofs.Common.{◌≡◌, ℕ, zero, suc, ◌+◌, ◌<◌, ◌≤◌, Bool, true, false, cond, eqb, List, [], ◌∷◌, ◌++◌, length, map, Some, None, refl, sym, ap, subst, ◌∙◌, arith, append_assoc, ⊎_elim}
use Rattle.std.specs.Prelude.{codes, not, nat_le, nat_lt, ◌&&◌, count_by}
use Rattle.std.specs.List.{AllByRecursion}
use Rattle.std.specs.Option.{option_map, option_and_then}
use Rattle.std.specs.Str.{bytes_eq}
use Rattle.std.proofs.lemmas.Bool.{and_parts, leb-true, ltb-true, eqb-true, not-true}
use Rattle.std.proofs.lemmas.List.{append-nil, length-append, map-append}
use Rattle.std.proofs.lemmas.Option.{none-some, same_Some, cond_some}
use Rattle.std.proofs.lemmas.Slice.Eq.{bytes_eq-Decides}
use Rattle.profiles.specs.declared.profile.Profile.{Profile}
use Rattle.profiles.specs.declared.profile.Profile.TheVariants as profile
use Rattle.profiles.specs.Profile.{Text, Pair}
use Rattle.sync_objects.specs.declared.entry.Entry.{Entry}
use Rattle.sync_objects.specs.declared.object.ObjId.{ObjId}
use Rattle.sync_objects.specs.declared.object.ObjId.TheVariants as object
use Rattle.sync_objects.specs.Names.{object_kind, Fits, is_ending}
use Rattle.sync_objects.specs.Setup.{SetupView}
use Rattle.order_log.specs.Log.{IsNamePair, HasNames, IsLog, IsObjectWithin, last_count, IsEntryWithin, is_ending_of, is_other_of, AreWithin, KeepsLimits}
use Rattle.order_log.specs.declared.version.Version.{Version}
use Rattle.order_log.specs.declared.version.Version.TheVariants as version
use Rattle.order_log.specs.Text.{number_text, hex_text, pair_line, profile_lines, Group, groups_of, group_line, has_word, CanSay, version_line, log_lines}
use Rattle.order_log.specs.Line.{after_word, number_in, pair_in, hex_in, next_object, next_entry, stripes_after, entries_of, group_in}
use Rattle.order_log.specs.Recogniser.{is_object_within, is_entry_within, has_room, may_follow, may_all_follow, joins, may_begin, apart, version_in}
use Rattle.order_log.proofs.Numbers.{number_text-number_in}
use Rattle.order_log.proofs.Parts.{after_word_is}
use Rattle.order_log.proofs.Entries.{bind_some, map_some, chosen}
use Rattle.order_log.proofs.Groups.{groups_more}
use Rattle.order_log.proofs.Shared.{IsGroupLine, group_is}
use Rattle.order_log.proofs.Heads.{pair_is, hex_is}
use Rattle.order_log.proofs.Lists.{All-append, count_push, AreAscending-push}
use Rattle.order_log.proofs.Machine.{Numbers, Part, Bare, Headed, Slotted, Celled, Limited, Pairing, Profiled, Sized, Whole, paired, setup_of, view_of, number_step, count_step, entries_step, taken}

-- ---- the lines so far

abbrev slots_line : ℕ → Text
slots_line n = codes "slots " ++ number_text n

abbrev cells_line : ℕ → Text
cells_line n = codes "cells " ++ number_text n

abbrev limit_line : ℕ → Text
limit_line n = codes "limit " ++ number_text n

abbrev count_line : ℕ → Text
count_line n = codes "profile " ++ number_text n

abbrev input_line : ℕ → Text
input_line n = codes "input " ++ number_text n

abbrev pub numbers_lines : Numbers → List Text
numbers_lines n = version_line n.version ∷ slots_line n.slots ∷ cells_line n.cells ∷ limit_line n.limit ∷ []

abbrev pub said : Part → List Text
said Bare = []
said (Headed w) = version_line w ∷ []
said (Slotted w s) = version_line w ∷ slots_line s ∷ []
said (Celled w s c) = version_line w ∷ slots_line s ∷ cells_line c ∷ []
said (Limited n) = numbers_lines n
said (Pairing n left ps) = numbers_lines n ++ (count_line (length ps + suc left) ∷ map pair_line ps)
said (Profiled n p) = numbers_lines n ++ profile_lines p
said (Sized n p k) = numbers_lines n ++ (profile_lines p ++ input_line k ∷ [])
said (Whole n p input es) = log_lines n.version (view_of n p input es)

-- ---- what holds of a part: it is of a log, and of one within the limits

abbrev pub Fine : Part → Type 0
Fine Bare = Unit {0}
Fine (Headed w) = Unit {0}
Fine (Slotted w s) = Unit {0}
Fine (Celled w s c) = Unit {0}
Fine (Limited n) = Unit {0}
Fine (Pairing n left ps) = HasNames (profile.Pairs ps)
Fine (Profiled n p) = HasNames p
Fine (Sized n p k) = HasNames p
Fine (Whole n p input es) = IsLog (view_of n p input es) × CanSay n.version (view_of n p input es)

-- a number from low to high
abbrev pub IsFrom : ℕ → ℕ → ℕ → Type 0
IsFrom low high n = (low ≤ n) × (n ≤ high)

abbrev pub AreKept : Numbers → Type 0
AreKept n = IsFrom 1 16 n.slots × IsFrom 1024 131072 n.cells × IsFrom 1 67108864 n.limit

abbrev pub Kept : Part → Type 0
Kept Bare = Unit {0}
Kept (Headed w) = Unit {0}
Kept (Slotted w s) = IsFrom 1 16 s
Kept (Celled w s c) = IsFrom 1 16 s × IsFrom 1024 131072 c
Kept (Limited n) = AreKept n
Kept (Pairing n left ps) = AreKept n
Kept (Profiled n p) = AreKept n
Kept (Sized n p k) = AreKept n × IsFrom 0 1048576 k
Kept (Whole n p input es) = KeepsLimits (view_of n p input es)

-- ---- one line more

-- the part q says the lines of p and one more, and keeps what p keeps
pub record Adds (p : Part) (line : Text) (q : Part) (fits : Bool) : Type 0 where
  pub says : said q ≡ said p ++ line ∷ []
  pub fine : Fine p → Fine q
  pub kept : fits ≡ true → Kept p → Kept q

Adding : Part → Text → Part × Bool → Type 0
Adding p line s = Adds p line s.0 s.1

number_adds : (p : Part) (word : Text) (low high : ℕ) (make : ℕ → Part) (line : Text) (s : Part × Bool)
    → ((n : ℕ) → said (make n) ≡ said p ++ (word ++ number_text n) ∷ []) → ((n : ℕ) → Fine p → Fine (make n)) → ((n : ℕ) → IsFrom low high n → Kept p → Kept (make n))
    → number_step word low high make line ≡ Some s → Adds p line s.0 s.1
number_adds p word low high make line s says fine kept e =
    let m = map_some (λ n. (make n, nat_le low n && nat_le n high)) (option_and_then number_in (after_word word line)) s e in
    let w = bind_some (after_word word line) number_in m.0 m.1 in
    let text : line ≡ word ++ number_text m.0 = after_word_is word line w.0 w.1 ∙ ap (λ (t : Text). word ++ t) (number_text-number_in w.0 m.0 w.2) in
    subst (λ (t : Part × Bool). Adds p line t.0 t.1) m.2 (record {
      says = says m.0 ∙ ap (λ (t : Text). said p ++ t ∷ []) (sym text);
      fine = fine m.0;
      kept = λ t. let both = and_parts (nat_le low m.0) (nat_le m.0 high) t in kept m.0 (leb-true low m.0 both.0, leb-true m.0 high both.1);
    })

version_is : (line : Text) (w : Version) → version_in line ≡ Some w → line ≡ version_line w
version_is line w e =
    ⊎_elim
    (λ h. (bytes_eq-Decides line (version_line version.One)).0 h.0 ∙ ap version_line (same_Some version.One w h.1))
    (λ h. let c = cond_some (bytes_eq line (version_line version.Two)) version.Two w h.1 in (bytes_eq-Decides line (version_line version.Two)).0 c.0 ∙ ap version_line c.1)
    (chosen (bytes_eq line (version_line version.One)) (Some version.One) _ (Some w) e)

bare_adds : (line : Text) (s : Part × Bool) → option_map (λ w. (Headed w, true)) (version_in line) ≡ Some s → Adds Bare line s.0 s.1
bare_adds line s e =
    let m = map_some (λ w. (Headed w, true)) (version_in line) s e in
    subst (λ (t : Part × Bool). Adds Bare line t.0 t.1) m.2 (record { says = ap (λ (t : Text). t ∷ []) (sym (version_is line m.0 m.1)); fine = λ f. tt; kept = λ t k. tt })

-- ---- the profile's lines

said_paired : (n : Numbers) (k : ℕ) (ps : List Pair) → said (paired n k ps) ≡ numbers_lines n ++ (count_line (length ps + k) ∷ map pair_line ps)
said_paired n zero ps = let same : length ps ≡ length ps + 0 = omega arith in ap (λ (m : ℕ). numbers_lines n ++ (count_line m ∷ map pair_line ps)) same
said_paired n (suc k) ps = refl

Fine_paired : (n : Numbers) (k : ℕ) (ps : List Pair) → HasNames (profile.Pairs ps) → Fine (paired n k ps)
Fine_paired n zero ps h = h
Fine_paired n (suc k) ps h = h

Kept_paired : (n : Numbers) (k : ℕ) (ps : List Pair) → AreKept n → Kept (paired n k ps)
Kept_paired n zero ps h = h
Kept_paired n (suc k) ps h = h

count_adds : (n : Numbers) (line : Text) (s : Part × Bool) → count_step n line ≡ Some s → Adds (Limited n) line s.0 s.1
count_adds n line s e =
    let m = map_some (λ k. (paired n k [], true)) (option_and_then number_in (after_word (codes "profile ") line)) s e in
    let w = bind_some (after_word (codes "profile ") line) number_in m.0 m.1 in
    let text : line ≡ count_line m.0 = after_word_is (codes "profile ") line w.0 w.1 ∙ ap (λ (t : Text). codes "profile " ++ t) (number_text-number_in w.0 m.0 w.2) in
    let zero_first : 0 + m.0 ≡ m.0 = omega arith in
    subst (λ (t : Part × Bool). Adds (Limited n) line t.0 t.1) m.2 (record {
      says = said_paired n m.0 [] ∙ ap (λ (k : ℕ). numbers_lines n ++ count_line k ∷ []) zero_first ∙ ap (λ (t : Text). numbers_lines n ++ t ∷ []) (sym text);
      fine = λ f. Fine_paired n m.0 [] (tt, tt);
      kept = λ t k. Kept_paired n m.0 [] k;
    })

limited_adds : (n : Numbers) (line : Text) (s : Part × Bool) → cond (bytes_eq line (codes "profile all")) (Some (Profiled n profile.All, true)) (count_step n line) ≡ Some s → Adds (Limited n) line s.0 s.1
limited_adds n line s e = ⊎_elim all (λ w. count_adds n line s w.1) (chosen (bytes_eq line (codes "profile all")) (Some (Profiled n profile.All, true)) (count_step n line) (Some s) e)
  where
    all : (bytes_eq line (codes "profile all") ≡ true) × (Some (Profiled n profile.All, true) ≡ Some s) → Adds (Limited n) line s.0 s.1
    all w =
        let text = (bytes_eq-Decides line (codes "profile all")).0 w.0 in
        subst (λ (t : Part × Bool). Adds (Limited n) line t.0 t.1) (same_Some (Profiled n profile.All, true) s w.1)
        (record { says = ap (λ (t : Text). numbers_lines n ++ t ∷ []) (sym text); fine = λ f. tt; kept = λ t k. k })

pairing_adds : (n : Numbers) (left : ℕ) (ps : List Pair) (line : Text) (s : Part × Bool) → option_map (λ p. (paired n left (ps ++ p ∷ []), true)) (pair_in ps line) ≡ Some s → Adds (Pairing n left ps) line s.0 s.1
pairing_adds n left ps line s e =
    let m = map_some (λ p. (paired n left (ps ++ p ∷ []), true)) (pair_in ps line) s e in
    let p = m.0 in
    let is = pair_is ps line p m.1 in
    let long : length (ps ++ p ∷ []) + left ≡ length ps + suc left = omega (arith, length-append ps (p ∷ [])) in
    let lines : map pair_line (ps ++ p ∷ []) ≡ map pair_line ps ++ line ∷ [] = map-append pair_line ps (p ∷ []) ∙ ap (λ (t : Text). map pair_line ps ++ t ∷ []) (sym is.text) in
    subst (λ (t : Part × Bool). Adds (Pairing n left ps) line t.0 t.1) m.2 (record {
      says = said_paired n left (ps ++ p ∷ []) ∙ (λ i. numbers_lines n ++ (count_line (long i) ∷ lines i));
      fine = λ f. Fine_paired n left (ps ++ p ∷ []) (AreAscending-push ps p f.0 is.later, All-append IsNamePair ps (p ∷ []) f.1 (is.names, tt));
      kept = λ t k. Kept_paired n left (ps ++ p ∷ []) k;
    })

-- ---- the input

sized_adds : (n : Numbers) (p : Profile) (k : ℕ) (line : Text) (s : Part × Bool) → option_map (λ input. (Whole n p input [], true)) (hex_in k line) ≡ Some s → Adds (Sized n p k) line s.0 s.1
sized_adds n p k line s e =
    let m = map_some (λ input. (Whole n p input [], true)) (hex_in k line) s e in
    let input = m.0 in
    let is = hex_is k line input m.1 in
    let says : profile_lines p ++ (input_line (length input) ∷ hex_text input ∷ []) ++ [] ≡ (profile_lines p ++ input_line k ∷ []) ++ line ∷ [] =
    append-nil (profile_lines p ++ (input_line (length input) ∷ hex_text input ∷ [])) ∙ (λ i. profile_lines p ++ (input_line (is.size_is i) ∷ sym is.hex.text i ∷ []))
    ∙ sym (append_assoc (profile_lines p) (input_line k ∷ []) (line ∷ [])) in
    subst (λ (t : Part × Bool). Adds (Sized n p k) line t.0 t.1) m.2 (record {
      says = ap (λ (ls : List Text). numbers_lines n ++ ls) says;
      fine = λ f. (record { profile = f; input = is.hex.bytes_below; operations = tt }, tt);
      kept = λ t h. let size = is.size_is in
          let few = h.1.1 in
          record {
            setup = record { some_slot = h.0.0.0; few_slots = h.0.0.1; enough_cells = h.0.1.0; few_cells = h.0.1.1; some_event = h.0.2.0; few_events = h.0.2.1; short_input = omega arith };
            entries = record { each = tt; others = λ thread. omega arith; endings = λ thread. omega arith };
          };
    })

-- ---- entries

object_within : (slots : ℕ) (x : ObjId) → is_object_within slots x ≡ true → IsObjectWithin slots x
object_within slots (object.Mutex cell) e = ltb-true cell 4194304 e
object_within slots (object.Cond cell) e = ltb-true cell 4194304 e
object_within slots (object.Barrier cell) e = ltb-true cell 4194304 e
object_within slots (object.Rw cell) e = ltb-true cell 4194304 e
object_within slots (object.Weak lock stripe) e = let p = and_parts (nat_le lock 65471) (nat_le stripe 7) e in (leb-true lock 65471 p.0, leb-true stripe 7 p.1)
object_within slots (object.Slot slot) e = ltb-true slot slots e
object_within slots object.Threads e = tt
object_within slots object.Halt e = tt
object_within slots object.Input e = tt
object_within slots object.Output e = tt

pub entry_within : (s : SetupView) (e : Entry) → is_entry_within s e ≡ true → IsEntryWithin s e
entry_within s e h =
    let p = and_parts (nat_lt e.thread s.slots) (nat_le e.count (last_count s.limit e.op) && is_object_within s.slots e.obj) h in
    let q = and_parts (nat_le e.count (last_count s.limit e.op)) (is_object_within s.slots e.obj) p.1 in
    record { thread = ltb-true _ _ p.0; count = leb-true _ _ q.0; object = object_within s.slots e.obj q.1 }

-- one entry more of the sort that there is room for
counts_kept : (t ending : Bool) (thread : ℕ) (es : List Entry) (e : Entry) → eqb e.thread thread ≡ t → is_ending e.op ≡ ending → has_room ending e.thread es ≡ true
    → (count_by (is_other_of thread) es ≤ 1048576) × (count_by (is_ending_of thread) es ≤ 6)
    → (count_by (is_other_of thread) es + cond (t && not ending) 1 0 ≤ 1048576) × (count_by (is_ending_of thread) es + cond (t && ending) 1 0 ≤ 6)
counts_kept true true thread es e same is room h =
    let here : e.thread ≡ thread = eqb-true e.thread thread same in
    let less : count_by (is_ending_of e.thread) es < 6 = ltb-true _ _ room in
    let there = ap (λ (k : ℕ). count_by (is_ending_of k) es) here in
    (omega (arith, h.0), omega arith)
counts_kept true false thread es e same is room h =
    let here : e.thread ≡ thread = eqb-true e.thread thread same in
    let less : count_by (is_other_of e.thread) es < 1048576 = ltb-true _ _ room in
    let there = ap (λ (k : ℕ). count_by (is_other_of k) es) here in
    (omega arith, omega (arith, h.1))
counts_kept false ending thread es e same is room h = (omega (arith, h.0), omega (arith, h.1))

-- within the limits, and one entry more
may_within : (s : SetupView) (es : List Entry) (e : Entry) → AreWithin s es → may_follow s es e ≡ true → AreWithin s (es ++ e ∷ [])
may_within s es e k t =
    let parts = and_parts (is_entry_within s e) (has_room (is_ending e.op) e.thread es) t in
    let counts = (λ (thread : ℕ). counts_kept (eqb e.thread thread) (is_ending e.op) thread es e refl refl parts.1 (k.others thread, k.endings thread)) in
    record {
      each = All-append (IsEntryWithin s) es (e ∷ []) k.each (entry_within s e parts.0, tt);
      others = λ thread. let c = counts thread in omega (arith, c.0, count_push (is_other_of thread) es e);
      endings = λ thread. let c = counts thread in omega (arith, c.1, count_push (is_ending_of thread) es e);
    }

-- and as many more as may follow
pub all_within : (s : SetupView) (es fs : List Entry) → AreWithin s es → may_all_follow s es fs ≡ true → AreWithin s (es ++ fs)
all_within s es [] k t = subst (AreWithin s) (sym (append-nil es)) k
all_within s es (f ∷ fs) k t =
    let parts = and_parts (may_follow s es f) (may_all_follow s (es ++ f ∷ []) fs) t in
    subst (AreWithin s) (append_assoc es (f ∷ []) fs) (all_within s (es ++ f ∷ []) fs (may_within s es f k parts.0) parts.1)

next_object_kind : (x : ObjId) → object_kind (next_object x) ≡ object_kind x
next_object_kind (object.Weak lock stripe) = refl
next_object_kind _ = refl

-- the stripes of one line all have its operation
fits_after : (e : Entry) (more : ℕ) → Fits e.op e.obj → AllByRecursion (λ x. Fits x.op x.obj) (stripes_after e more)
fits_after e zero fit = tt
fits_after e (suc more) fit = let next : Fits e.op (next_object e.obj) = fit ∙ sym (next_object_kind e.obj) in (next, fits_after (next_entry e) more next)

words_after : (w : Version) (e : Entry) (more : ℕ) → has_word w e.op ≡ true → AllByRecursion (λ x. has_word w x.op ≡ true) (stripes_after e more)
words_after w e zero h = tt
words_after w e (suc more) h = (h, words_after w (next_entry e) more h)

apart_is : (w : Version) (es : List Entry) (r q : Group) → apart w es r ≡ Some q → (has_word w r.first.op ≡ true) × (joins w es r.first ≡ false) × (r ≡ q)
apart_is w es r q e =
    let fit = cond_some (may_begin w es r.first) r q e in
    let both = and_parts (has_word w r.first.op) (not (joins w es r.first)) fit.0 in
    (both.0, not-true (joins w es r.first) both.1, fit.1)

whole_adds : (n : Numbers) (p : Profile) (input : List ℕ) (es : List Entry) (line : Text) (s : Part × Bool)
    → entries_step n p input es (option_and_then (apart n.version es) (group_in n.version line)) ≡ Some s → Adds (Whole n p input es) line s.0 s.1
whole_adds n p input es line s found =
    let m = map_some (λ r. (Whole n p input (es ++ entries_of r), may_all_follow (setup_of n input) es (entries_of r))) (option_and_then (apart n.version es) (group_in n.version line)) s found in
    let r = m.0 in
    let b = bind_some (group_in n.version line) (apart n.version es) r m.1 in
    let begun = apart_is n.version es b.0 r b.2 in
    let is = group_is n.version line b.0 b.1 in
    subst (λ (t : Part × Bool). Adds (Whole n p input es) line t.0 t.1) m.2
    (subst (λ (q : Group). Adds (Whole n p input es) line (Whole n p input (es ++ entries_of q)) (may_all_follow (setup_of n input) es (entries_of q))) begun.2 (adds_group b.0 begun.0 begun.1 is))
  where
    adds_group : (q : Group) → has_word n.version q.first.op ≡ true → joins n.version es q.first ≡ false → IsGroupLine n.version line q → Adds (Whole n p input es) line (Whole n p input (es ++ entries_of q)) (may_all_follow (setup_of n input) es (entries_of q))
    adds_group q word begins is =
        let head = profile_lines p ++ (input_line (length input) ∷ hex_text input ∷ []) in
        let lines : map group_line (groups_of n.version (es ++ entries_of q)) ≡ map group_line (groups_of n.version es) ++ line ∷ [] =
        ap (map group_line) (groups_more n.version es q begins is.chain) ∙ map-append group_line (groups_of n.version es) (q ∷ []) ∙ ap (λ (t : Text). map group_line (groups_of n.version es) ++ t ∷ []) (sym is.text) in
        let says : head ++ map group_line (groups_of n.version (es ++ entries_of q)) ≡ (head ++ map group_line (groups_of n.version es)) ++ line ∷ [] =
        ap (λ (ls : List Text). head ++ ls) lines ∙ sym (append_assoc head (map group_line (groups_of n.version es)) (line ∷ [])) in
        record {
          says = ap (λ (ls : List Text). numbers_lines n ++ ls) says;
          fine = λ f. (
            record { profile = f.0.profile; input = f.0.input; operations = All-append (λ x. Fits x.op x.obj) es (entries_of q) f.0.operations (is.fitting, fits_after q.first q.more is.fitting) },
            All-append (λ x. has_word n.version x.op ≡ true) es (entries_of q) f.1 (word, words_after n.version q.first q.more word),
          );
          kept = λ t k. record { setup = k.setup; entries = all_within (setup_of n input) es (entries_of q) k.entries t };
        }

-- ---- any part

pub adds : (p : Part) (line : Text) (s : Part × Bool) → taken p line ≡ Some s → Adds p line s.0 s.1
adds Bare line s e = bare_adds line s e
adds (Headed w) line s e = number_adds (Headed w) (codes "slots ") 1 16 (λ n. Slotted w n) line s (λ n. refl) (λ n f. tt) (λ n h k. h) e
adds (Slotted w a) line s e = number_adds (Slotted w a) (codes "cells ") 1024 131072 (λ n. Celled w a n) line s (λ n. refl) (λ n f. tt) (λ n h k. (k, h)) e
adds (Celled w a c) line s e = number_adds (Celled w a c) (codes "limit ") 1 67108864 (λ n. Limited (record { version = w; slots = a; cells = c; limit = n })) line s (λ n. refl) (λ n f. tt) (λ n h k. (k.0, k.1, h)) e
adds (Limited n) line s e = limited_adds n line s e
adds (Pairing n left ps) line s e = pairing_adds n left ps line s e
adds (Profiled n p) line s e = number_adds (Profiled n p) (codes "input ") 0 1048576 (λ k. Sized n p k) line s (λ k. refl) (λ k f. f) (λ k h a. (a, h)) e
adds (Sized n p k) line s e = sized_adds n p k line s e
adds (Whole n p input es) line s e = whole_adds n p input es line s e
