-- What the machine answers is the right answer.
use Rattle.std.proofs.Common.{◌≡◌, ℕ, ◌+◌, ◌≤◌, Bool, true, false, cond, List, [], ◌∷◌, ◌++◌, length, map, take, Some, None, Result, Ok, Err, refl, sym, ap, subst, ◌∙◌, arith, append_assoc, inl, inr, ⊎_elim}
use Rattle.std.specs.Prelude.{codes, ◌||◌, ◌⊎◌}
use Rattle.std.specs.List.{AllByRecursion}
use Rattle.std.proofs.lemmas.List.{append-nil, length-append, take_at}
use Rattle.std.proofs.lemmas.List.Concat.{flat_map-append}
use Rattle.std.proofs.lemmas.Option.{none-some, same_Some}
use Rattle.profiles.specs.declared.profile.Profile.{Profile}
use Rattle.profiles.specs.declared.profile.Profile.TheVariants as profile
use Rattle.profiles.specs.Profile.{Text, Pair}
use Rattle.order_log.specs.declared.fault.LogFault.{LogFault}
use Rattle.order_log.specs.declared.fault.LogFault.TheVariants.{LogSyntax, LogLimit}
use Rattle.order_log.specs.Log.{LogView, IsNamePair, HasNames, IsLog, KeepsLimits}
use Rattle.order_log.specs.declared.version.Version.{Version}
use Rattle.order_log.specs.declared.version.Version.TheVariants as version
use Rattle.order_log.specs.Text.{number_text, hex_text, pair_line, profile_lines, Group, groups_of, group_line, CanSay, version_line, log_lines, text_of, text_in}
use Rattle.order_log.specs.Reading.{lines_of, BeginsWith, BeginLog, BeginLimitedLog, IsSoundUpTo, shown, IsAnswer}
use Rattle.order_log.specs.Recogniser.{next, unfinished_of}
use Rattle.order_log.proofs.Parts.{Free, Free-append, Free-number_text}
use Rattle.order_log.proofs.Shared.{Free-group_line}
use Rattle.order_log.proofs.Heads.{Free-pair_line, Free-hex_text}
use Rattle.order_log.proofs.Lists.{All-append, All_front}
use Rattle.order_log.proofs.Cutting.{AreLines, lines_of-text_of, unfinished_of-text_of, AreLines-lines_of, text_of-lines_of}
use Rattle.order_log.proofs.Machine.{Part, Bare, Headed, Slotted, Celled, Limited, Pairing, Profiled, Sized, Whole, view_of, Step, taken, finish, goes, run}
use Rattle.order_log.proofs.Said.{said, Fine, Kept, adds}
use Rattle.order_log.proofs.Walks.{walks, walk, walk_rest, loosely, whole, whole_walk}
use Rattle.order_log.proofs.Completes.{completed}

-- ---- the lines of a log have no newline in them

word_free : (word : Text) (n : ℕ) → Free 10 word → Free 10 (word ++ number_text n)
word_free word n h = Free-append 10 word (number_text n) h (Free-number_text 10 n (omega arith))

pairs_are_lines : (ps : List Pair) → AllByRecursion IsNamePair ps → AreLines (map pair_line ps)
pairs_are_lines [] h = tt
pairs_are_lines (p ∷ ps) h = (Free-pair_line p h.0, pairs_are_lines ps h.1)

profile_is_lines : (p : Profile) → HasNames p → AreLines (profile_lines p)
profile_is_lines profile.All h = ((refl, (refl, (refl, (refl, (refl, (refl, (refl, (refl, (refl, (refl, (refl, tt))))))))))), tt)
profile_is_lines (profile.Pairs ps) h = (word_free (codes "profile ") (length ps) (refl, (refl, (refl, (refl, (refl, (refl, (refl, (refl, tt)))))))), pairs_are_lines ps h.1)

groups_are_lines : (rs : List Group) → AreLines (map group_line rs)
groups_are_lines [] = tt
groups_are_lines (r ∷ rs) = (Free-group_line r, groups_are_lines rs)

version_is_line : (w : Version) → Free 10 (version_line w)
version_is_line version.One = (refl, (refl, (refl, (refl, (refl, (refl, (refl, (refl, (refl, (refl, (refl, (refl, (refl, tt)))))))))))))
version_is_line version.Two = (refl, (refl, (refl, (refl, (refl, (refl, (refl, (refl, (refl, (refl, (refl, (refl, (refl, tt)))))))))))))

pub AreLines-log_lines : (w : Version) (v : LogView) → IsLog v → AreLines (log_lines w v)
AreLines-log_lines w v log =
    let first = version_is_line w in
    let slots = word_free (codes "slots ") v.setup.slots (refl, (refl, (refl, (refl, (refl, (refl, tt)))))) in
    let cells = word_free (codes "cells ") v.setup.cells (refl, (refl, (refl, (refl, (refl, (refl, tt)))))) in
    let limit = word_free (codes "limit ") v.setup.limit (refl, (refl, (refl, (refl, (refl, (refl, tt)))))) in
    let input = word_free (codes "input ") (length v.setup.input) (refl, (refl, (refl, (refl, (refl, (refl, tt)))))) in
    let hex = Free-hex_text v.setup.input log.input in
    let tail = (codes "input " ++ number_text (length v.setup.input)) ∷ hex_text v.setup.input ∷ [] in
    let middle = All-append (Free 10) (profile_lines v.profile) tail (profile_is_lines v.profile log.profile) (input, (hex, tt)) in
    let entries = groups_of w v.entries in
    (first, (slots, (cells, (limit, All-append (Free 10) (profile_lines v.profile ++ tail) (map group_line entries) middle (groups_are_lines entries)))))

-- ---- a log whose text begins with lines has these lines in front

pub begins_lines : (lines : List Text) (v : LogView) → AreLines lines → (b : BeginsWith lines v) → (more : List Text) × (log_lines b.version v ≡ lines ++ more)
begins_lines lines v are b =
    let w = b.version in
    let back : lines_of (text_in w v) ≡ log_lines w v = ap lines_of (sym (append-nil (text_in w v))) ∙ lines_of-text_of (log_lines w v) [] (AreLines-log_lines w v b.log) ∙ append-nil (log_lines w v) in
    (lines_of b.more, sym back ∙ ap lines_of b.text ∙ lines_of-text_of lines b.more are)

pub begins_with : (lines : List Text) (w : Version) (v : LogView) (more : List Text) → IsLog v → CanSay w v → log_lines w v ≡ lines ++ more → BeginsWith lines v
begins_with lines w v more log words e = record { log = log; version = w; words = words; more = text_of more; text = ap text_of e ∙ flat_map-append (λ line. line ++ 10 ∷ []) lines more }

-- the lines of a log's text are the log's lines, and nothing is left
pub record IsCut (bytes : Text) (w : Version) (v : LogView) : Type 0 where
  pub lines : lines_of bytes ≡ log_lines w v
  pub rest : unfinished_of bytes ≡ []

pub cut_log : (bytes : Text) (w : Version) (v : LogView) → IsLog v → bytes ≡ text_in w v → IsCut bytes w v
cut_log bytes w v log e =
    let whole_text : bytes ≡ text_of (log_lines w v) ++ [] = e ∙ sym (append-nil (text_in w v)) in
    record {
      lines = ap lines_of whole_text ∙ lines_of-text_of (log_lines w v) [] (AreLines-log_lines w v log) ∙ append-nil (log_lines w v);
      rest = ap unfinished_of whole_text ∙ unfinished_of-text_of (log_lines w v) [] (AreLines-log_lines w v log);
    }

-- ---- parts that lines lead to

-- the lines so far lead to the part
pub record LeadsTo (done : List Text) (p : Part) : Type 0 where
  pub there : walk true Bare done ≡ Some p
  pub fine : Fine p
  pub kept : Kept p
  pub says : said p ≡ done

pub LeadsTo-start : LeadsTo [] Bare
LeadsTo-start = record { there = refl; fine = tt; kept = tt; says = refl }

leads_on : (done : List Text) (p : Part) (line : Text) (s : Part × Bool) → LeadsTo done p → taken p line ≡ Some s → s.1 ≡ true → LeadsTo (done ++ line ∷ []) s.0
leads_on done p line s l e fits =
    let a = adds p line s e in
    let one : walk true p (line ∷ []) ≡ Some s.0 = ap (λ (t : Step). walks true t (λ q. Some q)) e ∙ ap (λ (b : Bool). cond (b || false) (Some s.0) None) fits in
    record {
      there = walk_rest true Bare done (line ∷ []) p l.there ∙ one;
      fine = a.fine l.fine;
      kept = a.kept fits l.kept;
      says = a.says ∙ ap (λ (ls : List Text). ls ++ line ∷ []) l.says;
    }

-- these lines begin a log
begin_log : (done : List Text) (p : Part) → Fine p → said p ≡ done → BeginLog done
begin_log done p fine says =
    let c = completed p fine in
    (c.view, begins_with done c.version c.view c.more c.log c.words (c.lines ∙ ap (λ (ls : List Text). ls ++ c.more) says))

begin_limited : (done : List Text) (p : Part) → LeadsTo done p → BeginLimitedLog done
begin_limited done p l =
    let c = completed p l.fine in
    (c.view, begins_with done c.version c.view c.more c.log c.words (c.lines ∙ ap (λ (ls : List Text). ls ++ c.more) l.says), c.within l.kept)

-- a log that begins with the lines so far and one more takes that line
takes_more : (strict : Bool) (done : List Text) (p : Part) (line : Text) (v : LogView) → AreLines (done ++ line ∷ []) → LeadsTo done p → (b : BeginsWith (done ++ line ∷ []) v) → (strict ≡ true → KeepsLimits v)
    → (more : List Text) × (walks strict (taken p line) (λ q. walk strict q more) ≡ Some (whole b.version v))
takes_more strict done p line v are l b within =
    let lines = begins_lines (done ++ line ∷ []) v are b in
    let regrouped : log_lines b.version v ≡ done ++ line ∷ lines.0 = lines.1 ∙ append_assoc done (line ∷ []) lines.0 in
    let there : walk strict Bare done ≡ Some p = by strict in
    (lines.0, sym (walk_rest strict Bare done (line ∷ lines.0) p there) ∙ ap (walk strict Bare) (sym regrouped) ∙ whole_walk strict b.version v b.log b.words within)
  where
    by : (t : Bool) → walk t Bare done ≡ Some p
    by true = l.there
    by false = loosely Bare done p l.there

-- ---- the answer at the end

-- a part is a whole log with nothing after it, or the end is missing
finishes : (p : Part) (at : ℕ) (rest : Text)
    → ((w : Version) × (v : LogView) × (p ≡ whole w v) × (rest ≡ []) × (finish p at rest ≡ Ok v)) ⊎ ((finish p at rest ≡ Err (LogSyntax at)) × ((w : Version) (v : LogView) → p ≡ whole w v → rest ≡ [] → ⊥))
finishes Bare at rest = inr (refl, λ w v e r. cc)
finishes (Headed x) at rest = inr (refl, λ w v e r. cc)
finishes (Slotted x s) at rest = inr (refl, λ w v e r. cc)
finishes (Celled x s c) at rest = inr (refl, λ w v e r. cc)
finishes (Limited n) at rest = inr (refl, λ w v e r. cc)
finishes (Pairing n left ps) at rest = inr (refl, λ w v e r. cc)
finishes (Profiled n p) at rest = inr (refl, λ w v e r. cc)
finishes (Sized n p k) at rest = inr (refl, λ w v e r. cc)
finishes (Whole n p input es) at [] = inl (n.version, view_of n p input es, refl, refl, refl)
finishes (Whole n p input es) at (b ∷ bs) = inr (refl, λ w v e r. cc)

-- ---- the answer

take_all_of : (done more : List Text) → take (length done) (done ++ more) ≡ done
take_all_of done more = take_at done more (length done) refl

take_one_more : (done : List Text) (line : Text) (more : List Text) → take (length done + 1) (done ++ line ∷ more) ≡ done ++ line ∷ []
take_one_more done line more =
    let regrouped = sym (append_assoc done (line ∷ []) more) in
    let long : length (done ++ line ∷ []) ≡ length done + 1 = omega (arith, length-append done (line ∷ [])) in
    ap (take (length done + 1)) regrouped ∙ take_at (done ++ line ∷ []) more (length done + 1) long

sound_here : (bytes : Text) (done more : List Text) (p : Part) → lines_of bytes ≡ done ++ more → LeadsTo done p → IsSoundUpTo bytes (length done)
sound_here bytes done more p e l = record {
  there = omega (arith, ap length e, length-append done more);
  begins = subst BeginLimitedLog (sym (ap (take (length done)) e ∙ take_all_of done more)) (begin_limited done p l);
}

-- the number of the next line, as it is shown
abbrev pub IsNext : List Text → ℕ → Type 0
IsNext done at = at ≡ shown (length done + 1)

at_end : (bytes : Text) (done : List Text) (p : Part) (at : ℕ) → lines_of bytes ≡ done → LeadsTo done p → IsNext done at → IsAnswer bytes (finish p at (unfinished_of bytes))
at_end bytes done p at e l number =
    ⊎_elim
    (λ w. subst (λ (r : Result LogView LogFault). IsAnswer bytes r) (sym w.4) (found w.0 w.1 w.2 w.3))
    (λ w. subst (λ (r : Result LogView LogFault). IsAnswer bytes r) (sym w.0) (missing w.1))
    (finishes p at (unfinished_of bytes))
  where
    found : (w : Version) (v : LogView) → p ≡ whole w v → unfinished_of bytes ≡ [] → IsAnswer bytes (Ok v)
    found w v is rest =
        let says : log_lines w v ≡ done = ap said (sym is) ∙ l.says in
        let text : bytes ≡ text_in w v = text_of-lines_of bytes ∙ ap (λ (t : Text). text_of (lines_of bytes) ++ t) rest ∙ append-nil (text_of (lines_of bytes)) ∙ ap text_of (e ∙ sym says) in
        let fine = subst Fine is l.fine in
        (fine.0, subst Kept is l.kept, (w, fine.1, text))

    missing : ((w : Version) (v : LogView) → p ≡ whole w v → unfinished_of bytes ≡ [] → ⊥) → IsAnswer bytes (Err (LogSyntax at))
    missing none = (
      length done,
      number,
      sound_here bytes done [] p (e ∙ sym (append-nil done)) l,
      inr (
        let long = ap length e in omega arith,
        λ v log t. let w = t.0 in
            let c = cut_log bytes w v log t.2 in
            let there : walk false Bare done ≡ Some (whole w v) = ap (walk false Bare) (sym e ∙ c.lines) ∙ whole_walk false w v log t.1 (λ h. absurd cc) in
            let same : Some p ≡ Some (whole w v) = sym (loosely Bare done p l.there) ∙ there in
            none w v (same_Some p (whole w v) same) c.rest,
      ),
    )

are_lines_more : (bytes : Text) (done : List Text) (line : Text) (more : List Text) → lines_of bytes ≡ done ++ line ∷ more → AreLines (done ++ line ∷ [])
are_lines_more bytes done line more e =
    let all = subst AreLines (e ∙ sym (append_assoc done (line ∷ []) more)) (AreLines-lines_of bytes) in
    All_front (Free 10) (done ++ line ∷ []) more all

none_walks : (strict : Bool) (p : Part) (line : Text) (more : List Text) (q : Part) → taken p line ≡ None → walks strict (taken p line) (λ r. walk strict r more) ≡ Some q → ⊥
none_walks strict p line more q e h = none-some q (sym (ap (λ (s : Step). walks strict s (λ r. walk strict r more)) e) ∙ h)

unfit_walks : (p : Part) (line : Text) (more : List Text) (q : Part) (s : Part × Bool) → taken p line ≡ Some s → s.1 ≡ false → walks true (taken p line) (λ r. walk true r more) ≡ Some q → ⊥
unfit_walks p line more q s e unfit h =
    let out : walks true (taken p line) (λ r. walk true r more) ≡ None =
    ap (λ (t : Step). walks true t (λ r. walk true r more)) e ∙ ap (λ (b : Bool). cond (b || false) (walk true s.0 more) None) unfit in
    none-some q (sym out ∙ h)

at_line : (bytes : Text) (done : List Text) (p : Part) (at : ℕ) (line : Text) (more : List Text) (on : Part → Result LogView LogFault) → lines_of bytes ≡ done ++ line ∷ more → LeadsTo done p → IsNext done at
    → ((q : Part) → LeadsTo (done ++ line ∷ []) q → IsAnswer bytes (on q)) → IsAnswer bytes (goes at (taken p line) on)
at_line bytes done p at line more on e l number others = by (taken p line) refl
  where
    there : length done + 1 ≤ length (lines_of bytes)
    there = omega (arith, ap length e, length-append done (line ∷ more))

    front : take (length done + 1) (lines_of bytes) ≡ done ++ line ∷ []
    front = ap (take (length done + 1)) e ∙ take_one_more done line more

    are : AreLines (done ++ line ∷ [])
    are = are_lines_more bytes done line more e

    sound : IsSoundUpTo bytes (length done)
    sound = sound_here bytes done (line ∷ more) p e l

    spoiled : taken p line ≡ None → BeginLog (take (length done + 1) (lines_of bytes)) → ⊥
    spoiled none b =
        let w = subst BeginLog front b in
        let t = takes_more false done p line w.0 are l w.1 (λ h. absurd cc) in
        none_walks false p line t.0 (whole w.1.version w.0) none t.1

    beyond : (s : Part × Bool) → taken p line ≡ Some s → s.1 ≡ false → BeginLimitedLog (take (length done + 1) (lines_of bytes)) → ⊥
    beyond s is unfit b =
        let w = subst BeginLimitedLog front b in
        let t = takes_more true done p line w.0 are l w.1 (λ h. w.2) in
        unfit_walks p line t.0 (whole w.1.version w.0) s is unfit t.1

    tested : (s : Part × Bool) (t : Bool) → taken p line ≡ Some s → s.1 ≡ t → IsAnswer bytes (cond t (on s.0) (Err (LogLimit at)))
    tested s true is fits = others s.0 (leads_on done p line s l is fits)
    tested s false is fits =
        let a = adds p line s is in
        let begins = begin_log (done ++ line ∷ []) s.0 (a.fine l.fine) (a.says ∙ ap (λ (ls : List Text). ls ++ line ∷ []) l.says) in
        (length done, number, sound, record { there = there; begins = subst BeginLog (sym front) begins; beyond = beyond s is fits })

    by : (o : Step) → taken p line ≡ o → IsAnswer bytes (goes at o on)
    by None is = (length done, number, sound, inl (there, spoiled is))
    by (Some s) is = tested s s.1 is refl

next_is : (done : List Text) (line : Text) (at : ℕ) → IsNext done at → IsNext (done ++ line ∷ []) (next at)
next_is done line at number = omega (arith, length-append done (line ∷ []))

pub run_right : (bytes : Text) (done : List Text) (p : Part) (at : ℕ) (more : List Text) → lines_of bytes ≡ done ++ more → LeadsTo done p → IsNext done at → IsAnswer bytes (run p at more (unfinished_of bytes))
run_right bytes done p at [] e l number = at_end bytes done p at (e ∙ append-nil done) l number
run_right bytes done p at (line ∷ more) e l number =
    at_line bytes done p at line more (λ q. run q (next at) more (unfinished_of bytes)) e l number
    (λ q there. run_right bytes (done ++ line ∷ []) q (next at) more (e ∙ sym (append_assoc done (line ∷ []) more)) there (next_is done line at number))
