-- The lines of a draft, part by part.
use Rattle.std.proofs.Common.{◌≡◌, ℕ, ◌≤◌, ◌<◌, ◌^◌, min, List, [], ◌∷◌, ◌++◌, length, map, drop, replicate, Result, Ok, Err, refl, sym, ap, subst, ◌∙◌, arith, append_assoc}
use Rattle.std.specs.Prelude.{codes}
use Rattle.std.specs.List.{AllByRecursion, flat_map}
use Rattle.std.proofs.lemmas.List.{append-nil, length-replicate}
use Rattle.profiles.specs.Profile.{Text}
use Rattle.order_log.specs.Recogniser.{Lines}
use Rattle.order_log.specs.Text.{number_text}
use Rattle.sync_objects.specs.declared.object.ObjId.{ObjId}
use Rattle.snapshots.specs.Conditions.{IsForm, IsThreadForm}
use Rattle.snapshots.specs.Text.{cell_line, draft_lines, object_line, thread_lines}
use Rattle.snapshots.specs.declared.draft.Draft.{Draft}
use Rattle.snapshots.specs.declared.draft.DraftThread.{DraftThread}
use Rattle.snapshot_lines.specs.Lines.{IsAny, IsCell, clipped_cell, clipped_entry, long_most, word_most}
use Rattle.snapshot_grammar.specs.Blanks.{blank_thread}
use Rattle.snapshot_grammar.specs.Drafts.{clipped_draft, clipped_thread, opening}
use Rattle.snapshot_grammar.specs.Parts.{AreMany, GoesOnAs, IsRead, IsStuck, IsStuckAt, Passed, Reads}
use Rattle.snapshot_grammar.specs.declared.fault.DraftFault.{DraftFault}
use Rattle.snapshot_grammar.specs.declared.fault.DraftFault.TheVariants.{Syntax, OutOfMemory}
use Rattle.snapshot_grammar.proofs.Grammar.{Delimits, IsPart, passed_as, passed_none, passed_then, stuck_in}
use Rattle.snapshot_grammar.proofs.OneLine.{counted_delimits, same_head}
use Rattle.snapshot_grammar.proofs.Many.{All-replicate, after_same, all_read, next_stuck, none_read, one_read}
use Rattle.snapshot_grammar.proofs.Threads.{thread_delimits}

abbrev Cells : Type 0
Cells = List (ℕ × ℕ)

abbrev Objects : Type 0
Objects = List (ObjId × ℕ × ℕ)

abbrev pub AreCells : Cells → Type 0
AreCells cs = AllByRecursion IsCell cs

abbrev pub AreObjects : Objects → Type 0
AreObjects os = AllByRecursion IsAny os

abbrev pub cells_lines : Cells → List Text
cells_lines cs = (codes "cells " ++ number_text (length cs)) ∷ map cell_line cs

abbrev pub objects_lines : Objects → List Text
objects_lines os = (codes "objects " ++ number_text (length os)) ∷ map object_line os

abbrev pub threads_lines : List DraftThread → List Text
threads_lines ds = flat_map thread_lines ds

objects_any : (os : Objects) → AreObjects os
objects_any [] = tt
objects_any (o ∷ os) = (tt, objects_any os)

cells_delimit : Delimits Cells AreCells cells_lines
cells_delimit x y h k u v e = counted_delimits (ℕ × ℕ) IsCell cell_line clipped_cell (codes "cells ") x y h k u v e

objects_delimit : (x y : Objects) (u v : List Text) → objects_lines x ++ u ≡ objects_lines y ++ v → u ≡ v
objects_delimit x y u v e = counted_delimits (ObjId × ℕ × ℕ) IsAny object_line clipped_entry (codes "objects ") x y (objects_any x) (objects_any y) u v e

-- ---- what a draft's lines go on with

blank_stands : IsThreadForm blank_thread
blank_stands = record { frames = refl; stripes = refl; regions = refl; kept = tt; registers = tt }

module _ (slots : ℕ) where
  abbrev some_threads : List DraftThread
  some_threads = replicate slots blank_thread

  threads_stand : AreMany DraftThread IsThreadForm slots some_threads
  threads_stand = record { count = length-replicate slots blank_thread; all = All-replicate IsThreadForm slots blank_thread blank_stands }

  draft_stands : (n : ℕ) (cs : Cells) (os : Objects) (ds : List DraftThread) → AreCells cs → AreMany DraftThread IsThreadForm slots ds → IsForm slots (record { at = n; cells = cs; objects = os; threads = ds })
  draft_stands n cs os ds c d = record { count = d.count; words = c; threads = d.all }

  after_opening : (d : Draft) (n : ℕ) (u t : List Text) → draft_lines d ++ u ≡ opening n ++ t → cells_lines d.cells ++ ((objects_lines d.objects ++ threads_lines d.threads) ++ u) ≡ t
  after_opening d n u t e = sym (append_assoc (cells_lines d.cells) (objects_lines d.objects ++ threads_lines d.threads) u) ∙ ap (drop 2) e

  after_cells : (d : Draft) → IsForm slots d → (n : ℕ) (cs : Cells) → AreCells cs → (u t : List Text) → draft_lines d ++ u ≡ opening n ++ (cells_lines cs ++ t) → objects_lines d.objects ++ (threads_lines d.threads ++ u) ≡ t
  after_cells d k n cs c u t e =
      sym (append_assoc (objects_lines d.objects) (threads_lines d.threads) u)
      ∙ cells_delimit d.cells cs k.words c ((objects_lines d.objects ++ threads_lines d.threads) ++ u) t (after_opening d n u (cells_lines cs ++ t) e)

  after_objects : (d : Draft) → IsForm slots d → (n : ℕ) (cs : Cells) → AreCells cs → (os : Objects) (u t : List Text) → draft_lines d ++ u ≡ opening n ++ (cells_lines cs ++ (objects_lines os ++ t)) → threads_lines d.threads ++ u ≡ t
  after_objects d k n cs c os u t e = objects_delimit d.objects os (threads_lines d.threads ++ u) t (after_cells d k n cs c u (objects_lines os ++ t) e)

  -- a draft's lines are known by how they begin
  pub draft_delimits : Delimits Draft (IsForm slots) draft_lines
  draft_delimits x y h k u v e =
      let inner : (objects_lines y.objects ++ threads_lines y.threads) ++ v ≡ objects_lines y.objects ++ (threads_lines y.threads ++ v) = append_assoc (objects_lines y.objects) (threads_lines y.threads) v in
      let cut : draft_lines y ++ v ≡ opening y.at ++ (cells_lines y.cells ++ (objects_lines y.objects ++ (threads_lines y.threads ++ v))) =
      ap (λ (z : List Text). opening y.at ++ z) (append_assoc (cells_lines y.cells) (objects_lines y.objects ++ threads_lines y.threads) v ∙ ap (λ (z : List Text). cells_lines y.cells ++ z) inner) in
      let rest = after_objects x h y.at y.cells k.words y.objects u (threads_lines y.threads ++ v) (e ∙ cut) in
      after_same DraftThread IsThreadForm thread_lines threads_lines refl (λ z zs. refl) thread_delimits x.threads y.threads h.threads k.threads (h.count ∙ sym k.count) u v rest

  -- ---- parts

  opening_part : IsPart ℕ IsAny opening Draft (IsForm slots) draft_lines []
  opening_part = record {
    complete = λ n k. (record { at = n; cells = []; objects = []; threads = some_threads }, draft_stands n [] [] some_threads tt threads_stand, cells_lines [] ++ (objects_lines [] ++ threads_lines some_threads), refl);
    project = λ c k u t e. (c.at, tt, (cells_lines c.cells ++ (objects_lines c.objects ++ threads_lines c.threads)) ++ u, e);
  }

  cells_part : (n : ℕ) → IsPart Cells AreCells cells_lines Draft (IsForm slots) draft_lines (opening n)
  cells_part n = record {
    complete = λ cs k. (record { at = n; cells = cs; objects = []; threads = some_threads }, draft_stands n cs [] some_threads k threads_stand, objects_lines [] ++ threads_lines some_threads, refl);
    project = λ c k u t e. (c.cells, k.words, (objects_lines c.objects ++ threads_lines c.threads) ++ u, after_opening c n u t e);
  }

  objects_part : (n : ℕ) (cs : Cells) → AreCells cs → IsPart Objects AreObjects objects_lines Draft (IsForm slots) draft_lines (opening n ++ cells_lines cs)
  objects_part n cs c = record {
    complete = λ os k. (record { at = n; cells = cs; objects = os; threads = some_threads }, draft_stands n cs os some_threads c threads_stand, threads_lines some_threads, refl);
    project = λ d k u t e. (d.objects, objects_any d.objects, threads_lines d.threads ++ u, after_cells d k n cs c u t e);
  }

  threads_part : (n : ℕ) (cs : Cells) (os : Objects) → AreCells cs → IsPart (List DraftThread) (AreMany DraftThread IsThreadForm slots) threads_lines Draft (IsForm slots) draft_lines ((opening n ++ cells_lines cs) ++ objects_lines os)
  threads_part n cs os c = record {
    complete = λ ds k. (
      record { at = n; cells = cs; objects = os; threads = ds },
      draft_stands n cs os ds c k,
      [],
      ap (λ (z : List Text). opening n ++ (cells_lines cs ++ (objects_lines os ++ z))) (sym (append-nil (threads_lines ds))) ∙ sym (append_assoc (opening n ++ cells_lines cs) (objects_lines os) (threads_lines ds ++ [])),
    );
    project = λ d k u t e. (d.threads, record { count = k.count; all = k.threads }, u, after_objects d k n cs c os u t (e ∙ append_assoc (opening n ++ cells_lines cs) (objects_lines os) t));
  }

  -- ---- reading

  module _ (l m : Lines) where
    pub opening_error : (j : Lines) (e : DraftFault) → l.at ≤ 4294967295 → Reads {A = ℕ} {B = ℕ} IsAny opening (λ n. min n long_most) l (Err e) m → Reads {A = Draft} {B = Draft} (IsForm slots) draft_lines clipped_draft l (Err e) j
    opening_error j (Syntax at) low s = stuck_in ℕ IsAny opening Draft (IsForm slots) draft_lines [] opening_part l l at (passed_none l low) s
    opening_error j OutOfMemory low s = tt

    module _ (number : ℕ) (n : IsRead ℕ ℕ IsAny opening (λ n. min n long_most) l number m) (k : Lines) where
      pub cells_error : (j : Lines) (e : DraftFault) → Reads {A = Cells} {B = Cells} AreCells cells_lines (map clipped_cell) m (Err e) k → Reads {A = Draft} {B = Draft} (IsForm slots) draft_lines clipped_draft l (Err e) j
      cells_error j (Syntax at) s = stuck_in Cells AreCells cells_lines Draft (IsForm slots) draft_lines (opening n.item) (cells_part n.item) l m at n.passed s
      cells_error j OutOfMemory s = tt

      module _ (cells : Cells) (c : IsRead Cells Cells AreCells cells_lines (map clipped_cell) m cells k) (i : Lines) where
        cells_passed : Passed l k (opening n.item ++ cells_lines c.item)
        cells_passed = passed_then l m k (opening n.item) (cells_lines c.item) n.passed c.passed

        pub objects_error : (j : Lines) (e : DraftFault) → Reads {A = Objects} {B = Objects} AreObjects objects_lines (map clipped_entry) k (Err e) i → Reads {A = Draft} {B = Draft} (IsForm slots) draft_lines clipped_draft l (Err e) j
        objects_error j (Syntax at) s = stuck_in Objects AreObjects objects_lines Draft (IsForm slots) draft_lines (opening n.item ++ cells_lines c.item) (objects_part n.item c.item c.stands) l k at cells_passed s
        objects_error j OutOfMemory s = tt

        module _ (objects : Objects) (o : IsRead Objects Objects AreObjects objects_lines (map clipped_entry) k objects i) where
          objects_passed : Passed l i ((opening n.item ++ cells_lines c.item) ++ objects_lines o.item)
          objects_passed = passed_then l k i (opening n.item ++ cells_lines c.item) (objects_lines o.item) cells_passed o.passed

          pub threads_error : (h j : Lines) (e : DraftFault) → Reads {A = List DraftThread} {B = List DraftThread} (AreMany DraftThread IsThreadForm slots) threads_lines (map clipped_thread) i (Err e) h
              → Reads {A = Draft} {B = Draft} (IsForm slots) draft_lines clipped_draft l (Err e) j
          threads_error h j (Syntax at) s =
              stuck_in (List DraftThread) (AreMany DraftThread IsThreadForm slots) threads_lines Draft (IsForm slots) draft_lines ((opening n.item ++ cells_lines c.item) ++ objects_lines o.item)
              (threads_part n.item c.item o.item c.stands) l i at objects_passed s
          threads_error h j OutOfMemory s = tt

          pub draft_read : (j : Lines) (at : ℕ) (threads : List DraftThread) → at ≡ min number word_most
              → IsRead (List DraftThread) (List DraftThread) (AreMany DraftThread IsThreadForm slots) threads_lines (map clipped_thread) i threads j
              → IsRead Draft Draft (IsForm slots) draft_lines clipped_draft l (record { at = at; cells = cells; objects = objects; threads = threads }) j
          draft_read j at threads clip t =
              let low : at ≡ min n.item word_most = let v = n.value in omega arith in
              record {
                item = record { at = n.item; cells = c.item; objects = o.item; threads = t.item };
                stands = draft_stands n.item c.item o.item t.item c.stands t.stands;
                passed =
                    passed_then l m j (opening n.item) (cells_lines c.item ++ (objects_lines o.item ++ threads_lines t.item)) n.passed
                    (passed_then m k j (cells_lines c.item) (objects_lines o.item ++ threads_lines t.item) c.passed (passed_then k i j (objects_lines o.item) (threads_lines t.item) o.passed t.passed));
                value = λ z. record { at = low z; cells = c.value z; objects = o.value z; threads = t.value z };
              }

-- ---- threads, one after another

pub threads_none : (l : Lines) → l.at ≤ 4294967295 → IsRead (List DraftThread) (List DraftThread) (AllByRecursion IsThreadForm) threads_lines (map clipped_thread) l [] l
threads_none l low = none_read DraftThread IsThreadForm thread_lines threads_lines refl (λ x xs. refl) thread_delimits DraftThread clipped_thread l low

pub threads_one : (l m k : Lines) (ys : List DraftThread) (y : DraftThread) → IsRead (List DraftThread) (List DraftThread) (AllByRecursion IsThreadForm) threads_lines (map clipped_thread) l ys m
    → IsRead DraftThread DraftThread IsThreadForm thread_lines clipped_thread m y k → IsRead (List DraftThread) (List DraftThread) (AllByRecursion IsThreadForm) threads_lines (map clipped_thread) l (ys ++ y ∷ []) k
threads_one l m k ys y h g = one_read DraftThread IsThreadForm thread_lines threads_lines refl (λ x xs. refl) thread_delimits DraftThread clipped_thread l m k ys y h g

pub threads_all : (n : ℕ) (l m : Lines) (ys : List DraftThread) → IsRead (List DraftThread) (List DraftThread) (AllByRecursion IsThreadForm) threads_lines (map clipped_thread) l ys m → length ys ≡ n
    → IsRead (List DraftThread) (List DraftThread) (AreMany DraftThread IsThreadForm n) threads_lines (map clipped_thread) l ys m
threads_all n l m ys h many = all_read DraftThread IsThreadForm thread_lines threads_lines refl (λ x xs. refl) thread_delimits DraftThread clipped_thread n l m ys h many

pub thread_error : (n : ℕ) (l m k j : Lines) (ys : List DraftThread) (e : DraftFault) → IsRead (List DraftThread) (List DraftThread) (AllByRecursion IsThreadForm) threads_lines (map clipped_thread) l ys m → length ys < n
    → Reads {A = DraftThread} {B = DraftThread} IsThreadForm thread_lines clipped_thread m (Err e) k → Reads {A = List DraftThread} {B = List DraftThread} (AreMany DraftThread IsThreadForm n) threads_lines (map clipped_thread) l (Err e) j
thread_error n l m k j ys (Syntax at) h fewer s = next_stuck DraftThread IsThreadForm thread_lines threads_lines refl (λ x xs. refl) thread_delimits DraftThread clipped_thread blank_thread blank_stands n l m ys at h fewer s
thread_error n l m k j ys OutOfMemory h fewer s = tt

-- ---- the first two lines

abbrev title : Text
title = codes "chimera checkpoint 1"

-- a text that doesn't begin with the title
pub no_title : (l : Lines) (at : ℕ) → at ≡ l.at → l.at ≤ 4294967295 → ((more : List Text) → l.whole ≡ title ∷ more → ⊥) → IsStuckAt ℕ IsAny opening l at
no_title l at here low other = record { before = 0; shows = omega arith; stuck = by l.whole other }
  where
    by : (whole : List Text) → ((more : List Text) → whole ≡ title ∷ more → ⊥) → IsStuck ℕ IsAny opening whole 0
    by whole others = record { good = []; bad = whole; parts = refl; count = refl; item = 0; stands = tt; more = opening 0; begins = refl; stops = λ x is u t on e. stops whole others x u t on e }
      where
        stops : (whole : List Text) → ((more : List Text) → whole ≡ title ∷ more → ⊥) → (x : ℕ) (u t : List Text) → GoesOnAs whole t → opening x ++ u ≡ [] ++ t → ⊥
        stops [] others x u t on e = cc (e, on)
        stops (b ∷ bs) others x u t on e = others bs (ap (λ (z : Text). z ∷ bs) (sym (same_head title b ((codes "at " ++ number_text x) ∷ u) on.0 (e ∙ on.1))))

abbrev at_line : ℕ → List Text
at_line n = (codes "at " ++ number_text n) ∷ []

at_part : IsPart ℕ IsAny at_line ℕ IsAny opening (title ∷ [])
at_part = record { complete = λ n k. (n, tt, [], refl); project = λ n k u t e. (n, tt, u, ap (drop 1) e) }

pub opening_reads : (l m j : Lines) (r : Result ℕ DraftFault) → Passed l m (title ∷ []) → Reads {A = ℕ} {B = ℕ} IsAny at_line (λ n. min n long_most) m r j → Reads {A = ℕ} {B = ℕ} IsAny opening (λ n. min n long_most) l r j
opening_reads l m j (Ok y) p s = record { item = s.item; stands = tt; passed = passed_then l m j (title ∷ []) (at_line s.item) p s.passed; value = s.value }
opening_reads l m j (Err (Syntax at)) p s = stuck_in ℕ IsAny at_line ℕ IsAny opening (title ∷ []) at_part l m at p s
opening_reads l m j (Err OutOfMemory) p s = tt
