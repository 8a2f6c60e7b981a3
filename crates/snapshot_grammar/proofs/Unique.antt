-- A text is that of one draft, and has one first fault.
use Rattle.std.proofs.Common.{◌≡◌, ℕ, suc, ◌≤◌, ◌<◌, ◌^◌, ◌⊎◌, inl, inr, List, [], ◌∷◌, ◌++◌, length, map, take, drop, refl, sym, ap, subst, ◌∙◌, arith, append_assoc, ⊎_elim}
use Rattle.std.specs.Prelude.{codes}
use Rattle.std.specs.List.{AllByRecursion, flat_map}
use Rattle.std.proofs.lemmas.Bool.{cases_lt, cases_order}
use Rattle.std.proofs.lemmas.List.{append-nil, take-append-drop, take-take}
use Rattle.profiles.specs.Profile.{Text}
use Rattle.order_log.specs.Reading.{lines_of}
use Rattle.order_log.specs.Text.{number_text}
use Rattle.sync_objects.specs.declared.object.ObjId.{ObjId}
use Rattle.thread_interpreter.specs.declared.part.FramePart.{FramePart}
use Rattle.thread_interpreter.specs.declared.part.StripePart.{StripePart}
use Rattle.thread_interpreter.specs.declared.part.RegionPart.{RegionPart}
use Rattle.snapshots.specs.Conditions.{IsForm, IsThreadForm}
use Rattle.snapshots.specs.Text.{cell_line, draft_lines, draft_text, frame_line, head_line, object_line, region_line, stripe_line, thread_lines}
use Rattle.snapshots.specs.declared.draft.Draft.{Draft}
use Rattle.snapshots.specs.declared.draft.DraftThread.{DraftThread}
use Rattle.snapshots.specs.declared.draft.Head.{Head}
use Rattle.snapshot_lines.specs.Lines.{IsAny, IsCell, IsFrame}
use Rattle.snapshot_lines.proofs.Once.{cell_once, frame_once, head_once, object_line_once, region_once, stripe_once}
use Rattle.snapshot_grammar.specs.Grammar.{BeginCheckpoint, IsCheckpoint, IsSyntaxFault}
use Rattle.snapshot_grammar.proofs.Faults.{text_lines}
use Rattle.snapshot_grammar.proofs.OneLine.{same_after, same_head, same_number}
use Rattle.snapshot_grammar.proofs.Threads.{All-any, frames_of}

-- ---- one draft

same_tail : (x y : Text) (xs ys : List Text) → x ∷ xs ≡ y ∷ ys → xs ≡ ys
same_tail x y xs ys e = ap (drop 1) e

-- as many lines are those of the same items
map_once : (A : Type 0) (Is : A → Type 0) (line : A → Text) → ((x y : A) → Is x → Is y → line x ≡ line y → x ≡ y) → (xs ys : List A) → AllByRecursion Is xs → AllByRecursion Is ys → length xs ≡ length ys
    → (u v : List Text) → map line xs ++ u ≡ map line ys ++ v → (xs ≡ ys) × (u ≡ v)
map_once A Is line once [] [] h k same u v e = (refl, e)
map_once A Is line once [] (y ∷ ys) h k same u v e = absurd (omega arith)
map_once A Is line once (x ∷ xs) [] h k same u v e = absurd (omega arith)
map_once A Is line once (x ∷ xs) (y ∷ ys) h k same u v e =
    let first = once x y h.0 k.0 (same_head (line x) (line y) (map line xs ++ u) (map line ys ++ v) e) in
    let rest = map_once A Is line once xs ys h.1 k.1 (omega arith) u v (same_tail (line x) (line y) (map line xs ++ u) (map line ys ++ v) e) in
    (λ i. first i ∷ rest.0 i, rest.1)

-- so are the lines of a thread
thread_once : (x y : DraftThread) → IsThreadForm x → IsThreadForm y → (u v : List Text) → thread_lines x ++ u ≡ thread_lines y ++ v → (x ≡ y) × (u ≡ v)
thread_once x y h k u v e =
    let rest_x = map stripe_line x.stripes ++ map region_line x.regions in
    let rest_y = map stripe_line y.stripes ++ map region_line y.regions in
    let same : x.head ≡ y.head = head_once x.head y.head (same_head (head_line x.head) (head_line y.head) ((map frame_line x.frames ++ rest_x) ++ u) ((map frame_line y.frames ++ rest_y) ++ v) e) in
    let after_head : (map frame_line x.frames ++ rest_x) ++ u ≡ (map frame_line y.frames ++ rest_y) ++ v = ap (drop 1) e in
    let frames = map_once FramePart IsFrame frame_line (λ f g a b. frame_once f g a.0 a.1 b.0 b.1) x.frames y.frames (frames_of x.frames h.kept h.registers) (frames_of y.frames k.kept k.registers)
    (h.frames ∙ ap (λ (z : Head). z.frames) same ∙ sym k.frames) (rest_x ++ u) (rest_y ++ v) (sym (append_assoc (map frame_line x.frames) rest_x u) ∙ after_head ∙ append_assoc (map frame_line y.frames) rest_y v) in
    let stripes = map_once StripePart IsAny stripe_line (λ f g a b. stripe_once f g) x.stripes y.stripes (All-any x.stripes) (All-any y.stripes)
    (h.stripes ∙ ap (λ (z : Head). z.stripes) same ∙ sym k.stripes) (map region_line x.regions ++ u) (map region_line y.regions ++ v)
    (sym (append_assoc (map stripe_line x.stripes) (map region_line x.regions) u) ∙ frames.1 ∙ append_assoc (map stripe_line y.stripes) (map region_line y.regions) v) in
    let regions = map_once RegionPart IsAny region_line (λ f g a b. region_once f g) x.regions y.regions (All-any x.regions) (All-any y.regions) (h.regions ∙ ap (λ (z : Head). z.regions) same ∙ sym k.regions) u v stripes.1 in
    (λ i. record { head = same i; frames = frames.0 i; stripes = stripes.0 i; regions = regions.0 i }, regions.1)

threads_once : (xs ys : List DraftThread) → AllByRecursion IsThreadForm xs → AllByRecursion IsThreadForm ys → length xs ≡ length ys → flat_map thread_lines xs ≡ flat_map thread_lines ys → xs ≡ ys
threads_once [] [] h k same e = refl
threads_once [] (y ∷ ys) h k same e = absurd (omega arith)
threads_once (x ∷ xs) [] h k same e = absurd (omega arith)
threads_once (x ∷ xs) (y ∷ ys) h k same e =
    let first = thread_once x y h.0 k.0 (flat_map thread_lines xs) (flat_map thread_lines ys) e in
    let rest = threads_once xs ys h.1 k.1 (omega arith) first.1 in
    λ i. first.0 i ∷ rest i

lines_once : (slots : ℕ) (x y : Draft) → IsForm slots x → IsForm slots y → draft_lines x ≡ draft_lines y → x ≡ y
lines_once slots x y h k e =
    let e1 = ap (drop 1) e in
    let e2 = ap (drop 2) e in
    let at = same_number x.at y.at (same_after (codes "at ") (number_text x.at) (number_text y.at) (same_head _ _ _ _ e1)) in
    let many_cells = same_number (length x.cells) (length y.cells) (same_after (codes "cells ") (number_text (length x.cells)) (number_text (length y.cells)) (same_head _ _ _ _ e2)) in
    let cells = map_once (ℕ × ℕ) IsCell cell_line cell_once x.cells y.cells h.words k.words many_cells _ _ (ap (drop 3) e) in
    let many_objects = same_number (length x.objects) (length y.objects) (same_after (codes "objects ") (number_text (length x.objects)) (number_text (length y.objects)) (same_head _ _ _ _ cells.1)) in
    let objects = map_once (ObjId × ℕ × ℕ) IsAny object_line (λ o p a b. object_line_once o p) x.objects y.objects (All-any x.objects) (All-any y.objects) many_objects _ _ (ap (drop 1) cells.1) in
    let threads = threads_once x.threads y.threads h.threads k.threads (h.count ∙ sym k.count) objects.1 in
    λ i. record { at = at i; cells = cells.0 i; objects = objects.0 i; threads = threads i }

pub draft_once : (slots : ℕ) (bytes : Text) (x y : Draft) → IsForm slots x → IsForm slots y → bytes ≡ draft_text x → bytes ≡ draft_text y → x ≡ y
draft_once slots bytes x y h k e f = lines_once slots x y h k (sym (text_lines slots bytes x h e).0 ∙ (text_lines slots bytes y k f).0)

-- ---- one fault

begins_fewer : (slots j k : ℕ) (lines : List Text) → j ≤ k → BeginCheckpoint slots (take k lines) → BeginCheckpoint slots (take j lines)
begins_fewer slots j k lines le b =
    let shorter : take j (take k lines) ≡ take j lines = take-take j k lines le in
    let parts : take k lines ≡ take j lines ++ drop j (take k lines) = sym (take-append-drop j (take k lines)) ∙ ap (λ (z : List Text). z ++ drop j (take k lines)) shorter in
    record { draft = b.draft; form = b.form; more = drop j (take k lines) ++ b.more; begins = b.begins ∙ ap (λ (z : List Text). z ++ b.more) parts ∙ append_assoc (take j lines) (drop j (take k lines)) b.more }

-- a checkpoint has no fault
pub no_fault : (slots : ℕ) (bytes : Text) (k : ℕ) → IsSyntaxFault slots bytes k → IsCheckpoint slots bytes → ⊥
no_fault slots bytes k fault h =
    let lines = (text_lines slots bytes h.draft h.form h.text).0 in
    ⊎_elim
    (λ w. w.1 (record { draft = h.draft; form = h.form; more = drop (suc k) (lines_of bytes); begins = sym lines ∙ sym (take-append-drop (suc k) (lines_of bytes)) }))
    (λ w. w.1 h)
    fault.spoils

later_stops : (slots : ℕ) (bytes : Text) (j k : ℕ) → IsSyntaxFault slots bytes j → IsSyntaxFault slots bytes k → j < k → ⊥
later_stops slots bytes j k f g lt = ⊎_elim (λ w. w.1 (begins_fewer slots (suc j) k (lines_of bytes) (omega arith) g.begins)) (λ w. past w.0 g.spoils) f.spoils
  where
    past : j ≡ length (lines_of bytes) → ((k < length (lines_of bytes)) × ¬ BeginCheckpoint slots (take (suc k) (lines_of bytes))) ⊎ ((k ≡ length (lines_of bytes)) × ¬ IsCheckpoint slots bytes) → ⊥
    past e (inl w) = let a = w.0 in omega arith
    past e (inr w) = let a = w.0 in omega arith

pub one_fault : (slots : ℕ) (bytes : Text) (j k : ℕ) → IsSyntaxFault slots bytes j → IsSyntaxFault slots bytes k → j ≡ k
one_fault slots bytes j k f g = ⊎_elim (λ e. e) (λ w. absurd (⊎_elim (λ lt. later_stops slots bytes j k f g lt) (λ lt. later_stops slots bytes k j g f lt) w)) (cases_order j k)
