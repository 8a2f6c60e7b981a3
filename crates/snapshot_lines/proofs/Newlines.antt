-- No newline stands in a line of a checkpoint.
use Rattle.std.proofs.Common.{◌≡◌, ℕ, ◌-◌, ◌<◌, ◌^◌, Bool, true, false, List, [], ◌∷◌, ◌++◌, length, map, refl, sym, subst, arith, ⊎_elim}
use Rattle.std.specs.Prelude.{codes}
use Rattle.std.specs.List.{AllByRecursion, flat_map}
use Rattle.std.proofs.lemmas.Bool.{cases_lt}
use Rattle.profiles.specs.Profile.{Text}
use Rattle.sync_objects.specs.declared.object.ObjId.{ObjId}
use Rattle.sync_objects.specs.declared.object.ObjId.TheVariants as object
use Rattle.order_log.specs.Text.{number_text, object_text}
use Rattle.order_log.proofs.Cutting.{AreLines}
use Rattle.order_log.proofs.Lists.{All-append}
use Rattle.order_log.proofs.Parts.{Free, Free-append, Free-number_text}
use Rattle.reads_text.specs.Text.{value_text}
use Rattle.thread_interpreter.specs.declared.part.FramePart.{FramePart}
use Rattle.thread_interpreter.specs.declared.part.StripePart.{StripePart}
use Rattle.thread_interpreter.specs.declared.part.RegionPart.{RegionPart}
use Rattle.snapshots.specs.Conditions.{IsForm, IsThreadForm}
use Rattle.snapshots.specs.Text.{spaced, cell_line, object_line, stripe_word, stripe_line, frame_line, pair_text, region_line, phase_fields, head_fields, head_line, thread_lines, draft_lines}
use Rattle.snapshots.specs.declared.draft.Draft.{Draft}
use Rattle.snapshots.specs.declared.draft.DraftThread.{DraftThread}
use Rattle.snapshots.specs.declared.draft.Head.{Head}
use Rattle.snapshots.specs.declared.draft.HeadPhase.{HeadPhase}
use Rattle.snapshots.specs.declared.draft.HeadPhase.TheVariants as phase
use Rattle.snapshot_lines.proofs.Values.{value_low, value_high}

number_free : (n : ℕ) → Free 10 (number_text n)
number_free n = Free-number_text 10 n (omega arith)

value_free : (w : ℕ) → w < 2 ^ 64 → Free 10 (value_text w)
value_free w small =
    ⊎_elim
    (λ lt. subst (Free 10) (sym (value_low w lt)) (number_free w))
    (λ ge. subst (Free 10) (sym (value_high w ge small)) (refl, number_free (18446744073709551616 - w)))
    (cases_lt w 9223372036854775808)

object_free : (x : ObjId) → Free 10 (object_text x)
object_free (object.Mutex cell) = (refl, number_free cell)
object_free (object.Cond cell) = (refl, number_free cell)
object_free (object.Barrier cell) = (refl, number_free cell)
object_free (object.Rw cell) = (refl, number_free cell)
object_free (object.Weak lock stripe) = (
  refl,
  Free-append 10 (number_text lock ++ codes ".") (number_text stripe) (Free-append 10 (number_text lock) (codes ".") (number_free lock) (refl, tt)) (number_free stripe),
)
object_free (object.Slot slot) = (refl, number_free slot)
object_free object.Threads = (refl, tt)
object_free object.Halt = (refl, tt)
object_free object.Input = (refl, tt)
object_free object.Output = (refl, tt)

-- a line of fields
spaced_free : (fs : List Text) → AllByRecursion (Free 10) fs → Free 10 (spaced fs)
spaced_free [] h = tt
spaced_free (f ∷ fs) h = (refl, Free-append 10 f (spaced fs) h.0 (spaced_free fs h.1))

line_free : (w : Text) (fs : List Text) → Free 10 w → AllByRecursion (Free 10) fs → Free 10 (w ++ spaced fs)
line_free w fs h k = Free-append 10 w (spaced fs) h (spaced_free fs k)

cell_free : (c : ℕ × ℕ) → c.1 < 2 ^ 64 → Free 10 (cell_line c)
cell_free c small = line_free (number_text c.0) (value_text c.1 ∷ []) (number_free c.0) (value_free c.1 small, tt)

object_line_free : (o : ObjId × ℕ × ℕ) → Free 10 (object_line o)
object_line_free o = line_free (object_text o.0) (number_text o.1 ∷ number_text o.2 ∷ []) (object_free o.0) (number_free o.1, (number_free o.2, tt))

word_free : (owed : Bool) → Free 10 (stripe_word owed)
word_free true = (refl, (refl, (refl, (refl, tt))))
word_free false = (refl, (refl, (refl, (refl, tt))))

stripe_free : (x : StripePart) → Free 10 (stripe_line x)
stripe_free x = line_free (stripe_word x.owed) (number_text x.lock ∷ number_text x.stripe ∷ number_text x.nesting ∷ []) (word_free x.owed) (number_free x.lock, (number_free x.stripe, (number_free x.nesting, tt)))

values_free : (ws : List ℕ) → AllByRecursion (λ w. w < 2 ^ 64) ws → AllByRecursion (Free 10) (map value_text ws)
values_free [] h = tt
values_free (w ∷ ws) h = (value_free w h.0, values_free ws h.1)

frame_free : (f : FramePart) → f.kept < 2 ^ 64 → AllByRecursion (λ w. w < 2 ^ 64) f.registers → Free 10 (frame_line f)
frame_free f small words =
    line_free (codes "frame") (number_text f.function ∷ number_text f.instr ∷ number_text f.made ∷ value_text f.kept ∷ map value_text f.registers) (refl, (refl, (refl, (refl, (refl, tt)))))
    (number_free f.function, (number_free f.instr, (number_free f.made, (value_free f.kept small, values_free f.registers words))))

pairs_free : (ps : List (ℕ × ℕ)) → AllByRecursion (Free 10) (map pair_text ps)
pairs_free [] = tt
pairs_free (p ∷ ps) = (Free-append 10 (number_text p.0 ++ codes ".") (number_text p.1) (Free-append 10 (number_text p.0) (codes ".") (number_free p.0) (refl, tt)) (number_free p.1), pairs_free ps)

region_free : (r : RegionPart) → Free 10 (region_line r)
region_free r =
    line_free (codes "region") (number_text r.frame ∷ number_text r.instr ∷ map pair_text r.stripes) (refl, (refl, (refl, (refl, (refl, (refl, tt))))))
    (number_free r.frame, (number_free r.instr, pairs_free r.stripes))

phase_free : (p : HeadPhase) → AllByRecursion (Free 10) (phase_fields p)
phase_free phase.Fresh = ((refl, (refl, (refl, (refl, (refl, tt))))), tt)
phase_free (phase.Begun f) = ((refl, (refl, (refl, (refl, (refl, tt))))), (number_free f, tt))
phase_free phase.Running = ((refl, (refl, (refl, (refl, (refl, (refl, (refl, tt))))))), tt)
phase_free phase.Ended = ((refl, (refl, (refl, (refl, (refl, tt))))), tt)
phase_free (phase.Trapped kind line) = ((refl, (refl, (refl, (refl, (refl, (refl, (refl, tt))))))), (number_free kind, (number_free line, tt)))

head_fields_free : (h : Head) → AllByRecursion (Free 10) (head_fields h)
head_fields_free h =
    (number_free h.number, (number_free h.count, (number_free h.arena, (number_free h.entries, (number_free h.revokes, (number_free h.printed, (number_free h.frames, (number_free h.stripes, (number_free h.regions, tt)))))))))

head_free : (h : Head) → Free 10 (head_line h)
head_free h = line_free (codes "thread") (head_fields h ++ phase_fields h.phase) (refl, (refl, (refl, (refl, (refl, (refl, tt)))))) (All-append (Free 10) (head_fields h) (phase_fields h.phase) (head_fields_free h) (phase_free h.phase))

-- ---- all lines

cells_free : (cs : List (ℕ × ℕ)) → AllByRecursion (λ (c : ℕ × ℕ). c.1 < 2 ^ 64) cs → AreLines (map cell_line cs)
cells_free [] h = tt
cells_free (c ∷ cs) h = (cell_free c h.0, cells_free cs h.1)

objects_free : (os : List (ObjId × ℕ × ℕ)) → AreLines (map object_line os)
objects_free [] = tt
objects_free (o ∷ os) = (object_line_free o, objects_free os)

frames_free : (fs : List FramePart) → AllByRecursion (λ (f : FramePart). f.kept < 2 ^ 64) fs → AllByRecursion (λ (f : FramePart). AllByRecursion (λ w. w < 2 ^ 64) f.registers) fs → AreLines (map frame_line fs)
frames_free [] h k = tt
frames_free (f ∷ fs) h k = (frame_free f h.0 k.0, frames_free fs h.1 k.1)

stripes_free : (xs : List StripePart) → AreLines (map stripe_line xs)
stripes_free [] = tt
stripes_free (x ∷ xs) = (stripe_free x, stripes_free xs)

regions_free : (rs : List RegionPart) → AreLines (map region_line rs)
regions_free [] = tt
regions_free (r ∷ rs) = (region_free r, regions_free rs)

thread_free : (d : DraftThread) → IsThreadForm d → AreLines (thread_lines d)
thread_free d k = (
  head_free d.head,
  All-append (Free 10) (map frame_line d.frames) (map stripe_line d.stripes ++ map region_line d.regions) (frames_free d.frames k.kept k.registers)
      (All-append (Free 10) (map stripe_line d.stripes) (map region_line d.regions) (stripes_free d.stripes) (regions_free d.regions)),
)

threads_free : (ds : List DraftThread) → AllByRecursion IsThreadForm ds → AreLines (flat_map thread_lines ds)
threads_free [] h = tt
threads_free (d ∷ ds) h = All-append (Free 10) (thread_lines d) (flat_map thread_lines ds) (thread_free d h.0) (threads_free ds h.1)

title_free : Free 10 (codes "chimera checkpoint 1")
title_free = (refl, (refl, (refl, (refl, (refl, (refl, (refl, (refl, (refl, (refl, (refl, (refl, (refl, (refl, (refl, (refl, (refl, (refl, (refl, (refl, tt))))))))))))))))))))

pub draft_are_lines : (slots : ℕ) (d : Draft) → IsForm slots d → AreLines (draft_lines d)
draft_are_lines slots d k = (
  title_free,
  (
    Free-append 10 (codes "at ") (number_text d.at) (refl, (refl, (refl, tt))) (number_free d.at),
    (
      Free-append 10 (codes "cells ") (number_text (length d.cells)) (refl, (refl, (refl, (refl, (refl, (refl, tt)))))) (number_free (length d.cells)),
      All-append (Free 10) (map cell_line d.cells) ((codes "objects " ++ number_text (length d.objects)) ∷ (map object_line d.objects ++ flat_map thread_lines d.threads)) (cells_free d.cells k.words) (
        Free-append 10 (codes "objects ") (number_text (length d.objects)) (refl, (refl, (refl, (refl, (refl, (refl, (refl, (refl, tt)))))))) (number_free (length d.objects)),
        All-append (Free 10) (map object_line d.objects) (flat_map thread_lines d.threads) (objects_free d.objects) (threads_free d.threads k.threads),
      ),
    ),
  ),
)
