-- The one text of a checkpoint: lines, each ended by a newline byte. Numbers are in decimal, and words are signed numbers.
use Rattle.std.specs.Prelude.{ℕ, ◌+◌, Bool, true, false, List, [], ◌∷◌, ◌++◌, length, map, codes}
use Rattle.std.specs.List.{flat_map}
use Rattle.profiles.specs.Profile.{Text}
use Rattle.rr_base.specs.Traps.{trap_number}
use Rattle.sync_objects.specs.declared.object.ObjId.{ObjId}
use Rattle.reads_text.specs.Text.{value_text}
use Rattle.order_log.specs.Text.{number_text, object_text, text_of}
use Rattle.thread_interpreter.specs.declared.part.FramePart.{FramePart}
use Rattle.thread_interpreter.specs.declared.part.StripePart.{StripePart}
use Rattle.thread_interpreter.specs.declared.part.RegionPart.{RegionPart}
use Rattle.thread_interpreter.specs.declared.part.ThreadPart.{ThreadPart}
use Rattle.thread_interpreter.specs.declared.part.PhasePart.{PhasePart}
use Rattle.thread_interpreter.specs.declared.part.PhasePart.TheVariants as part
use Rattle.snapshots.specs.declared.draft.Draft.{Draft}
use Rattle.snapshots.specs.declared.draft.DraftThread.{DraftThread}
use Rattle.snapshots.specs.declared.draft.Head.{Head}
use Rattle.snapshots.specs.declared.draft.HeadPhase.{HeadPhase}
use Rattle.snapshots.specs.declared.draft.HeadPhase.TheVariants as phase
use Rattle.snapshots.specs.declared.snapshot.Snapshot.{Snapshot}

-- ---- lines

-- a blank before each
abbrev pub spaced : List Text → Text
spaced fields = flat_map (λ f. 32 ∷ f) fields

-- such as `1040 -7`: a cell and its word
abbrev pub cell_line : ℕ × ℕ → Text
cell_line c = number_text c.0 ++ spaced (value_text c.1 ∷ [])

-- such as `m1040 3 1`: an object, how many operations it had, its state
abbrev pub object_line : ObjId × ℕ × ℕ → Text
object_line o = object_text o.0 ++ spaced (number_text o.1 ∷ number_text o.2 ∷ [])

-- a frame: function, instruction, how many events of it are made, the last answer, and the registers
abbrev pub frame_line : FramePart → Text
frame_line f = codes "frame" ++ spaced (number_text f.function ∷ number_text f.instr ∷ number_text f.made ∷ value_text f.kept ∷ map value_text f.registers)

-- whether the stripe was revoked and not taken again yet
abbrev pub stripe_word : Bool → Text
stripe_word true = codes "owed"
stripe_word false = codes "held"

-- a stripe: lock, stripe, and the number of open regions that have it
abbrev pub stripe_line : StripePart → Text
stripe_line x = stripe_word x.owed ++ spaced (number_text x.lock ∷ number_text x.stripe ∷ number_text x.nesting ∷ [])

-- such as `4.0`
abbrev pub pair_text : ℕ × ℕ → Text
pair_text p = number_text p.0 ++ codes "." ++ number_text p.1

-- an open region: its frame, its Take, and its stripes
abbrev pub region_line : RegionPart → Text
region_line r = codes "region" ++ spaced (number_text r.frame ∷ number_text r.instr ∷ map pair_text r.stripes)

-- how far a thread is
abbrev pub phase_fields : HeadPhase → List Text
phase_fields phase.Fresh = codes "fresh" ∷ []
phase_fields (phase.Begun f) = codes "begun" ∷ number_text f ∷ []
phase_fields phase.Running = codes "running" ∷ []
phase_fields phase.Ended = codes "ended" ∷ []
phase_fields (phase.Trapped kind line) = codes "trapped" ∷ number_text kind ∷ number_text line ∷ []

-- the numbers of a thread: which it is, its events, its next free cell, its entries, revokes and printed bytes, and how many
-- lines of frames, stripes and regions follow
abbrev pub head_fields : Head → List Text
head_fields h =
    number_text h.number ∷ number_text h.count ∷ number_text h.arena ∷ number_text h.entries ∷ number_text h.revokes ∷ number_text h.printed
    ∷ number_text h.frames ∷ number_text h.stripes ∷ number_text h.regions ∷ []

-- the first line of a thread
abbrev pub head_line : Head → Text
head_line h = codes "thread" ++ spaced (head_fields h ++ phase_fields h.phase)

-- ---- the whole

-- a thread: frames and regions with the outermost first
abbrev pub thread_lines : DraftThread → List Text
thread_lines d = head_line d.head ∷ (map frame_line d.frames ++ (map stripe_line d.stripes ++ map region_line d.regions))

-- cells and objects with their numbers before them, then the threads
abbrev pub draft_lines : Draft → List Text
draft_lines d =
    codes "chimera checkpoint 1"
    ∷ (codes "at " ++ number_text d.at)
    ∷ (codes "cells " ++ number_text (length d.cells))
    ∷ (map cell_line d.cells
    ++ ((codes "objects " ++ number_text (length d.objects))
    ∷ (map object_line d.objects
    ++ flat_map thread_lines d.threads)))

-- the bytes that say what a draft says
abbrev pub draft_text : Draft → Text
draft_text d = text_of (draft_lines d)

-- ---- snapshots

-- a trap by its number
abbrev pub head_phase : PhasePart → HeadPhase
head_phase part.Fresh = phase.Fresh
head_phase (part.Begun f) = phase.Begun f
head_phase part.Running = phase.Running
head_phase part.Ended = phase.Ended
head_phase (part.Trapped kind line) = phase.Trapped (trap_number kind) line

-- the first line of thread t
abbrev pub head_of : ℕ → ThreadPart → Head
head_of t p = record {
  number = t;
  count = p.count;
  arena = p.arena;
  entries = p.entries;
  revokes = p.revokes;
  printed = p.printed;
  frames = length p.frames;
  stripes = length p.stripes;
  regions = length p.regions;
  phase = head_phase p.phase;
}

-- thread t
abbrev pub thread_draft : ℕ → ThreadPart → DraftThread
thread_draft t p = record { head = head_of t p; frames = p.frames; stripes = p.stripes; regions = p.regions }

-- threads from this number on
abbrev pub threads_from : ℕ → List ThreadPart → List DraftThread
threads_from t [] = []
threads_from t (p ∷ ps) = thread_draft t p ∷ threads_from (t + 1) ps

-- their lines
abbrev pub threads_text : ℕ → List ThreadPart → Text
threads_text t ps = text_of (flat_map thread_lines (threads_from t ps))

-- what a snapshot's text says
abbrev pub draft_of : Snapshot → Draft
draft_of x = record { at = x.at; cells = x.cells; objects = x.objects; threads = threads_from 0 x.threads }

-- the bytes of a checkpoint's file
abbrev pub snapshot_text : Snapshot → Text
snapshot_text x = draft_text (draft_of x)
