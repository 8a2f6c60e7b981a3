-- What each line of a checkpoint says. Numbers may be of any length; in the answer of a type the greatest stands for all from
-- there on.
use Rattle.std.specs.Prelude.{◌≡◌, ℕ, ◌<◌, ◌^◌, min, Bool, List, [], ◌∷◌, map, codes, Option, Some, None}
use Rattle.std.specs.List.{AllByRecursion}
use Rattle.profiles.specs.Profile.{Text}
use Rattle.sync_objects.specs.declared.object.ObjId.{ObjId}
use Rattle.order_log.specs.Line.{clipped_object}
use Rattle.order_log.specs.Text.{number_text}
use Rattle.reads_text.specs.Text.{value_text}
use Rattle.snapshots.specs.Text.{pair_text, phase_fields, stripe_word}
use Rattle.thread_interpreter.specs.declared.part.FramePart.{FramePart}
use Rattle.thread_interpreter.specs.declared.part.StripePart.{StripePart}
use Rattle.thread_interpreter.specs.declared.part.RegionPart.{RegionPart}
use Rattle.snapshots.specs.declared.draft.Head.{Head}
use Rattle.snapshots.specs.declared.draft.HeadPhase.{HeadPhase}
use Rattle.snapshots.specs.declared.draft.HeadPhase.TheVariants as phase

-- a text is the line of some such item, which is answered clipped; or of none
abbrev pub ReadsAs : {A : Type 0} → (A → Type 0) → (A → Text) → (A → A) → Text → Option A → Type 0
ReadsAs {A} Is line clip text None = (x : A) → Is x → text ≡ line x → ⊥
ReadsAs {A} Is line clip text (Some y) = (x : A) × Is x × (text ≡ line x) × (y ≡ clip x)

-- the greatest number of 32 bits
abbrev pub word_most : ℕ
word_most = 4294967295

-- of 16 bits
abbrev pub half_most : ℕ
half_most = 65535

-- of 8 bits
abbrev pub byte_most : ℕ
byte_most = 255

-- of 64 bits
abbrev pub long_most : ℕ
long_most = 18446744073709551615

-- ---- cells

-- its word has 64 bits
abbrev pub IsCell : ℕ × ℕ → Type 0
IsCell c = c.1 < 2 ^ 64

-- the cell in 32 bits
abbrev pub clipped_cell : ℕ × ℕ → ℕ × ℕ
clipped_cell c = (min c.0 word_most, c.1)

-- ---- objects

-- whatever it is
abbrev pub IsAny : {A : Type 0} → A → Type 0
IsAny x = Unit {0}

-- an object with its numbers in 32 bits
abbrev pub clipped_entry : ObjId × ℕ × ℕ → ObjId × ℕ × ℕ
clipped_entry o = (clipped_object o.0, min o.1 word_most, min o.2 word_most)

-- ---- frames

-- its words have 64 bits
abbrev pub IsFrame : FramePart → Type 0
IsFrame f = (f.kept < 2 ^ 64) × AllByRecursion (λ w. w < 2 ^ 64) f.registers

-- the frame's numbers in 32 and 8 bits
abbrev pub clipped_frame : FramePart → FramePart
clipped_frame f = record { function = min f.function word_most; instr = min f.instr word_most; made = min f.made byte_most; kept = f.kept; registers = f.registers }

-- ---- stripes and regions

-- a stripe's numbers in 16, 8 and 32 bits
abbrev pub clipped_stripe : StripePart → StripePart
clipped_stripe x = record { lock = min x.lock half_most; stripe = min x.stripe byte_most; owed = x.owed; nesting = min x.nesting word_most }

-- a lock in 16 bits and a stripe in 8
abbrev pub clipped_pair : ℕ × ℕ → ℕ × ℕ
clipped_pair p = (min p.0 half_most, min p.1 byte_most)

-- a region's numbers in 32 bits, and its stripes
abbrev pub clipped_region : RegionPart → RegionPart
clipped_region r = record { frame = min r.frame word_most; instr = min r.instr word_most; stripes = map clipped_pair r.stripes }

-- ---- parts of lines

-- the first word of a stripe's line tells whether it is owed, or it is another
abbrev pub IsStripeWord : Text → Option Bool → Type 0
IsStripeWord word None = (owed : Bool) → word ≡ stripe_word owed → ⊥
IsStripeWord word (Some owed) = word ≡ stripe_word owed

-- the fields are words of 64 bits, or some is none
abbrev pub AreValues : List Text → Option (List ℕ) → Type 0
AreValues fields None = (ws : List ℕ) → AllByRecursion (λ w. w < 2 ^ 64) ws → fields ≡ map value_text ws → ⊥
AreValues fields (Some ws) = AllByRecursion (λ w. w < 2 ^ 64) ws × (fields ≡ map value_text ws)

-- the fields are pairs of lock and stripe, or some is none
abbrev pub ArePairs : List Text → Option (List (ℕ × ℕ)) → Type 0
ArePairs fields None = (ps : List (ℕ × ℕ)) → fields ≡ map pair_text ps → ⊥
ArePairs fields (Some qs) = (ps : List (ℕ × ℕ)) × (fields ≡ map pair_text ps) × (qs ≡ map clipped_pair ps)

-- the first field is a lock and a stripe, or it is none
abbrev pub TakesPair : List Text → Option (ℕ × ℕ) → List Text → Type 0
TakesPair before None after = (p : ℕ × ℕ) (rest : List Text) → before ≡ pair_text p ∷ rest → ⊥
TakesPair before (Some q) after = (p : ℕ × ℕ) × (q ≡ clipped_pair p) × (before ≡ pair_text p ∷ after)

-- the first fields of a frame's line
abbrev pub frame_front : ℕ → ℕ → ℕ → ℕ → List Text → List Text
frame_front function instr made kept rest = codes "frame" ∷ number_text function ∷ number_text instr ∷ number_text made ∷ value_text kept ∷ rest

-- a frame's line begins with these fields, or it is none
abbrev pub StartsFrame : List Text → Option (ℕ × ℕ × ℕ × ℕ) → List Text → Type 0
StartsFrame before None after = (function instr made kept : ℕ) (rest : List Text) → kept < 2 ^ 64 → before ≡ frame_front function instr made kept rest → ⊥
StartsFrame before (Some x) after =
    (function : ℕ) × (instr : ℕ) × (made : ℕ) × (x.0 ≡ min function word_most) × (x.1 ≡ min instr word_most) × (x.2 ≡ min made byte_most) × (x.3 < 2 ^ 64) × (before ≡ frame_front function instr made x.3 after)

-- the first fields of a region's line
abbrev pub region_front : ℕ → ℕ → List Text → List Text
region_front frame instr rest = codes "region" ∷ number_text frame ∷ number_text instr ∷ rest

-- a region's line begins with these fields, or it is none
abbrev pub StartsRegion : List Text → Option (ℕ × ℕ) → List Text → Type 0
StartsRegion before None after = (frame instr : ℕ) (rest : List Text) → before ≡ region_front frame instr rest → ⊥
StartsRegion before (Some x) after = (frame : ℕ) × (instr : ℕ) × (x.0 ≡ min frame word_most) × (x.1 ≡ min instr word_most) × (before ≡ region_front frame instr after)

-- a frame that begins so has the words of the fields as registers, or some field is no word
abbrev pub IsFrameWith : ℕ × ℕ × ℕ × ℕ → List Text → Option FramePart → Type 0
IsFrameWith start fields None = AreValues fields None
IsFrameWith start fields (Some f) = (f.function ≡ start.0) × (f.instr ≡ start.1) × (f.made ≡ start.2) × (f.kept ≡ start.3) × AreValues fields (Some f.registers)

-- a region that begins so has the pairs of the fields as stripes, or some field is no pair
abbrev pub IsRegionWith : ℕ × ℕ → List Text → Option RegionPart → Type 0
IsRegionWith start fields None = ArePairs fields None
IsRegionWith start fields (Some r) = (r.frame ≡ start.0) × (r.instr ≡ start.1) × ArePairs fields (Some r.stripes)

-- ---- threads

-- a function in 32 bits, a trap in 8 and a line in 64
abbrev pub clipped_phase : HeadPhase → HeadPhase
clipped_phase phase.Fresh = phase.Fresh
clipped_phase (phase.Begun f) = phase.Begun (min f word_most)
clipped_phase phase.Running = phase.Running
clipped_phase phase.Ended = phase.Ended
clipped_phase (phase.Trapped kind line) = phase.Trapped (min kind byte_most) (min line long_most)

-- what is left of a thread's line says how far it is, or says nothing
abbrev pub IsPhase : List Text → Option HeadPhase → Type 0
IsPhase fields None = (p : HeadPhase) → fields ≡ phase_fields p → ⊥
IsPhase fields (Some q) = (p : HeadPhase) × (fields ≡ phase_fields p) × (q ≡ clipped_phase p)

-- nothing is left after a word that stands for itself
abbrev pub IsLone : List Text → HeadPhase → Option HeadPhase → Type 0
IsLone fields phase None = fields ≡ [] → ⊥
IsLone fields phase (Some q) = (fields ≡ []) × (q ≡ phase)

-- a function is left, or something else
abbrev pub IsBegun : List Text → Option HeadPhase → Type 0
IsBegun fields None = (f : ℕ) → fields ≡ number_text f ∷ [] → ⊥
IsBegun fields (Some q) = (f : ℕ) × (fields ≡ number_text f ∷ []) × (q ≡ phase.Begun (min f word_most))

-- the number of a trap and a line are left, or something else
abbrev pub IsTrapped : List Text → Option HeadPhase → Type 0
IsTrapped fields None = (kind line : ℕ) → fields ≡ number_text kind ∷ number_text line ∷ [] → ⊥
IsTrapped fields (Some q) = (kind : ℕ) × (line : ℕ) × (fields ≡ number_text kind ∷ number_text line ∷ []) × (q ≡ phase.Trapped (min kind byte_most) (min line long_most))

-- a thread's numbers in 32 bits, and how many lines follow in 64
abbrev pub clipped_head : Head → Head
clipped_head h = record {
  number = min h.number word_most;
  count = min h.count word_most;
  arena = min h.arena word_most;
  entries = min h.entries word_most;
  revokes = min h.revokes word_most;
  printed = min h.printed word_most;
  frames = min h.frames long_most;
  stripes = min h.stripes long_most;
  regions = min h.regions long_most;
  phase = clipped_phase h.phase;
}
