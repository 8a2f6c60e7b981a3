-- What comes of reading a draft. Its numbers are those of the text, with the greatest number of each type for all from there on.
use Rattle.std.specs.Prelude.{◌≡◌, ℕ, suc, min, List, [], ◌∷◌, ◌++◌, map, codes, Result, Ok, Err}
use Rattle.profiles.specs.Profile.{Text}
use Rattle.order_log.specs.Reading.{shown}
use Rattle.order_log.specs.Text.{number_text}
use Rattle.snapshots.specs.Conditions.{IsForm}
use Rattle.snapshots.specs.Text.{draft_text}
use Rattle.snapshots.specs.declared.draft.Draft.{Draft}
use Rattle.snapshots.specs.declared.draft.DraftThread.{DraftThread}
use Rattle.snapshot_lines.specs.Lines.{clipped_cell, clipped_entry, clipped_frame, clipped_head, clipped_region, clipped_stripe, word_most}
use Rattle.snapshot_grammar.specs.Grammar.{IsSyntaxFault}
use Rattle.snapshot_grammar.specs.declared.fault.DraftFault.{DraftFault}
use Rattle.snapshot_grammar.specs.declared.fault.DraftFault.TheVariants.{Syntax, OutOfMemory}

-- a thread in the code's types
abbrev pub clipped_thread : DraftThread → DraftThread
clipped_thread d = record { head = clipped_head d.head; frames = map clipped_frame d.frames; stripes = map clipped_stripe d.stripes; regions = map clipped_region d.regions }

-- a draft in the code's types
abbrev pub clipped_draft : Draft → Draft
clipped_draft d = record { at = min d.at word_most; cells = map clipped_cell d.cells; objects = map clipped_entry d.objects; threads = map clipped_thread d.threads }

-- the first two lines of a checkpoint that was taken after so many entries
abbrev pub opening : ℕ → List Text
opening n = codes "chimera checkpoint 1" ∷ (codes "at " ++ number_text n) ∷ []

-- the bytes are the text of a draft, which is answered clipped; or the line is the first that spoils them
abbrev pub DraftIs : ℕ → Text → Result Draft DraftFault → Type 0
DraftIs slots bytes (Ok y) = (d : Draft) × IsForm slots d × (bytes ≡ draft_text d) × (y ≡ clipped_draft d)
DraftIs slots bytes (Err (Syntax line)) = (before : ℕ) × (line ≡ shown (suc before)) × IsSyntaxFault slots bytes before
DraftIs slots bytes (Err OutOfMemory) = Unit {0}
