-- What comes of what a job reads, step by step.
use Rattle.std.proofs.Common.{refl, List, ℕ, Bool, false, [], Option, None, Result, Ok, Err}
use Rattle.command_line.specs.declared.answer.Answer.{Answer}
use Rattle.command_line.specs.declared.answer.Part.TheVariants as part
use Rattle.c_tree.specs.Tree.{Outer}
use Rattle.job_outcomes.specs.Outcomes.{answers}
use Rattle.job_outcomes.specs.Steps.{Comes, Gives, IsFile, Then}
use Rattle.job_outcomes.specs.declared.outcome.Outcome.{Outcome}
use Rattle.job_outcomes.specs.declared.stop.Stop.{Stop}
use Rattle.job_outcomes.specs.declared.stop.Stop.TheVariants as stop
use Rattle.job_profiles.specs.Profiles.{IsProfile}
use Rattle.order_log.specs.Log.{LogView}
use Rattle.profiles.specs.declared.profile.Profile.{Profile as ProfileOf}
use Rattle.profiles.specs.declared.profile.Profile.TheVariants as profile
use Rattle.rr_base.specs.Files.{Files}
use Rattle.job_laws.specs.Readings.{CheckpointIs, InputIs, IsCheckpointFile, IsLogFile, LogIs, Reading, Reads, ReadsCheckpoint, ReadsLog, ReadsProfile, ReadsSource, no_log, with_checkpoint, with_log, with_profile}
use Rattle.job_laws.specs.Readings.SourceAsked.{InFile}
use Rattle.job_laws.specs.Sources.{IsTree}

module _ (files : Option Files) (left : Option (List ℕ)) (reading : Reading) (Next : ProfileOf → LogView → List ℕ → List Outer → List ℕ → Outcome → Type 0) where
  abbrev pub AfterTree : ProfileOf → LogView → (held : List ℕ) → List Outer → Outcome → Type 0
  AfterTree p log held os = Comes (InputIs left reading.input) (Next p log held os)

  abbrev pub AfterCheckpoint : (text : List ℕ) → ProfileOf → LogView → (held : List ℕ) → Outcome → Type 0
  AfterCheckpoint text p log held = Comes (IsTree text) (AfterTree p log held)

  abbrev pub AfterLog : (text : List ℕ) → ProfileOf → LogView → Outcome → Type 0
  AfterLog text p log = Comes (CheckpointIs files reading.checkpoint) (AfterCheckpoint text p log)

  abbrev pub AfterProfile : (text : List ℕ) → ProfileOf → Outcome → Type 0
  AfterProfile text p = Comes (LogIs files reading.log) (AfterLog text p)

  abbrev pub AfterSource : (text : List ℕ) → Outcome → Type 0
  AfterSource text = Comes (IsProfile files reading.profile) (AfterProfile text)

module _ {X : Type 0} (IsStep : Result X Answer → Type 0) (Next Other : X → Outcome → Type 0) (o : Outcome) (next : (x : X) → Next x o → Other x o) where
  then_map : (r : Result X Answer) → Then Next r o → Then Other r o
  then_map (Ok x) h = next x h
  then_map (Err a) h = h

  -- another thing comes of what was found
  pub comes_map : Comes IsStep Next o → Comes IsStep Other o
  comes_map h = record { step = h.step; is = h.is; next = then_map h.step h.next }

-- a step that is taken
pub steps : {X : Type 0} (IsStep : Result X Answer → Type 0) (Next : X → Outcome → Type 0) (o : Outcome) (x : X) → IsStep (Ok x) → Next x o → Comes IsStep Next o
steps IsStep Next o x is h = record { step = Ok x; is = is; next = h }

pub gives_map : (One Other : Outcome → Type 0) (r : Result Outcome Stop) → ((o : Outcome) → One o → Other o) → Gives One r → Gives Other r
gives_map One Other (Ok o) map h = map o h
gives_map One Other (Err (stop.Refused a)) map h = map (answers a) h
gives_map One Other (Err stop.ShelfFailed) map h = tt
gives_map One Other (Err stop.InputFailed) map h = tt
gives_map One Other (Err stop.CrewFailed) map h = tt
gives_map One Other (Err stop.OutOfMemory) map h = tt

-- ---- jobs that don't read all of it

module _ (files : Option Files) (left : Option (List ℕ)) (source : List ℕ) (Done : ProfileOf → LogView → List ℕ → List Outer → List ℕ → Outcome → Type 0) (o : Outcome) where
  abbrev IsText : Result (List ℕ) Answer → Type 0
  IsText = IsFile files 1048576 part.Source source

  pub source_reads : (Next : List Outer → Outcome → Type 0) → ((os : List Outer) → Next os o → Done profile.All no_log [] os [] o) → ReadsSource files source Next o → Reads files left (with_profile source None) Done o
  source_reads Next next h =
      let reading = with_profile source None in
      comes_map IsText (λ text. Comes (IsTree text) Next) (AfterSource files left reading Done) o
      (λ text t. steps (IsProfile files None) (AfterProfile files left reading Done text) o profile.All refl
      (steps (LogIs files None) (AfterLog files left reading Done text profile.All) o no_log refl
      (steps (CheckpointIs files None) (AfterCheckpoint files left reading Done text profile.All no_log) o [] refl
      (comes_map (IsTree text) Next (AfterTree files left reading Done profile.All no_log []) o
      (λ os n. steps (InputIs left false) (Done profile.All no_log [] os) o [] refl (next os n)) t)))) h

  pub profile_reads : (name : Option (List ℕ)) (input : Bool) (Next : ProfileOf → List Outer → Outcome → Type 0) → ((p : ProfileOf) (os : List Outer) → Next p os o → Comes (InputIs left input) (Done p no_log [] os) o) → ReadsProfile files source name Next o → Reads files left (record { source = InFile source; profile = name; log = None; checkpoint = None; input = input }) Done o
  profile_reads name input Next next h =
      let reading : Reading = record { source = InFile source; profile = name; log = None; checkpoint = None; input = input } in
      comes_map IsText (λ text. Comes (IsProfile files name) (λ p. Comes (IsTree text) (Next p))) (AfterSource files left reading Done) o
      (λ text. comes_map (IsProfile files name) (λ p. Comes (IsTree text) (Next p)) (AfterProfile files left reading Done text) o
      (λ p t. steps (LogIs files None) (AfterLog files left reading Done text p) o no_log refl
      (steps (CheckpointIs files None) (AfterCheckpoint files left reading Done text p no_log) o [] refl
      (comes_map (IsTree text) (Next p) (AfterTree files left reading Done p no_log []) o (next p) t)))) h

  pub log_reads : (log : List ℕ) (Next : LogView → List Outer → Outcome → Type 0) → ((view : LogView) (os : List Outer) → Next view os o → Done profile.All view [] os [] o) → ReadsLog files source log Next o → Reads files left (with_log source log) Done o
  log_reads log Next next h =
      let reading = with_log source log in
      comes_map IsText (λ text. Comes (IsLogFile files log) (λ view. Comes (IsTree text) (Next view))) (AfterSource files left reading Done) o
      (λ text l. steps (IsProfile files None) (AfterProfile files left reading Done text) o profile.All refl
      (comes_map (IsLogFile files log) (λ view. Comes (IsTree text) (Next view)) (AfterLog files left reading Done text profile.All) o
      (λ view t. steps (CheckpointIs files None) (AfterCheckpoint files left reading Done text profile.All view) o [] refl
      (comes_map (IsTree text) (Next view) (AfterTree files left reading Done profile.All view []) o
      (λ os n. steps (InputIs left false) (Done profile.All view [] os) o [] refl (next view os n)) t)) l)) h

  pub checkpoint_reads : (log checkpoint : List ℕ) (Next : LogView → List ℕ → List Outer → Outcome → Type 0) → ((view : LogView) (held : List ℕ) (os : List Outer) → Next view held os o → Done profile.All view held os [] o) → ReadsCheckpoint files source log checkpoint Next o → Reads files left (with_checkpoint source log checkpoint) Done o
  checkpoint_reads log checkpoint Next next h =
      let reading = with_checkpoint source log checkpoint in
      comes_map IsText (λ text. Comes (IsLogFile files log) (λ view. Comes (IsCheckpointFile files checkpoint) (λ held. Comes (IsTree text) (Next view held)))) (AfterSource files left reading Done) o
      (λ text l. steps (IsProfile files None) (AfterProfile files left reading Done text) o profile.All refl
      (comes_map (IsLogFile files log) (λ view. Comes (IsCheckpointFile files checkpoint) (λ held. Comes (IsTree text) (Next view held))) (AfterLog files left reading Done text profile.All) o
      (λ view. comes_map (IsCheckpointFile files checkpoint) (λ held. Comes (IsTree text) (Next view held)) (AfterCheckpoint files left reading Done text profile.All view) o
      (λ held. comes_map (IsTree text) (Next view held) (AfterTree files left reading Done profile.All view held) o
      (λ os n. steps (InputIs left false) (Done profile.All view held os) o [] refl (next view held os n)))) l)) h
