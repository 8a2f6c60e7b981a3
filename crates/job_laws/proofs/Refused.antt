-- What is read of a job's words is refused, or accepted.
use Rattle.std.proofs.Common.{◌≡◌, ◌⊎◌, inl, inr, ap, sym, subst, ℕ, Bool, true, false, List, Option, Some, None, Result, Ok, Err}
use Rattle.command_line.specs.declared.answer.Answer.{Answer}
use Rattle.command_line.specs.declared.answer.Part.{Part}
use Rattle.command_line.specs.declared.answer.Part.TheVariants as part
use Rattle.c_tree.specs.Tree.{Outer}
use Rattle.job_outcomes.specs.Outcomes.{answers}
use Rattle.job_outcomes.specs.Steps.{Comes, IsFile, IsWithin, Then}
use Rattle.job_outcomes.specs.declared.outcome.Outcome.{Outcome}
use Rattle.job_profiles.specs.Profiles.{IsProfile, IsSpelled}
use Rattle.job_runs.specs.Logs.{IsRefusal}
use Rattle.job_runs.specs.Works.{IsOfRun}
use Rattle.order_log.specs.Log.{LogView}
use Rattle.order_log.specs.declared.fault.LogFault.{LogFault}
use Rattle.order_log.specs.declared.fault.LogFault.TheVariants.{LogSyntax, LogLimit, OutOfMemory}
use Rattle.profiles.specs.declared.profile.Profile.{Profile as ProfileOf}
use Rattle.rr_base.specs.Files.{Files}
use Rattle.job_laws.specs.Readings.{CheckpointIs, InputIs, IsAccepted, IsLogOf, LogIs, Reading, Reads, Refuses, SourceAsked, SourceIs}
use Rattle.job_laws.specs.Readings.SourceAsked.{InFile, Made}
use Rattle.job_laws.specs.Sources.{IsTree}
use Rattle.job_laws.proofs.InOrder.{AfterCheckpoint, AfterLog, AfterProfile, AfterSource, AfterTree, comes_map}

-- ---- a refusal is no answer of a run

within_refuses : (most : ℕ) (what : Part) (content : List ℕ) (a : Answer) → IsWithin most what content (Err a) → IsOfRun a → ⊥
within_refuses most what content a h run = subst IsOfRun h.1 run

tree_refuses : (text : List ℕ) (a : Answer) → IsTree text (Err a) → IsOfRun a → ⊥
tree_refuses text a h run = subst IsOfRun h.2 run

spelled_refuses : (file : Result (List ℕ) Answer) (a : Answer) → ((b : Answer) → file ≡ Err b → IsOfRun b → ⊥) → IsSpelled file (Err a) → IsOfRun a → ⊥
spelled_refuses (Ok bytes) a unread h run = subst IsOfRun h.4 run
spelled_refuses (Err b) a unread h run = let same : a ≡ b = cc h in unread a (ap Err (sym same)) run

file_refuses : (files : Option Files) (most : ℕ) (what : Part) (name : List ℕ) (r : Result (List ℕ) Answer) → IsFile files most what name r → (b : Answer) → r ≡ Err b → IsOfRun b → ⊥
file_refuses files most what name r h b e = within_refuses most what h.content b (subst (λ x. IsWithin most what h.content x) e h.within)

profile_refuses : (files : Option Files) (name : Option (List ℕ)) (a : Answer) → IsProfile files name (Err a) → IsOfRun a → ⊥
profile_refuses files None a h run = cc h
profile_refuses files (Some name) a h run = spelled_refuses h.0 a (file_refuses files 1048576 part.Profile name h.0 h.1) h.2 run

fault_refuses : (fault : LogFault) (a : Answer) → IsRefusal fault a → IsOfRun a → ⊥
fault_refuses (LogSyntax line) a h run = subst IsOfRun h run
fault_refuses (LogLimit line) a h run = subst IsOfRun h run
fault_refuses OutOfMemory a h run = absurd h

log_refuses : (file : Result (List ℕ) Answer) (a : Answer) → ((b : Answer) → file ≡ Err b → IsOfRun b → ⊥) → IsLogOf file (Err a) → IsOfRun a → ⊥
log_refuses (Ok bytes) a unread h run = fault_refuses h.0 a h.2 run
log_refuses (Err b) a unread h run = let same : a ≡ b = cc h in unread a (ap Err (sym same)) run

source_refuses : (files : Option Files) (source : SourceAsked) (a : Answer) → SourceIs files source (Err a) → IsOfRun a → ⊥
source_refuses files (InFile name) a h = within_refuses 1048576 part.Source h.content a h.within
source_refuses files (Made count) a h = absurd (cc h)

followed_refuses : (files : Option Files) (log : Option (List ℕ)) (a : Answer) → LogIs files log (Err a) → IsOfRun a → ⊥
followed_refuses files None a h = absurd (cc h)
followed_refuses files (Some log) a h = log_refuses h.0 a (file_refuses files 536870912 part.Log log h.0 h.1) h.2

checkpoint_refuses : (files : Option Files) (checkpoint : Option (List ℕ)) (a : Answer) → CheckpointIs files checkpoint (Err a) → IsOfRun a → ⊥
checkpoint_refuses files None a h = absurd (cc h)
checkpoint_refuses files (Some checkpoint) a h = within_refuses 536870912 part.Checkpoint h.content a h.within

input_refuses : (left : Option (List ℕ)) (reads : Bool) (a : Answer) → InputIs left reads (Err a) → IsOfRun a → ⊥
input_refuses left true a h = within_refuses 1048576 part.Input h.content a h.within
input_refuses left false a h = absurd (cc h)

pub answer_is : (o x : Outcome) → o ≡ x → o.answer ≡ x.answer
answer_is o x e = ap (λ (y : Outcome). y.answer) e

-- ---- steps in a row

module _ {X : Type 0} (IsStep : Result X Answer → Type 0) (Next : X → Outcome → Type 0) where
  module _ (a : Answer) (refuses : (b : Answer) → IsStep (Err b) → IsOfRun b → ⊥) (next : (x : X) → Next x (answers a) → IsOfRun a → ⊥) where
    then_no_run : (r : Result X Answer) → IsStep r → Then Next r (answers a) → IsOfRun a → ⊥
    then_no_run (Ok x) is h run = next x h run
    then_no_run (Err b) is h run = refuses b is (subst IsOfRun (answer_is (answers a) (answers b) h) run)

    -- what a step refuses is no answer of a run, where that is so of those after it
    no_run : Comes IsStep Next (answers a) → IsOfRun a → ⊥
    no_run h run = then_no_run h.step h.is h.next run

  -- a step refused, or what comes of it did; or nothing was refused
  module _ (Refused : X → Outcome → Type 0) (Accepted : Type 0) (o : Outcome) (next : (x : X) → IsStep (Ok x) → Next x o → Refused x (answers o.answer) ⊎ Accepted) where
    then_either : (r : Result X Answer) → IsStep r → Then Next r o → Comes IsStep Refused (answers o.answer) ⊎ Accepted
    then_either (Ok x) is h = found (next x is h)
      where
        found : Refused x (answers o.answer) ⊎ Accepted → Comes IsStep Refused (answers o.answer) ⊎ Accepted
        found (inl refused) = inl (record { step = Ok x; is = is; next = refused })
        found (inr accepted) = inr accepted
    then_either (Err a) is h = inl (record { step = Err a; is = is; next = ap answers (answer_is o (answers a) h) })

    comes_either : Comes IsStep Next o → Comes IsStep Refused (answers o.answer) ⊎ Accepted
    comes_either h = then_either h.step h.is h.next

-- ---- what is read

module _ (files : Option Files) (left : Option (List ℕ)) (reading : Reading) where
  -- nothing comes of what is accepted
  abbrev Nothing : ProfileOf → LogView → List ℕ → List Outer → List ℕ → Outcome → Type 0
  Nothing p log held os input o = ⊥

  pub refuses_no_run : (a : Answer) → Refuses files left reading a → IsOfRun a → ⊥
  refuses_no_run a h run =
      no_run (SourceIs files reading.source) (AfterSource files left reading Nothing) a (source_refuses files reading.source)
      (λ text. no_run (IsProfile files reading.profile) (AfterProfile files left reading Nothing text) a (profile_refuses files reading.profile)
      (λ p. no_run (LogIs files reading.log) (AfterLog files left reading Nothing text p) a (followed_refuses files reading.log)
      (λ log. no_run (CheckpointIs files reading.checkpoint) (AfterCheckpoint files left reading Nothing text p log) a (checkpoint_refuses files reading.checkpoint)
      (λ held. no_run (IsTree text) (AfterTree files left reading Nothing p log held) a (tree_refuses text)
      (λ os. no_run (InputIs left reading.input) (Nothing p log held os) a (input_refuses left reading.input) (λ input none of_run. none)))))) h run

  module _ (Next : ProfileOf → LogView → List ℕ → List Outer → List ℕ → Outcome → Type 0) where
    -- a refusal is what comes of it, whatever would come of what is accepted
    pub refused_reads : (a : Answer) → Refuses files left reading a → Reads files left reading Next (answers a)
    refused_reads a h =
        let o = answers a in
        comes_map (SourceIs files reading.source) (AfterSource files left reading Nothing) (AfterSource files left reading Next) o
        (λ text. comes_map (IsProfile files reading.profile) (AfterProfile files left reading Nothing text) (AfterProfile files left reading Next text) o
        (λ p. comes_map (LogIs files reading.log) (AfterLog files left reading Nothing text p) (AfterLog files left reading Next text p) o
        (λ log. comes_map (CheckpointIs files reading.checkpoint) (AfterCheckpoint files left reading Nothing text p log) (AfterCheckpoint files left reading Next text p log) o
        (λ held. comes_map (IsTree text) (AfterTree files left reading Nothing p log held) (AfterTree files left reading Next p log held) o
        (λ os. comes_map (InputIs left reading.input) (Nothing p log held os) (Next p log held os) o (λ input none. absurd none)))))) h

    -- what is accepted, and what comes of it
    abbrev pub IsNext : Outcome → Type 0
    IsNext o = (by : IsAccepted files left reading) × Next by.given by.followed by.held by.os by.read o

    -- each outcome is a refusal, or comes of what was accepted
    pub either_read : (o : Outcome) → Reads files left reading Next o → Refuses files left reading o.answer ⊎ IsNext o
    either_read o h =
        comes_either (SourceIs files reading.source) (AfterSource files left reading Next) (AfterSource files left reading Nothing) (IsNext o) o
        (λ text s. comes_either (IsProfile files reading.profile) (AfterProfile files left reading Next text) (AfterProfile files left reading Nothing text) (IsNext o) o
        (λ p pi. comes_either (LogIs files reading.log) (AfterLog files left reading Next text p) (AfterLog files left reading Nothing text p) (IsNext o) o
        (λ log li. comes_either (CheckpointIs files reading.checkpoint) (AfterCheckpoint files left reading Next text p log) (AfterCheckpoint files left reading Nothing text p log) (IsNext o) o
        (λ held c. comes_either (IsTree text) (AfterTree files left reading Next p log held) (AfterTree files left reading Nothing p log held) (IsNext o) o
        (λ os t. comes_either (InputIs left reading.input) (Next p log held os) (Nothing p log held os) (IsNext o) o
        (λ input i n. inr (record { text = text; source = s; given = p; profile = pi; followed = log; log = li; held = held; checkpoint = c; os = os; tree = t; read = input; input = i }, n))))))) h
