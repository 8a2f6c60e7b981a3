-- Files and words have one outcome.
use Rattle.std.proofs.Common.{◌≡◌, ℕ, Bool, true, false, List, [], ◌++◌, Option, Some, None, Result, Ok, Err, refl, sym, ◌∙◌, ap, subst, arith}
use Rattle.command_line.specs.Jobs.{Asked}
use Rattle.command_line.specs.Jobs.Asked.{Races, Weaken, Record, Replay, Profile, Watch, Chain, Checkpoint, Resume, Make}
use Rattle.command_line.specs.declared.answer.Answer.{Answer}
use Rattle.command_line.specs.declared.answer.Answer.TheVariants as answer
use Rattle.command_line.specs.declared.answer.Part.{Part}
use Rattle.command_line.specs.declared.answer.Part.TheVariants as part
use Rattle.c_tree.specs.Tree.{Outer}
use Rattle.chain_report.specs.declared.point.Point.{Point}
use Rattle.core_run.specs.Walks.{WalkIs}
use Rattle.profiles.specs.declared.profile.Profile.{Profile as ProfileOf}
use Rattle.profiles.specs.declared.profile.Profile.TheVariants as profile
use Rattle.front.proofs.One.{one_reading}
use Rattle.front.proofs.OneWeakened.{one_weakened}
use Rattle.front.specs.Readings.{sound, refused}
use Rattle.front.specs.declared.reading.SourceFault.{SourceFault}
use Rattle.listing.specs.Text.{races_text_of}
use Rattle.listing.specs.WeakText.{weak_text_of}
use Rattle.lock_sound.proofs.Running.{weakened_runs}
use Rattle.lock_sound.specs.Weakened.{Analysed}
use Rattle.order_log.proofs.Only.{log_at-only}
use Rattle.order_log.specs.Log.{LogView}
use Rattle.order_log.specs.declared.fault.LogFault.{LogFault}
use Rattle.order_log.specs.declared.fault.LogFault.TheVariants.{LogSyntax, LogLimit, OutOfMemory}
use Rattle.job_outcomes.specs.Outcomes.{answers, following}
use Rattle.job_outcomes.specs.Steps.{Comes, IsFile, IsInput, IsWithin, Then}
use Rattle.job_outcomes.specs.declared.outcome.Outcome.{Outcome}
use Rattle.profile_book.proofs.OneAnswer.{one_answer}
use Rattle.rr_base.specs.Files.{Files}
use Rattle.sync_objects.specs.Setup.{IsWithinLimits}
use Rattle.walk_answers.proofs.OneWalk.{one_walk}
use Rattle.thread_interpreter.specs.declared.access.Formula.{Formula}
use Rattle.walk_chains.proofs.One.{one_chain}
use Rattle.walk_checkpoints.proofs.One.{one_checkpoint, one_rest}
use Rattle.walk_checkpoints.specs.Telling.{GoesOn, TakesCheckpoint}
use Rattle.walk_chains.specs.Telling.{TellsChain}
use Rattle.walk_hits.proofs.One.{one_hit}
use Rattle.walk_hits.specs.Telling.{TellsHit}
use Rattle.walk_profiles.proofs.One.{one_profile}
use Rattle.walk_profiles.specs.Profiling.{ShowsProfile}
use Rattle.job_laws.specs.Chainings.{OrdersLog, point_of}
use Rattle.job_laws.specs.Checkpoints.{GoesOnFrom, KeepsState}
use Rattle.job_laws.specs.Jobs.{IsDone, RecordsRun, puts_first}
use Rattle.job_laws.specs.Laws.{OneOutcome, OneRefusal}
use Rattle.job_laws.specs.Listings.{ListsRaces, ListsWeakLocks}
use Rattle.job_profiles.specs.Profiles.{IsProfile, IsSpelled}
use Rattle.job_laws.specs.Profilings.{ShowsLog}
use Rattle.job_laws.specs.Readings.{CheckpointIs, InputIs, IsAccepted, IsLogOf, LogIs, Reading, Reads, SourceAsked, SourceIs, reading_of}
use Rattle.job_laws.specs.Readings.SourceAsked.{InFile, Made}
use Rattle.job_runs.specs.Logs.{IsLogIn, IsRefusal}
use Rattle.job_laws.specs.Replays.{Replays}
use Rattle.job_laws.specs.Sources.{IsFound, IsTree}
use Rattle.job_laws.specs.Watchings.{TellsLog}
use Rattle.job_runs.specs.Works.{IsOfRun, Work}
use Rattle.job_runs.proofs.Worked.{told_of_run}
use Rattle.job_laws.proofs.InOrder.{AfterCheckpoint, AfterLog, AfterProfile, AfterSource, AfterTree}
use Rattle.job_laws.proofs.Worked.{made_is_of_run}
use Rattle.walk_answers.specs.Walking.{formula_of, put_of}

-- ---- steps

module _ {X : Type 0} (IsStep : Result X Answer → Type 0) (Next Other : X → Outcome → Type 0) (o p : Outcome) where
  then_once : (r : Result X Answer) → ((x : X) → IsStep (Ok x) → Next x o → Other x p → o ≡ p) → IsStep r → Then Next r o → Then Other r p → o ≡ p
  then_once (Ok x) next is h g = next x is h g
  then_once (Err a) next is h g = h ∙ sym g

  -- what comes once has stepped there
  pub comes_once_by : ((r s : Result X Answer) → IsStep r → IsStep s → r ≡ s) → ((x : X) → IsStep (Ok x) → Next x o → Other x p → o ≡ p) → Comes IsStep Next o → Comes IsStep Other p → o ≡ p
  comes_once_by one next h g = then_once g.step next g.is (subst (λ r. Then Next r o) (one h.step g.step h.is g.is) h.next) g.next

  pub comes_once : ((r s : Result X Answer) → IsStep r → IsStep s → r ≡ s) → ((x : X) → Next x o → Other x p → o ≡ p) → Comes IsStep Next o → Comes IsStep Other p → o ≡ p
  comes_once one next = comes_once_by one (λ x is. next x)

-- a step that has found this, and what comes of it
comes_at : {X : Type 0} (IsStep : Result X Answer → Type 0) (Next : X → Outcome → Type 0) (o : Outcome) (x : X) → ((r s : Result X Answer) → IsStep r → IsStep s → r ≡ s) → IsStep (Ok x) → Comes IsStep Next o → Next x o
comes_at IsStep Next o x once is h = subst (λ r. Then Next r o) (once h.step (Ok x) h.is is) h.next

same_some : {A : Type 0} (x y : A) → Some x ≡ Some y → x ≡ y
same_some x y e = cc e

within_once : (most : ℕ) (what : Part) (content : List ℕ) (r s : Result (List ℕ) Answer) → IsWithin most what content r → IsWithin most what content s → r ≡ s
within_once most what content (Ok x) (Ok y) h g = ap Ok (h.0 ∙ sym g.0)
within_once most what content (Ok x) (Err b) h g = absurd (omega (arith, h.1, g.0))
within_once most what content (Err a) (Ok y) h g = absurd (omega (arith, h.0, g.1))
within_once most what content (Err a) (Err b) h g = ap Err (h.1 ∙ sym g.1)

pub file_once : (files : Files) (most : ℕ) (what : Part) (name : List ℕ) (r s : Result (List ℕ) Answer) → IsFile (Some files) most what name r → IsFile (Some files) most what name s → r ≡ s
file_once files most what name r s h g =
    let same : h.content ≡ g.content = same_some h.content g.content (sym h.held ∙ g.held) in
    within_once most what g.content r s (subst (λ c. IsWithin most what c r) same h.within) g.within

pub input_once : (left : List ℕ) (most : ℕ) (what : Part) (r s : Result (List ℕ) Answer) → IsInput (Some left) most what r → IsInput (Some left) most what s → r ≡ s
input_once left most what r s h g =
    let same : h.content ≡ g.content = h.had ∙ sym g.had in
    within_once most what g.content r s (subst (λ c. IsWithin most what c r) same h.within) g.within

-- ---- sources

same_refusal : (f g : SourceFault) → f ≡ g → answer.SourceRefused f.number f.at.line f.at.column ≡ answer.SourceRefused g.number g.at.line g.at.column
same_refusal f g e = ap (λ (x : SourceFault). answer.SourceRefused x.number x.at.line x.at.column) e

pub tree_once : (source : List ℕ) (r s : Result (List Outer) Answer) → IsTree source r → IsTree source s → r ≡ s
tree_once source (Ok os) (Ok xs) h g = cc (one_reading source (sound os) (sound xs) h g)
tree_once source (Ok os) (Err b) h g = absurd (cc (one_reading source (sound os) (refused g.0) h g.1))
tree_once source (Err a) (Ok xs) h g = absurd (cc (one_reading source (refused h.0) (sound xs) h.1 g))
tree_once source (Err a) (Err b) h g =
    let same : h.0 ≡ g.0 = cc (one_reading source (refused h.0) (refused g.0) h.1 g.1) in
    ap Err (h.2 ∙ same_refusal h.0 g.0 same ∙ sym g.2)

pub found_once : (os : List Outer) (p : ProfileOf) (a b : Analysed) → IsFound os p a → IsFound os p b → a ≡ b
found_once os p a b h g = one_weakened a b h.is g.is (h.of ∙ sym g.of) (h.by_profile ∙ sym g.by_profile)

-- ---- profiles

spelled_once : (file : Result (List ℕ) Answer) (r s : Result ProfileOf Answer) → IsSpelled file r → IsSpelled file s → r ≡ s
spelled_once (Err a) r s h g = h ∙ sym g
spelled_once (Ok bytes) (Ok p) (Ok q) h g = cc (one_answer bytes (Ok p) (Ok q) h g (λ e. absurd (cc e)) (λ e. absurd (cc e)))
spelled_once (Ok bytes) (Ok p) (Err b) h g = absurd (cc (one_answer bytes (Ok p) (Err g.0) h g.2 (λ e. absurd (cc e)) (λ e. absurd (cc (e, g.3)))))
spelled_once (Ok bytes) (Err a) (Ok q) h g = absurd (cc (one_answer bytes (Err h.0) (Ok q) h.2 g (λ e. absurd (cc (e, h.3))) (λ e. absurd (cc e))))
spelled_once (Ok bytes) (Err a) (Err b) h g =
    let same = one_answer bytes (Err h.0) (Err g.0) h.2 g.2 (λ e. absurd (cc (e, h.3))) (λ e. absurd (cc (e, g.3))) in
    cc (same, h.3, g.3, h.4, g.4)

pub profile_once : (files : Files) (name : Option (List ℕ)) (r s : Result ProfileOf Answer) → IsProfile (Some files) name r → IsProfile (Some files) name s → r ≡ s
profile_once files None r s h g = h ∙ sym g
profile_once files (Some name) r s h g =
    let same : h.0 ≡ g.0 = file_once files 1048576 part.Profile name h.0 g.0 h.1 g.1 in
    spelled_once g.0 r s (subst (λ f. IsSpelled f r) same h.2) g.2

-- ---- logs

refusal_once : (fault : LogFault) (a b : Answer) → IsRefusal fault a → IsRefusal fault b → a ≡ b
refusal_once (LogSyntax line) a b h g = h ∙ sym g
refusal_once (LogLimit line) a b h g = h ∙ sym g
refusal_once OutOfMemory a b h g = absurd h

pub log_once : (bytes : List ℕ) (r s : Result LogView Answer) → IsLogIn bytes r → IsLogIn bytes s → r ≡ s
log_once bytes (Ok v) (Ok w) h g = cc (sym (log_at-only bytes (Ok v) h) ∙ log_at-only bytes (Ok w) g)
log_once bytes (Ok v) (Err b) h g = absurd (cc (sym (log_at-only bytes (Ok v) h) ∙ log_at-only bytes (Err g.0) g.1))
log_once bytes (Err a) (Ok w) h g = absurd (cc (sym (log_at-only bytes (Err h.0) h.1) ∙ log_at-only bytes (Ok w) g))
log_once bytes (Err a) (Err b) h g =
    let same : h.0 ≡ g.0 = cc (sym (log_at-only bytes (Err h.0) h.1) ∙ log_at-only bytes (Err g.0) g.1) in
    ap Err (refusal_once g.0 a b (subst (λ f. IsRefusal f a) same h.2) g.2)

-- ---- what comes of a code

races_once : (os : List Outer) (o p : Outcome) → ListsRaces os o → ListsRaces os p → o ≡ p
races_once os o p h g =
    let same : h.found ≡ g.found = found_once os profile.All h.found g.found h.is g.is in
    h.told ∙ ap (λ (w : Analysed). answers (answer.Done (races_text_of w.plain w.pairs))) same ∙ sym g.told

locks_once : (q : ProfileOf) (os : List Outer) (o p : Outcome) → ListsWeakLocks q os o → ListsWeakLocks q os p → o ≡ p
locks_once q os o p h g =
    let same : h.found ≡ g.found = found_once os q h.found g.found h.is g.is in
    h.told ∙ ap (λ (w : Analysed). answers (answer.Done (weak_text_of w.plain w.weak.locks w.grains.rows))) same ∙ sym g.told

replays_once : (a b c d : Work) (log : LogView) (reads : Option (List ℕ)) (os : List Outer) (o p : Outcome) → Replays a b log reads os o → Replays c d log reads os p → o ≡ p
replays_once a b c d log reads os o p h g =
    let same : h.found ≡ g.found = found_once os log.profile h.found g.found h.is g.is in
    let walks : WalkIs g.found.weak log.setup log.entries (formula_of reads) h.walk = subst (λ (w : Analysed). WalkIs w.weak log.setup log.entries (formula_of reads) h.walk) same h.walks in
    let one = one_walk g.found.weak log.setup log.entries (formula_of reads) h.walk g.walk walks g.walks in
    h.told ∙ (λ i. record { puts = [] ++ put_of reads (one.1 i); answer = one.0 i }) ∙ sym g.told

shows_once : (log : LogView) (name : List ℕ) (os : List Outer) (o p : Outcome) → ShowsLog log name os o → ShowsLog log name os p → o ≡ p
shows_once log name os o p h g =
    let same : h.found ≡ g.found = found_once os log.profile h.found g.found h.is g.is in
    one_profile g.found.weak log.setup log.entries name o p (subst (λ (w : Analysed). ShowsProfile w.weak log.setup log.entries name o) same h.shows) g.shows

tells_once : (log : LogView) (formula : Formula) (os : List Outer) (o p : Outcome) → TellsLog log formula os o → TellsLog log formula os p → o ≡ p
tells_once log formula os o p h g =
    let same : h.found ≡ g.found = found_once os log.profile h.found g.found h.is g.is in
    one_hit g.found.weak log.setup log.entries formula o p (subst (λ (w : Analysed). TellsHit w.weak log.setup log.entries formula o) same h.tells) g.tells

orders_once : (log : LogView) (limits : IsWithinLimits log.setup) (one other : Point) (os : List Outer) (o p : Outcome) → OrdersLog log one other os o → OrdersLog log one other os p → o ≡ p
orders_once log limits one other os o p h g =
    let same : h.found ≡ g.found = found_once os log.profile h.found g.found h.is g.is in
    one_chain g.found.weak log.setup log.entries one other o p (weakened_runs g.found g.is.is) limits (subst (λ (w : Analysed). TellsChain w.weak log.setup log.entries one other o) same h.tells) g.tells

keeps_once : (log : LogView) (count : ℕ) (name : List ℕ) (os : List Outer) (o p : Outcome) → KeepsState log count name os o → KeepsState log count name os p → o ≡ p
keeps_once log count name os o p h g =
    let same : h.found ≡ g.found = found_once os log.profile h.found g.found h.is g.is in
    one_checkpoint g.found.weak log.setup log.entries count name o p (subst (λ (w : Analysed). TakesCheckpoint w.weak log.setup log.entries count name o) same h.takes) g.takes

goes_once : (log : LogView) (held : List ℕ) (os : List Outer) (o p : Outcome) → GoesOnFrom log held os o → GoesOnFrom log held os p → o ≡ p
goes_once log held os o p h g =
    let same : h.found ≡ g.found = found_once os log.profile h.found g.found h.is g.is in
    one_rest g.found.weak log.setup log.entries held o p (subst (λ (w : Analysed). GoesOn w.weak log.setup log.entries held o) same h.goes) g.goes

-- ---- what is read

source_once : (files : Files) (source : SourceAsked) (r s : Result (List ℕ) Answer) → SourceIs (Some files) source r → SourceIs (Some files) source s → r ≡ s
source_once files (InFile name) r s h g = file_once files 1048576 part.Source name r s h g
source_once files (Made count) r s h g = h ∙ sym g

log_of_once : (file : Result (List ℕ) Answer) (r s : Result LogView Answer) → IsLogOf file r → IsLogOf file s → r ≡ s
log_of_once (Ok bytes) r s h g = log_once bytes r s h g
log_of_once (Err b) r s h g = h ∙ sym g

log_is_once : (files : Files) (log : Option (List ℕ)) (r s : Result LogView Answer) → LogIs (Some files) log r → LogIs (Some files) log s → r ≡ s
log_is_once files None r s h g = h ∙ sym g
log_is_once files (Some log) r s h g = log_of_once g.0 r s (subst (λ f. IsLogOf f r) (file_once files 536870912 part.Log log h.0 g.0 h.1 g.1) h.2) g.2

checkpoint_once : (files : Files) (checkpoint : Option (List ℕ)) (r s : Result (List ℕ) Answer) → CheckpointIs (Some files) checkpoint r → CheckpointIs (Some files) checkpoint s → r ≡ s
checkpoint_once files None r s h g = h ∙ sym g
checkpoint_once files (Some checkpoint) r s h g = file_once files 536870912 part.Checkpoint checkpoint r s h g

pub input_is_once : (left : List ℕ) (reads : Bool) (r s : Result (List ℕ) Answer) → InputIs (Some left) reads r → InputIs (Some left) reads s → r ≡ s
input_is_once left true r s h g = input_once left 1048576 part.Input r s h g
input_is_once left false r s h g = h ∙ sym g

-- a log in a file has its setup within the limits
pub log_limits : (file : Result (List ℕ) Answer) (view : LogView) → IsLogOf file (Ok view) → IsWithinLimits view.setup
log_limits (Ok bytes) view h = h.1.setup
log_limits (Err a) view h = absurd (cc h)

module _ (files : Files) (reading : Reading) where
  -- what comes of all that is read is one, where the input is
  reads_once : (left : Option (List ℕ)) (Next Other : ProfileOf → LogView → List ℕ → List Outer → List ℕ → Outcome → Type 0) (o p : Outcome)
      → ((r s : Result (List ℕ) Answer) → InputIs left reading.input r → InputIs left reading.input s → r ≡ s)
      → ((q : ProfileOf) (view : LogView) → LogIs (Some files) reading.log (Ok view) → (held : List ℕ) (os : List Outer) (input : List ℕ) → Next q view held os input o → Other q view held os input p → o ≡ p)
      → Reads (Some files) left reading Next o → Reads (Some files) left reading Other p → o ≡ p
  reads_once left Next Other o p one next h g =
      comes_once (SourceIs (Some files) reading.source) (AfterSource (Some files) left reading Next) (AfterSource (Some files) left reading Other) o p (source_once files reading.source)
      (λ text. comes_once (IsProfile (Some files) reading.profile) (AfterProfile (Some files) left reading Next text) (AfterProfile (Some files) left reading Other text) o p (profile_once files reading.profile)
      (λ q. comes_once_by (LogIs (Some files) reading.log) (AfterLog (Some files) left reading Next text q) (AfterLog (Some files) left reading Other text q) o p (log_is_once files reading.log)
      (λ view is. comes_once (CheckpointIs (Some files) reading.checkpoint) (AfterCheckpoint (Some files) left reading Next text q view) (AfterCheckpoint (Some files) left reading Other text q view) o p (checkpoint_once files reading.checkpoint)
      (λ held. comes_once (IsTree text) (AfterTree (Some files) left reading Next q view held) (AfterTree (Some files) left reading Other q view held) o p (tree_once text)
      (λ os. comes_once (InputIs left reading.input) (Next q view held os) (Other q view held os) o p one (next q view is held os)))))) h g

  -- what was accepted is what comes next
  pub reads_at : (left : Option (List ℕ)) → ((r s : Result (List ℕ) Answer) → InputIs left reading.input r → InputIs left reading.input s → r ≡ s)
      → (Next : ProfileOf → LogView → List ℕ → List Outer → List ℕ → Outcome → Type 0) (o : Outcome) (by : IsAccepted (Some files) left reading) → Reads (Some files) left reading Next o → Next by.given by.followed by.held by.os by.read o
  reads_at left one Next o by h =
      comes_at (InputIs left reading.input) (Next by.given by.followed by.held by.os) o by.read one by.input
      (comes_at (IsTree by.text) (AfterTree (Some files) left reading Next by.given by.followed by.held) o by.os (tree_once by.text) by.tree
      (comes_at (CheckpointIs (Some files) reading.checkpoint) (AfterCheckpoint (Some files) left reading Next by.text by.given by.followed) o by.held (checkpoint_once files reading.checkpoint) by.checkpoint
      (comes_at (LogIs (Some files) reading.log) (AfterLog (Some files) left reading Next by.text by.given) o by.followed (log_is_once files reading.log) by.log
      (comes_at (IsProfile (Some files) reading.profile) (AfterProfile (Some files) left reading Next by.text) o by.given (profile_once files reading.profile) by.profile
      (comes_at (SourceIs (Some files) reading.source) (AfterSource (Some files) left reading Next) o by.text (source_once files reading.source) by.source h)))))

-- ---- what comes of it

-- a job that records no run
done_once : (a b c d : Work) (files : Files) (job : Asked) (q : ProfileOf) (view : LogView) (held : List ℕ) (os : List Outer) (input : List ℕ) (o p : Outcome) → (RecordsRun (Some job) → ⊥) → LogIs (Some files) (reading_of job).log (Ok view) → IsDone a b job q view held os input o → IsDone c d job q view held os input p → o ≡ p
done_once a b c d files (Races source) q view held os input o p none is h g = races_once os o p h g
done_once a b c d files (Weaken source name) q view held os input o p none is h g = locks_once q os o p h g
done_once a b c d files (Record r) q view held os input o p none is h g = absurd (none tt)
done_once a b c d files (Replay source log reads) q view held os input o p none is h g = replays_once a b c d view reads os o p h g
done_once a b c d files (Profile source log name) q view held os input o p none is h g = shows_once view name os o p h g
done_once a b c d files (Watch source log formula) q view held os input o p none is h g = tells_once view formula os o p h g
done_once a b c d files (Chain source log i j) q view held os input o p none is h g = orders_once view (log_limits is.0 view is.2) (point_of i) (point_of j) os o p h g
done_once a b c d files (Checkpoint source log count name) q view held os input o p none is h g = keeps_once view count name os o p h g
done_once a b c d files (Resume source log name) q view held os input o p none is h g = goes_once view held os o p h g
done_once a b c d files (Make count name) q view held os input o p none is h g = absurd (none tt)

-- it reads no input
unread_once : (left : Option (List ℕ)) (job : Asked) → (RecordsRun (Some job) → ⊥) → (r s : Result (List ℕ) Answer) → InputIs left (reading_of job).input r → InputIs left (reading_of job).input s → r ≡ s
unread_once left (Record asked) none r s h g = absurd (none tt)
unread_once left (Make count name) none r s h g = absurd (none tt)
unread_once left _ none r s h g = h ∙ sym g

-- what comes of a run is told of it
refused_once : (a b c d : Work) (files : Files) (job : Asked) (q : ProfileOf) (view : LogView) (held : List ℕ) (os : List Outer) (input : List ℕ) (o p : Outcome) → (IsOfRun o.answer → ⊥) → LogIs (Some files) (reading_of job).log (Ok view) → IsDone a b job q view held os input o → IsDone c d job q view held os input p → o ≡ p
refused_once a b c d files (Record r) q view held os input o p unrun is h g = absurd (unrun (told_of_run o _ h.walk h.told refl))
refused_once a b c d files (Make count name) q view held os input o p unrun is h g = absurd (unrun (made_is_of_run a b count name os o h))
refused_once a b c d files job q view held os input o p unrun is h g = done_once a b c d files job q view held os input o p (λ x. x) is h g

pub one_refusal : OneRefusal
one_refusal a b c d files left None o p unrun h g = h.is ∙ sym g.is
one_refusal a b c d files left (Some job) o p unrun h g =
    let none = λ (x : IsOfRun h.is.rest.answer). unrun (subst IsOfRun (sym (ap (λ (y : Outcome). y.answer) h.is.told)) x) in
    let same : h.is.rest ≡ g.is.rest = reads_once files (reading_of job) (Some left) (IsDone a b job) (IsDone c d job) h.is.rest g.is.rest (input_is_once left (reading_of job).input) (λ q view is held os input. refused_once a b c d files job q view held os input h.is.rest g.is.rest none is) h.is.comes g.is.comes in
    h.is.told ∙ ap (following (puts_first job)) same ∙ sym g.is.told

pub one_outcome : OneOutcome
one_outcome a b c d files left None o p none h g = h.is ∙ sym g.is
one_outcome a b c d files left (Some job) o p none h g =
    let same : h.is.rest ≡ g.is.rest = reads_once files (reading_of job) left (IsDone a b job) (IsDone c d job) h.is.rest g.is.rest (unread_once left job none) (λ q view is held os input. done_once a b c d files job q view held os input h.is.rest g.is.rest none is) h.is.comes g.is.comes in
    h.is.told ∙ ap (following (puts_first job)) same ∙ sym g.is.told
