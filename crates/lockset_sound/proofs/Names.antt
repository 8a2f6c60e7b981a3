-- The names of registers in runs. The solution that knows nothing is one of every code, so what is known of frames holds without
-- any analysis.
use Rattle.std.proofs.Common.{◌≡◌, ℕ, true, List, [], map, Some, sym, ap, subst, ◌∙◌}
use Rattle.std.specs.Prelude.{slice_get}
use Rattle.std.proofs.lemmas.List.{length-map}
use Rattle.std.proofs.lemmas.Option.{same_Some}
use Rattle.std.proofs.lemmas.Bool.{true≢false}
use Rattle.sync_objects.specs.Setup.{SetupView, IsWithinLimits}
use Rattle.flow_code.specs.declared.act.Instr.{Instr}
use Rattle.flow_code.specs.declared.code.Code.{Code}
use Rattle.flow_code.specs.declared.code.Function.{Function}
use Rattle.flow_code.specs.declared.thread.Phase.TheVariants as phase
use Rattle.flow_code.specs.Constants.{constants_fit}
use Rattle.flow_code.specs.Settle.{settled}
use Rattle.flow_code.specs.Valid.{is_valid}
use Rattle.core_run.specs.Histories.{IsReachable}
use Rattle.core_run.specs.Machine.{Told}
use Rattle.run_theory.specs.Steps.{State}
use Rattle.facts.specs.Locks.{Points, Below, IsSolution}
use Rattle.facts.specs.Summaries.{AreSolution}
use Rattle.facts.specs.declared.locks.Held.{Held}
use Rattle.facts.specs.declared.locks.Minus.TheVariants.{All}
use Rattle.facts.specs.declared.locks.RelLocks.{RelLocks}
use Rattle.lockset_sound.proofs.InRuns.{frames_now, frames_settled}
use Rattle.lockset_sound.proofs.Running.{KnownThread}
use Rattle.lockset_sound.proofs.Stacks.{map_from}

abbrev unknown : RelLocks
unknown = record { plus = []; minus = All }

abbrev bottom : Function → Points
bottom f = record { before = map (λ i. unknown) f.instrs; exit = unknown }

lowest : (l : RelLocks) → Below unknown l
lowest l = record { plus = λ p h. absurd (true≢false (sym h)); minus = tt }

at_bottom : (f : Function) (k : ℕ) (l m : RelLocks) → slice_get (bottom f).before k ≡ Some l → Below l m
at_bottom f k l m e = let r = map_from (λ (i : Instr). unknown) f.instrs k l e in subst (λ z. Below z m) r.2 (lowest m)

bottom_solves : (exits : List RelLocks) (f : Function) (top : List Held) → IsSolution exits f top (bottom f)
bottom_solves exits f top = record {
  long = length-map f.instrs (λ i. unknown);
  entry = λ l e. at_bottom f 0 l _ e;
  within = λ k l e. at_bottom f k l _ e;
  steps = λ k to i l m at next e g. at_bottom f to m _ g;
  exit_within = lowest _;
  returned = λ k i l at is e. lowest l;
}

module _ (code : Code) where
  abbrev tops : List (List Held)
  tops = map (λ (f : Function). []) code.functions

  abbrev points : List Points
  points = map bottom code.functions

  solves : AreSolution code tops points
  solves = record {
    long = length-map code.functions bottom;
    each = λ n f top x e t g.
        (let r = map_from bottom code.functions n x g in
        let same = same_Some r.0 f (sym r.1 ∙ e) in
        subst (IsSolution _ f top) (ap bottom (sym same) ∙ r.2) (bottom_solves _ f top));
  }

  module _ (valid : is_valid code ≡ true) (constants : constants_fit code ≡ true) (s : SetupView) (limits : IsWithinLimits s) (st : State Told) (t : ℕ) (told : Told) (reached : IsReachable code s st) (e : slice_get st.threads t ≡ Some told) (running : told.thread.phase ≡ phase.Running) where
    pub known_now : KnownThread code s.slots told.thread
    known_now = (frames_now code valid constants s limits tops points solves (length-map code.functions (λ (f : Function). [])) st t told reached e running).known

    pub known_settled : KnownThread code s.slots (settled code s t told.thread)
    known_settled = (frames_settled code valid constants s limits tops points solves (length-map code.functions (λ (f : Function). [])) st t told reached e running).known
