-- From an access to the locks that the outermost frame's function has for it.
use Rattle.std.proofs.Common.{◌≡◌, ℕ, Bool, true, ℤ, List, [], ◌∷◌, length, Some, refl, sym, ap, subst, ◌∙◌, arith}
use Rattle.std.specs.Prelude.{slice_get}
use Rattle.std.proofs.lemmas.Option.{same_Some, slice_get_within}
use Rattle.rr_base.proofs.Lists.{slice_get_inside}
use Rattle.word_semantics.specs.declared.library_call.LibraryCall.{LibraryCall}
use Rattle.word_semantics.specs.declared.library_call.LibraryCall.TheVariants as call
use Rattle.flow_code.specs.declared.act.Act.{Act}
use Rattle.flow_code.specs.declared.act.Act.TheVariants as act
use Rattle.flow_code.specs.declared.act.Instr.{Instr}
use Rattle.flow_code.specs.declared.code.Code.{Code}
use Rattle.flow_code.specs.declared.code.Function.{Function}
use Rattle.flow_code.specs.Threads.{Frame}
use Rattle.facts.specs.Accesses.{Access, library_access, access_of}
use Rattle.facts.specs.Locks.{Points, has_held, held_as, actuals_at}
use Rattle.facts.specs.Summaries.{StandsAt, AreSolution, locks_of, guarded_by, seen_by, Guards, own, called}
use Rattle.facts.specs.declared.locks.Guarded.{Guarded}
use Rattle.facts.specs.declared.locks.Held.{Held}
use Rattle.sync_objects.specs.declared.mode.Mode.{Mode}
use Rattle.facts.specs.declared.locks.LockPath.TheVariants.{Cell}
use Rattle.facts.specs.declared.locks.RelLocks.{RelLocks}
use Rattle.lockset_sound.specs.Frames.{so_far, call_so_far, IsCalledBy, Levels, Stack, root_frame, HoldsGlobal, IsGuarded}
use Rattle.lockset_sound.specs.Leading.{Holds, Mean}
use Rattle.lockset_sound.proofs.Running.{KnownBelow}
use Rattle.lockset_sound.proofs.Stacks.{is_own, own_far, solution_of, points_of, called_after}

-- an instruction that makes an access takes no mutex and gives none back
access_far : (f : Function) (k : ℕ) (x : Act) (a : Access) (made : ℕ) (kept : ℤ) (l : RelLocks) → access_of x ≡ Some a → so_far f k x made kept l ≡ l
access_far f k (act.Library c args into) a made kept l e = by c e
  where
    by : (c : LibraryCall) → library_access c args ≡ Some a → call_so_far f k c args made kept l ≡ l
    by call.MutexLock g = cc
    by call.MutexUnlock g = cc
    by call.CondWait g = cc
    by call.RwRdLock g = cc
    by call.RwWrLock g = cc
    by call.RwUnlock g = cc
    by _ g = refl
access_far f k _ a made kept l e = refl

-- the global locks of a row
global_held : (code : Code) (slots : ℕ) (f : Function) (rs : List ℕ) (row : Guarded) (before now : Holds) → Mean code slots f rs (locks_of row) before now → (mode : Mode) (n : ℕ) → has_held (held_as mode (Cell n)) row.plus ≡ true → HoldsGlobal code slots now mode n
global_held code slots f rs row before now m mode n h =
    let p = m.plus (held_as mode (Cell n)) h in
    let l = p.2 in
    record { cell_kind = p.0; kind_is = l.0; holds = subst (λ c. now mode p.0 c ≡ true) l.1 p.3 }

module _ (code : Code) (slots : ℕ) (tops : List (List Held)) (xs : List Points) (solves : AreSolution code tops xs) (long : length tops ≡ length code.functions) (now : Holds) where
  -- the access as a frame's function sees it
  record Seen (f : Frame) (fs : List Frame) (n k : ℕ) (store : Bool) : Type 0 where
    row : Guarded
    guards : Guards code xs (root_frame f fs).function row
    function : row.function ≡ n
    instr : row.instr ≡ k
    store_is : row.store ≡ store
    root : Function
    before : Holds
    means : Mean code slots root (root_frame f fs).registers (locks_of row) before now

  climb : (f : Frame) (fs : List Frame) (fn : Function) (entry : Holds) (row : Guarded) → slice_get code.functions f.function ≡ Some fn → Levels code slots xs entry f fs → KnownBelow code slots fs → Guards code xs f.function row → Mean code slots fn f.registers (locks_of row) entry now → Seen f fs row.function row.instr row.store
  climb f [] fn entry row there levels known guards means = record { row = row; guards = guards; function = refl; instr = refl; store_is = refl; root = fn; before = entry; means = means }
  climb f (g ∷ gs) fn entry row there levels known guards means =
      let x = points_of code slots tops xs solves long g.function c.caller c.stands.function in
      let sol = solution_of code slots tops xs solves long g.function c.caller x.0 c.stands.function x.1 in
      let within = slice_get_within c.caller.instrs g.instr c.instr c.stands.instr in
      let size = sol.1.long in
      let l = slice_get_inside x.0.before g.instr (omega arith) in
      let here = subst (λ z. Mean code slots c.caller g.registers z levels.1 entry) (own_far c.caller g.instr c.instr.act g.made g.kept l.0 (ap is_own c.calls)) (levels.2 c.caller c.instr x.0 l.0 c.stands x.1 l.1) in
      let callee = subst (λ z. Mean code slots z f.registers (locks_of row) entry now) (same_Some fn c.called (sym there ∙ c.there)) means in
      let up = called_after code slots tops xs solves long f g c known.0 l.0 (locks_of row) levels.1 entry now here callee in
      let r = climb g gs c.caller levels.1 (seen_by (actuals_at c.caller g.instr c.arguments) l.0 row) c.stands.function levels.3 known.2
      (called g.function g.instr c.caller c.instr x.0 l.0 f.function c.arguments c.into row c.stands x.1 l.1 c.calls guards) up in
      record { row = r.row; guards = r.guards; function = r.function; instr = r.instr; store_is = r.store_is; root = r.root; before = r.before; means = r.means }
    where
      c : IsCalledBy code f g
      c = levels.0

  -- the access at which the running frame stands
  pub guarded : (f : Frame) (fs : List Frame) (fn : Function) (i : Instr) (a : Access) → Stack code slots xs now f fs → KnownBelow code slots fs → StandsAt code f.function f.instr fn i → access_of i.act ≡ Some a → IsGuarded code slots xs now f fs a.store
  guarded f fs fn i a stack known st e =
      let x = points_of code slots tops xs solves long f.function fn st.function in
      let sol = solution_of code slots tops xs solves long f.function fn x.0 st.function x.1 in
      let within = slice_get_within fn.instrs f.instr i st.instr in
      let size = sol.1.long in
      let l = slice_get_inside x.0.before f.instr (omega arith) in
      let here = subst (λ z. Mean code slots fn f.registers z stack.0 now) (access_far fn f.instr i.act a f.made f.kept l.0 e) (stack.1 fn i x.0 l.0 st x.1 l.1) in
      let r = climb f fs fn stack.0 (guarded_by f.function f.instr a.store l.0) st.function stack.2 known (own f.function f.instr fn i x.0 l.0 a st x.1 l.1 e) here in
      record {
        row = r.row;
        guards = r.guards;
        function = r.function;
        instr = r.instr;
        store_is = r.store_is;
        held = λ mode n h. global_held code slots r.root (root_frame f fs).registers r.row r.before now r.means mode n h;
      }
