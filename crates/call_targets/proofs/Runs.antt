-- A resolved core tree does what the tree with its pointers does.
use Rattle.std.proofs.Common.{◌≡◌, ℕ, zero, suc, ◌+◌, ◌%◌, ◌^◌, Bool, true, false, cond, if◌then◌else◌, nat_eq, nat_le, Err, ℤ, List, [], ◌∷◌, ◌++◌, length, map, Option, Some, None, find, slice_get, refl, sym, ◌∙◌, ap}
use mathlib.Core.Path.{fun_ext}
use Rattle.sync_objects.specs.Setup.{SetupView}
use Rattle.sync_objects.specs.declared.object.ObjId.TheVariants as object_id
use Rattle.sync_objects.specs.declared.operation.Op.TheVariants as op
use Rattle.rr_base.specs.declared.position.Position.{Position}
use Rattle.rr_base.specs.declared.layout.CellKind.{CellKind}
use Rattle.rr_base.specs.declared.layout.Site.{Site}
use Rattle.rr_base.specs.declared.trap.Trap.TheVariants as trap
use Rattle.rr_base.specs.Words.{site_of, offset_of, cell_of}
use Rattle.word_semantics.specs.declared.event.Action.TheVariants as action
use Rattle.word_semantics.specs.Library.{count_in}
use Rattle.word_semantics.specs.Cells.{argument_cell, access_kind}
use Rattle.word_semantics.specs.Pointers as pointers
use Rattle.word_semantics.specs.Pointers.{site_at, is_kind, kind_in, of_kind}
use Rattle.word_semantics.specs.Values.{word, truth}
use Rattle.core_tree.specs.Core.{listed, gives, listed_statements, Pointer, Program}
use Rattle.core_tree.specs.Runs.{Run, traps, ends, State, M, ◌>>=◌, ◌>>◌, pure, event, read_register, choose}
use Rattle.core_tree.specs.Meaning.{Calls, Completion, goes, word_given, line_given, enter, left, finish, place_of, returns, if_goes, Callee, defined, pointed, callees, is_start, function_word, target_of, line_of_callee, main_of, values, meaning, meanings, read_registers, load_in, target_called, body_of, called, calls_of, first_function, start, thread_of, run_of}
use Rattle.call_targets.specs.Resolved as target
use Rattle.call_targets.specs.Resolved.{formals_from, choices, chooser, resolved}
use Rattle.call_targets.proofs.Places.{callee_at, main_stays}

-- nothing lies where the null pointer points
null_traps : (sites : List Site) (want : CellKind) → pointers.resolved sites 0 want ≡ Err trap.BadDereference
null_traps sites want = by (nat_le 0 (length sites))
  where
    by : (b : Bool) → of_kind (cell_of (if b then 0 else 0 % 2 ^ 54)) (is_kind (kind_in (site_at sites (site_of 0)) (offset_of 0)) want) ≡ Err trap.BadDereference
    by true = refl
    by false = refl

module _ (p : Program) (s : SetupView) (t : ℕ) where
  -- the formals that are passed on
  passed : (calls : Calls) (r : ℕ) (kinds : List Bool) (at : Position) → values (resolved p) s t calls (listed (formals_from r kinds at)) ≡ read_registers p s t (length kinds) r
  passed calls r [] at = refl
  passed calls r (pointer ∷ more) at = ap (λ (m : M (List ℕ)). read_register r >>= λ w. m >>= λ ws. pure (w ∷ ws)) (passed calls (r + 1) more at)

  -- reading registers is no event
  read_quietly : (n r : ℕ) (σ : State) (x : Run) → read_registers p s t n r σ (λ ws σ'. x) ≡ x
  read_quietly zero r σ x = refl
  read_quietly (suc n) r σ x = read_quietly n (r + 1) σ x

  module _ (calls : Calls) (q : Pointer) where
    -- what is done at a type's targets, from some on
    abbrev from : List ℕ → M Completion
    from ns = read_register 0 >>= λ w. read_registers p s t (length q.kinds) 1 >>= λ ws. target_called p s t calls q.place.line ws (target_of ns w)

    chosen : (ns : List ℕ) (σ : State) (k : Completion → State → Run) → meanings (resolved p) s t calls (listed_statements (choices q ns)) σ k ≡ from ns σ k
    chosen [] σ k = ap (λ r. load_in p s t q.place.line r σ (λ w σ'. k goes σ')) (null_traps p.sites (access_kind false)) ∙ sym (read_quietly (length q.kinds) 1 σ (traps trap.BadDereference q.place.line))
    chosen (n ∷ ns) σ k = by (nat_eq (σ.registers 0) (function_word n)) (chosen ns σ k)
      where
        by : (b : Bool) → meanings (resolved p) s t calls (listed_statements (choices q ns)) σ k ≡ from ns σ k
            → choose (truth b) (meaning (resolved p) s t calls (gives (Some (target.target_called q n)) q.place)) (pure goes) σ (λ f σ'. if_goes f (meanings (resolved p) s t calls (listed_statements (choices q ns))) σ' k)
            ≡ read_registers p s t (length q.kinds) 1 σ (λ ws σ'. target_called p s t calls q.place.line ws (cond b (Some n) (target_of ns (σ.registers 0))) σ' k)
        by true more = ap (λ (m : M (List ℕ)). m σ (λ ws σ'. calls n ws q.place.line σ' (λ w σ''. k (returns w q.place.line) σ''))) (passed calls 1 q.kinds q.place)
        by false more = more

    same_body : (n : ℕ) → body_of p s t calls (defined (chooser n q)) ≡ body_of p s t calls (pointed q)
    same_body n = fun_ext (λ σ. fun_ext (λ k. chosen q.targets σ k))

  same_call : (calls : Calls) (ws : List ℕ) (line n : ℕ) (q : Pointer) → called p s t calls (Some (defined (chooser n q))) ws line ≡ called p s t calls (Some (pointed q)) ws line
  same_call calls ws line n q =
      let around : M Completion → M ℕ = λ m σ. (enter p s t (pointed q) ws line >> (m >>= λ flow inner k. k (word_given flow) (left σ inner))) σ in
      ap around (same_body calls q n)

  -- calls nested so deep
  calls_same : (n : ℕ) → calls_of (resolved p) s t n ≡ calls_of p s t n
  calls_same zero = refl
  calls_same (suc n) =
      fun_ext (λ c. fun_ext (λ ws. fun_ext (λ line.
      callee_at (λ o. called p s t (calls_of (resolved p) s t n) o ws line) (same_call (calls_of (resolved p) s t n) ws line) p c
      ∙ ap (λ (calls : Calls). called p s t calls (slice_get (callees p) c) ws line) (calls_same n))))

  abbrev first_by : Calls → Option Callee → List ℕ → M (Unit {0})
  first_by calls None ws = event s.limit 0 action.Mark >> pure tt
  first_by calls (Some c) ws = enter p s t c ws (place_of c).line >> (body_of p s t calls c >>= λ flow. finish p s t (is_start c) (line_given (place_of c).line flow) (word_given flow))

  first_same : (o : Option Callee) (ws : List ℕ) → first_function (resolved p) s t o ws ≡ first_function p s t o ws
  first_same None ws = refl
  first_same (Some c) ws = ap (λ (calls : Calls). first_by calls (Some c) ws) (calls_same s.limit)

  first_choice : (ws : List ℕ) (n : ℕ) (q : Pointer) → first_function p s t (Some (defined (chooser n q))) ws ≡ first_function p s t (Some (pointed q)) ws
  first_choice ws n q =
      ap (λ (m : M Completion). enter p s t (pointed q) ws q.place.line >> (m >>= λ flow. finish p s t false (line_given q.place.line flow) (word_given flow))) (same_body (calls_of p s t s.limit) q n)

  first_at : (c : ℕ) (ws : List ℕ) → first_function (resolved p) s t (slice_get (callees (resolved p)) c) ws ≡ first_function p s t (slice_get (callees p) c) ws
  first_at c ws = first_same (slice_get (callees (resolved p)) c) ws ∙ callee_at (λ o. first_function p s t o ws) (first_choice ws) p c

  -- a thread that isn't the first loads its argument before
  starts_at : (c : ℕ) → (event s.limit (line_of_callee (slice_get (callees (resolved p)) c)) (action.Load (argument_cell t)) >>= λ w. first_function (resolved p) s t (slice_get (callees (resolved p)) c) (word w ∷ []))
      ≡ (event s.limit (line_of_callee (slice_get (callees p) c)) (action.Load (argument_cell t)) >>= λ w. first_function p s t (slice_get (callees p) c) (word w ∷ []))
  starts_at c =
      ap (λ (line : ℕ). event s.limit line (action.Load (argument_cell t)) >>= λ w. first_function (resolved p) s t (slice_get (callees (resolved p)) c) (word w ∷ [])) (callee_at line_of_callee (λ n q. refl) p c)
      ∙ ap (λ (h : ℤ → M (Unit {0})). event s.limit (line_of_callee (slice_get (callees p) c)) (action.Load (argument_cell t)) >>= h) (fun_ext (λ w. first_at c (word w ∷ [])))

  thread_same : (n : ℕ) → thread_of (resolved p) s t n ≡ thread_of p s t n
  thread_same zero = ap (λ c. first_function (resolved p) s t (slice_get (callees (resolved p)) c) []) (main_stays p) ∙ first_at (main_of p) []
  thread_same (suc n) = ap (λ (h : ℤ → M (Unit {0})). event s.limit 0 (action.Operate op.Begin (object_id.Slot t)) >>= h) (fun_ext (λ f. starts_at (count_in f)))

-- each thread makes the same events, whatever is answered
pub same_runs : (p : Program) (s : SetupView) (t : ℕ) → run_of (resolved p) s t ≡ run_of p s t
same_runs p s t = ap (λ (m : M (Unit {0})). m (start p s t) (λ u σ. ends)) (thread_same p s t t)
