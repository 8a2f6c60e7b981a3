-- The code of each expression makes its events.
use Rattle.std.proofs.Common.{◌≡◌, ℕ, ◌+◌, ◌≤◌, ◌<◌, Bool, true, false, cond, nat_le, pos, List, [], ◌∷◌, ◌++◌, length, Some, slice_get, refl, sym, ◌∙◌, ap, subst, arith}
use Rattle.std.proofs.lemmas.List.{length-set}
use Rattle.std.proofs.lemmas.Option.{slice_get_within}
use Rattle.sync_objects.specs.Setup.{SetupView}
use Rattle.rr_base.specs.declared.trap.Trap.TheVariants as trap
use Rattle.flow_code.specs.declared.act.Act.TheVariants as act
use Rattle.flow_code.specs.declared.act.Instr.{Instr}
use Rattle.word_semantics.specs.declared.library_call.LibraryCall.{LibraryCall}
use Rattle.word_semantics.specs.declared.event.Due.TheVariants as due
use Rattle.word_semantics.specs.Values.{number}
use Rattle.word_semantics.specs.Pointers.{pointer_at}
use Rattle.word_semantics.specs.Registers.{register}
use Rattle.flow_code.specs.Threads.{Frame, Thread}
use Rattle.word_semantics.specs.Cells.{size_of}
use Rattle.flow_code.specs.Next.{malloc_due, act_due, act_after, allocated}
use Rattle.word_semantics.specs.Registers.{words_of}
use Rattle.word_semantics.specs.Cells.{is_size, cells_in}
use Rattle.rr_base.specs.declared.position.Position.{Position}
use Rattle.core_tree.specs.Core as core
use Rattle.core_tree.specs.Core.{Exp, null, object, global, load, unary, binary, move, advance, member, between, to_pointer, to_number, copy, both, either, conditional, comma, set_register, store, change_register, change_cell, call, library, allocate, Exps, no_exp, and_exp, Function, Program}
use Rattle.core_tree.specs.Runs.{Run, State}
use Rattle.core_tree.specs.Meaning as meaning
use Rattle.core_tree.specs.Meaning.{Calls, value, values}
use Rattle.lowering_parts.specs.Kept.{assigns, any_assigns, loses, copied_if, kept, all_kept}
use Rattle.flow_lower.specs.Lowered.{held, instr, lowered, function_kinds, body_code, exp_kinds, exps_kinds, width, exp_size, exps_size, exp_code, exps_code, value_registers, library_code}
use Rattle.core_tree.specs.Within.{IsWithinExp, AreWithin}
use Rattle.lower_sound.specs.Follows.{Follows}
use Rattle.lower_sound.proofs.Machine.{same_register, other_register, Shows, act_of, line_at, by_quiet, by_trap}
use Rattle.lower_sound.proofs.Places.{HasAt, has_at, has_front, has_back}
use Rattle.lower_sound.proofs.Arriving.{top, Keeps, Arrives}
use Rattle.lower_sound.proofs.Lengths.{exp_length, exps_length}
use Rattle.lower_sound.proofs.Libraries.{library_follows}
use Rattle.lower_sound.proofs.Calling.{Serves}
use Rattle.lower_sound.proofs.Values as values
use Rattle.lower_sound.proofs.Values.{ExpFollows, held_stays, keeps_both}
use Rattle.lower_sound.proofs.Keeping.{assigns_kept, any_kept, never_lost}

module _ (p : Program) (s : SetupView) (t : ℕ) (i : ℕ) (f : Function) (is : slice_get p.functions i ≡ Some f) (callers : List Frame) (budget : ℕ) (calls : Calls) (serves : Serves p s t calls budget) where
  abbrev first : ℕ
  first = length f.pointers

  abbrev kinds : List Bool
  kinds = function_kinds f

  abbrev base : ℕ
  base = top p s t i f is callers budget

  abbrev pub Follow : Exp → Type 0
  Follow e = ExpFollows p s t i f is callers budget calls e

  abbrev IsThere : Exp → Type 0
  IsThere e = values.IsThere p s t i f is callers budget calls e

  -- several values have come into their registers
  pub record AllArrive (m n : Thread) (σ : State) (r : ℕ) (es : Exps) (ws : List ℕ) (pc : ℕ) : Type 0 where
    pub place : n.top.instr ≡ pc
    pub shows : Shows p s t i f is callers budget n σ
    pub words : words_of n.top.registers (value_registers first r es) ≡ ws
    pub lower : Keeps p s t i f is callers budget m n r (λ q. any_assigns q es)
    pub later : m.count ≤ n.count

  abbrev pub FollowAll : Exps → Type 0
  FollowAll es = (r pc : ℕ) (m : Thread) (σ : State) (k : List ℕ → State → Run) → HasAt (body_code f) pc (exps_code first es r pc) → HasAt kinds r (exps_kinds es) → base ≤ r → m.top.instr ≡ pc → Shows p s t i f is callers budget m σ
      → ((n : Thread) (ws : List ℕ) (σ' : State) → AllArrive m n σ' r es ws (pc + exps_size es) → Follows (lowered p) s t (k ws σ') n)
      → Follows (lowered p) s t (values p s t calls es σ k) m

  no_exp_follows : FollowAll no_exp
  no_exp_follows r pc m σ k code ks le e h go = go m [] σ (record { place = e ∙ omega arith; shows = h; words = refl; lower = λ q lt free. refl; later = omega arith })

  and_exp_follows : (e : Exp) (es : Exps) → Follow e → IsThere e → loses e (λ q. any_assigns q es) ≡ false → FollowAll es → FollowAll (and_exp e es)
  and_exp_follows e es follows there calm all r pc m σ k code ks le at h go =
      let code' = has_at (body_code f) (pc + length (exp_code first e r pc)) (pc + exp_size e) _ (ap (λ n. pc + n) (exp_length first e r pc)) (has_back (body_code f) pc (exp_code first e r pc) _ code) in
      follows r pc m σ _ (has_front (body_code f) pc (exp_code first e r pc) _ code) (has_front kinds r (exp_kinds e) (exps_kinds es) ks) le at h (λ n v σ' x.
      all (r + width e) (pc + exp_size e) n σ' _ code' (has_back kinds r (exp_kinds e) (exps_kinds es) ks) (omega (arith, le)) x.place x.shows (λ o ws σ'' y.
      go o (v ∷ ws) σ'' (record {
        place = y.place ∙ omega arith;
        shows = y.shows;
        words = ap (λ z. z ∷ words_of o.top.registers (value_registers first (r + width e) es)) (held_stays p s t i f is callers budget calls e r n o (λ q. any_assigns q es) there calm le y.lower ∙ x.value) ∙ ap (λ z. v ∷ z) y.words;
        lower = keeps_both p s t i f is callers budget calls m n o r r (r + width e) (λ q. assigns q e) (λ q. any_assigns q es) (omega arith) (omega arith) x.lower y.lower;
        later = omega (arith, x.later, y.later);
      })))

  -- ---- calls

  after_all : (es : Exps) (r pc : ℕ) (rest : List Instr) → HasAt (body_code f) pc (exps_code first es r pc ++ rest) → HasAt (body_code f) (pc + exps_size es) rest
  after_all es r pc rest h = has_at (body_code f) (pc + length (exps_code first es r pc)) (pc + exps_size es) rest (ap (λ n. pc + n) (exps_length first es r pc)) (has_back (body_code f) pc (exps_code first es r pc) rest h)

  within : (r : ℕ) (b : Bool) → slice_get kinds r ≡ Some b → r < length kinds
  within r b h = slice_get_within kinds r b h

  library_follows' : (c : LibraryCall) (es : Exps) (at : Position) → FollowAll es → Follow (library c es at)
  library_follows' c es at all r pc m σ k code ks le e h go =
      all (r + 1) pc m σ _ (has_front (body_code f) pc (exps_code first es (r + 1) pc) _ code) ks.1 (omega (arith, le)) e h (λ n ws σ' x.
      library_follows p s t i f is callers budget c n at (value_registers first (r + 1) es) r ws σ' k
      (has_at (body_code f) (pc + exps_size es) n.top.instr (library_code at r c (value_registers first (r + 1) es)) (sym x.place) (after_all es (r + 1) pc _ code)) x.words x.shows le (within r false ks.0) (λ o v σ'' place shows is_v others later.
      go o v σ'' (record {
        place = place ∙ omega (arith, x.place);
        shows = shows;
        value = is_v;
        lower = λ q lt free. others q (λ z. omega (arith, lt)) ∙ x.lower q (omega (arith, lt)) free;
        later = omega (arith, x.later, later);
      })))

  -- `malloc`
  allocate_follows : (site : ℕ) (a : Exp) (at : Position) → Follow a → Follow (allocate site a at)
  allocate_follows site a at follows r pc m σ k code ks le e h go =
      follows (r + 1) pc m σ _ (has_front (body_code f) pc (exp_code first a (r + 1) pc) _ code) ks.1 (omega (arith, le)) e h (λ n w σ' x.
      by n w σ' x (is_size (size_of p.sites site) (number w)) (nat_le (σ'.arena + cells_in (number w)) (meaning.arena_end p s t)) refl refl)
    where
      code' : slice_get (body_code f) (pc + exp_size a) ≡ Some (instr at (act.Alloc r site (Some (held first a (r + 1)))))
      code' = (has_at (body_code f) (pc + length (exp_code first a (r + 1) pc)) (pc + exp_size a) (instr at (act.Alloc r site (Some (held first a (r + 1)))) ∷ []) (ap (λ n. pc + n) (exp_length first a (r + 1) pc)) (has_back (body_code f) pc (exp_code first a (r + 1) pc) _ code)).0

      due_here : (n : Thread) (w : ℕ) (σ' : State) → Arrives p s t i f is callers budget m n σ' (r + 1) (held first a (r + 1)) w (λ q. assigns q a) (pc + exp_size a) → act_due (lowered p) s t n (Some (act.Alloc r site (Some (held first a (r + 1))))) ≡ malloc_due (size_of p.sites site) σ'.arena (meaning.arena_end p s t) (number w)
      due_here n w σ' x = ap (λ z. malloc_due (size_of p.sites site) z (meaning.arena_end p s t) (number (register n.top.registers (held first a (r + 1))))) x.shows.arena ∙ ap (λ z. malloc_due (size_of p.sites site) σ'.arena (meaning.arena_end p s t) (number z)) x.value

      after_here : (n : Thread) (w : ℕ) (σ' : State) → Arrives p s t i f is callers budget m n σ' (r + 1) (held first a (r + 1)) w (λ q. assigns q a) (pc + exp_size a) → act_after (lowered p) s t n (Some (act.Alloc r site (Some (held first a (r + 1))))) (pos 0) ≡ allocated n r site (cells_in (number w))
      after_here n w σ' x = ap (λ z. allocated n r site (cells_in (number z))) x.value

      fetched : (n : Thread) (w : ℕ) (σ' : State) → Arrives p s t i f is callers budget m n σ' (r + 1) (held first a (r + 1)) w (λ q. assigns q a) (pc + exp_size a) → slice_get (body_code f) n.top.instr ≡ Some (instr at (act.Alloc r site (Some (held first a (r + 1)))))
      fetched n w σ' x = ap (slice_get (body_code f)) x.place ∙ code'

      by : (n : Thread) (w : ℕ) (σ' : State) → Arrives p s t i f is callers budget m n σ' (r + 1) (held first a (r + 1)) w (λ q. assigns q a) (pc + exp_size a) → (b c : Bool) → is_size (size_of p.sites site) (number w) ≡ b → nat_le (σ'.arena + cells_in (number w)) (meaning.arena_end p s t) ≡ c
          → Follows (lowered p) s t (cond b (cond c (k (pointer_at site σ'.arena (cells_in (number w))) (record σ' { arena = σ'.arena + cells_in (number w) })) (Run.traps trap.ArenaFull at.line)) (Run.traps trap.BadSize at.line)) n
      by n w σ' x false c is_b is_c =
          by_trap p s t i f is callers budget n σ' at (act.Alloc r site (Some (held first a (r + 1)))) trap.BadSize x.shows (fetched n w σ' x)
          (due_here n w σ' x ∙ ap (λ b. cond b (cond (nat_le (σ'.arena + cells_in (number w)) (meaning.arena_end p s t)) due.Quiet (due.Trap trap.ArenaFull)) (due.Trap trap.BadSize)) is_b)
      by n w σ' x true false is_b is_c =
          by_trap p s t i f is callers budget n σ' at (act.Alloc r site (Some (held first a (r + 1)))) trap.ArenaFull x.shows (fetched n w σ' x)
          (due_here n w σ' x ∙ ap (λ b. cond b (cond (nat_le (σ'.arena + cells_in (number w)) (meaning.arena_end p s t)) due.Quiet (due.Trap trap.ArenaFull)) (due.Trap trap.BadSize)) is_b ∙ ap (λ c. cond c due.Quiet (due.Trap trap.ArenaFull)) is_c)
      by n w σ' x true true is_b is_c =
          let v = pointer_at site σ'.arena (cells_in (number w)) in
          let same_v = ap (λ z. pointer_at site z (cells_in (number w))) x.shows.arena in
          let n' = allocated n r site (cells_in (number w)) in
          by_quiet p s t i f is callers budget _ n n' σ' at (act.Alloc r site (Some (held first a (r + 1)))) x.shows (fetched n w σ' x)
          (due_here n w σ' x ∙ ap (λ b. cond b (cond (nat_le (σ'.arena + cells_in (number w)) (meaning.arena_end p s t)) due.Quiet (due.Trap trap.ArenaFull)) (due.Trap trap.BadSize)) is_b ∙ ap (λ c. cond c due.Quiet (due.Trap trap.ArenaFull)) is_c)
          (after_here n w σ' x)
          (go n' v (record σ' { arena = σ'.arena + cells_in (number w) }) (record {
            place = ap (λ z. z + 1) x.place ∙ omega arith;
            shows = record {
              function = x.shows.function;
              made = refl;
              kept = refl;
              phase = x.shows.phase;
              below = x.shows.below;
              stripes = x.shows.stripes;
              size = length-set n.top.registers r (pointer_at site n.arena (cells_in (number w))) ∙ x.shows.size;
              registers = λ q lt. other_register n.top.registers r (pointer_at site n.arena (cells_in (number w))) q (λ z. omega (arith, lt, le)) ∙ x.shows.registers q lt;
              objects = λ q lt. other_register n.top.registers r (pointer_at site n.arena (cells_in (number w))) (length f.pointers + q) (λ z. omega (arith, lt, le)) ∙ x.shows.objects q lt;
              count = x.shows.count;
              arena = ap (λ z. z + cells_in (number w)) x.shows.arena;
              printed = x.shows.printed;
              depth = x.shows.depth;
              small = x.shows.small;
              enough = x.shows.enough;
            };
            value = same_register n.top.registers r (pointer_at site n.arena (cells_in (number w))) (omega (arith, x.shows.size, within r true ks.0)) ∙ same_v;
            lower = λ q lt free. other_register n.top.registers r (pointer_at site n.arena (cells_in (number w))) q (λ z. omega (arith, lt)) ∙ x.lower q (omega (arith, lt)) free;
            later = x.later;
          }))

  -- a call of a function of the tree
  call_follows : (g : ℕ) (es : Exps) (pointer : Bool) (at : Position) → g < length p.functions → FollowAll es → Follow (call g es pointer at)
  call_follows g es pointer at there all r pc m σ k code ks le e h go =
      all (r + 1) pc m σ _ (has_front (body_code f) pc (exps_code first es (r + 1) pc) _ code) ks.1 (omega (arith, le)) e h (λ n ws σ' x.
      let fetched = ap (slice_get (body_code f)) x.place ∙ (after_all es (r + 1) pc _ code).0 in
      subst (λ z. Follows (lowered p) s t (calls g z at.line σ' k) n) x.words
      (serves g r (value_registers first (r + 1) es) at.line n σ' k there (act_of p s t i f is callers budget n σ' at (act.Call g (value_registers first (r + 1) es) (Some r)) x.shows fetched)
      (line_at p s t i f is callers budget n σ' at (act.Call g (value_registers first (r + 1) es) (Some r)) x.shows fetched) x.shows.phase x.shows.stripes x.shows.count x.shows.arena x.shows.printed
      (x.shows.depth ∙ ap (λ z. length z + 1) (sym x.shows.below)) x.shows.small x.shows.enough
      (λ v o σ'' y. go o v σ'' (record {
        place = ap (λ z. z.instr) y.top ∙ omega (arith, x.place);
        shows = record {
          function = ap (λ z. z.function) y.top ∙ x.shows.function;
          made = ap (λ z. z.made) y.top;
          kept = ap (λ z. z.kept) y.top;
          phase = y.phase;
          below = y.below ∙ x.shows.below;
          stripes = y.stripes;
          size = ap (λ z. length z.registers) y.top ∙ length-set n.top.registers r v ∙ x.shows.size;
          registers = λ q lt. ap (λ z. register z.registers q) y.top ∙ other_register n.top.registers r v q (λ z. omega (arith, lt, le)) ∙ x.shows.registers q lt ∙ sym (y.registers q);
          objects = λ q lt. ap (λ z. register z.registers (length f.pointers + q)) y.top ∙ other_register n.top.registers r v (length f.pointers + q) (λ z. omega (arith, lt, le)) ∙ x.shows.objects q lt ∙ sym (y.objects q);
          count = y.count;
          arena = y.arena;
          printed = y.printed;
          depth = y.depth ∙ x.shows.depth;
          small = y.small;
          enough = omega (arith, x.shows.enough, y.later);
        };
        value = ap (λ z. register z.registers r) y.top ∙ same_register n.top.registers r v (omega (arith, x.shows.size, within r pointer ks.0));
        lower = λ q lt free. ap (λ z. register z.registers q) y.top ∙ other_register n.top.registers r v q (λ z. omega (arith, lt)) ∙ x.lower q (omega (arith, lt)) free;
        later = omega (arith, x.later, y.later);
      }))))

  abbrev Within : Exp → Type 0
  Within e = IsWithinExp f.pointers (length f.objects) (length p.functions) e

  -- what a register or an object is named is there
  there_kept : (e : Exp) → Within e → IsThere (kept e)
  there_kept (core.number z at) w = tt
  there_kept (null at) w = tt
  there_kept (core.global address at) w = tt
  there_kept (core.register n pointer at) w = w
  there_kept (object n at) w = w
  there_kept (load a pointer at) w = tt
  there_kept (unary o a at) w = tt
  there_kept (binary o a b at) w = tt
  there_kept (move a b element back at) w = tt
  there_kept (advance a b element at) w = tt
  there_kept (member a n at) w = tt
  there_kept (between a b element at) w = tt
  there_kept (to_pointer a at) w = tt
  there_kept (to_number a at) w = tt
  there_kept (copy a at) w = tt
  there_kept (both a b at) w = tt
  there_kept (either a b at) w = tt
  there_kept (conditional a b c at) w = tt
  there_kept (comma a b at) w = tt
  there_kept (set_register n a at) w = tt
  there_kept (store a b at) w = tt
  there_kept (change_register n c b old at) w = tt
  there_kept (change_cell a loaded c b old at) w = tt
  there_kept (call g es pointer at) w = tt
  there_kept (library c es at) w = tt
  there_kept (allocate site a at) w = tt

  -- an operand before others, with the copy that it may need
  front_there : (lost : Bool) (at : Position) (a : Exp) → Within a → IsThere (copied_if lost at (kept a))
  front_there lost at a w = values.copied_there p s t i f is callers budget calls lost (kept a) at (there_kept a w)

  abbrev lost_to : Exp → Exp → Bool
  lost_to a b = loses a (λ q. assigns q b)

  abbrev front : Exp → Exp → Position → Exp
  front a b at = copied_if (lost_to a b) at (kept a)

  calm : (a b : Exp) (at : Position) → loses (front a b at) (λ q. assigns q (kept b)) ≡ false
  calm a b at = never_lost a at (λ q. assigns q b) (λ q. assigns q (kept b)) (λ q. assigns_kept q b)

  front_follows : (lost : Bool) (at : Position) (a : Exp) → Follow (kept a) → Follow (copied_if lost at (kept a))
  front_follows lost at a follows = values.copied_follows p s t i f is callers budget calls lost (kept a) at follows

  mutual
    -- the code of an expression with its copies makes the events of that expression
    pub exp_follows : (e : Exp) → Within e → Follow (kept e)
    exp_follows (core.number z at) w = values.number_follows p s t i f is callers budget calls z at
    exp_follows (null at) w = values.null_follows p s t i f is callers budget calls at
    exp_follows (core.register n pointer at) w = values.register_follows p s t i f is callers budget calls n pointer at (slice_get_within f.pointers n pointer w)
    exp_follows (object n at) w = values.object_follows p s t i f is callers budget calls n at w
    exp_follows (global address at) w = values.global_follows p s t i f is callers budget calls address at
    exp_follows (load e pointer at) w = values.load_follows p s t i f is callers budget calls (kept e) pointer at (exp_follows e w)
    exp_follows (unary o e at) w = values.unary_follows p s t i f is callers budget calls o (kept e) at (exp_follows e w)
    exp_follows (binary o a b at) w = values.binary_follows p s t i f is callers budget calls o (front a b at) (kept b) at (front_follows (lost_to a b) at a (exp_follows a w.0)) (exp_follows b w.1) (front_there (lost_to a b) at a w.0) (calm a b at)
    exp_follows (move a b element back at) w = values.move_follows p s t i f is callers budget calls (front a b at) (kept b) element back at (front_follows (lost_to a b) at a (exp_follows a w.0)) (exp_follows b w.1) (front_there (lost_to a b) at a w.0) (calm a b at)
    exp_follows (advance a b element at) w = values.advance_follows p s t i f is callers budget calls (front a b at) (kept b) element at (front_follows (lost_to a b) at a (exp_follows a w.0)) (exp_follows b w.1) (front_there (lost_to a b) at a w.0) (calm a b at)
    exp_follows (member a by at) w = values.member_follows p s t i f is callers budget calls (kept a) by at (exp_follows a w)
    exp_follows (between a b element at) w = values.between_follows p s t i f is callers budget calls (front a b at) (kept b) element at (front_follows (lost_to a b) at a (exp_follows a w.0)) (exp_follows b w.1) (front_there (lost_to a b) at a w.0) (calm a b at)
    exp_follows (to_pointer a at) w = values.to_pointer_follows p s t i f is callers budget calls (kept a) at (exp_follows a w)
    exp_follows (to_number a at) w = values.to_number_follows p s t i f is callers budget calls (kept a) at (exp_follows a w)
    exp_follows (copy a at) w = values.copy_follows p s t i f is callers budget calls (kept a) at (exp_follows a w)
    exp_follows (both a b at) w = values.both_follows p s t i f is callers budget calls (kept a) (kept b) at (exp_follows a w.0) (exp_follows b w.1)
    exp_follows (either a b at) w = values.either_follows p s t i f is callers budget calls (kept a) (kept b) at (exp_follows a w.0) (exp_follows b w.1)
    exp_follows (conditional a b c at) w = values.conditional_follows p s t i f is callers budget calls (kept a) (kept b) (kept c) at (exp_follows a w.0) (exp_follows b w.1) (exp_follows c w.2)
    exp_follows (comma a b at) w = values.comma_follows p s t i f is callers budget calls (kept a) (kept b) at (exp_follows a w.0) (exp_follows b w.1)
    exp_follows (set_register n a at) w = values.set_register_follows p s t i f is callers budget calls n (kept a) at w.0 (exp_follows a w.1)
    exp_follows (store a b at) w = values.store_follows p s t i f is callers budget calls (front a b at) (kept b) at (front_follows (lost_to a b) at a (exp_follows a w.0)) (exp_follows b w.1) (front_there (lost_to a b) at a w.0) (there_kept b w.1) (calm a b at)
    exp_follows (change_register n c b old at) w = values.change_register_follows p s t i f is callers budget calls n c (kept b) old at w.0 (exp_follows b w.1)
    exp_follows (change_cell a loaded c b old at) w = values.change_cell_follows p s t i f is callers budget calls (front a b at) loaded c (kept b) old at (front_follows (lost_to a b) at a (exp_follows a w.0)) (exp_follows b w.1) (front_there (lost_to a b) at a w.0) (calm a b at)
    exp_follows (call g es pointer at) w = call_follows g (all_kept at es) pointer at w.0 (exps_follow at es w.1)
    exp_follows (library c es at) w = library_follows' c (all_kept at es) at (exps_follow at es w)
    exp_follows (allocate site a at) w = allocate_follows site (kept a) at (exp_follows a w)

    pub exps_follow : (at : Position) (es : Exps) → AreWithin f.pointers (length f.objects) (length p.functions) es → FollowAll (all_kept at es)
    exps_follow at no_exp w = no_exp_follows
    exps_follow at (and_exp e es) w =
        let lost = loses e (λ q. any_assigns q es) in
        and_exp_follows (copied_if lost at (kept e)) (all_kept at es) (front_follows lost at e (exp_follows e w.0)) (front_there lost at e w.0)
        (never_lost e at (λ q. any_assigns q es) (λ q. any_assigns q (all_kept at es)) (λ q. any_kept q at es)) (exps_follow at es w.1)
