-- What holds where the value of an expression has come into its register.
use Rattle.std.proofs.Common.{◌≡◌, ℕ, ◌+◌, ◌≤◌, ◌<◌, Bool, true, false, List, length, Some, slice_get, slice_set, nat_eq, cond, refl, ◌∙◌, ap, arith}
use Rattle.std.proofs.lemmas.List.{length-set}
use Rattle.std.proofs.lemmas.Bool.Decides.{nat_tests}
use Rattle.sync_objects.specs.Setup.{SetupView}
use Rattle.word_semantics.specs.Registers.{register}
use Rattle.flow_code.specs.Threads.{Frame, Thread}
use Rattle.flow_code.specs.Next.{one_more, in_frame, past}
use Rattle.core_tree.specs.Core.{Function, Program}
use Rattle.core_tree.specs.Runs.{State, counted, with_value}
use Rattle.flow_lower.specs.Lowered.{function_kinds}
use Rattle.lower_sound.proofs.Machine.{same_register, other_register, Shows}
use Rattle.lower_sound.proofs.Events.{sets, goes_to}

module _ (p : Program) (s : SetupView) (t : ℕ) (i : ℕ) (f : Function) (is : slice_get p.functions i ≡ Some f) (callers : List Frame) (budget : ℕ) where
  -- the first register of a value
  abbrev pub top : ℕ
  top = length f.pointers + length f.objects

  -- the registers below r are as they were, but for those named ones that are assigned
  abbrev pub Keeps : Thread → Thread → ℕ → (assigned : ℕ → Bool) → Type 0
  Keeps m n r assigned = (q : ℕ) → q < r → (q < length f.pointers → assigned q ≡ false) → register n.top.registers q ≡ register m.top.registers q

  -- from m the thread has come to n, with the value v in the register x; registers from r on were free
  pub record Arrives (m n : Thread) (σ : State) (r x v : ℕ) (assigned : ℕ → Bool) (pc : ℕ) : Type 0 where
    pub place : n.top.instr ≡ pc
    pub shows : Shows p s t i f is callers budget n σ
    pub value : register n.top.registers x ≡ v
    pub lower : Keeps m n r assigned
    pub later : m.count ≤ n.count

  -- a register of a value has no part in what is shown
  pub shows_set : (m : Thread) (σ : State) (r v : ℕ) → top ≤ r → Shows p s t i f is callers budget m σ → Shows p s t i f is callers budget (sets m r v) σ
  shows_set m σ r v le h = record {
    function = h.function;
    made = refl;
    kept = refl;
    phase = h.phase;
    below = h.below;
    stripes = h.stripes;
    size = length-set m.top.registers r v ∙ h.size;
    registers = λ n lt. other_register m.top.registers r v n (λ e. omega arith) ∙ h.registers n lt;
    objects = λ k lt. other_register m.top.registers r v (length f.pointers + k) (λ e. omega arith) ∙ h.objects k lt;
    count = h.count;
    arena = h.arena;
    printed = h.printed;
    depth = h.depth;
    small = h.small;
    enough = h.enough;
  }

  -- a named register gets a value
  pub shows_written : (m : Thread) (σ : State) (n v : ℕ) → n < length f.pointers → top ≤ length (function_kinds f) → Shows p s t i f is callers budget m σ → Shows p s t i f is callers budget (sets m n v) (record σ { registers = with_value σ.registers n v })
  shows_written m σ n v lt fits h = record {
    function = h.function;
    made = refl;
    kept = refl;
    phase = h.phase;
    below = h.below;
    stripes = h.stripes;
    size = length-set m.top.registers n v ∙ h.size;
    registers = λ q ltq. written q ltq (nat_eq q n) refl;
    objects = λ k ltk. other_register m.top.registers n v (length f.pointers + k) (λ e. omega arith) ∙ h.objects k ltk;
    count = h.count;
    arena = h.arena;
    printed = h.printed;
    depth = h.depth;
    small = h.small;
    enough = h.enough;
  }
    where
      written : (q : ℕ) → q < length f.pointers → (b : Bool) → nat_eq q n ≡ b → register (slice_set m.top.registers n v) q ≡ cond b v (σ.registers q)
      written q ltq true e = let same : q ≡ n = grind (arith, nat_tests) in ap (register (slice_set m.top.registers n v)) same ∙ same_register m.top.registers n v (omega (arith, h.size, lt, fits))
      written q ltq false e = other_register m.top.registers n v q (λ same. grind (arith, nat_tests)) ∙ h.registers q ltq

  -- one event more
  pub shows_counted : (m : Thread) (σ : State) → m.count < s.limit → Shows p s t i f is callers budget m σ → Shows p s t i f is callers budget (one_more m) (counted σ)
  shows_counted m σ low h = record {
    function = h.function;
    made = h.made;
    kept = h.kept;
    phase = h.phase;
    below = h.below;
    stripes = h.stripes;
    size = h.size;
    registers = h.registers;
    objects = h.objects;
    count = ap (λ c. c + 1) h.count;
    arena = h.arena;
    printed = h.printed;
    depth = h.depth;
    small = omega (arith, low);
    enough = omega (arith, h.enough);
  }

  pub shows_past : (m : Thread) (σ : State) → Shows p s t i f is callers budget m σ → Shows p s t i f is callers budget (in_frame m (past m.top)) σ
  shows_past m σ h = record {
    function = h.function;
    made = refl;
    kept = refl;
    phase = h.phase;
    below = h.below;
    stripes = h.stripes;
    size = h.size;
    registers = h.registers;
    objects = h.objects;
    count = h.count;
    arena = h.arena;
    printed = h.printed;
    depth = h.depth;
    small = h.small;
    enough = h.enough;
  }

  -- at another instruction
  pub shows_at : (m : Thread) (σ : State) (pc : ℕ) → Shows p s t i f is callers budget m σ → Shows p s t i f is callers budget (goes_to m pc) σ
  shows_at m σ pc h = record {
    function = h.function;
    made = refl;
    kept = refl;
    phase = h.phase;
    below = h.below;
    stripes = h.stripes;
    size = h.size;
    registers = h.registers;
    objects = h.objects;
    count = h.count;
    arena = h.arena;
    printed = h.printed;
    depth = h.depth;
    small = h.small;
    enough = h.enough;
  }

  -- a value comes into register r, with those of its parts after it
  pub puts : (m n : Thread) (σ : State) (r v : ℕ) (assigned : ℕ → Bool) (pc : ℕ) → top ≤ r → r < length (function_kinds f) → Shows p s t i f is callers budget n σ → Keeps m n r assigned → m.count ≤ n.count → n.top.instr + 1 ≡ pc → Arrives m (sets n r v) σ r r v assigned pc
  puts m n σ r v assigned pc le lt h keeps later place = record {
    place = place;
    shows = shows_set n σ r v le h;
    value = same_register n.top.registers r v (omega (arith, h.size, lt));
    lower = λ q ltq free. other_register n.top.registers r v q (λ e. omega arith) ∙ keeps q ltq free;
    later = later;
  }

  pub puts_counted : (m n : Thread) (σ : State) (r v : ℕ) (assigned : ℕ → Bool) (pc : ℕ) → top ≤ r → r < length (function_kinds f) → Shows p s t i f is callers budget n σ → Keeps m n r assigned → m.count ≤ n.count → n.top.instr + 1 ≡ pc → n.count < s.limit → Arrives m (one_more (sets n r v)) (counted σ) r r v assigned pc
  puts_counted m n σ r v assigned pc le lt h keeps later place low =
      let a = puts m n σ r v assigned pc le lt h keeps later place in
      record { place = a.place; shows = shows_counted (sets n r v) σ low a.shows; value = a.value; lower = a.lower; later = omega (arith, later) }
