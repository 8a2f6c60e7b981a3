-- A constant that breaks no other rule is refused just where its tree would trap.
use Rattle.std.proofs.Common.{◌≡◌, ◌↔◌, ℕ, Bool, true, false, not, ◌&&◌, ◌||◌, [], Ok, Err, refl, sym, ◌∙◌}
use Rattle.rr_base.specs.declared.position.Position.{Position}
use Rattle.sync_objects.specs.Setup.{SetupView}
use Rattle.word_semantics.specs.Values.{word}
use Rattle.c_tree.specs.Tree.{Exp}
use Rattle.c_types.specs.declared.fault.FaultKind.TheVariants as fault
use Rattle.c_types.specs.Found.{where_it_comes}
use Rattle.c_types.specs.Numbers.{Computed}
use Rattle.c_types.specs.Constants.{is_constant}
use Rattle.c_types.specs.Standing.{no_target}
use Rattle.c_rules.specs.Faults.{first_place}
use Rattle.c_constants.specs.Values.{value_here}
use Rattle.c_rules.specs.Sizes.{is_trap, is_sound, constant_faults}
use Rattle.core_tree.specs.Core.{Program}
use Rattle.core_tree.specs.Meaning.{Calls, value}
use Rattle.core_tree.specs.Runs.{M, pure, result_at}
use Rattle.c_operators.specs.Context.{Context}
use Rattle.constant_sound.specs.Running.{worded}
use Rattle.constant_sound.specs.Written.{HidesNoConstant, literals_fit, written_of}
use Rattle.constant_sound.proofs.Expressions.{written_is}
use Rattle.constant_sound.proofs.Once.{never_traps}

module _ (p : Program) (s : SetupView) (t : ℕ) (calls : Calls) where
  by_value : (constant sound : Bool) (c : Computed) (line : ℕ) (m : M ℕ) (at : Position) → constant ≡ true → sound ≡ true → m ≡ result_at line (worded c) →
      (where_it_comes (not constant || (sound && is_trap c)) fault.NotConstant at ≡ []) ↔ ((w : ℕ) × (m ≡ pure w))
  by_value true true (Ok n) line m at k l e = (λ none. (word n, e), λ gives. refl)
  by_value true true (Err kind) line m at k l e = (λ none. cc, λ gives. never_traps p s t calls gives.0 kind line (sym gives.1 ∙ e))
  by_value true false c line m at k l e = cc
  by_value false sound c line m at k l e = cc

  pub refused : (h : Context) (e : Exp) → HidesNoConstant h.known → is_constant e ≡ true → literals_fit e ≡ true → is_sound h.known e ≡ true → (constant_faults h.known e ≡ []) ↔ ((w : ℕ) × (value p s t calls (written_of h e) ≡ pure w))
  refused h e own k l sound =
      let r = (written_is p s t calls h own no_target e k l).runs in
      by_value (is_constant e) (is_sound h.known e) (value_here h.known e) r.0 (value p s t calls (written_of h e)) (first_place e) k sound r.1
