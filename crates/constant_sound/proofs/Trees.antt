-- The core tree of an operator computes what folding gives, where the trees of its operands do.
use Rattle.std.proofs.Common.{◌≡◌, ℕ, ◌==◌, Bool, true, false, not, if◌then◌else◌, ℤ, pos, Ok, Err, refl, sym, ap, ◌∙◌, subst}
use Rattle.std.proofs.lemmas.Bool.{and_from}
use Rattle.rr_base.specs.declared.position.Position.{Position}
use Rattle.sync_objects.specs.Setup.{SetupView}
use Rattle.word_semantics.specs.declared.operator.BinaryOp.{BinaryOp as FlowOp}
use Rattle.word_semantics.specs.declared.operator.BinaryOp.TheVariants as flow
use Rattle.word_semantics.specs.Operators.{either_binary_of}
use Rattle.word_semantics.specs.Values as running
use Rattle.word_semantics.specs.Values.{word, fits, is_zero, binary_of}
use Rattle.c_tree.specs.declared.expr.BinaryOp.{BinaryOp}
use Rattle.c_tree.specs.declared.expr.BinaryOp.TheVariants as op
use Rattle.c_tree.specs.declared.expr.PrefixOp.{PrefixOp}
use Rattle.c_tree.specs.declared.expr.PrefixOp.TheVariants as prefix_op
use Rattle.c_types.specs.Numbers as folding
use Rattle.c_types.specs.Numbers.{Computed, computed, prefixed}
use Rattle.c_types.specs.Constants.{and_then, binary_value, is_of_numbers}
use Rattle.c_types.specs.Operands.{Standing, is_whole}
use Rattle.core_tree.specs.declared.value.UnaryOp.{UnaryOp}
use Rattle.core_tree.specs.declared.value.UnaryOp.TheVariants as unary_op
use Rattle.core_tree.specs.Core as core
use Rattle.core_tree.specs.Core.{Program}
use Rattle.core_tree.specs.Meaning.{Calls, value, is_pointer, unary_of}
use Rattle.core_tree.specs.Runs.{M, ◌>>=◌, pure, result_at, choose}
use Rattle.c_operators.specs.Denoted.{Denoted, Part, operand_in, is_pointing, value_in, value_by, wanted_in}
use Rattle.c_operators.specs.Context.{Source, element_of}
use Rattle.c_operators.specs.Operators.{flow_operator, binary_in, sum_in, difference_in, operated_in, conditional_in, prefix_in, cast_in}
use Rattle.c_values.specs.Expressions.{constant_by}
use Rattle.constant_sound.specs.Running.{worded, is_logical, Computes}
use Rattle.constant_sound.proofs.Arithmetic.{Fits, number_fits, operator_same, minus_same, complement_same, not_same, truth_same, word_is_zero}
use Rattle.constant_sound.proofs.Operands.{not_pointing, no_address, kind_of_numbers}

module _ (p : Program) (s : SetupView) (t : ℕ) (calls : Calls) where
  -- the tree gives a whole number that fits, and computes it
  pub record Gives (e : core.Exp) (c : Computed) : Type 0 where
    pub runs : Computes p s t calls e c
    pub whole : is_pointer e ≡ false
    pub fits : Fits c

  abbrev run : core.Exp → M ℕ
  run e = value p s t calls e

  -- what follows on a number, or the same trap
  then_gives : (e : core.Exp) (x : Computed) (more : ℕ → M ℕ) (f : ℤ → Computed) → Computes p s t calls e x → Fits x →
      ((n : ℤ) → fits n ≡ true → (line : ℕ) × (more (word n) ≡ result_at line (worded (f n)))) →
      (line : ℕ) × ((run e >>= more) ≡ result_at line (worded (and_then x f)))
  then_gives e (Ok n) more f h fit own =
      let next = own n (fit n refl) in
      (next.0, ap (λ m. m >>= more) h.1 ∙ next.1)
  then_gives e (Err kind) more f h fit own = (h.0, ap (λ m. m >>= more) h.1)

  -- ---- one operand

  unary_runs : (o : UnaryOp) (e : core.Exp) (x : Computed) (f : ℤ → Computed) (at : Position) → Gives e x → ((n : ℤ) → fits n ≡ true → unary_of o (word n) ≡ worded (f n)) → Computes p s t calls (core.unary o e at) (and_then x f)
  unary_runs o e x f at g own = then_gives e x (λ w. result_at at.line (unary_of o w)) f g.runs g.fits (λ n h. (at.line, ap (result_at at.line) (own n h)))

  copy_runs : (e : core.Exp) (x : Computed) (f : ℤ → Computed) (at : Position) → ((n : ℤ) → f n ≡ Ok n) → Computes p s t calls e x → Computes p s t calls (core.copy e at) (and_then x f)
  copy_runs e (Ok n) f at own h = (h.0, h.1 ∙ ap (λ c. result_at h.0 (worded c)) (sym (own n)))
  copy_runs e (Err kind) f at own h = h

  -- ---- two operands

  binary_runs : (o : FlowOp) (a b : core.Exp) (x y : Computed) (f : ℤ → ℤ → Computed) (at : Position) → Gives a x → Gives b y →
      ((m n : ℤ) → fits m ≡ true → fits n ≡ true → binary_of o (word m) (word n) ≡ worded (f m n)) →
      Computes p s t calls (core.binary o a b at) (and_then x (λ m. and_then y (λ n. f m n)))
  binary_runs o a b x y f at g h own =
      then_gives a x (λ v. run b >>= λ w. result_at at.line (either_binary_of (is_pointer a) p.sites o v w)) (λ m. and_then y (λ n. f m n)) g.runs g.fits
      (λ m hm. then_gives b y (λ w. result_at at.line (either_binary_of (is_pointer a) p.sites o (word m) w)) (f m) h.runs h.fits
      (λ n hn. (at.line, ap (λ q. result_at at.line (either_binary_of q p.sites o (word m) (word n))) g.whole ∙ ap (result_at at.line) (own m n hm hn))))

  -- one of two, by a number that is 0 or isn't
  chosen : (n : ℤ) (yes' no' : M ℕ) (x y : Computed) → fits n ≡ true → (is_zero n ≡ false → (line : ℕ) × (yes' ≡ result_at line (worded x))) → (is_zero n ≡ true → (line : ℕ) × (no' ≡ result_at line (worded y))) →
      (line : ℕ) × (choose (word n) yes' no' ≡ result_at line (worded (if is_zero n then y else x)))
  chosen n yes' no' x y h hx hy = by (word n == 0) (is_zero n) (word_is_zero n h) refl
    where
      by : (q z : Bool) → q ≡ z → is_zero n ≡ z → (line : ℕ) × ((if q then no' else yes') ≡ result_at line (worded (if z then y else x)))
      by true true e is = hy is
      by false false e is = hx is
      by true false e is = cc
      by false true e is = cc

  conditional_runs : (a b c : core.Exp) (x y z : Computed) (at : Position) → Gives a x → Gives b y → Gives c z →
      Computes p s t calls (core.conditional a b c at) (and_then x (λ n. if is_zero n then z else y))
  conditional_runs a b c x y z at g h i =
      then_gives a x (λ v. choose v (run b) (run c)) (λ n. if is_zero n then z else y) g.runs g.fits
      (λ n hn. chosen n (run b) (run c) y z hn (λ is. h.runs) (λ is. i.runs))

  -- whether the second operand of `&&` or `||` holds
  abbrev holds : core.Exp → M ℕ
  holds b = run b >>= λ w. pure (running.truth (not (w == 0)))

  holds_runs : (b : core.Exp) (y : Computed) (f : ℤ → Computed) → Gives b y → ((n : ℤ) → f n ≡ Ok (folding.truth (not (is_zero n)))) → (line : ℕ) × (holds b ≡ result_at line (worded (and_then y f)))
  holds_runs b y f h own =
      then_gives b y (λ w. pure (running.truth (not (w == 0)))) f h.runs h.fits
      (λ n hn. (0, ap (λ q. pure (running.truth (not q))) (word_is_zero n hn) ∙ ap pure (truth_same (not (is_zero n))) ∙ ap (λ c. result_at 0 (worded c)) (sym (own n))))

  either_runs : (a b : core.Exp) (x y : Computed) (at : Position) → Gives a x → Gives b y → Computes p s t calls (core.either a b at) (binary_value op.LogicalOr x y)
  either_runs a b x y at g h =
      then_gives a x (λ v. choose v (pure 1) (holds b)) (λ m. if is_zero m then and_then y (λ n. computed op.LogicalOr m n) else Ok (pos 1)) g.runs g.fits
      (λ m hm. chosen m (pure 1) (holds b) (Ok (pos 1)) (and_then y (λ n. computed op.LogicalOr m n)) hm (λ is. (0, refl))
      (λ is. holds_runs b y (λ n. computed op.LogicalOr m n) h (λ n. ap (λ q. Ok (if q then folding.truth (not (is_zero n)) else pos 1)) is)))

  both_runs : (a b : core.Exp) (x y : Computed) (at : Position) → Gives a x → Gives b y → Computes p s t calls (core.both a b at) (binary_value op.LogicalAnd x y)
  both_runs a b x y at g h =
      then_gives a x (λ v. choose v (holds b) (pure 0)) (λ m. if is_zero m then Ok (pos 0) else and_then y (λ n. computed op.LogicalAnd m n)) g.runs g.fits
      (λ m hm. chosen m (holds b) (pure 0) (and_then y (λ n. computed op.LogicalAnd m n)) (Ok (pos 0)) hm
      (λ is. holds_runs b y (λ n. computed op.LogicalAnd m n) h (λ n. ap (λ q. Ok (if q then pos 0 else folding.truth (not (is_zero n)))) is))
      (λ is. (0, refl)))

  -- ---- operators of the source, on operands that are whole numbers

  same_tree : (e e' : core.Exp) (c : Computed) → e ≡ e' → Gives e' c → Gives e c
  same_tree e e' c is g = subst (λ z. Gives z c) (sym is) g

  sum_is : (source : Source) (a b : Part) (at : Position) → is_whole (operand_in a) ≡ true → is_whole (operand_in b) ≡ true → sum_in source a b at ≡ core.binary flow.Add (value_in a) (value_in b) at
  sum_is source a b at ha hb =
      ap (λ z. if z then core.move (value_in a) (value_in b) (element_of source (operand_in a)) false at else if is_pointing (operand_in b) then core.advance (value_in a) (value_in b) (element_of source (operand_in b)) at else core.binary flow.Add (value_in a) (value_in b) at) (not_pointing (operand_in a) ha)
      ∙ ap (λ z. if z then core.advance (value_in a) (value_in b) (element_of source (operand_in b)) at else core.binary flow.Add (value_in a) (value_in b) at) (not_pointing (operand_in b) hb)

  difference_is : (source : Source) (a b : Part) (at : Position) → is_whole (operand_in a) ≡ true → is_whole (operand_in b) ≡ true → difference_in source a b at ≡ core.binary flow.Subtract (value_in a) (value_in b) at
  difference_is source a b at ha hb =
      rw (not_pointing (operand_in a) ha, and_from (is_whole (operand_in a)) (is_whole (operand_in b)) ha hb)

  operated_is : (o : FlowOp) (a b : Part) (at : Position) → is_whole (operand_in a) ≡ true → is_whole (operand_in b) ≡ true → operated_in o a b at ≡ core.binary o (value_in a) (value_in b) at
  operated_is o a b at ha hb = ap (λ k. core.binary o (wanted_in k a) (wanted_in k b) at) (kind_of_numbers (operand_in a) (operand_in b) ha hb)

  pub conditional_gives : (a b c : Part) (x y z : Computed) (at : Position) → is_whole (operand_in b) ≡ true → is_whole (operand_in c) ≡ true → Gives (value_in a) x → Gives (value_in b) y → Gives (value_in c) z →
      Fits (and_then x (λ n. if is_zero n then z else y)) → Gives (conditional_in a b c at) (and_then x (λ n. if is_zero n then z else y))
  conditional_gives a b c x y z at hb hc g h i fit =
      same_tree (conditional_in a b c at) (core.conditional (value_in a) (value_in b) (value_in c) at) (and_then x (λ n. if is_zero n then z else y))
      (ap (λ k. core.conditional (value_in a) (wanted_in k b) (wanted_in k c) at) (kind_of_numbers (operand_in b) (operand_in c) hb hc))
      (record { runs = conditional_runs (value_in a) (value_in b) (value_in c) x y z at g h i; whole = h.whole; fits = fit })

  -- an operator on two words
  words_give : (o : BinaryOp) (a b : core.Exp) (x y : Computed) (at : Position) → is_logical o ≡ false → Gives a x → Gives b y → Fits (and_then x (λ m. and_then y (λ n. computed o m n))) →
      Gives (core.binary (flow_operator o) a b at) (and_then x (λ m. and_then y (λ n. computed o m n)))
  words_give o a b x y at k g h fit = record { runs = binary_runs (flow_operator o) a b x y (computed o) at g h (λ m n hm hn. operator_same o m n k hm hn); whole = refl; fits = fit }

  operated_gives : (o : BinaryOp) (a b : Part) (x y : Computed) (at : Position) → is_logical o ≡ false → is_whole (operand_in a) ≡ true → is_whole (operand_in b) ≡ true → Gives (value_in a) x → Gives (value_in b) y → Fits (and_then x (λ m. and_then y (λ n. computed o m n))) →
      Gives (operated_in (flow_operator o) a b at) (and_then x (λ m. and_then y (λ n. computed o m n)))
  operated_gives o a b x y at k ha hb g h fit =
      same_tree (operated_in (flow_operator o) a b at) (core.binary (flow_operator o) (value_in a) (value_in b) at) (and_then x (λ m. and_then y (λ n. computed o m n))) (operated_is (flow_operator o) a b at ha hb)
      (words_give o (value_in a) (value_in b) x y at k g h fit)

  pub binary_gives : (source : Source) (o : BinaryOp) (a b : Part) (x y : Computed) (at : Position) → is_whole (operand_in a) ≡ true → is_whole (operand_in b) ≡ true → Gives (value_in a) x → Gives (value_in b) y → Fits (binary_value o x y) →
      Gives (binary_in source o a b at) (binary_value o x y)
  binary_gives source op.LogicalOr a b x y at ha hb g h fit = record { runs = either_runs (value_in a) (value_in b) x y at g h; whole = refl; fits = fit }
  binary_gives source op.LogicalAnd a b x y at ha hb g h fit = record { runs = both_runs (value_in a) (value_in b) x y at g h; whole = refl; fits = fit }
  binary_gives source op.Add a b x y at ha hb g h fit = same_tree (sum_in source a b at) (core.binary flow.Add (value_in a) (value_in b) at) (binary_value op.Add x y) (sum_is source a b at ha hb) (words_give op.Add (value_in a) (value_in b) x y at refl g h fit)
  binary_gives source op.Subtract a b x y at ha hb g h fit = same_tree (difference_in source a b at) (core.binary flow.Subtract (value_in a) (value_in b) at) (binary_value op.Subtract x y) (difference_is source a b at ha hb) (words_give op.Subtract (value_in a) (value_in b) x y at refl g h fit)
  binary_gives source op.Or a b x y at ha hb g h fit = operated_gives op.Or a b x y at refl ha hb g h fit
  binary_gives source op.Xor a b x y at ha hb g h fit = operated_gives op.Xor a b x y at refl ha hb g h fit
  binary_gives source op.And a b x y at ha hb g h fit = operated_gives op.And a b x y at refl ha hb g h fit
  binary_gives source op.Equal a b x y at ha hb g h fit = operated_gives op.Equal a b x y at refl ha hb g h fit
  binary_gives source op.NotEqual a b x y at ha hb g h fit = operated_gives op.NotEqual a b x y at refl ha hb g h fit
  binary_gives source op.Less a b x y at ha hb g h fit = operated_gives op.Less a b x y at refl ha hb g h fit
  binary_gives source op.Greater a b x y at ha hb g h fit = operated_gives op.Greater a b x y at refl ha hb g h fit
  binary_gives source op.LessEqual a b x y at ha hb g h fit = operated_gives op.LessEqual a b x y at refl ha hb g h fit
  binary_gives source op.GreaterEqual a b x y at ha hb g h fit = operated_gives op.GreaterEqual a b x y at refl ha hb g h fit
  binary_gives source op.ShiftLeft a b x y at ha hb g h fit = operated_gives op.ShiftLeft a b x y at refl ha hb g h fit
  binary_gives source op.ShiftRight a b x y at ha hb g h fit = operated_gives op.ShiftRight a b x y at refl ha hb g h fit
  binary_gives source op.Multiply a b x y at ha hb g h fit = operated_gives op.Multiply a b x y at refl ha hb g h fit
  binary_gives source op.Divide a b x y at ha hb g h fit = operated_gives op.Divide a b x y at refl ha hb g h fit
  binary_gives source op.Remainder a b x y at ha hb g h fit = operated_gives op.Remainder a b x y at refl ha hb g h fit

  pub prefix_gives : (source : Source) (o : PrefixOp) (a : Part) (st : Standing) (x : Computed) (at : Position) → is_of_numbers o ≡ true → Gives (value_in a) x → Fits (and_then x (prefixed o)) →
      Gives (value_by st (prefix_in source o a at)) (and_then x (prefixed o))
  prefix_gives source prefix_op.Plus a st x at k g fit = record { runs = copy_runs (value_in a) x (prefixed prefix_op.Plus) at (λ n. refl) g.runs; whole = g.whole; fits = fit }
  prefix_gives source prefix_op.Minus a st x at k g fit = record { runs = unary_runs unary_op.Minus (value_in a) x (prefixed prefix_op.Minus) at g (λ n h. minus_same n h); whole = refl; fits = fit }
  prefix_gives source prefix_op.Not a st x at k g fit = record { runs = unary_runs unary_op.Not (value_in a) x (prefixed prefix_op.Not) at g (λ n h. not_same n h); whole = refl; fits = fit }
  prefix_gives source prefix_op.Complement a st x at k g fit = record { runs = unary_runs unary_op.Complement (value_in a) x (prefixed prefix_op.Complement) at g (λ n h. complement_same n h); whole = refl; fits = fit }
  prefix_gives source prefix_op.Address a st x at k g fit = cc
  prefix_gives source prefix_op.Indirect a st x at k g fit = cc
  prefix_gives source prefix_op.Increment a st x at k g fit = cc
  prefix_gives source prefix_op.Decrement a st x at k g fit = cc

  pub cast_gives : (a : Part) (x : Computed) (at : Position) → is_whole (operand_in a) ≡ true → Gives (value_in a) x → Gives (cast_in false a at) x
  cast_gives a x at h g =
      same_tree (cast_in false a at) (core.copy (value_in a) at) x
      (ap (λ q. if q then core.to_number (value_in a) at else core.copy (value_in a) at) (no_address (operand_in a) h))
      (record { runs = g.runs; whole = g.whole; fits = g.fits })

  -- a number that stands for itself, or for what is folded
  pub number_gives : (n : ℤ) (at : Position) → fits n ≡ true → Gives (core.number n at) (Ok n)
  number_gives n at h = record { runs = (0, refl); whole = refl; fits = number_fits n h }

  pub folded_gives : (b : Bool) (c : Computed) (st : Standing) (x : Denoted) (at : Position) → b ≡ true → Fits c → Gives (value_by st x) c → Gives (value_by st (constant_by b c at x)) c
  folded_gives true (Ok n) st x at e fit own = number_gives n at (fit n refl)
  folded_gives true (Err kind) st x at e fit own = own
  folded_gives false c st x at e fit own = cc
