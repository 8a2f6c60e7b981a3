-- What the ways of a frame with its registers have of the ways without, and that no region is open twice on them.
use Rattle.std.proofs.Common.{◌≡◌, ℕ, suc, ◌<◌, ◌≤◌, Bool, true, false, List, [], ◌∷◌, refl, sym, ap, ◌∙◌, subst, arith, Option, Some, None, ⊎_elim}
use Rattle.std.specs.Prelude.{slice_get, if◌then◌else◌, ◌==◌}
use Rattle.std.proofs.lemmas.Bool.{cases_lt, cases_eq}
use Rattle.std.proofs.lemmas.Bool.Decides.{nat_tests}
use Rattle.sync_objects.specs.Setup.{SetupView}
use Rattle.flow_code.specs.declared.act.Act.{Act}
use Rattle.flow_code.specs.declared.act.Act.TheVariants as act
use Rattle.flow_code.specs.declared.act.Instr.{Instr}
use Rattle.flow_code.specs.declared.code.Code.{Code}
use Rattle.flow_code.specs.declared.code.Function.{Function}
use Rattle.flow_code.specs.Next.{act_in}
use Rattle.flow_code.specs.Threads.{instr_in, instrs_in}
use Rattle.loop_bounds.specs.Turns.{Goes}
use Rattle.guard_paths.specs.Walked.{Opening, closed_with, opened_with, Walked, begins as walk_begins, goes as walk_goes}
use Rattle.guard_paths.specs.Ways.{closed, Way}
use Rattle.guard_paths.proofs.Guarded.{In}
use Rattle.guard_paths.proofs.Holdings.{apart}
use Rattle.guard_paths.proofs.Standing.{times, times_closed, times_other}
use Rattle.guard_paths.proofs.Walks.{numbers, closed_numbers, way, in_numbers, in_times}
use Rattle.open_regions.specs.OpenStripes.{setting_of}

-- ---- how often a region is open

pub times_in : (q : ℕ) (xs : List ℕ) → 1 ≤ times q xs → In q xs
times_in q [] le = absurd (omega (arith, le))
times_in q (x ∷ xs) le = by (x == q) refl le (λ l. times_in q xs l)
  where
    by : (b : Bool) → (x == q) ≡ b → 1 ≤ (if b then suc (times q xs) else times q xs) → (1 ≤ times q xs → In q xs) → In q (x ∷ xs)
    by true e l rec = let z : x ≡ q = grind (arith, nat_tests, e) in (0, ap (λ n. Some n) z)
    by false e l rec = let r = rec l in (suc r.0, r.1)

-- a region that was open once is open no more
pub closed_other : (q : ℕ) (x : Opening) (os : List Opening) → times q (numbers os) ≤ 1 → In x (closed_with q os) → x.0 ≡ q → ⊥
closed_other q x os le h e = omega (arith, in_times q (numbers (closed_with q os)) (subst (λ n. In n (numbers (closed_with q os))) e (in_numbers x (closed_with q os) h)), ap (times q) (closed_numbers q os), times_closed q (numbers os), le)

-- ---- no region is open twice

-- none is taken while it is open
abbrev pub OpenOnce : Code → Type 0
OpenOnce code = (f w : ℕ) (os : List ℕ) (q : ℕ) → Way (instrs_in (slice_get code.functions f)) w os → act_in (instr_in (slice_get code.functions f) w) ≡ Some (act.Take q) → 1 ≤ times q os → ⊥

pub instr_is : (o : Option Function) (w : ℕ) → instr_in o w ≡ slice_get (instrs_in o) w
instr_is None w = refl
instr_is (Some f) w = refl

module _ (code : Code) (s : SetupView) where
  abbrev pub Is : ℕ → List Instr
  Is f = instrs_in (slice_get code.functions f)

  abbrev pub ActAt : (f w : ℕ) → Option Act
  ActAt f w = act_in (instr_in (slice_get code.functions f) w)

  abbrev pub Walks : (f w : ℕ) → List ℕ → List Opening → Type 0
  Walks f w rs os = Walked (setting_of code s f) (Is f) w rs os

  pub walk_on : (f w : ℕ) (rs : List ℕ) (os : List Opening) (a : Act) (v : ℕ) (qs : List ℕ) → Walks f w rs os → ActAt f w ≡ Some a → Goes (setting_of code s f) (Some a) w rs v qs → Walks f v qs (opened_with (Some a) rs os)
  walk_on f w rs os a v qs walk at g = subst (λ o. Walks f v qs (opened_with o rs os)) is (walk_goes walk (subst (λ o. Goes (setting_of code s f) o w rs v qs) (sym is) g))
    where
      is : act_in (slice_get (Is f) w) ≡ Some a
      is = sym (ap act_in (instr_is (slice_get code.functions f) w)) ∙ at

  pub way_of : (f w : ℕ) (rs : List ℕ) (os : List Opening) → Walks f w rs os → Way (Is f) w (numbers os)
  way_of f w rs os walk = way walk

  module _ (once : OpenOnce code) where
    act_once : (f w : ℕ) (rs : List ℕ) (os : List Opening) (q : ℕ) (a : Act) → ActAt f w ≡ Some a → Way (Is f) w (numbers os) → times q (numbers os) ≤ 1 → times q (numbers (opened_with (Some a) rs os)) ≤ 1
    act_once f w rs os q (act.Take r) at way le = by (r == q) refl
      where
        none : r ≡ q → times q (numbers os) ≤ 0
        none e = ⊎_elim (λ (lt : times q (numbers os) < 1). omega (arith, lt)) (λ ge. absurd (once f w (numbers os) q way (at ∙ ap (λ n. Some (act.Take n)) e) ge)) (cases_lt (times q (numbers os)) 1)

        by : (b : Bool) → (r == q) ≡ b → (if b then suc (times q (numbers os)) else times q (numbers os)) ≤ 1
        by true e = omega (arith, none (grind (arith, nat_tests, e)))
        by false e = le
    act_once f w rs os q (act.Give r) at way le =
        ⊎_elim
        (λ (z : r ≡ q). let n : times q (numbers (closed_with r os)) ≡ times q (closed q (numbers os)) = ap (times q) (closed_numbers r os) ∙ ap (λ k. times q (closed k (numbers os))) z in omega (arith, n, times_closed q (numbers os), le))
        (λ ne. omega (arith, ap (times q) (closed_numbers r os), times_other q r (numbers os) (apart r q ne), le))
        (cases_eq r q)
    act_once f w rs os q _ at way le = le

    pub open_once : (f : ℕ) {w : ℕ} {rs : List ℕ} {os : List Opening} → Walks f w rs os → (q : ℕ) → times q (numbers os) ≤ 1
    open_once f (walk_begins rs) q = omega arith
    open_once f (walk_goes {w} {v} {rs} {qs} {opened} before g) q = by (act_in (slice_get (Is f) w)) refl g (open_once f before q)
      where
        by : (o : Option Act) → act_in (slice_get (Is f) w) ≡ o → Goes (setting_of code s f) o w rs v qs → times q (numbers opened) ≤ 1 → times q (numbers (opened_with o rs opened)) ≤ 1
        by None e g le = absurd g
        by (Some a) e g le = act_once f w rs opened q a (ap act_in (instr_is (slice_get code.functions f) w) ∙ e) (way_of f w rs opened before) le
