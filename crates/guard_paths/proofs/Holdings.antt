-- The open regions and the stripes of a thread follow the ways through its functions.
use Rattle.std.proofs.Common.{◌≡◌, ℕ, zero, suc, ◌+◌, ◌-◌, ◌<◌, ◌≤◌, ◌&&◌, Bool, true, false, List, [], ◌∷◌, ◌++◌, length, map, take, refl, sym, ap, ◌∙◌, subst, arith, Option, Some, None, ⊎_elim}
use Rattle.std.specs.Prelude.{slice_get, if◌then◌else◌, ◌==◌}
use Rattle.std.specs.List.{Contains}
use Rattle.std.proofs.lemmas.Bool.{cases_lt}
use Rattle.std.proofs.lemmas.Bool.Decides.{nat_tests}
use Rattle.std.proofs.lemmas.Option.{same_Some, slice_get_within}
use Rattle.flow_code.specs.declared.act.Act.{Act}
use Rattle.flow_code.specs.declared.act.Act.TheVariants as act
use Rattle.flow_code.specs.declared.act.Instr.{Instr}
use Rattle.flow_code.specs.declared.code.Code.{Code}
use Rattle.flow_code.specs.declared.code.Function.{Function}
use Rattle.flow_code.specs.declared.thread.Stripe.{Stripe}
use Rattle.flow_code.specs.Holding.{number_of_stripe, has_stripe, takes_region, takes}
use Rattle.flow_code.specs.Next.{act_in}
use Rattle.flow_code.specs.Threads.{Frame, OpenRegion, instr_in, instrs_in, objects_of}
use Rattle.guard_paths.specs.Ways.{nexts, opened_by, Way, begins, goes}
use Rattle.guard_paths.proofs.Guarded.{In}
use Rattle.guard_paths.proofs.Standing.{times, one_if}
use Rattle.guard_paths.proofs.Opened.{many, Ascends}

-- ---- open regions of a frame

-- the region was opened in the m-th frame, by a Take of region r of its function
abbrev pub is_of : Code → (m f r : ℕ) → OpenRegion → Bool
is_of code m f r x = (x.frame == m) && takes (instr_in (slice_get code.functions f) x.instr) r

abbrev pub last_here : ℕ → ℕ → Option OpenRegion → Bool
last_here n w None = false
last_here n w (Some x) = (x.frame == n) && (x.instr == w)

-- once where the Take at which the frame stands has opened its region
abbrev pub here : Code → (n f w : ℕ) → List OpenRegion → ℕ → ℕ
here code n f w rs r = one_if (last_here n w (slice_get rs (length rs - 1)) && takes (instr_in (slice_get code.functions f) w) r)

-- a way leads to where the frame stands, on which no region is open less often than the thread has it open
pub record FrameKept (code : Code) (rs : List OpenRegion) (m f w : ℕ) (more : ℕ → ℕ) : Type 0 where
  pub opened : List ℕ
  pub way : Way (instrs_in (slice_get code.functions f)) w opened
  pub few : (r : ℕ) → many (is_of code m f r) rs ≤ times r opened + more r

abbrev pub is_call : Option Act → Bool
is_call (Some (act.Call g arguments into)) = true
is_call _ = false

abbrev pub functions_of : List Frame → ℕ → List ℕ
functions_of below f = map (λ g. g.function) below ++ f ∷ []

-- what a running thread keeps
pub record Kept (code : Code) (below : List Frame) (f w : ℕ) (rs : List OpenRegion) (ss : List Stripe) : Type 0 where
  pub top : FrameKept code rs (length below) f w (here code (length below) f w rs)
  pub calls : (m : ℕ) (g : Frame) → slice_get below m ≡ Some g → is_call (act_in (instr_in (slice_get code.functions g.function) g.instr)) ≡ true
  pub others : (m : ℕ) (g : Frame) → slice_get below m ≡ Some g → FrameKept code rs m g.function g.instr (λ r. 0)
  pub placed : (x : OpenRegion) → In x rs → (g : ℕ) × (r : ℕ) × (slice_get (functions_of below f) x.frame ≡ Some g) × (takes (instr_in (slice_get code.functions g) x.instr) r ≡ true)
  pub held : (z : Stripe) → In z ss → (x : OpenRegion) × In x rs × (has_stripe x.stripes (number_of_stripe z) ≡ true)
  pub ordered : (x : OpenRegion) → In x rs → Ascends x.stripes

-- ---- lists

pub at_left : {X : Type 0} (xs ys : List X) (j : ℕ) → j < length xs → slice_get (xs ++ ys) j ≡ slice_get xs j
at_left [] ys j lt = absurd (omega (arith, lt))
at_left (x ∷ xs) ys zero lt = refl
at_left (x ∷ xs) ys (suc j) lt = at_left xs ys j (omega (arith, lt))

pub at_end : {X : Type 0} (xs : List X) (y : X) → slice_get (xs ++ y ∷ []) (length xs) ≡ Some y
at_end [] y = refl
at_end (x ∷ xs) y = at_end xs y

pub length_more : {X : Type 0} (xs : List X) (y : X) → length (xs ++ y ∷ []) ≡ length xs + 1
length_more [] y = omega arith
length_more (x ∷ xs) y = omega (arith, length_more xs y)

pub length_map : {X Y : Type 0} (f : X → Y) (xs : List X) → length (map f xs) ≡ length xs
length_map f [] = refl
length_map f (x ∷ xs) = ap suc (length_map f xs)

pub map_more : {X Y : Type 0} (f : X → Y) (xs : List X) (y : X) → map f (xs ++ y ∷ []) ≡ map f xs ++ f y ∷ []
map_more f [] y = refl
map_more f (x ∷ xs) y = ap (λ z. f x ∷ z) (map_more f xs y)

none_many : {X : Type 0} (p : X → Bool) (xs : List X) → ((x : X) → In x xs → p x ≡ false) → many p xs ≡ 0
none_many p [] h = refl
none_many p (x ∷ xs) h = ap (λ b. if b then suc (many p xs) else many p xs) (h x (0, refl)) ∙ none_many p xs (λ y i. h y (suc i.0, i.1))

pub some_many : {X : Type 0} (p : X → Bool) (xs : List X) (x : X) → In x xs → p x ≡ true → 1 ≤ many p xs
some_many p [] x (k, h) t = cc
some_many p (y ∷ xs) x (zero, h) t = let e : p y ≡ true = ap p (same_Some y x h) ∙ t in omega (arith, ap (λ b. if b then suc (many p xs) else many p xs) e)
some_many p (y ∷ xs) x (suc k, h) t = go (p y) (some_many p xs x (k, h) t)
  where
    go : (b : Bool) → 1 ≤ many p xs → 1 ≤ (if b then suc (many p xs) else many p xs)
    go true le = omega (arith, le)
    go false le = le

pub apart : (m n : ℕ) → (m ≡ n → ⊥) → (m == n) ≡ false
apart m n h = go (m == n) refl
  where
    go : (b : Bool) → (m == n) ≡ b → b ≡ false
    go true e = absurd (h (grind (arith, nat_tests, e)))
    go false e = refl

-- ---- ways

instr_is : (o : Option Function) (w : ℕ) → instr_in o w ≡ slice_get (instrs_in o) w
instr_is None w = refl
instr_is (Some f) w = refl

pub way_on : (code : Code) (f w : ℕ) (os : List ℕ) (a : Act) (v : ℕ) → Way (instrs_in (slice_get code.functions f)) w os → act_in (instr_in (slice_get code.functions f) w) ≡ Some a → Contains (nexts a w) v → Way (instrs_in (slice_get code.functions f)) v (opened_by a os)
way_on code f w os a v way e c = go (slice_get (instrs_in (slice_get code.functions f)) w) refl (sym (ap act_in (instr_is (slice_get code.functions f) w)) ∙ e)
  where
    go : (o : Option Instr) → slice_get (instrs_in (slice_get code.functions f)) w ≡ o → act_in o ≡ Some a → Way (instrs_in (slice_get code.functions f)) v (opened_by a os)
    go None g e = cc
    go (Some i) g e =
        let q : i.act ≡ a = same_Some i.act a e in
        subst (λ b. Way (instrs_in (slice_get code.functions f)) v (opened_by b os)) q (goes i v way g (subst (λ b. Contains (nexts b w) v) (sym q) c))

pub takes_is : (o : Option Instr) (a : Act) (r : ℕ) → act_in o ≡ Some a → takes o r ≡ takes_region a r
takes_is None a r e = cc
takes_is (Some i) a r e = ap (λ b. takes_region b r) (same_Some i.act a e)

-- acts that open and close nothing
abbrev pub is_still : Act → Bool
is_still (act.Take r) = false
is_still (act.Give r) = false
is_still _ = true

still_opens : (a : Act) (os : List ℕ) → is_still a ≡ true → opened_by a os ≡ os
still_opens (act.Take r) os h = cc
still_opens (act.Give r) os h = cc
still_opens _ os h = refl

pub not_taking : (a : Act) (r : ℕ) → is_still a ≡ true → takes_region a r ≡ false
not_taking (act.Take q) r h = cc
not_taking _ r h = refl

and_false : (b : Bool) → one_if (b && false) ≡ 0
and_false true = refl
and_false false = refl

pub none_here : (code : Code) (n f w : ℕ) (rs : List OpenRegion) (r : ℕ) → takes (instr_in (slice_get code.functions f) w) r ≡ false → here code n f w rs r ≡ 0
none_here code n f w rs r e = ap (λ b. one_if (last_here n w (slice_get rs (length rs - 1)) && b)) e ∙ and_false (last_here n w (slice_get rs (length rs - 1)))

still_here : (code : Code) (n f w : ℕ) (rs : List OpenRegion) (a : Act) (r : ℕ) → act_in (instr_in (slice_get code.functions f) w) ≡ Some a → is_still a ≡ true → here code n f w rs r ≡ 0
still_here code n f w rs a r e h = none_here code n f w rs r (takes_is (instr_in (slice_get code.functions f) w) a r e ∙ not_taking a r h)

-- ---- on to another instruction

module _ (code : Code) where
  pub moved : (below : List Frame) (f w : ℕ) (rs : List OpenRegion) (ss : List Stripe) (a : Act) (v : ℕ) → act_in (instr_in (slice_get code.functions f) w) ≡ Some a → is_still a ≡ true → Contains (nexts a w) v → Kept code below f w rs ss → Kept code below f v rs ss
  moved below f w rs ss a v e q c k = record {
    top = record {
      opened = k.top.opened;
      way = subst (Way (instrs_in (slice_get code.functions f)) v) (still_opens a k.top.opened q) (way_on code f w k.top.opened a v k.top.way e c);
      few = λ r. omega (arith, k.top.few r, still_here code (length below) f w rs a r e q);
    };
    calls = k.calls;
    others = k.others;
    placed = k.placed;
    held = k.held;
    ordered = k.ordered;
  }

  -- ---- a call

  pub called : (below : List Frame) (f w : ℕ) (rs : List OpenRegion) (ss : List Stripe) (a : Act) (top : Frame) (g : ℕ) → act_in (instr_in (slice_get code.functions f) w) ≡ Some a → is_still a ≡ true → is_call (Some a) ≡ true → top.function ≡ f → top.instr ≡ w → Kept code below f w rs ss → Kept code (below ++ top ∷ []) g (length (objects_of (instrs_in (slice_get code.functions g)))) rs ss
  called below f w rs ss a top g e q c tf tw k = record { top = first; calls = calls; others = others; placed = placed; held = k.held; ordered = k.ordered }
    where
      within : (x : OpenRegion) → In x rs → x.frame < length below + 1
      within x i = let p = k.placed x i in omega (arith, slice_get_within (functions_of below f) x.frame p.0 p.2, length_more (map (λ (h : Frame). h.function) below) f, length_map (λ (h : Frame). h.function) below)

      first : FrameKept code rs (length (below ++ top ∷ [])) g (length (objects_of (instrs_in (slice_get code.functions g)))) (here code (length (below ++ top ∷ [])) g (length (objects_of (instrs_in (slice_get code.functions g)))) rs)
      first = record {
        opened = [];
        way = begins;
        few = λ r. omega (arith, none_many (is_of code (length (below ++ top ∷ [])) g r) rs (λ x i. ap (λ b. b && takes (instr_in (slice_get code.functions g) x.instr) r) (apart x.frame (length (below ++ top ∷ [])) (λ z. omega (arith, z, within x i, length_more below top)))));
      }

      calls : (m : ℕ) (h : Frame) → slice_get (below ++ top ∷ []) m ≡ Some h → is_call (act_in (instr_in (slice_get code.functions h.function) h.instr)) ≡ true
      calls m h s = ⊎_elim
          (λ (lt : m < length below). k.calls m h (sym (at_left below (top ∷ []) m lt) ∙ s))
          (λ ge. let z : m ≡ length below = omega (arith, ge, slice_get_within (below ++ top ∷ []) m h s, length_more below top) in
          let y : top ≡ h = same_Some top h (sym (at_end below top) ∙ ap (slice_get (below ++ top ∷ [])) (sym z) ∙ s) in
          subst (λ (u : Frame). is_call (act_in (instr_in (slice_get code.functions u.function) u.instr)) ≡ true) y
          (ap (λ n. is_call (act_in (instr_in (slice_get code.functions n) top.instr))) tf ∙ ap (λ n. is_call (act_in (instr_in (slice_get code.functions f) n))) tw ∙ ap is_call e ∙ c))
          (cases_lt m (length below))

      caller : FrameKept code rs (length below) top.function top.instr (λ r. 0)
      caller = record {
        opened = k.top.opened;
        way = subst (λ n. Way (instrs_in (slice_get code.functions n)) top.instr k.top.opened) (sym tf) (subst (λ n. Way (instrs_in (slice_get code.functions f)) n k.top.opened) (sym tw) k.top.way);
        few = λ r. omega (arith, k.top.few r, still_here code (length below) f w rs a r e q, ap (λ n. many (is_of code (length below) n r) rs) tf);
      }

      others : (m : ℕ) (h : Frame) → slice_get (below ++ top ∷ []) m ≡ Some h → FrameKept code rs m h.function h.instr (λ r. 0)
      others m h s = ⊎_elim
          (λ (lt : m < length below). k.others m h (sym (at_left below (top ∷ []) m lt) ∙ s))
          (λ ge. let z : m ≡ length below = omega (arith, ge, slice_get_within (below ++ top ∷ []) m h s, length_more below top) in
          let y : top ≡ h = same_Some top h (sym (at_end below top) ∙ ap (slice_get (below ++ top ∷ [])) (sym z) ∙ s) in
          subst (λ (u : Frame). FrameKept code rs m u.function u.instr (λ r. 0)) y (subst (λ n. FrameKept code rs n top.function top.instr (λ r. 0)) (sym z) caller))
          (cases_lt m (length below))

      placed : (x : OpenRegion) → In x rs → (h : ℕ) × (r : ℕ) × (slice_get (functions_of (below ++ top ∷ []) g) x.frame ≡ Some h) × (takes (instr_in (slice_get code.functions h) x.instr) r ≡ true)
      placed x i =
          let p = k.placed x i in
          let m : map (λ (h : Frame). h.function) (below ++ top ∷ []) ≡ map (λ (h : Frame). h.function) below ++ f ∷ [] = map_more (λ (h : Frame). h.function) below top ∙ ap (λ n. map (λ (h : Frame). h.function) below ++ n ∷ []) tf in
          (p.0, p.1, ap (λ (z : List ℕ). slice_get (z ++ g ∷ []) x.frame) m ∙ at_left (functions_of below f) (g ∷ []) x.frame (slice_get_within (functions_of below f) x.frame p.0 p.2) ∙ p.2, p.3)

  -- ---- a return

  -- each way to a Return has given all
  abbrev pub GiveAll : Type 0
  GiveAll = (f w : ℕ) (os : List ℕ) (value : Option ℕ) → Way (instrs_in (slice_get code.functions f)) w os → act_in (instr_in (slice_get code.functions f) w) ≡ Some (act.Return value) → os ≡ []

  -- the running frame has no region open there
  none_open : (below : List Frame) (f w : ℕ) (rs : List OpenRegion) (ss : List Stripe) (value : Option ℕ) → GiveAll → act_in (instr_in (slice_get code.functions f) w) ≡ Some (act.Return value) → Kept code below f w rs ss → (x : OpenRegion) → In x rs → x.frame ≡ length below → ⊥
  none_open below f w rs ss value all e k x i z =
      let p = k.placed x i in
      let n : length (map (λ (h : Frame). h.function) below) ≡ x.frame = length_map (λ (h : Frame). h.function) below ∙ sym z in
      let g : f ≡ p.0 = same_Some f p.0 (sym (at_end (map (λ (h : Frame). h.function) below) f) ∙ ap (slice_get (functions_of below f)) n ∙ p.2) in
      let t : is_of code (length below) f p.1 x ≡ true = both_true (x.frame == length below) (takes (instr_in (slice_get code.functions f) x.instr) p.1) (grind (arith, nat_tests, z)) (ap (λ y. takes (instr_in (slice_get code.functions y) x.instr) p.1) g ∙ p.3) in
      let o : times p.1 k.top.opened ≡ 0 = ap (times p.1) (all f w k.top.opened value k.top.way e) in
      omega (arith, some_many (is_of code (length below) f p.1) rs x i t, k.top.few p.1, o, still_here code (length below) f w rs (act.Return value) p.1 e refl)
    where
      both_true : (p q : Bool) → p ≡ true → q ≡ true → (p && q) ≡ true
      both_true true q h k = k
      both_true false q h k = cc

  -- with no frame below, no region and no stripe is left
  pub ends_empty : (f w : ℕ) (rs : List OpenRegion) (ss : List Stripe) (value : Option ℕ) → GiveAll → act_in (instr_in (slice_get code.functions f) w) ≡ Some (act.Return value) → Kept code [] f w rs ss → (rs ≡ []) × (ss ≡ [])
  ends_empty f w rs ss value all e k = (none rs (λ x i. none_open [] f w rs ss value all e k x i (alone x i)), none ss (λ z i. let h = k.held z i in none_open [] f w rs ss value all e k h.0 h.1 (alone h.0 h.1)))
    where
      alone : (x : OpenRegion) → In x rs → x.frame ≡ 0
      alone x i = let p = k.placed x i in omega (arith, slice_get_within (f ∷ []) x.frame p.0 p.2)

      none : {X : Type 0} (xs : List X) → ((x : X) → In x xs → ⊥) → xs ≡ []
      none [] h = refl
      none (x ∷ xs) h = absurd (h x (0, refl))

  last_split : {X : Type 0} (xs : List X) (x : X) → slice_get xs (length xs - 1) ≡ Some x → take (length xs - 1) xs ++ x ∷ [] ≡ xs
  last_split [] x h = cc
  last_split (y ∷ []) x h = ap (λ z. z ∷ []) (sym (same_Some y x h))
  last_split (y ∷ z ∷ zs) x h =
      let e : length (y ∷ z ∷ zs) - 1 ≡ suc (length (z ∷ zs) - 1) = omega arith in
      ap (λ n. take n (y ∷ z ∷ zs) ++ x ∷ []) e ∙ ap (λ u. y ∷ u) (last_split (z ∷ zs) x (ap (slice_get (y ∷ z ∷ zs)) (sym e) ∙ h))

  pub back : (below : List Frame) (f w : ℕ) (rs : List OpenRegion) (ss : List Stripe) (value : Option ℕ) (g : Frame) → GiveAll → act_in (instr_in (slice_get code.functions f) w) ≡ Some (act.Return value) → slice_get below (length below - 1) ≡ Some g → Kept code below f w rs ss → Kept code (take (length below - 1) below) g.function (g.instr + 1) rs ss
  back below f w rs ss value g all e s k = record { top = top; calls = λ m h q. k.calls m h (of_below m h q); others = λ m h q. k.others m h (of_below m h q); placed = placed; held = k.held; ordered = k.ordered }
    where
      split : take (length below - 1) below ++ g ∷ [] ≡ below
      split = last_split below g s

      long : length (take (length below - 1) below) ≡ length below - 1
      long = omega (arith, ap (λ (z : List Frame). length z) split, length_more (take (length below - 1) below) g)

      of_below : (m : ℕ) (h : Frame) → slice_get (take (length below - 1) below) m ≡ Some h → slice_get below m ≡ Some h
      of_below m h q = ap (λ (z : List Frame). slice_get z m) (sym split) ∙ at_left (take (length below - 1) below) (g ∷ []) m (slice_get_within (take (length below - 1) below) m h q) ∙ q

      call_of : (o : Option Act) → is_call o ≡ true → (a : Act) × (o ≡ Some a) × (is_still a ≡ true) × (nexts a g.instr ≡ (g.instr + 1) ∷ [])
      call_of (Some (act.Call h arguments into)) c = (act.Call h arguments into, refl, refl, refl)
      call_of _ c = cc

      top : FrameKept code rs (length (take (length below - 1) below)) g.function (g.instr + 1) (here code (length (take (length below - 1) below)) g.function (g.instr + 1) rs)
      top =
          let o = k.others (length below - 1) g s in
          let c = call_of (act_in (instr_in (slice_get code.functions g.function) g.instr)) (k.calls (length below - 1) g s) in
          record {
            opened = o.opened;
            way = subst (Way (instrs_in (slice_get code.functions g.function)) (g.instr + 1)) (still_opens c.0 o.opened c.2) (way_on code g.function g.instr o.opened c.0 (g.instr + 1) o.way c.1 (subst (λ (z : List ℕ). Contains z (g.instr + 1)) (sym c.3) (0, omega arith, refl)));
            few = λ r. omega (arith, o.few r, ap (λ n. many (is_of code n g.function r) rs) long);
          }

      placed : (x : OpenRegion) → In x rs → (h : ℕ) × (r : ℕ) × (slice_get (functions_of (take (length below - 1) below) g.function) x.frame ≡ Some h) × (takes (instr_in (slice_get code.functions h) x.instr) r ≡ true)
      placed x i =
          let p = k.placed x i in
          let n : length (map (λ (h : Frame). h.function) below) ≡ length below = length_map (λ (h : Frame). h.function) below in
          let m : functions_of (take (length below - 1) below) g.function ≡ map (λ (h : Frame). h.function) below = sym (map_more (λ (h : Frame). h.function) (take (length below - 1) below) g) ∙ ap (map (λ (h : Frame). h.function)) split in
          let lt : x.frame < length (map (λ (h : Frame). h.function) below) = ⊎_elim (λ (l : x.frame < length below). omega (arith, l, n)) (λ ge. absurd (none_open below f w rs ss value all e k x i (omega (arith, ge, n, slice_get_within (functions_of below f) x.frame p.0 p.2, length_more (map (λ (h : Frame). h.function) below) f)))) (cases_lt x.frame (length below)) in
          (p.0, p.1, ap (λ (z : List ℕ). slice_get z x.frame) m ∙ sym (at_left (map (λ (h : Frame). h.function) below) (f ∷ []) x.frame lt) ∙ p.2, p.3)

  -- ---- fewer regions

  -- other regions and stripes at the same place
  pub lessened : (below : List Frame) (f w : ℕ) (rs qs : List OpenRegion) (ss zs : List Stripe) → ((r : ℕ) → takes (instr_in (slice_get code.functions f) w) r ≡ false) → ((m g r : ℕ) → many (is_of code m g r) qs ≤ many (is_of code m g r) rs)
      → ((x : OpenRegion) → In x qs → (y : OpenRegion) × In y rs × (x.frame ≡ y.frame) × (x.instr ≡ y.instr)) → ((z : Stripe) → In z zs → (x : OpenRegion) × In x qs × (has_stripe x.stripes (number_of_stripe z) ≡ true)) → ((x : OpenRegion) → In x qs → Ascends x.stripes) → Kept code below f w rs ss → Kept code below f w qs zs
  lessened below f w rs qs ss zs free less from held ordered k = record {
    top = record { opened = k.top.opened; way = k.top.way; few = λ r. omega (arith, less (length below) f r, k.top.few r, none_here code (length below) f w rs r (free r)) };
    calls = k.calls;
    others = λ m g s. let o = k.others m g s in record { opened = o.opened; way = o.way; few = λ r. omega (arith, less m g.function r, o.few r) };
    placed = λ x i. let y = from x i in let p = k.placed y.0 y.1 in (p.0, p.1, ap (slice_get (functions_of below f)) y.2 ∙ p.2, ap (λ n. takes (instr_in (slice_get code.functions p.0) n) p.1) y.3 ∙ p.3);
    held = held;
    ordered = ordered;
  }
