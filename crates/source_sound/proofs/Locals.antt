-- Each formal and local of a function has a home that fits it: a register of its kind, or an object that is there.
use Rattle.std.proofs.Common.{◌≡◌, ℕ, zero, suc, ◌+◌, ◌-◌, ◌<◌, ◌≤◌, Bool, true, false, not, ◌||◌, if◌then◌else◌, List, [], ◌∷◌, ◌++◌, length, map, Option, Some, None, slice_get, refl, sym, ap, ◌∙◌, subst, arith, append_assoc, length-append, le-leb}
use Rattle.std.proofs.lemmas.List.{length-map}
use Rattle.rr_base.proofs.Lists.{slice_get-append_at}
use Rattle.rr_base.specs.declared.layout.Site.{Site}
use Rattle.c_tree.specs.Tree.{Declares, declares, Start, start_declares, start_computes, Statement, block, compute, break_at, continue_at, gives, branch, branch_else, while_loop, do_loop, for_loop, Parts, no_part, and_declares, and_does}
use Rattle.c_locals.specs.Addresses.{is_among, count_of_declares, count_of_start, count_of_locals, count_of_parts}
use Rattle.c_operators.specs.declared.home.Home.{Home}
use Rattle.c_operators.specs.declared.home.Home.TheVariants as kept_in
use Rattle.c_frames.specs.declared.local.Local.{Local}
use Rattle.c_operators.specs.Context.{Frame, home_numbered, site_at}
use Rattle.c_frames.specs.Locals.{local_of, declares_locals, start_locals, statement_locals, parts_locals}
use Rattle.c_frames.specs.Frames.{marked, one_if, kept_count, formal_homes, local_homes, homes_of, local_pointers, pointers_of, sites_of}
use Rattle.source_sound.proofs.Environment.{IsKept}
use Rattle.source_sound.proofs.NoFaults.{neither}

pub marked_append : (ns : List ℕ) (n m : ℕ) (xs ys : List Local) → m ≡ n + length xs → marked ns n (xs ++ ys) ≡ marked ns n xs ++ marked ns m ys
marked_append ns n m [] ys e = let is : n ≡ m = omega (arith, e) in ap (λ k. marked ns k ys) is
marked_append ns n m (x ∷ xs) ys e =
    let is : m ≡ n + 1 + length xs = omega (arith, e) in
    ap (λ ls. record x { is_kept = x.is_kept || is_among ns n } ∷ ls) (marked_append ns (n + 1) m xs ys is)

pub marked_length : (ns : List ℕ) (n : ℕ) (ls : List Local) → length (marked ns n ls) ≡ length ls
marked_length ns n [] = refl
marked_length ns n (l ∷ ls) = ap suc (marked_length ns (n + 1) ls)

module _ (pointers : List Bool) (many : ℕ) where
  -- among these registers and so many objects
  abbrev pub HomeFits : Option Home → Local → Type 0
  HomeFits None l = ⊥
  HomeFits (Some (kept_in.Register r)) l = (l.is_kept ≡ false) × (slice_get pointers r ≡ Some l.is_pointer)
  HomeFits (Some (kept_in.Object k)) l = k < many

  abbrev pub HomesFit : List Home → List Local → Type 0
  HomesFit [] [] = Unit {0}
  HomesFit [] (l ∷ ls) = ⊥
  HomesFit (x ∷ xs) [] = ⊥
  HomesFit (x ∷ xs) (l ∷ ls) = HomeFits (Some x) l × HomesFit xs ls

  -- those that come have the numbers from n on
  abbrev pub AreHome : Frame → ℕ → List Local → Type 0
  AreHome frame n [] = Unit {0}
  AreHome frame n (l ∷ ls) = HomeFits (home_numbered frame (Some n)) l × AreHome frame (n + 1) ls

  -- ---- parts of those that come

  pub home_left : (frame : Frame) (n : ℕ) (xs ys : List Local) → AreHome frame n (xs ++ ys) → AreHome frame n xs
  home_left frame n [] ys have = tt
  home_left frame n (x ∷ xs) ys have = (have.0, home_left frame (n + 1) xs ys have.1)

  pub home_right : (frame : Frame) (n m : ℕ) (xs ys : List Local) → m ≡ n + length xs → AreHome frame n (xs ++ ys) → AreHome frame m ys
  home_right frame n m [] ys e have = let is : n ≡ m = omega (arith, e) in subst (λ k. AreHome frame k ys) is have
  home_right frame n m (x ∷ xs) ys e have = let is : m ≡ n + 1 + length xs = omega (arith, e) in home_right frame (n + 1) m xs ys is have.1

  -- what is kept for `&` alone may be a scalar too
  unmarked_one : (ns : List ℕ) (m : ℕ) (l : Local) (o : Option Home) → HomeFits o (record l { is_kept = l.is_kept || is_among ns m }) → HomeFits o l
  unmarked_one ns m l None fit = fit
  unmarked_one ns m l (Some (kept_in.Register r)) fit = ((neither l.is_kept (is_among ns m) fit.0).0, fit.1)
  unmarked_one ns m l (Some (kept_in.Object k)) fit = fit

  pub unmarked : (frame : Frame) (n : ℕ) (ns : List ℕ) (m : ℕ) (ls : List Local) → AreHome frame n (marked ns m ls) → AreHome frame n ls
  unmarked frame n ns m [] have = tt
  unmarked frame n ns m (l ∷ ls) have = (unmarked_one ns m l (home_numbered frame (Some n)) have.0, unmarked frame (n + 1) ns (m + 1) ls have.1)

  -- a number that is marked leads to no register
  kept_home : (ns : List ℕ) (n : ℕ) (x : Home) (l : Local) → HomeFits (Some x) (record l { is_kept = l.is_kept || is_among ns n }) → is_among ns n ≡ true → IsKept (Some x)
  kept_home ns n (kept_in.Register r) l fit is = let no = (neither l.is_kept (is_among ns n) fit.0).1 in cc
  kept_home ns n (kept_in.Object k) l fit is = tt

  pub marked_kept : (ns : List ℕ) (n : ℕ) (xs : List Home) (ls : List Local) (i : ℕ) → HomesFit xs (marked ns n ls) → is_among ns (n + i) ≡ true → IsKept (slice_get xs i)
  marked_kept ns n [] ls i fit is = tt
  marked_kept ns n (x ∷ xs) [] i fit is = absurd fit
  marked_kept ns n (x ∷ xs) (l ∷ ls) zero fit is = let e : n + 0 ≡ n = omega arith in kept_home ns n x l fit.0 (subst (λ k. is_among ns k ≡ true) e is)
  marked_kept ns n (x ∷ xs) (l ∷ ls) (suc i) fit is = let e : n + suc i ≡ n + 1 + i = omega arith in marked_kept ns (n + 1) xs ls i fit.1 (subst (λ k. is_among ns k ≡ true) e is)

  -- ---- the registers

  -- these stand from the register r on
  abbrev StandAt : ℕ → List Bool → Type 0
  StandAt r [] = Unit {0}
  StandAt r (x ∷ xs) = (slice_get pointers r ≡ Some x) × StandAt (r + 1) xs

  stand_left : (r : ℕ) (xs ys : List Bool) → StandAt r (xs ++ ys) → StandAt r xs
  stand_left r [] ys h = tt
  stand_left r (x ∷ xs) ys h = (h.0, stand_left (r + 1) xs ys h.1)

  stand_right : (r q : ℕ) (xs ys : List Bool) → q ≡ r + length xs → StandAt r (xs ++ ys) → StandAt q ys
  stand_right r q [] ys e h = let is : r ≡ q = omega (arith, e) in subst (λ k. StandAt k ys) is h
  stand_right r q (x ∷ xs) ys e h = let is : q ≡ r + 1 + length xs = omega (arith, e) in stand_right (r + 1) q xs ys is h.1

  -- ---- formals

  formal_home : (r k rest : ℕ) (l : Local) (b : Bool) → l.is_kept ≡ b → slice_get pointers r ≡ Some l.is_pointer → k + (one_if l.is_kept + rest) ≤ many
      → HomeFits (Some (if b then kept_in.Object k else kept_in.Register r)) l
  formal_home r k rest l true is stands le = let one : one_if l.is_kept ≡ 1 = ap one_if is in omega (arith, le, one)
  formal_home r k rest l false is stands le = (is, stands)

  formals_fit : (r k : ℕ) (ls : List Local) → StandAt r (map (λ l. l.is_pointer) ls) → k + kept_count ls ≤ many → HomesFit (formal_homes r k ls) ls
  formals_fit r k [] stand le = tt
  formals_fit r k (l ∷ ls) stand le =
      (formal_home r k (kept_count ls) l l.is_kept refl stand.0 le, formals_fit (r + 1) (k + one_if l.is_kept) ls stand.1 (omega (arith, le)))

  -- ---- locals

  local_stands : (r : ℕ) (x : Bool) (rest : List Bool) (b : Bool) → StandAt r ((if b then [] else x ∷ []) ++ rest) → (b ≡ false → slice_get pointers r ≡ Some x) × StandAt (r + one_if (not b)) rest
  local_stands r x rest true h = let is : r ≡ r + 0 = omega arith in ((λ e. cc), subst (λ k. StandAt k rest) is h)
  local_stands r x rest false h = ((λ e. h.0), h.1)

  local_home : (r k rest : ℕ) (l : Local) (b : Bool) → l.is_kept ≡ b → (b ≡ false → slice_get pointers r ≡ Some l.is_pointer) → k + (one_if l.is_kept + rest) ≤ many
      → HomeFits (Some (if b then kept_in.Object k else kept_in.Register r)) l
  local_home r k rest l true is stands le = let one : one_if l.is_kept ≡ 1 = ap one_if is in omega (arith, le, one)
  local_home r k rest l false is stands le = (is, stands refl)

  locals_fit : (r k : ℕ) (ls : List Local) → StandAt r (local_pointers ls) → k + kept_count ls ≤ many → HomesFit (local_homes r k ls) ls
  locals_fit r k [] stand le = tt
  locals_fit r k (l ∷ ls) stand le =
      let two = local_stands r l.is_pointer (local_pointers ls) l.is_kept stand in
      (local_home r k (kept_count ls) l l.is_kept refl two.0 le, locals_fit (r + one_if (not l.is_kept)) (k + one_if l.is_kept) ls two.1 (omega (arith, le)))

  both_fit : (xs ys : List Home) (ls ms : List Local) → HomesFit xs ls → HomesFit ys ms → HomesFit (xs ++ ys) (ls ++ ms)
  both_fit [] ys [] ms a b = b
  both_fit [] ys (l ∷ ls) ms a b = absurd a
  both_fit (x ∷ xs) ys [] ms a b = absurd a
  both_fit (x ∷ xs) ys (l ∷ ls) ms a b = (a.0, both_fit xs ys ls ms a.1 b)

  pub kept_append : (xs ys : List Local) → kept_count (xs ++ ys) ≡ kept_count xs + kept_count ys
  kept_append [] ys = omega arith
  kept_append (x ∷ xs) ys = let more = kept_append xs ys in omega (arith, more)

  all_fit : (formals locals : List Local) → StandAt 0 (pointers_of formals locals) → kept_count (formals ++ locals) ≤ many → HomesFit (homes_of formals locals) (formals ++ locals)
  all_fit formals locals stand le =
      let count = kept_append formals locals in
      let own = stand_left 0 (map (λ l. l.is_pointer) formals) (local_pointers locals) stand in
      let same : length (map (λ (l : Local). l.is_pointer) formals) ≡ length formals = length-map formals (λ (l : Local). l.is_pointer) in
      let rest = stand_right 0 (length formals) (map (λ l. l.is_pointer) formals) (local_pointers locals) (omega (arith, same)) stand in
      both_fit (formal_homes 0 0 formals) (local_homes (length formals) (kept_count formals) locals) formals locals
      (formals_fit 0 0 formals own (omega (arith, count, le)))
      (locals_fit (length formals) (kept_count formals) locals rest (omega (arith, count, le)))

  -- ---- by their numbers

  numbered_home : (frame : Frame) (before : List Home) (x : Home) (xs : List Home) (n : ℕ) → before ++ x ∷ xs ≡ frame.homes → n ≡ frame.first + length before → home_numbered frame (Some n) ≡ Some x
  numbered_home frame before x xs n e is =
      let le : frame.first ≤ n = omega (arith, is) in
      let place : length before ≡ n - frame.first = omega (arith, is) in
      ap (λ b. if b then slice_get frame.homes (n - frame.first) else None) (le-leb frame.first n le)
      ∙ ap (λ hs. slice_get hs (n - frame.first)) (sym e)
      ∙ slice_get-append_at before x xs (n - frame.first) place

  numbered_homes : (frame : Frame) (before xs : List Home) (n : ℕ) (ls : List Local) → before ++ xs ≡ frame.homes → n ≡ frame.first + length before → HomesFit xs ls → AreHome frame n ls
  numbered_homes frame before [] n [] e is fit = tt
  numbered_homes frame before [] n (l ∷ ls) e is fit = absurd fit
  numbered_homes frame before (x ∷ xs) n [] e is fit = absurd fit
  numbered_homes frame before (x ∷ xs) n (l ∷ ls) e is fit =
      let count : length (before ++ x ∷ []) ≡ length before + 1 = length-append before (x ∷ []) in (
        subst (λ o. HomeFits o l) (sym (numbered_home frame before x xs n e is)) fit.0,
        numbered_homes frame (before ++ x ∷ []) xs (n + 1) ls (append_assoc before (x ∷ []) xs ∙ e) (omega (arith, is, count)) fit.1,
      )

stands : (many : ℕ) (before xs : List Bool) (r : ℕ) → length before ≡ r → StandAt (before ++ xs) many r xs
stands many before [] r e = tt
stands many before (x ∷ xs) r e =
    let count : length (before ++ x ∷ []) ≡ length before + 1 = length-append before (x ∷ []) in (
      slice_get-append_at before x xs r e,
      subst (λ ps. StandAt ps many (r + 1) xs) (append_assoc before (x ∷ []) xs) (stands many (before ++ x ∷ []) xs (r + 1) (omega (arith, count, e))),
    )

sites_count_one : (b : Bool) (s : ℕ) (rest : List ℕ) (n : ℕ) → length rest ≡ n → length ((if b then s ∷ [] else []) ++ rest) ≡ one_if b + n
sites_count_one true s rest n e = omega (arith, e)
sites_count_one false s rest n e = omega (arith, e)

pub sites_count : (sites : List Site) (ls : List Local) → length (sites_of sites ls) ≡ kept_count ls
sites_count sites [] = refl
sites_count sites (l ∷ ls) = sites_count_one l.is_kept (site_at sites l.at) (sites_of sites ls) (kept_count ls) (sites_count sites ls)

-- the home of each formal and local of a function fits it
pub homes_fit : (sites : List Site) (formals locals : List Local)
    → HomesFit (pointers_of formals locals) (length (sites_of sites (formals ++ locals))) (homes_of formals locals) (formals ++ locals)
homes_fit sites formals locals =
    let count = sites_count sites (formals ++ locals) in
    all_fit (pointers_of formals locals) (length (sites_of sites (formals ++ locals))) formals locals (stands (length (sites_of sites (formals ++ locals))) [] (pointers_of formals locals) 0 refl) (omega (arith, count))

-- so it is found by its number, from that of the frame on
pub all_home : (sites : List Site) (frame : Frame) (formals locals : List Local) → frame.homes ≡ homes_of formals locals
    → AreHome (pointers_of formals locals) (length (sites_of sites (formals ++ locals))) frame frame.first (formals ++ locals)
all_home sites frame formals locals e =
    numbered_homes (pointers_of formals locals) (length (sites_of sites (formals ++ locals))) frame [] (homes_of formals locals) frame.first (formals ++ locals) (sym e) (omega arith) (homes_fit sites formals locals)

-- ---- how many locals come

pub declares_count : (d : Declares) → length (declares_locals d) ≡ count_of_declares d
declares_count (declares s os at) = length-map os (local_of s)

pub start_count : (s : Start) → length (start_locals s) ≡ count_of_start s
start_count (start_declares d) = declares_count d
start_count (start_computes e) = refl

two_counts : (xs ys : List Local) (m n : ℕ) → length xs ≡ m → length ys ≡ n → length (xs ++ ys) ≡ m + n
two_counts xs ys m n a b = omega (arith, length-append xs ys, a, b)

mutual
  pub locals_count : (s : Statement) → length (statement_locals s) ≡ count_of_locals s
  locals_count (block ps at) = parts_count ps
  locals_count (compute e at) = refl
  locals_count (break_at at) = refl
  locals_count (continue_at at) = refl
  locals_count (gives e at) = refl
  locals_count (branch e a at) = locals_count a
  locals_count (branch_else e a b at) = two_counts (statement_locals a) (statement_locals b) (count_of_locals a) (count_of_locals b) (locals_count a) (locals_count b)
  locals_count (while_loop e a at) = locals_count a
  locals_count (do_loop a e at) = locals_count a
  locals_count (for_loop start test next a at) = two_counts (start_locals start) (statement_locals a) (count_of_start start) (count_of_locals a) (start_count start) (locals_count a)

  pub parts_count : (ps : Parts) → length (parts_locals ps) ≡ count_of_parts ps
  parts_count no_part = refl
  parts_count (and_declares d ps) = two_counts (declares_locals d) (parts_locals ps) (count_of_declares d) (count_of_parts ps) (declares_count d) (parts_count ps)
  parts_count (and_does s ps) = two_counts (statement_locals s) (parts_locals ps) (count_of_locals s) (count_of_parts ps) (locals_count s) (parts_count ps)
