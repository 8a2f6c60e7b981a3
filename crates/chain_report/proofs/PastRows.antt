-- What is kept of the entries before one, and that its row is made of what is kept alone.
use Rattle.std.proofs.Common.{◌≡◌, ℕ, zero, suc, ◌+◌, ◌<◌, ◌==◌, ◌&&◌, ◌||◌, Bool, true, false, if◌then◌else◌, List, [], ◌∷◌, ◌++◌, length, take, drop, replicate, Option, Some, None, refl, sym, ap, subst, ◌∙◌, arith}
use Rattle.std.specs.Prelude.{slice_get, slice_set}
use Rattle.std.specs.Option.{is_some}
use Rattle.std.proofs.lemmas.Bool.{and_parts, true≢false, eqb-true, eq-eqb}
use Rattle.std.proofs.lemmas.List.{length-append}
use Rattle.rr_base.proofs.Lists.{slice_get-set_other, slice_get-set_same}
use Rattle.run_theory.specs.Same.{same_object}
use Rattle.run_theory.proofs.SameEntries.{same_object-true, same_object-refl}
use Rattle.sync_objects.specs.declared.entry.Entry.{Entry}
use Rattle.sync_objects.specs.declared.mode.Mode.{Mode}
use Rattle.sync_objects.specs.declared.mode.Mode.TheVariants.{Read, Write}
use Rattle.sync_objects.specs.declared.object.ObjId.{ObjId}
use Rattle.sync_objects.specs.declared.operation.OpName.{OpName}
use Rattle.sync_objects.specs.declared.operation.OpName.TheVariants as name
use Rattle.chain_report.specs.Chains.{exclude, hands_thread, is_after}
use Rattle.chain_report.specs.Past.{let_go, got, asks_hold, nothing, same_hold, hands_on, lets_go_to, KeptIs, AreLinks, link_by_mode, link_by, row_by, first_or, kept_after}
use Rattle.chain_report.specs.Replayed.{holder_after, holder_step, holder_over, hold_after, hold_step, hold_over, released_by, released, acquired_by}
use Rattle.chain_report.specs.Tables.{is_there, is_link_of, first_from, row_of, rows_from}
use Rattle.chain_report.specs.declared.kept.Hold.{Hold}
use Rattle.chain_report.specs.declared.kept.Kept.{Kept}
use Rattle.chain_report.specs.declared.point.Point.{Point}
use Rattle.chain_report.specs.declared.row.Row.{Row}

-- ---- the first rows that meet a test

-- the first one of one row more
pub first_more : (test : Row → Bool) (at : ℕ) (rs : List Row) (r : Row) → first_from test at (rs ++ r ∷ []) ≡ first_or (first_from test at rs) (test r) (at + length rs)
first_more test at [] r = let e : at ≡ at + 0 = omega arith in ap (λ n. if test r then Some n else None) e
first_more test at (x ∷ rs) r = by (test x) (first_more test (at + 1) rs r)
  where
    by : (b : Bool) → first_from test (at + 1) (rs ++ r ∷ []) ≡ first_or (first_from test (at + 1) rs) (test r) (at + 1 + length rs) →
        (if b then Some at else first_from test (at + 1) (rs ++ r ∷ [])) ≡ first_or (if b then Some at else first_from test (at + 1) rs) (test r) (at + length (x ∷ rs))
    by true again = refl
    by false again = let e : at + 1 + length rs ≡ at + length (x ∷ rs) = omega arith in again ∙ ap (first_or (first_from test (at + 1) rs) (test r)) e

-- what is kept of the first one goes on so
kept_first : (test : Row → Bool) (rs : List Row) (r : Row) (kept : Option ℕ) (meets : Bool) → kept ≡ first_from test 0 rs → meets ≡ test r → first_or kept meets (length rs) ≡ first_from test 0 (rs ++ r ∷ [])
kept_first test rs r kept meets is same =
    let e : length rs ≡ 0 + length rs = omega arith in
    ap (λ o. first_or o meets (length rs)) is ∙ ap (λ b. first_or (first_from test 0 rs) b (length rs)) same ∙ ap (first_or (first_from test 0 rs) (test r)) e ∙ sym (first_more test 0 rs r)

or_none : (o : Option ℕ) (n : ℕ) → first_or o false n ≡ o
or_none None n = refl
or_none (Some k) n = refl

first_stays : (test : Row → Bool) (rs : List Row) (r : Row) (kept : Option ℕ) → kept ≡ first_from test 0 rs → test r ≡ false → kept ≡ first_from test 0 (rs ++ r ∷ [])
first_stays test rs r kept is never = sym (or_none kept (length rs)) ∙ kept_first test rs r kept false is (sym never)

-- tests that are alike have one first row, and one that nothing meets has none
first_alike : (p q : Row → Bool) (at : ℕ) (rs : List Row) → ((r : Row) → p r ≡ q r) → first_from p at rs ≡ first_from q at rs
first_alike p q at [] same = refl
first_alike p q at (r ∷ rs) same = ap (λ b. if b then Some at else first_from p (at + 1) rs) (same r) ∙ ap (λ o. if q r then Some at else o) (first_alike p q (at + 1) rs same)

no_first : (p : Row → Bool) (at : ℕ) (rs : List Row) → ((r : Row) → p r ≡ false) → first_from p at rs ≡ None
no_first p at [] never = refl
no_first p at (r ∷ rs) never = ap (λ b. if b then Some at else first_from p (at + 1) rs) (never r) ∙ no_first p (at + 1) rs never

-- ---- tests

and_true : (a b : Bool) → b ≡ true → (a && b) ≡ a
and_true true b e = e
and_true false b e = refl

mid_true : (a s c : Bool) → s ≡ true → (a && c) ≡ ((a && s) && c)
mid_true a s c e = ap (λ z. z && c) (sym (and_true a s e))

mid_false : (a s c : Bool) → s ≡ false → ((a && s) && c) ≡ false
mid_false true s c e = ap (λ z. z && c) e
mid_false false s c e = refl

or_false : (a b : Bool) → b ≡ false → (a || b) ≡ a
or_false true b e = refl
or_false false b e = e

and_false : (a b : Bool) → b ≡ false → (a && b) ≡ false
and_false true b e = e
and_false false b e = refl

-- ---- who holds what

holder_more : (o : ObjId) (h : Option ℕ) (es : List Entry) (y : Entry) → holder_over o h (es ++ y ∷ []) ≡ holder_step o y (holder_over o h es)
holder_more o h [] y = refl
holder_more o h (e ∷ es) y = holder_more o (holder_step o e h) es y

hold_more : (lock : ObjId) (t : ℕ) (h : Option Mode) (es : List Entry) (y : Entry) → hold_over lock t h (es ++ y ∷ []) ≡ hold_step lock t y (hold_over lock t h es)
hold_more lock t h [] y = refl
hold_more lock t h (e ∷ es) y = hold_more lock t (hold_step lock t e h) es y

-- who doesn't ask changes nothing
hold_kept : (op : OpName) (h : Option Mode) → asks_hold op ≡ false → hold_after op h ≡ h
hold_kept name.RdLock h e = cc
hold_kept name.WrLock h e = cc
hold_kept name.RwUnlock h e = cc
hold_kept op h e = refl

-- what is let go and got, by what an operation asks for alone
let_go_is : (before : List Entry) (y : Entry) (op : OpName) → let_go op (if asks_hold op then hold_over y.obj y.thread None before else None) ≡ released_by before y op
let_go_is before y name.Unlock = refl
let_go_is before y name.Give = refl
let_go_is before y name.Revoke = refl
let_go_is before y name.RwUnlock = refl
let_go_is before y op = refl

got_is : (before : List Entry) (y : Entry) (op : OpName) → got op (holder_over y.obj None before) (if asks_hold op then hold_over y.obj y.thread None before else None) ≡ acquired_by before y op
got_is before y name.Lock = refl
got_is before y name.TryLock = refl
got_is before y name.Take = refl
got_is before y name.Retake = refl
got_is before y name.RdLock = refl
got_is before y name.WrLock = refl
got_is before y op = refl

-- ---- what is kept of an object

module _ (before : List Entry) (rows : List Row) (r : Row) (o : ObjId) (kept : Kept) (is : KeptIs before rows o kept) where
  -- .. after an operation on it
  kept_more : same_object r.entry.obj o ≡ true → KeptIs (before ++ r.entry ∷ []) (rows ++ r ∷ []) o (kept_after kept r (length rows))
  kept_more same = record {
    holder = ap (holder_after r.entry.op r.entry.thread) is.holder ∙ sym (holder_more o None before r.entry ∙ ap (λ b. if b then holder_after r.entry.op r.entry.thread (holder_over o None before) else holder_over o None before) same);
    to_begin = kept_first (hands_on o name.Begin) rows r kept.to_begin _ is.to_begin (mid_true r.eligible (same_object r.entry.obj o) (hands_thread r.entry.op name.Begin) same);
    to_join = kept_first (hands_on o name.Join) rows r kept.to_join _ is.to_join (mid_true r.eligible (same_object r.entry.obj o) (hands_thread r.entry.op name.Join) same);
    to_writer = kept_first (lets_go_to o Write) rows r kept.to_writer _ is.to_writer (mid_true r.eligible (same_object r.entry.obj o) (exclude r.released (Some Write)) same);
    to_reader = kept_first (lets_go_to o Read) rows r kept.to_reader _ is.to_reader (mid_true r.eligible (same_object r.entry.obj o) (exclude r.released (Some Read)) same);
  }

  -- .. and after one on another object
  kept_stays : same_object r.entry.obj o ≡ false → KeptIs (before ++ r.entry ∷ []) (rows ++ r ∷ []) o kept
  kept_stays other = record {
    holder = is.holder ∙ sym (holder_more o None before r.entry ∙ ap (λ b. if b then holder_after r.entry.op r.entry.thread (holder_over o None before) else holder_over o None before) other);
    to_begin = first_stays (hands_on o name.Begin) rows r kept.to_begin is.to_begin (mid_false r.eligible (same_object r.entry.obj o) (hands_thread r.entry.op name.Begin) other);
    to_join = first_stays (hands_on o name.Join) rows r kept.to_join is.to_join (mid_false r.eligible (same_object r.entry.obj o) (hands_thread r.entry.op name.Join) other);
    to_writer = first_stays (lets_go_to o Write) rows r kept.to_writer is.to_writer (mid_false r.eligible (same_object r.entry.obj o) (exclude r.released (Some Write)) other);
    to_reader = first_stays (lets_go_to o Read) rows r kept.to_reader is.to_reader (mid_false r.eligible (same_object r.entry.obj o) (exclude r.released (Some Read)) other);
  }

-- what is kept of each object after the row
objects_at : (before : List Entry) (rows : List Row) (r : Row) (old new : ObjId → Kept) →
    ((o : ObjId) → KeptIs before rows o (old o)) →
    ((o : ObjId) → new o ≡ (if same_object r.entry.obj o then kept_after (old r.entry.obj) r (length rows) else old o)) →
    (o : ObjId) → KeptIs (before ++ r.entry ∷ []) (rows ++ r ∷ []) o (new o)
objects_at before rows r old new is put o = subst (KeptIs (before ++ r.entry ∷ []) (rows ++ r ∷ []) o) (sym (put o)) (by (same_object r.entry.obj o) refl)
  where
    by : (b : Bool) → same_object r.entry.obj o ≡ b → KeptIs (before ++ r.entry ∷ []) (rows ++ r ∷ []) o (if b then kept_after (old r.entry.obj) r (length rows) else old o)
    by true e =
        subst (λ z. KeptIs (before ++ r.entry ∷ []) (rows ++ r ∷ []) z (kept_after (old r.entry.obj) r (length rows))) (same_object-true r.entry.obj o e)
        (kept_more before rows r r.entry.obj (old r.entry.obj) (is r.entry.obj) (same_object-refl r.entry.obj))
    by false e = kept_stays before rows r o (old o) (is o) e

pub objects_more : (before : List Entry) (rows : List Row) (y : Entry) (r : Row) (kept : Kept) (old new : ObjId → Kept) → r.entry ≡ y → kept ≡ kept_after (old y.obj) r (length rows) →
    ((o : ObjId) → KeptIs before rows o (old o)) →
    ((o : ObjId) → new o ≡ (if same_object y.obj o then kept else old o)) →
    (o : ObjId) → KeptIs (before ++ y ∷ []) (rows ++ r ∷ []) o (new o)
objects_more before rows y r kept old new entry_is kept_is is put o = subst (λ z. KeptIs (before ++ z ∷ []) (rows ++ r ∷ []) o (new o)) entry_is (objects_at before rows r old new is (λ p. put p ∙ so p) o)
  where
    so : (p : ObjId) → (if same_object y.obj p then kept else old p) ≡ (if same_object r.entry.obj p then kept_after (old r.entry.obj) r (length rows) else old p)
    so p =
        ap (λ k. if same_object y.obj p then k else old p) kept_is
        ∙ ap (λ (z : Entry). if same_object z.obj p then kept_after (old z.obj) r (length rows) else old p) (sym entry_is)

-- ---- how threads hold read-write locks

module _ (before : List Entry) (y : Entry) (old : Hold → Option Mode) (is : (hold : Hold) → old hold ≡ hold_over hold.lock hold.thread None before) where
  abbrev own : Hold
  own = record { lock = y.obj; thread = y.thread }

  pub holds_stay : asks_hold y.op ≡ false → (hold : Hold) → old hold ≡ hold_over hold.lock hold.thread None (before ++ y ∷ [])
  holds_stay never hold = is hold ∙ sym (hold_more hold.lock hold.thread None before y ∙ by (same_object y.obj hold.lock && (y.thread == hold.thread)))
    where
      by : (b : Bool) → (if b then hold_after y.op (hold_over hold.lock hold.thread None before) else hold_over hold.lock hold.thread None before) ≡ hold_over hold.lock hold.thread None before
      by true = hold_kept y.op (hold_over hold.lock hold.thread None before) never
      by false = refl

  pub holds_more : (new : Hold → Option Mode) → ((hold : Hold) → new hold ≡ (if same_hold own hold then hold_after y.op (old own) else old hold)) →
      (hold : Hold) → new hold ≡ hold_over hold.lock hold.thread None (before ++ y ∷ [])
  holds_more new put hold = put hold ∙ by (same_hold own hold) refl ∙ sym (hold_more hold.lock hold.thread None before y)
    where
      by : (b : Bool) → same_hold own hold ≡ b →
          (if b then hold_after y.op (old own) else old hold) ≡ (if b then hold_after y.op (hold_over hold.lock hold.thread None before) else hold_over hold.lock hold.thread None before)
      by true e =
          let parts = and_parts (same_object y.obj hold.lock) (y.thread == hold.thread) e in
          ap (hold_after y.op)
          (is own
          ∙ ap (λ o. hold_over o y.thread None before) (same_object-true y.obj hold.lock parts.0)
          ∙ ap (λ t. hold_over hold.lock t None before) (eqb-true y.thread hold.thread parts.1))
      by false e = is hold

-- ---- the first linked entries

links_at : (rows : List Row) (r : Row) (links : List (Option ℕ)) (link : Option ℕ) → AreLinks rows links → r.entry.thread < 256 → slice_get links r.entry.thread ≡ Some link →
    AreLinks (rows ++ r ∷ []) (slice_set links r.entry.thread (first_or link (is_there r.link) (length rows)))
links_at rows r links link all small at t lt = by (r.entry.thread == t) refl
  where
    same_link : link ≡ first_from (is_link_of r.entry.thread) 0 rows
    same_link = let e : Some link ≡ Some (first_from (is_link_of r.entry.thread) 0 rows) = sym at ∙ all r.entry.thread small in cc

    by : (b : Bool) → (r.entry.thread == t) ≡ b → slice_get (slice_set links r.entry.thread (first_or link (is_there r.link) (length rows))) t ≡ Some (first_from (is_link_of t) 0 (rows ++ r ∷ []))
    by true e =
        subst (λ z. slice_get (slice_set links r.entry.thread (first_or link (is_there r.link) (length rows))) z ≡ Some (first_from (is_link_of z) 0 (rows ++ r ∷ []))) (eqb-true r.entry.thread t e)
        (slice_get-set_same links r.entry.thread (first_or link (is_there r.link) (length rows)) link at
        ∙ ap Some (kept_first (is_link_of r.entry.thread) rows r link (is_there r.link) same_link (sym (and_true (is_there r.link) (r.entry.thread == r.entry.thread) (eq-eqb r.entry.thread r.entry.thread refl)))))
    by false e =
        slice_get-set_other links r.entry.thread t (first_or link (is_there r.link) (length rows)) (λ same. true≢false (sym (eq-eqb r.entry.thread t (sym same)) ∙ e))
        ∙ all t lt
        ∙ ap Some (first_stays (is_link_of t) rows r (first_from (is_link_of t) 0 rows) refl (and_false (is_there r.link) (r.entry.thread == t) e))

pub links_more : (rows : List Row) (r : Row) (u : ℕ) (links : List (Option ℕ)) (link : Option ℕ) → r.entry.thread ≡ u → AreLinks rows links → u < 256 → slice_get links u ≡ Some link →
    AreLinks (rows ++ r ∷ []) (slice_set links u (first_or link (is_there r.link) (length rows)))
links_more rows r u links link same all =
    subst (λ z. z < 256 → slice_get links z ≡ Some link → AreLinks (rows ++ r ∷ []) (slice_set links z (first_or link (is_there r.link) (length rows)))) same (links_at rows r links link all)

-- before the first entry none is linked
replicate_at : {A : Type 0} (n i : ℕ) (a : A) → i < n → slice_get (replicate n a) i ≡ Some a
replicate_at zero i a lt = absurd (omega arith)
replicate_at (suc n) zero a lt = refl
replicate_at (suc n) (suc i) a lt = replicate_at n i a (omega (arith, lt))

pub no_links : (links : List (Option ℕ)) → links ≡ replicate 256 None → AreLinks [] links
no_links links is t lt = ap (λ ls. slice_get ls t) is ∙ replicate_at 256 t None lt

-- nothing is kept before it
pub nothing_is : (o : ObjId) → KeptIs [] [] o nothing
nothing_is o = record { holder = refl; to_begin = refl; to_join = refl; to_writer = refl; to_reader = refl }

-- ---- the row

-- whether the operation is handed a thread
abbrev is_handed : OpName → Bool
is_handed name.Begin = true
is_handed name.Join = true
is_handed _ = false

no_hand : (a b : OpName) → is_handed b ≡ false → hands_thread a b ≡ false
no_hand name.Start name.Begin e = cc
no_hand name.Start name.Join e = cc
no_hand name.Start b e = refl
no_hand name.End name.Begin e = cc
no_hand name.End name.Join e = cc
no_hand name.End b e = refl
no_hand a b e = refl

excludes_none : (m : Option Mode) → exclude m None ≡ false
excludes_none None = refl
excludes_none (Some m) = refl

module _ (before : List Entry) (rows : List Row) (o : ObjId) (kept : Kept) (is : KeptIs before rows o kept) where
  -- the test of a pass to an operation of this name which gets the object in this mode
  abbrev gives : OpName → Option Mode → Row → Bool
  gives op mode r = r.eligible && same_object r.entry.obj o && (hands_thread r.entry.op op || exclude r.released mode)

  handed : (op : OpName) (r : Row) → hands_on o op r ≡ gives op None r
  handed op r = ap (λ z. r.eligible && same_object r.entry.obj o && z) (sym (or_false (hands_thread r.entry.op op) (exclude r.released None) (excludes_none r.released)))

  others : (op : OpName) → is_handed op ≡ false → (mode : Option Mode) → link_by_mode kept mode ≡ first_from (gives op mode) 0 rows
  others op never None = sym (no_first (gives op None) 0 rows (λ r. and_false (r.eligible && same_object r.entry.obj o) (hands_thread r.entry.op op || exclude r.released None) (or_false (hands_thread r.entry.op op) (exclude r.released None) (excludes_none r.released) ∙ no_hand r.entry.op op never)))
  others op never (Some Write) = is.to_writer ∙ first_alike (lets_go_to o Write) (gives op (Some Write)) 0 rows (λ r. ap (λ z. r.eligible && same_object r.entry.obj o && (z || exclude r.released (Some Write))) (sym (no_hand r.entry.op op never)))
  others op never (Some Read) = is.to_reader ∙ first_alike (lets_go_to o Read) (gives op (Some Read)) 0 rows (λ r. ap (λ z. r.eligible && same_object r.entry.obj o && (z || exclude r.released (Some Read))) (sym (no_hand r.entry.op op never)))

  link_is : (y : Entry) (op : OpName) → link_by kept op (acquired_by before y op) ≡ first_from (gives op (acquired_by before y op)) 0 rows
  link_is y name.Begin = is.to_begin ∙ first_alike (hands_on o name.Begin) (gives name.Begin None) 0 rows (handed name.Begin)
  link_is y name.Join = is.to_join ∙ first_alike (hands_on o name.Join) (gives name.Join None) 0 rows (handed name.Join)
  link_is y op = others op refl (acquired_by before y op)

abbrev row_made : Entry → Bool → Option Mode → Option ℕ → Row
row_made y eligible mode link = record { entry = y; eligible = eligible; released = mode; link = link }

-- the row is made of what is kept
pub row_is : (from : Point) (before : List Entry) (rows : List Row) (y : Entry) (kept : Kept) (held : Option Mode) (link : Option ℕ) →
    KeptIs before rows y.obj kept →
    held ≡ (if asks_hold y.op then hold_over y.obj y.thread None before else None) →
    link ≡ first_from (is_link_of y.thread) 0 rows →
    row_by from kept held (is_there link) y ≡ row_of from before rows y
row_is from before rows y kept held link is held_is link_so =
    ap (λ l. row_made y (is_after from (Some y) || is_there l) (let_go y.op held) (link_by kept y.op (got y.op kept.holder held))) link_so
    ∙ ap (λ m. row_made y (is_after from (Some y) || is_there (first_from (is_link_of y.thread) 0 rows)) m (link_by kept y.op (got y.op kept.holder held))) (ap (let_go y.op) held_is ∙ let_go_is before y y.op)
    ∙ ap (row_made y (is_after from (Some y) || is_there (first_from (is_link_of y.thread) 0 rows)) (released before y))
    (ap (λ h. link_by kept y.op (got y.op h held)) is.holder
    ∙ ap (λ h. link_by kept y.op (got y.op (holder_over y.obj None before) h)) held_is
    ∙ ap (link_by kept y.op) (got_is before y y.op)
    ∙ link_is before rows y.obj kept is y y.op)

pub some_there : {A : Type 0} (o : Option A) → is_some o ≡ is_there o
some_there None = refl
some_there (Some x) = refl

-- ---- along a log

-- the entry at a position stands between those before it and those after it
pub seam : {A : Type 0} (n : ℕ) (es : List A) (y : A) → slice_get es n ≡ Some y → (take (suc n) es ≡ take n es ++ y ∷ []) × (drop n es ≡ y ∷ drop (suc n) es)
seam n [] y h = cc
seam zero (e ∷ es) y h = let one : e ≡ y = cc in (ap (λ z. z ∷ []) one, ap (λ z. z ∷ es) one)
seam (suc n) (e ∷ es) y h = let r = seam n es y h in (ap (λ z. e ∷ z) r.0, r.1)

module _ (from : Point) (es : List Entry) (rows : List Row) (r : Row) (y : Entry) (at : slice_get es (length rows) ≡ Some y) where
  pub one_longer : length (rows ++ r ∷ []) ≡ suc (length rows)
  one_longer = omega (arith, length-append rows (r ∷ []))

  pub before_more : take (length (rows ++ r ∷ [])) es ≡ take (length rows) es ++ y ∷ []
  before_more = ap (λ n. take n es) one_longer ∙ (seam (length rows) es y at).0

  pub rows_more : r ≡ row_of from (take (length rows) es) rows y → rows_from from es rows (drop (length rows) es) ≡ rows_from from es (rows ++ r ∷ []) (drop (length (rows ++ r ∷ [])) es)
  rows_more is =
      ap (rows_from from es rows) (seam (length rows) es y at).1
      ∙ ap (λ x. rows_from from es (rows ++ x ∷ []) (drop (suc (length rows)) es)) (sym is)
      ∙ ap (λ n. rows_from from es (rows ++ r ∷ []) (drop n es)) (sym one_longer)
