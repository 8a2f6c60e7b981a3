-- What a call on a seat knows of the seat and of the table.
use Rattle.std.proofs.Common.{◌≡◌, ℕ, ◌<◌, true, length, sym, ap, subst, ◌∙◌, arith}
use mathlib.Core.Option.{Option}
use Rattle.atomic_table.specs.Table.{Allows, step}
use Rattle.atomic_table.specs.Seated.{TableId}
use Rattle.sync_objects.specs.Setup.{IsWithinLimits}
use Rattle.flow_code.specs.Settle.{IsRunnable}
use Rattle.core_run.specs.Words.{cells_of, has_object, place_of}
use Rattle.sync_objects.specs.declared.object.ObjId.{ObjId}
use Rattle.shared_cells.specs.Words.{first_words, departure_place, memory_place, lone_cells, spot_of}
use Rattle.shared_cells.specs.Rule.{Board, IsBoard, Knowledge, HoldsDense, Holds}
use Rattle.shared_cells.specs.Plays.{Mine, IsSpotOf, of_place}
use Rattle.shared_cells.specs.Seats.{Sits}
use Rattle.shared_cells.specs.Views.{SeatView}
use Rattle.shared_cells.specs.declared.asked.Asked.{Asked}
use Rattle.shared_cells.proofs.Allowed.{known_of}
use Rattle.shared_cells.proofs.Spreading.{spots_rise, same_place, spread_allows}

pub record IsCalled (b : Board) (key : Knowledge) (id : TableId) (table : TableId) (me : Mine) : Type 0 where
  pub table_is : table ≡ id
  pub known : known_of me.0 ≡ key
  pub runnable : IsRunnable me.0.code
  pub limits : IsWithinLimits me.0.setup
  pub alone : length me.0.carried ≡ 1
  pub code_is : me.0.code ≡ b.code
  pub setup_is : me.0.setup ≡ b.setup
  pub words : id.words ≡ spot_of me.0.code me.0.setup (length (first_words me.0.code me.0.setup))

pub called : (b : Board) (key : Knowledge) (id : TableId) (cells lone objects departure memory : ℕ) (table : TableId) (me : Mine) (thread : ℕ) → record { code = key.code; setup = key.setup; table = id } ≡ b → IsBoard cells lone objects departure memory key id → Sits b table me thread → IsCalled b key id table me
called b key id cells lone objects departure memory table me thread is board sits =
    let code : me.0.code ≡ key.code = sits.code_is ∙ ap (λ (z : Board). z.code) (sym is) in
    let setup : me.0.setup ≡ key.setup = sits.setup_is ∙ ap (λ (z : Board). z.setup) (sym is) in
    record {
      table_is = sits.table_is ∙ ap (λ (z : Board). z.table) (sym is);
      known = ap (λ z. record { code = z; setup = me.0.setup }) code ∙ ap (λ z. record { code = key.code; setup = z }) setup;
      runnable = subst IsRunnable (sym code) board.runnable;
      limits = subst IsWithinLimits (sym setup) board.limits;
      alone = sits.alone;
      code_is = sits.code_is;
      setup_is = sits.setup_is;
      words = board.size ∙ ap (λ z. spot_of z key.setup (length (first_words z key.setup))) (sym code) ∙ ap (λ z. spot_of me.0.code z (length (first_words me.0.code z))) (sym setup);
    }

module _ (b : Board) (key : Knowledge) (id : TableId) (cells lone objects departure memory : ℕ) (table : TableId) (me : Mine) (thread : ℕ) (is : record { code = key.code; setup = key.setup; table = id } ≡ b) (board : IsBoard cells lone objects departure memory key id) (sits : Sits b table me thread) where
  key_is : known_of me.0 ≡ key
  key_is = (called b key id cells lone objects departure memory table me thread is board sits).known

  pub departure_is : departure ≡ spot_of me.0.code me.0.setup (departure_place me.0.code me.0.setup)
  departure_is = board.departure_is ∙ sym (ap (λ (k : Knowledge). spot_of k.code k.setup (departure_place k.code k.setup)) key_is)

  pub memory_is : memory ≡ spot_of me.0.code me.0.setup (memory_place me.0.code me.0.setup)
  memory_is = board.memory_is ∙ sym (ap (λ (k : Knowledge). spot_of k.code k.setup (memory_place k.code k.setup)) key_is)

  pub place_is : (obj : ObjId) (p : ℕ) → p ≡ place_of cells obj → place_of (cells_of me.0.code me.0.setup) obj ≡ p
  place_is obj p e = ap (λ n. place_of n obj) (ap (λ (k : Knowledge). cells_of k.code k.setup) key_is ∙ sym board.cells_are) ∙ sym e

pub object_is : (b : Board) (key : Knowledge) (id : TableId) (table : TableId) (me : Mine) → IsCalled b key id table me → (obj : ObjId) → has_object b.code b.setup obj ≡ true → has_object me.0.code me.0.setup obj ≡ true
object_is b key id table me k obj has = ap (λ z. has_object z me.0.setup obj) k.code_is ∙ ap (λ z. has_object b.code z obj) k.setup_is ∙ has

-- what a call names as the spot of a place is that for its seat
pub spot_there : (b : Board) (key : Knowledge) (id : TableId) (table : TableId) (me : Mine) → IsCalled b key id table me → (p q : ℕ) → p < length (first_words me.0.code me.0.setup) → q ≡ spot_of b.code b.setup p → IsSpotOf me.0 p q
spot_there b key id table me k p q inside is = (inside, is ∙ ap (λ z. spot_of z b.setup p) (sym k.code_is) ∙ ap (λ z. spot_of me.0.code z p) (sym k.setup_is))

module _ (b : Board) (key : Knowledge) (id : TableId) (table : TableId) (me : Mine) (k : IsCalled b key id table me) (slots seat p q : ℕ) (spot : IsSpotOf me.0 p q) where
  abbrev cells : ℕ
  cells = cells_of me.0.code me.0.setup

  abbrev lone : ℕ
  lone = lone_cells me.0.code me.0.setup

  pub on_table : q < id.words
  on_table =
      let up = spots_rise cells lone p (length (first_words me.0.code me.0.setup)) spot.0 in
      let words = k.words in
      let is = spot.1 in
      omega (arith, up, words, is)

  -- a step that is allowed at a place is allowed at its spot
  pub at_spot : (f : ℕ → ℕ) (then all : ℕ → Mine → Type 0) → ((found : ℕ) (after : Mine) → then found after → all found after) → Allows (HoldsDense (known_of me.0)) slots seat me p f then → Allows (Holds key) slots seat me q f all
  at_spot f then all goes allows =
      subst (λ z. Allows (Holds key) slots seat me z f all) (sym spot.1)
      (subst (λ z. Allows (Holds z) slots seat me (spot_of me.0.code me.0.setup p) f all) k.known
      (spread_allows (known_of me.0) slots seat me p f then all spot.0 goes allows))

  -- and tells what it tells of the place
  pub at_spot_of : (first second : ℕ) (said : Option Asked) (f : ℕ → ℕ) (P : ℕ → Mine → ℕ → Mine → Type 0) → Allows (HoldsDense (known_of me.0)) slots seat me p f (P p me) → Allows (Holds key) slots seat me q f (of_place P (step slots q first second said) me)
  at_spot_of first second said f P allows =
      at_spot f (P p me) (of_place P (step slots q first second said) me)
      (λ found after tells place there. subst (λ z. P z me found after) (same_place cells lone p place (sym spot.1 ∙ there.1)) tells)
      allows

-- a seat whose view has come to another one of the same thread
pub sits_as : (b : Board) (table table1 : TableId) (me me1 : Mine) (thread : ℕ) → Sits b table me thread → table1 ≡ table → me1.1 ≡ me.1 → (w : SeatView) → me1.0 ≡ w → w.from ≡ me.0.from → w.code ≡ me.0.code → w.setup ≡ me.0.setup → length w.carried ≡ 1 → Sits b table1 me1 thread
sits_as b table table1 me me1 thread sits table_is slots w view from code setup alone = record {
  table_is = table_is ∙ sits.table_is;
  no_slot = slots ∙ sits.no_slot;
  thread_is = ap (λ (z : SeatView). z.from) view ∙ from ∙ sits.thread_is;
  alone = ap (λ (z : SeatView). length z.carried) view ∙ alone;
  within = sits.within;
  code_is = ap (λ (z : SeatView). z.code) view ∙ code ∙ sits.code_is;
  setup_is = ap (λ (z : SeatView). z.setup) view ∙ setup ∙ sits.setup_is;
}
