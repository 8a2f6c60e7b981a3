-- Operations that are made of a thread from outside: revokes, stops and closes.
use Rattle.std.proofs.Common.{◌≡◌, ℕ, Bool, true, false, List, [], Some, None, refl, sym, ap, ◌∙◌}
use Rattle.std.proofs.lemmas.Option.{get_or_from_slice_get}
use Rattle.std.specs.Prelude.{slice_get, slice_set, if◌then◌else◌}
use Rattle.sync_objects.specs.Setup.{SetupView}
use Rattle.sync_objects.specs.Names.{name_of}
use Rattle.sync_objects.specs.Words.{number_of}
use Rattle.sync_objects.specs.Advance.{NotAllowed as NoRow, advanced}
use Rattle.sync_objects.specs.declared.entry.Entry.{Entry}
use Rattle.sync_objects.specs.declared.object.ObjId.{ObjId}
use Rattle.sync_objects.specs.declared.object.ObjId.TheVariants as object
use Rattle.sync_objects.specs.declared.operation.Op.{Op}
use Rattle.sync_objects.specs.declared.operation.Op.TheVariants as op
use Rattle.sync_objects.specs.declared.operation.OpName.{OpName}
use Rattle.sync_objects.specs.declared.operation.OpName.TheVariants as name
use Rattle.flow_code.specs.declared.code.Code.{Code}
use Rattle.flow_code.specs.Threads.{Thread}
use Rattle.flow_code.specs.Next.{gave_up, stopped, slot_closed}
use Rattle.core_run.specs.Machine.{Told, effect_of, change_of, operated, entry_of, operation, may_revoke, may_stop, may_close}
use Rattle.core_run.specs.Words.{cells_of, has_object, place_of}
use Rattle.core_run.specs.Parts.{made_outcome, MadeIs, noted, LacksWord, no_object, no_word, no_row, HasWord}
use Rattle.core_run.specs.declared.parts.Made.TheVariants as made
use Rattle.core_run.proofs.Lawful.{effect_revoke, effect_stop, effect_close}
use Rattle.run_theory.specs.Labels.{Go, Revoke, Stop, Close, label_of, operation_label}
use Rattle.run_theory.specs.Same.{same_entry}
use Rattle.run_theory.specs.Steps.{Refused, Operates, Change, Outcome, Blocked, Leaves, change_outcome, changed_outcome}
use Rattle.run_theory.proofs.SameEntries.{same_entry-true}

-- an entry of any operation but these three is made by its thread's own step
pub label_go : (t : ℕ) (o : OpName) (obj : ObjId) → (o ≡ name.Revoke → ⊥) → (o ≡ name.Stop → ⊥) → (o ≡ name.Close → ⊥) → operation_label t o obj ≡ Go t
label_go t name.Revoke obj a b c = absurd (a refl)
label_go t name.Stop obj a b c = absurd (b refl)
label_go t name.Close obj a b c = absurd (c refl)
label_go t o obj a b c = refl

module _ (code : Code) (s : SetupView) (t : ℕ) (told : Told) (o : Op) (obj : ObjId) (after : Thread) (ws : List ℕ) (e : Entry) (may : Bool) (eff : effect_of code s (label_of e) told ≡ (if may then operation code s t told o obj [] (λ answer. after) else Refused)) where
  abbrev own_entry : Entry
  own_entry = entry_of t told.thread (name_of o) obj

  abbrev change : ℕ → Change Told
  change w = change_of told own_entry [] (λ answer. after) w (advanced o t w)

  abbrev place : ℕ
  place = place_of (cells_of code s) obj

  -- by the tests: whether it may be made, whether the object is there, and whether the entry is this one
  abbrev tested : Bool → Bool → Bool → Outcome Told
  tested false has same = Blocked
  tested true false same = Blocked
  tested true true false = Blocked
  tested true true true = change_outcome ws place change (slice_get ws place)

  by_tests : (m has same : Bool) → same_entry own_entry e ≡ same → made_outcome (cells_of code s) e ws (if m then (if has then Operates own_entry change else Refused) else Refused) ≡ tested m has same
  by_tests false has same h = refl
  by_tests true false same h = refl
  by_tests true true false h = ap (λ z. if z then change_outcome ws place change (slice_get ws place) else Blocked) h
  by_tests true true true h = ap (λ z. if z then change_outcome ws place change (slice_get ws place) else Blocked) h

  outcome_is : made_outcome (cells_of code s) e ws (effect_of code s (label_of e) told) ≡ tested may (has_object code s obj) (same_entry own_entry e)
  outcome_is = ap (made_outcome (cells_of code s) e ws) eff ∙ by_tests may (has_object code s obj) (same_entry own_entry e) refl

  none_at : (m has same : Bool) → slice_get ws place ≡ None → tested m has same ≡ Blocked
  none_at false has same h = refl
  none_at true false same h = refl
  none_at true true false h = refl
  none_at true true true h = ap (change_outcome ws place change) h

  row_at : (m has same : Bool) (w : ℕ) → slice_get ws place ≡ Some w → advanced o t w ≡ NoRow → tested m has same ≡ Blocked
  row_at false has same w h a = refl
  row_at true false same w h a = refl
  row_at true true false w h a = refl
  row_at true true true w h a = ap (change_outcome ws place change) h ∙ ap (λ z. changed_outcome ws place (change_of told own_entry [] (λ answer. after) w z)) a

  no_object_at : (m same : Bool) → tested m false same ≡ Blocked
  no_object_at false same = refl
  no_object_at true same = refl

  other_at : (m has : Bool) → tested m has false ≡ Blocked
  other_at false has = refl
  other_at true false = refl
  other_at true true = refl

  pub forbidden : may ≡ false → made_outcome (cells_of code s) e ws (effect_of code s (label_of e) told) ≡ Blocked
  forbidden h = outcome_is ∙ ap (λ m. tested m (has_object code s obj) (same_entry own_entry e)) h

  pub other_entry_than : same_entry own_entry e ≡ false → made_outcome (cells_of code s) e ws (effect_of code s (label_of e) told) ≡ Blocked
  other_entry_than h = outcome_is ∙ ap (tested may (has_object code s obj)) h ∙ other_at may (has_object code s obj)

  pub lacking : LacksWord code s t o obj ws → made_outcome (cells_of code s) e ws (effect_of code s (label_of e) told) ≡ Blocked
  lacking (no_object h) = outcome_is ∙ ap (λ z. tested may z (same_entry own_entry e)) h ∙ no_object_at may (same_entry own_entry e)
  lacking (no_word h) = outcome_is ∙ none_at may (has_object code s obj) (same_entry own_entry e) h
  lacking (no_row w h a) = outcome_is ∙ row_at may (has_object code s obj) (same_entry own_entry e) w h a

  pub making : (next : ℕ) (ws1 : List ℕ) (th1 : Thread) → may ≡ true → same_entry own_entry e ≡ true → HasWord code s t o obj ws next → ws1 ≡ slice_set ws place next → th1 ≡ after → MadeIs code s told e ws ws1 th1 made.Silent
  making next ws1 th1 allowed same h words_are thread_is =
      outcome_is
      ∙ ap (λ m. tested m (has_object code s obj) (same_entry own_entry e)) allowed
      ∙ ap (λ z. tested true z (same_entry own_entry e)) h.has
      ∙ ap (tested true true) same
      ∙ ap (change_outcome ws place change) h.at
      ∙ ap (λ z. changed_outcome ws place (change_of told own_entry [] (λ answer. after) h.word z)) h.moves
      ∙ ap (λ z. Leaves z (operated told after (record { entry = own_entry; number = number_of h.word }) [])) (sym words_are)
      ∙ ap (λ z. Leaves ws1 (operated told z (record { entry = own_entry; number = number_of h.word }) [])) (sym thread_is)
      ∙ ap (λ z. Leaves ws1 (operated told th1 (record { entry = own_entry; number = number_of z }) [])) (sym (get_or_from_slice_get ws place h.word 0 h.at))
      ∙ ap (λ z. Leaves ws1 (operated told th1 (record { entry = z; number = noted code s ws z }) [])) (same_entry-true own_entry e same)

-- what each of the three labels does, with the thread's state at hand

pub revoke_effect : (code : Code) (s : SetupView) (lock stripe : ℕ) (told : Told) (th : Thread) (e : Entry) → told.thread ≡ th → label_of e ≡ Revoke e.thread lock stripe → effect_of code s (label_of e) told ≡ (if may_revoke th lock stripe then operation code s e.thread told op.Revoke (object.Weak lock stripe) [] (λ answer. gave_up th lock stripe) else Refused)
revoke_effect code s lock stripe told th e is l =
    ap (λ z. effect_of code s z told) l ∙ effect_revoke code s e.thread lock stripe told
    ∙ ap (λ z. if may_revoke z lock stripe then operation code s e.thread told op.Revoke (object.Weak lock stripe) [] (λ answer. gave_up z lock stripe) else Refused) is

pub stop_effect : (code : Code) (s : SetupView) (told : Told) (th : Thread) (e : Entry) → told.thread ≡ th → label_of e ≡ Stop e.thread → effect_of code s (label_of e) told ≡ (if may_stop th then operation code s e.thread told op.Stop object.Halt [] (λ answer. stopped th) else Refused)
stop_effect code s told th e is l =
    ap (λ z. effect_of code s z told) l ∙ effect_stop code s e.thread told
    ∙ ap (λ z. if may_stop z then operation code s e.thread told op.Stop object.Halt [] (λ answer. stopped z) else Refused) is

pub close_effect : (code : Code) (s : SetupView) (told : Told) (th : Thread) (e : Entry) → told.thread ≡ th → label_of e ≡ Close e.thread → effect_of code s (label_of e) told ≡ (if may_close th then operation code s e.thread told op.Close (object.Slot e.thread) [] (λ answer. slot_closed th) else Refused)
close_effect code s told th e is l =
    ap (λ z. effect_of code s z told) l ∙ effect_close code s e.thread told
    ∙ ap (λ z. if may_close z then operation code s e.thread told op.Close (object.Slot e.thread) [] (λ answer. slot_closed z) else Refused) is
