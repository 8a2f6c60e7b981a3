-- What a look has found: an object's word can be as it was found, and the memory word was set.
use Rattle.std.proofs.Common.{◌≡◌, ◌≢◌, ◌-◌, ◌^◌, ℕ, true, refl, sym, ap, subst, ◌∙◌, arith}
use Rattle.sync_objects.specs.Names.{name_of, Fits}
use Rattle.sync_objects.specs.Setup.{IsWithinLimits}
use Rattle.sync_objects.specs.declared.object.ObjId.{ObjId}
use Rattle.sync_objects.specs.declared.operation.Op.{Op}
use Rattle.flow_code.specs.Settle.{IsRunnable}
use Rattle.core_run.specs.Kept.{most_operations}
use Rattle.core_run.specs.Words.{has_object}
use Rattle.core_run.proofs.Performed.{Askable, askable}
use Rattle.core_run.proofs.Reached.{kept}
use Rattle.core_run.proofs.SoundWords.{sound_more}
use Rattle.shared_cells.specs.Plays.{IsReachedWith}
use Rattle.shared_cells.specs.Rule.{Board}
use Rattle.shared_cells.specs.Seats.{view_of, place_in, IsSeatOf}
use Rattle.shared_cells.specs.Views.{SeatView, looked}
use Rattle.shared_cells.specs.Words.{memory_place}
use Rattle.shared_cells.specs.declared.seat.Seat.{Seat}
use Rattle.weak_turns.specs.Turns.{Saw, SawNoMemory}

pub askable_at : (cells : Board) (seat : Seat) → IsSeatOf cells seat → IsRunnable cells.code → IsWithinLimits cells.setup → (o : Op) (obj : ObjId) (w : ℕ) → has_object cells.code cells.setup obj ≡ true → Fits (name_of o) obj → IsReachedWith (view_of seat) (place_in (view_of seat) obj) w → Askable (view_of seat).code (view_of seat).setup o w
askable_at cells seat of runnable limits o obj w has fits found =
    let v = view_of seat in
    let runnable_here = subst IsRunnable (sym of.code_is) runnable in
    let limits_here = subst IsWithinLimits (sym of.setup_is) limits in
    let has_here : has_object v.code v.setup obj ≡ true = ap (λ z. has_object z v.setup obj) of.code_is ∙ ap (λ z. has_object cells.code z obj) of.setup_is ∙ has in
    let k = kept v.code v.setup runnable_here limits_here found.0 found.1 in
    askable v.code v.setup found.0.words o obj w (sound_more v.code v.setup most_operations (2 ^ 32 - 2) found.0.words (omega arith) k.sound) has_here found.3 fits

-- a seat that has met the memory word last, which was set
pub saw_no_memory : (cells : Board) (before now : Seat) (value : ℕ) → view_of now ≡ looked (view_of before) (memory_place cells.code cells.setup) value → value ≢ 0 → SawNoMemory cells (view_of now).notes
saw_no_memory cells before now value view set = (value, subst (λ (v : SeatView). Saw v.notes (memory_place cells.code cells.setup) value) (sym view) (0, omega arith, refl), set)
