use Rattle.std.proofs.Common.{◌≡◌, ◌+◌, [], ◌∷◌, ◌++◌, length, map, sym, ap, subst, arith, List, length-append}
use Rattle.std.specs.List.{AllByRecursion, flat_map}
use Rattle.std.proofs.lemmas.Result.{err_from_is_err_and}
use Rattle.snapshots.specs.Conditions.{IsThreadForm}
use Rattle.snapshots.specs.Text.{thread_lines}
use Rattle.snapshots.specs.declared.draft.DraftThread.{DraftThread}
use Rattle.snapshot_grammar.specs.Drafts.{clipped_thread}
use Rattle.snapshot_grammar.specs.Parts.{IsRead, left}
use Rattle.snapshot_grammar.proofs.Whole.{thread_error, threads_all, threads_none, threads_one}
use Rattle.snapshot_grammar.proofs.draft.read_threads.Goals as goal

pub loop-left-init : goal.loop-left-init
loop-left-init c =
    subst
    (λ (ys : List DraftThread). record {
      read : IsRead (List DraftThread) (List DraftThread) (AllByRecursion IsThreadForm) (flat_map thread_lines) (map clipped_thread) (left c.args.reader.now) ys (left c.args.reader.now);
      counted : length ys + c.args.slots ≡ c.args.slots;
    })
    (sym c.new-found.ensures) (record { read = threads_none (left c.args.reader.now) (omega arith); counted = omega arith })

pub loop-left-preserved : goal.loop-left-preserved
loop-left-preserved c =
    let i = c.loop-left.invariant in
    let pushed = c.in_ok-push.ensures.ok in
    record {
      read = subst (λ (ys : List DraftThread). IsRead (List DraftThread) (List DraftThread) (AllByRecursion IsThreadForm) (flat_map thread_lines) (map clipped_thread) (left c.args.reader.now) ys (left c.read_thread.new.reader)) (sym pushed)
          (threads_one (left c.args.reader.now) (left c.loop-left.reader) (left c.read_thread.new.reader) c.loop-left.found c.in_ok-thread.thread i.read c.in_ok-thread.ensures);
      counted = let e = ap length pushed in let f = length-append c.loop-left.found (c.in_ok-thread.thread ∷ []) in let n = i.counted in omega arith;
    }

pub returns-in_err-thread : goal.returns-in_err-thread
returns-in_err-thread c =
    let p = err_from_is_err_and c.from_residual.result c.from_residual.ensures.1 in
    let i = c.loop-left.invariant in
    rw (p.1, p.2)
    (thread_error c.args.slots (left c.args.reader.now) (left c.loop-left.reader) (left c.read_thread.new.reader) (left c.read_thread.new.reader) c.loop-left.found c.in_err-thread.field-0.0 i.read (let m = i.counted in omega arith) c.in_err-thread.ensures)

pub returns : goal.returns
returns c = let i = c.loop-left.invariant in threads_all c.args.slots (left c.args.reader.now) (left c.loop-left.reader) c.loop-left.found i.read (let m = i.counted in omega arith)
