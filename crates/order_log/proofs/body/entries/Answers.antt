use Rattle.std.proofs.Common.{List, sym, ap, subst, ◌∙◌}
use Rattle.std.specs.List.{AllByRecursion}
use Rattle.std.proofs.lemmas.Result.{err_from_is_err_and}
use Rattle.sync_objects.specs.declared.entry.Entry.{Entry}
use Rattle.order_log.specs.Log.{IsEntryWithin}
use Rattle.order_log.specs.Line.{entries_of}
use Rattle.order_log.specs.Recogniser.{lines_in, may_begin, entries_from}
use Rattle.order_log.proofs.Counting.{found_in, entries_err, entries_misplaced, entries_limit, entries_more, more_within}
use Rattle.order_log.proofs.body.entries.Goals as goal

pub returns-in_err-next_line : goal.returns-in_err-next_line
returns-in_err-next_line c =
    let p = err_from_is_err_and c.from_residual.result c.from_residual.ensures.1 in
    let r = c.loop-version.reader in
    rw (p.1, p.2) (entries_err c.args.version c.args.setup.now c.loop-version.found r.line r.bytes.now c.in_err-next_line.field-0.0 _ (sym c.is_empty.ensures ∙ c.loop-version-test.true) c.in_err-next_line.ensures c.loop-version.invariant.goes_on)

pub returns-then-not-may_begin : goal.returns-then-not-may_begin
returns-then-not-may_begin c =
    let r = c.loop-version.reader in
    let after = lines_in c.next_line.new.reader.line c.next_line.new.reader.bytes.now in
    let w = c.args.version in
    let es = c.loop-version.found in
    let line = c.in_ok-next_line.field-0.now in
    let x = c.in-Some.group in
    let f = found_in w c.args.setup.now es line x c.requires c.loop-version.invariant.within c.in-Some.ensures in
    let misplaced = sym (c.may_begin.ensures ∙ ap (λ (fs : List Entry). may_begin w fs x.first) c.as_slice.ensures) ∙ c.if-not-may_begin.true in
    entries_misplaced w c.args.setup.now es (lines_in r.line r.bytes.now) after line x _ f c.in_ok-next_line.ensures misplaced c.loop-version.invariant.goes_on

pub returns-then-not-branch : goal.returns-then-not-branch
returns-then-not-branch c =
    let r = c.loop-version.reader in
    let after = lines_in c.next_line.new.reader.line c.next_line.new.reader.bytes.now in
    let w = c.args.version in
    let es = c.loop-version.found in
    let line = c.in_ok-next_line.field-0.now in
    let x = c.in-Some.group in
    let f = found_in w c.args.setup.now es line x c.requires c.loop-version.invariant.within c.in-Some.ensures in
    let begins = sym (c.may_begin.ensures ∙ ap (λ (fs : List Entry). may_begin w fs x.first) c.as_slice.ensures) ∙ c.if-not-may_begin.false in
    let pushed = c.in_ok-push_group.ensures f.group f.is_group f.shown c.loop-version.invariant.counted in
    entries_limit w c.args.setup.now es (lines_in r.line r.bytes.now) after line x _ f c.in_ok-next_line.ensures begins (sym pushed.told ∙ c.if-not-branch.true) c.loop-version.invariant.goes_on

pub loop-version-preserved : goal.loop-version-preserved
loop-version-preserved c =
    let r = c.loop-version.reader in
    let after = lines_in c.next_line.new.reader.line c.next_line.new.reader.bytes.now in
    let w = c.args.version in
    let s = c.args.setup.now in
    let es = c.loop-version.found in
    let line = c.in_ok-next_line.field-0.now in
    let x = c.in-Some.group in
    let f = found_in w s es line x c.requires c.loop-version.invariant.within c.in-Some.ensures in
    let begins = sym (c.may_begin.ensures ∙ ap (λ (fs : List Entry). may_begin w fs x.first) c.as_slice.ensures) ∙ c.if-not-may_begin.false in
    let pushed = c.in_ok-push_group.ensures f.group f.is_group f.shown c.loop-version.invariant.counted in
    let all = c.if-not-branch.false in
    let fits = sym pushed.told ∙ all in
    let put = pushed.put all in
    let more = entries_more w s es (lines_in r.line r.bytes.now) after line x _ f c.in_ok-next_line.ensures begins fits c.loop-version.invariant.goes_on in
    record {
      goes_on = ap (λ (fs : List Entry). entries_from w s fs after.at after.whole after.rest) put ∙ more;
      counted = pushed.counted all;
      within = subst (AllByRecursion (IsEntryWithin s)) (sym put) (more_within s es (entries_of f.group) c.loop-version.invariant.within fits);
    }
