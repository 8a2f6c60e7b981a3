use Rattle.std.proofs.Common.{◌≡◌, ◌+◌, [], ◌∷◌, ◌++◌, length, map, sym, ap, subst, ◌∙◌, arith, List, length-append}
use Rattle.std.specs.List.{AllByRecursion}
use Rattle.std.proofs.lemmas.List.{length-map}
use Rattle.std.proofs.lemmas.Result.{err_from_is_err_and}
use Rattle.snapshot_lines.specs.Lines.{long_most}
use Rattle.snapshot_grammar.specs.Parts.{IsRead, left}
use Rattle.snapshot_grammar.proofs.Many.{not_clipped}
use Rattle.snapshot_grammar.proofs.OneLine.{lines_all, lines_error, lines_none, lines_one}
use Rattle.snapshot_grammar.proofs.lined.read_lines.Goals as goal

pub loop-left-init : goal.loop-left-init
loop-left-init g c =
    subst
    (λ (ys : List g.row.T.Denot). record {
      read : IsRead (List g.row.T.Denot) (List g.row.T.Denot) (AllByRecursion g.T.Lined.stands) (map g.T.Lined.line) (map g.T.Lined.clip) (left c.args.reader.now) ys (left c.args.reader.now);
      counted : length ys + c.args.count ≡ c.args.count;
    })
    (sym c.new-found.ensures) (record { read = lines_none g.row.T.Denot g.T.Lined.stands g.T.Lined.line g.T.Lined.clip (left c.args.reader.now) (omega arith); counted = omega arith })

pub loop-left-preserved : goal.loop-left-preserved
loop-left-preserved g c =
    let i = c.loop-left.invariant in
    let pushed = c.in_ok-push.ensures.ok in
    record {
      read = subst (λ (ys : List g.row.T.Denot). IsRead (List g.row.T.Denot) (List g.row.T.Denot) (AllByRecursion g.T.Lined.stands) (map g.T.Lined.line) (map g.T.Lined.clip) (left c.args.reader.now) ys (left c.read_line.new.reader)) (sym pushed)
          (lines_one g.row.T.Denot g.T.Lined.stands g.T.Lined.line g.T.Lined.clip (left c.args.reader.now) (left c.loop-left.reader) (left c.read_line.new.reader) c.loop-left.found c.in_ok-item.item i.read c.in_ok-item.ensures);
      counted = let e = ap length pushed in let f = length-append c.loop-left.found (c.in_ok-item.item ∷ []) in let n = i.counted in omega arith;
    }

pub returns-in_err-item : goal.returns-in_err-item
returns-in_err-item g c n clip =
    let p = err_from_is_err_and c.from_residual.result c.from_residual.ensures.1 in
    let i = c.loop-left.invariant in
    rw (p.1, p.2)
    (lines_error g.row.T.Denot g.T.Lined.stands g.T.Lined.line g.T.Lined.clip g.T.Lined.some g.met.T.Lined.some_stands n (left c.args.reader.now) (left c.loop-left.reader) (left c.read_line.new.reader) (left c.read_line.new.reader) c.loop-left.found c.in_err-item.field-0.0
    i.read (let m = i.counted in omega arith) c.in_err-item.ensures)

pub returns : goal.returns
returns g c n clip =
    let i = c.loop-left.invariant in
    let r = i.read in
    let many : length c.loop-left.found ≡ c.args.count = let m = i.counted in omega arith in
    let lines : length (map g.T.Lined.line r.item) ≡ c.args.count =
    length-map r.item g.T.Lined.line ∙ sym (length-map r.item g.T.Lined.clip) ∙ sym (ap length r.value) ∙ many in
    let same = not_clipped n c.args.count c.args.reader.now.bytes.now (map g.T.Lined.line r.item) (left c.loop-left.reader).whole clip lines r.passed.whole (omega arith) in
    lines_all g.row.T.Denot g.T.Lined.stands g.T.Lined.line g.T.Lined.clip n (left c.args.reader.now) (left c.loop-left.reader) c.loop-left.found r (many ∙ same)
