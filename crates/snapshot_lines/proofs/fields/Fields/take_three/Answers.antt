use Rattle.snapshot_lines.specs.Fields.{fields_left}
use Rattle.snapshot_lines.specs.Lines.{word_most}
use Rattle.snapshot_lines.proofs.Phases.{three_all, three_one, three_three, three_two}
use Rattle.snapshot_lines.proofs.fields.Fields.take_three.Goals as goal

pub returns-in_err-first : goal.returns-in_err-first
returns-in_err-first c =
    three_one word_most (fields_left c.args.self.now.rest) (fields_left c.take_u32.new.self.rest) (fields_left c.take_u32.new.self.rest) c.from_residual.result c.from_residual.ensures c.in_err-first.ensures

pub returns-in_err-second : goal.returns-in_err-second
returns-in_err-second c =
    three_two word_most (fields_left c.args.self.now.rest) (fields_left c.take_u32.new.self.rest) (fields_left c.take_u32-2.new.self.rest) (fields_left c.take_u32-2.new.self.rest) c.in_ok-first.first
    c.from_residual-in_err-second.result c.from_residual-in_err-second.ensures c.in_ok-first.ensures c.in_err-second.ensures

pub returns-in_err-third : goal.returns-in_err-third
returns-in_err-third c =
    three_three word_most (fields_left c.args.self.now.rest) (fields_left c.take_u32.new.self.rest) (fields_left c.take_u32-2.new.self.rest) (fields_left c.take_u32-3.new.self.rest) (fields_left c.take_u32-3.new.self.rest)
    c.in_ok-first.first c.in_ok-second.second c.from_residual-in_err-third.result c.from_residual-in_err-third.ensures c.in_ok-first.ensures c.in_ok-second.ensures c.in_err-third.ensures

pub returns : goal.returns
returns c =
    three_all word_most (fields_left c.args.self.now.rest) (fields_left c.take_u32.new.self.rest) (fields_left c.take_u32-2.new.self.rest) (fields_left c.take_u32-3.new.self.rest)
    c.in_ok-first.first c.in_ok-second.second c.in_ok-third.third c.in_ok-first.ensures c.in_ok-second.ensures c.in_ok-third.ensures
