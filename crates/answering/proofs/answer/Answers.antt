-- `answering::answer` is safe and ends, and hands on the paper's answer, of a whole input only. Assumes nothing.
use Rattle.std.proofs.Common.{rules}
use Rattle.program.proofs.Printed.{printed_part, printed_long}
use Rattle.standard_input.proofs.Laws.{whole_input}
use Rattle.answering.proofs.answer.Goals as goal

pub slice_bounds-write_answer-end-in-Whole : goal.slice_bounds-write_answer-end-in-Whole
slice_bounds-write_answer-end-in-Whole g c = let s = c.text-size.ensures in printed_long _ c.args.out.now s.answer s.out

pub write_answer-requires : goal.write_answer-requires
write_answer-requires g c =
    let s = c.text-size.ensures in
    (whole_input c.args.input.now c.requires.input c.in-Whole.is, printed_part _ c.args.out.now s.answer s.out)

pub returns-in-Whole-clause-whole : goal.returns-in-Whole-clause-whole
returns-in-Whole-clause-whole g c = let s = c.text-size.ensures in λ _. rw (printed_part _ c.args.out.now s.answer s.out) at c.write_answer.ensures.whole

pub returns-in-Whole-clause-part : goal.returns-in-Whole-clause-part
returns-in-Whole-clause-part g c = let s = c.text-size.ensures in rw (printed_part _ c.args.out.now s.answer s.out) at c.write_answer.ensures.part
