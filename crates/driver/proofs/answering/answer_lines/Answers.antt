-- `answer_lines` answers line after line: at every turn what is still to come, after what was done, is the whole run.
use Rattle.std.proofs.Common.{rules}
use Prim.Native.Nat.{ℕ, ◌-◌, ◌<◌, ◌≤◌}
use mathlib.Core.Path.{ap, subst, ◌∙◌}
use native.Mathlib.Omega.{arith}
use lib.ListN.{length}
use Rattle.lines.proofs.WritingLaws.{put_length}
use Rattle.driver.proofs.RunLaws.{going_full, going_out, going_more, ran_left}
use Rattle.driver.proofs.answering.answer_lines.Goals as goal

pub returns-then-end-input : goal.returns-then-end-input
returns-then-end-input c =
    ran_left (going_out c.loop-writer.invariant.0 c.line_end-end.result c.line_end-end.ensures c.if-end-input.true) c.loop-writer.invariant.2 (search rules)

pub loop-writer-preserved : goal.loop-writer-preserved
loop-writer-preserved c =
    let going = c.loop-writer.invariant.0 in
    let did = c.answer_line-answer.ensures in
    let wrote = c.put_reply.ensures in
    let text = did.text c.loop-writer.done.number in
    let ahead : c.line_end-end.result < length c.args.input.now = omega (arith, c.line_end-end.ensures.inside going.inside, c.if-end-input.false) in
    let enough : 34000 ≤ length c.args.out.now - c.loop-writer.writer.length = subst (λ (n : ℕ). 34000 ≤ n - c.loop-writer.writer.length) (put_length going.put) (rw c.room.ensures at c.loop-writer-test.true) in (
      going_more going c.line_end-end.ensures ahead enough c.answer_line-answer.new.store did.store did.made (rw text at wrote.0.put) (omega (arith, wrote.1, ap length text)),
      wrote.0.same_buffer ∙ c.loop-writer.invariant.1,
      c.length.ensures,
    )

pub returns : goal.returns
returns c =
    ran_left (going_full c.loop-writer.invariant.0 (omega (arith, c.room.ensures, c.loop-writer-test.false, put_length c.loop-writer.invariant.0.put))) c.loop-writer.invariant.2 (search rules)
