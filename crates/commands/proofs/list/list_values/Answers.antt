-- `list_values` copies the values: what is left of them at each place, copied from there on, makes the whole.
use Rattle.std.proofs.Common.{◌+◌, ◌<◌, ◌≡◌, ◌∙◌, arith, rules}
use lib.Signed.{mag}
use lib.ListN.{length, length-set}
use Rattle.lines.specs.Fields.{fields}
use Rattle.commands.proofs.ValueLaws.{kept, texts_at, copied_none, copied_full, copied_more}
use Rattle.commands.proofs.list.list_values.Goals as goal

pub returns-in_default : goal.returns-in_default
returns-in_default c =
    let texts = fields c.args.line.now in
    c.loop-written.invariant.1 _ _ (rw (texts_at texts (c.loop-written.written + 1) (omega arith), ← c.field.ensures, ← c.read_integer.ensures, c.in_default.is) (copied_none _ _))

pub loop-written-preserved : goal.loop-written-preserved
loop-written-preserved c =
    let value = c.in-Some.value in
    let texts = fields c.args.line.now in
    let fits : mag value < 2147483648 = search rules in
    rw (kept value fits)
    (length-set c.loop-written.out c.loop-written.written value ∙ c.loop-written.invariant.0, λ after next copied. c.loop-written.invariant.1 after next (rw (texts_at texts (c.loop-written.written + 1) (omega arith), ← c.field.ensures, ← c.read_integer.ensures, c.in-Some.is) (copied_more value (omega arith) copied)))

pub returns : goal.returns
returns c =
    let all : length c.loop-written.out ≡ c.loop-written.written = omega (arith, c.loop-written-test.false) in
    rw all (c.loop-written.invariant.1 _ _ (copied_full _ _ _ (omega (arith, all))))
