-- `read_list` finds every value readable exactly where all fields after the first are.
use Prim.Native.Nat.{ℕ}
use mathlib.Core.Path.{◌≡◌, sym, ap, ◌∙◌}
use mathlib.Core.Bool.{Bool, cond}
use mathlib.Core.List.{List}
use lib.Dec.{eqb}
use denote.Ref.{Bor}
use lib.ListN.{drop}
use Rattle.std.proofs.Common.{rules}
use Rattle.std.specs.Prelude.{Some, None, is_some}
use Rattle.std.specs.Slice.Iter.{split_rest, split_done, split_callee}
use Rattle.std.specs.List.{slice_split}
use Rattle.std.proofs.lemmas.Iterator.Adapters.{YieldsList-from_skip}
use Rattle.std.proofs.lemmas.Iterator.Search.{all_from_yields_List}
use Rattle.std.proofs.lemmas.Iterator.Splits.{YieldsList-from_slice_split}
use Rattle.lines.specs.Fields.{fields}
use Rattle.lines.specs.Reading.{read_integer}
use Rattle.lines.proofs.FieldLaws.{fields_split}
use Rattle.commands.specs.declared.command.Command.TheVariants as command
use Rattle.commands.specs.Values.{all_values}
use Rattle.commands.proofs.ValueLaws.{all_told, list_told}
use Rattle.commands.proofs.list.read_list.Goals as goal

pub returns : goal.returns
returns c =
    let line = c.args.line.now in
    let source = c.skip-values.ensures.source in
    let found =
    all_from_yields_List {v = λ (x : Bor (List ℕ)). x.now} (λ (text : List ℕ). is_some (read_integer text)) _ _ c.all.result c.all.ensures.ran
    (YieldsList-from_skip {s = c.skip-values.result} 1
    (YieldsList-from_slice_split _ (λ (b : ℕ). eqb b 9) line (ap split_rest source ∙ c.split.ensures.rest) (ap split_done source ∙ c.split.ensures.done) (ap split_callee source ∙ c.split.ensures.closure) (λ x r q k. search rules))
    c.skip-values.ensures.count)
    (λ x r q k. search rules) in
    let all : c.all.result ≡ all_values (drop 1 (fields line)) =
    found ∙ all_told (drop 1 (slice_split (λ (b : ℕ). eqb b 9) line)) ∙ ap (λ (texts : List (List ℕ)). all_values (drop 1 texts)) (sym (fields_split line)) in
    c.then_some.ensures ∙ list_told c.all.result ∙ ap (λ (t : Bool). cond t (Some command.List) None) all
