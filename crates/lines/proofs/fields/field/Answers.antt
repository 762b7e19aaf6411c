-- The fields are what `split` gives, and `nth` takes one of them.
use Prim.Native.Nat.{ℕ}
use mathlib.Core.Path.{refl, sym, ap, ◌∙◌}
use mathlib.Core.List.{List, []}
use denote.Ref.{Bor}
use lib.Dec.{eqb}
use lib.ListN.{get_or}
use Rattle.std.proofs.Common.{rules}
use Rattle.std.proofs.lemmas.Iterator.Consumers.{nth_from_yields_List}
use Rattle.std.proofs.lemmas.Iterator.Splits.{YieldsList-from_slice_split}
use Rattle.lines.proofs.FieldLaws.{fields_split, text_found}
use Rattle.lines.proofs.fields.field.Goals as goal

pub returns : goal.returns
returns c =
    let line = c.args.line.now in
    let found = nth_from_yields_List {v = λ (x : Bor (List ℕ)). x.now} c.nth.result _ c.args.index c.nth.ensures.ran (YieldsList-from_slice_split _ (λ (b : ℕ). eqb b 9) line c.split.ensures.rest c.split.ensures.done c.split.ensures.closure (λ x r q k. search rules)) in
    ap (λ (x : Bor (List ℕ)). x.now) c.unwrap_or.ensures
    ∙ text_found c.nth.result _ _ c.args.index found refl
    ∙ ap (λ (texts : List (List ℕ)). get_or texts c.args.index []) (sym (fields_split line))
