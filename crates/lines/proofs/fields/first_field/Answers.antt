-- The line is parted at its first tab, where it has one.
use Prim.Native.Nat.{ℕ, suc, ◌+◌, ◌-◌, ◌<◌, ◌≤◌}
use mathlib.Core.Path.{◌≡◌, refl, sym, ap, subst, ◌∙◌}
use mathlib.Core.List.{List, [], ◌∷◌}
use mathlib.Core.Logic.{◌⊎◌, ⊎_elim}
use native.Mathlib.Numerals.{add-one}
use native.Mathlib.Omega.{arith}
use lib.ListN.{length, take, drop}
use lib.Seq.{take_all}
use denote.Ref.{Bor}
use Rattle.std.specs.Prelude.{Option, Some, None}
use Rattle.std.specs.Slice.{IsGetRangeResult}
use Rattle.std.proofs.lemmas.List.{take_rest}
use Rattle.lines.specs.Fields.{fields, FirstTab, fields_behind}
use Rattle.lines.proofs.FieldLaws.{parted, unparted}
use Rattle.lines.proofs.fields.first_field.Goals as goal

part : (line : List ℕ) (place : ℕ) (rest : Option (Bor (List ℕ))) → FirstTab line place → IsGetRangeResult line (place + 1) (length line) rest → fields line ≡ take place line ∷ fields_behind rest
part line place None t found =
    let end : place ≡ length line = ⊎_elim (λ h. omega (arith, h, t.inside)) (λ h. omega (arith, h)) found.0 in
    unparted line (subst (FirstTab line) end t) ∙ ap (λ (l : List ℕ). l ∷ []) (sym (take_all place line (omega arith)))
part line place (Some rest) t found =
    let behind : drop (suc place) line ≡ rest.now = rw (sym (add-one place)) (sym (found.0.2 ∙ take_rest line (place + 1))) in
    parted line place t (omega (arith, found.0.1, found.0.0))
    ∙ ap (λ (l : List ℕ). take place line ∷ fields l) behind

pub returns : goal.returns
returns c = part c.args.line.now c.length_of_field-length.result c.get.result c.length_of_field-length.ensures c.get.ensures.lookup
