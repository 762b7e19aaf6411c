-- `span_of` takes the smallest and the largest as std's `min` and `max` find them: the lesser and the greater of two, value by value.
use mathlib.Core.Path.{◌≡◌, refl, sym, ap, ◌∙◌}
use lib.Signed.{lt_z}
use Rattle.std.proofs.Common.{◌<◌, Bool, true, false, cond, List, [], ◌∷◌, ℤ, length, Some, arith, w32, SFits, to_z-of_z}
use Rattle.std.specs.declared.cmp.Ordering.TheVariants.{Less, Equal, Greater}
use Rattle.std.specs.Ordering.{int_cmp, min_by_ordering, max_by_ordering}
use Rattle.std.specs.List.{fold, reduce}
use Rattle.std.proofs.lemmas.Iterator.{YieldsList-from_slice}
use Rattle.std.proofs.lemmas.Iterator.Consumers.{YieldsList-from_copied, reduce_from_yields_List}
use borrow.Author.Rules.{rules}
use Rattle.integers.proofs.Order.{integers}
use Rattle.domains.specs.Choice.{pick}
use Rattle.stories.specs.Calls.{smallest, largest, span_of}
use Rattle.creating.specs.Parts.{between}
use Rattle.creating.proofs.span_of.Goals as goal

abbrev lesser : ℤ → ℤ → ℤ
lesser a b = min_by_ordering (int_cmp a b) a b

abbrev greater : ℤ → ℤ → ℤ
greater a b = max_by_ordering (int_cmp a b) a b

lesser_is : (a b : ℤ) → lesser a b ≡ pick (lt_z b a) b a
lesser_is a b = go (lt_z a b) refl (lt_z b a) refl
  where
    go : (s : Bool) → lt_z a b ≡ s → (t : Bool) → lt_z b a ≡ t → min_by_ordering (cond s Less (cond t Greater Equal)) a b ≡ pick t b a
    go true p true q = absurd (omega integers)
    go true p false q = refl
    go false p true q = refl
    go false p false q = refl

greater_is : (a b : ℤ) → greater a b ≡ pick (lt_z a b) b a
greater_is a b = go (lt_z a b) refl (lt_z b a) refl
  where
    go : (s : Bool) → lt_z a b ≡ s → (t : Bool) → lt_z b a ≡ t → max_by_ordering (cond s Less (cond t Greater Equal)) a b ≡ pick s b a
    go true p t q = refl
    go false p true q = refl
    go false p false q = omega integers

smallest_is : (a : ℤ) (vs : List ℤ) → fold lesser a vs ≡ smallest a vs
smallest_is a [] = refl
smallest_is a (b ∷ bs) = ap (λ (x : ℤ). fold lesser x bs) (lesser_is a b) ∙ smallest_is (pick (lt_z b a) b a) bs

largest_is : (a : ℤ) (vs : List ℤ) → fold greater a vs ≡ largest a vs
largest_is a [] = refl
largest_is a (b ∷ bs) = ap (λ (x : ℤ). fold greater x bs) (greater_is a b) ∙ largest_is (pick (lt_z a b) b a) bs

spans : (vs : List ℤ) (a b : ℤ) → reduce lesser vs ≡ Some a → reduce greater vs ≡ Some b → (0 < length vs) × (between a b ≡ span_of vs)
spans [] a b p q = cc
spans (v ∷ vs) a b p q =
    let low : a ≡ smallest v vs = cc (smallest_is v vs) in
    let high : b ≡ largest v vs = cc (largest_is v vs) in
    (omega arith, λ i. between (low i) (high i))

pub returns : goal.returns
returns c =
    let values = c.args.values.now in
    let lowest = reduce_from_yields_List lesser _ _ c.min.ensures.ran (YieldsList-from_copied (YieldsList-from_slice values (cc))) in
    let highest = reduce_from_yields_List greater _ _ c.max.ensures.ran (YieldsList-from_copied (YieldsList-from_slice values (cc))) in
    let low : SFits w32 c.in_ok-lower.lower = search rules in
    let high : SFits w32 c.in_ok-upper.upper = search rules in
    let span = spans values _ _ (sym lowest ∙ c.in_ok-lower.was) (sym highest ∙ c.in_ok-upper.was) in
    (span.0, (λ i. between (to_z-of_z low i) (to_z-of_z high i)) ∙ span.1)
