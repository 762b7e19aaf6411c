-- `next_number` tests the grounds in their order, each return being a case of the call.
use mathlib.Core.Path.{◌≡◌, sym, ◌∙◌}
use mathlib.Core.Bool.{false}
use lib.Signed.{lt_z}
use native.Mathlib.Omega.{arith}
use Rattle.stores.proofs.Straight.{tidy}
use Rattle.stores.proofs.History.{straight}
use Rattle.stores.proofs.Cases.{grow_above, grow_bad, grow_many, grow_full, grow_taken}
use Rattle.creating.proofs.next_number.Goals as goal
use Rattle.creating.proofs.next_number.Goals.{Else-is_empty}

-- the bounds are in order
proper : (c : Else-is_empty) → lt_z c.args.bounds.upper c.args.bounds.lower ≡ false
proper c =
    sym c.is_empty.ensures ∙ c.if-is_empty.false

pub returns-then-store-gt0 : goal.returns-then-store-gt0
returns-then-store-gt0 c = (grow_above c.args.store.now _ c.if-store-gt0.true).0

pub returns-then-is_empty : goal.returns-then-is_empty
returns-then-is_empty c =
    (grow_bad c.args.store.now _ c.if-store-gt0.false (sym c.is_empty.ensures ∙ c.if-is_empty.true)).0

pub returns-then-domains-ge-MAX_VARIABLES : goal.returns-then-domains-ge-MAX_VARIABLES
returns-then-domains-ge-MAX_VARIABLES c =
    let ordered = proper (goal.at.returns-then-domains-ge-MAX_VARIABLES c).Else-is_empty in
    (grow_many c.args.store.now _ c.if-store-gt0.false ordered c.if-domains-ge-MAX_VARIABLES.true).0

pub overflow_add-at : goal.overflow_add-at
overflow_add-at c = record { fits = omega (arith, (tidy (straight c.requires)).entries) }

pub returns-then-at-gt-MAX_ENTRIES : goal.returns-then-at-gt-MAX_ENTRIES
returns-then-at-gt-MAX_ENTRIES c =
    let ordered = proper (goal.at.returns-then-at-gt-MAX_ENTRIES c).Else-is_empty in
    (grow_full c.args.store.now _ c.if-store-gt0.false ordered c.if-domains-ge-MAX_VARIABLES.false c.if-at-gt-MAX_ENTRIES.true).0

pub returns : goal.returns
returns c =
    let ordered = proper (goal.at.returns c).Else-is_empty in
    (grow_taken c.args.store.now _ c.if-store-gt0.false ordered c.if-domains-ge-MAX_VARIABLES.false c.if-at-gt-MAX_ENTRIES.false).0
